-- `reason::finding::find` meets its contract: glue over Lowest.
use Rattle.reason.proofs.Lowest.{Seeking}
use Rattle.reason.proofs.finding.find.Given as goal

abbrev pub invariant-loop-j : goal.invariant-loop-j
invariant-loop-j l = Seeking l.ends l.occurrences l.row l.initial.lowest l.lowest l.from l.j
