-- `valid::tops::see_words` meets its contract: glue over Pointing.
use Rattle.valid.proofs.Pointing.{Words}
use Rattle.valid.proofs.tops.see_words.Given as goal

abbrev pub invariant-loop-j : goal.invariant-loop-j
invariant-loop-j l = Words l.p l.ends l.occurrences l.tops l.seen l.j l.from
