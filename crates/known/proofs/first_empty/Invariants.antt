-- `known::first_empty` meets its contract: glue over Laws.
use Rattle.known.proofs.Laws.{Moves}
use Rattle.known.proofs.first_empty.Given as goal

abbrev pub invariant-loop-j : goal.invariant-loop-j
invariant-loop-j l = Moves l.k l.ends l.j l.from
