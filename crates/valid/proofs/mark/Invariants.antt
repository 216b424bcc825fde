-- `valid::mark` meets its contract: glue over Negating.
use Rattle.valid.proofs.Negating.{Negating}
use Rattle.valid.proofs.mark.Given as goal

abbrev pub invariant-loop-x : goal.invariant-loop-x
invariant-loop-x l = Negating l.list l.tags l.initial.row l.row l.x-index
