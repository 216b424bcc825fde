-- `entities::count_children` meets its contract: glue over Walking.
use Rattle.entities.proofs.Walking.{Growing}
use Rattle.entities.proofs.count_children.Given as goal

abbrev pub invariant-loop-c : goal.invariant-loop-c
invariant-loop-c l = Growing l.parents l.tags l.row l.c
