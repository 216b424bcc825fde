-- `entities::pass_down` meets its contract: glue over Walking.
use Rattle.entities.proofs.Walking.{Passing}
use Rattle.entities.proofs.pass_down.Given as goal

abbrev pub invariant-loop-v : goal.invariant-loop-v
invariant-loop-v l = Passing l.parents l.tags l.row l.v
