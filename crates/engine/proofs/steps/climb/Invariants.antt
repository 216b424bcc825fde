-- `engine::steps::climb` meets its contract: glue over Rising. Assumes nothing.
use Rattle.engine.proofs.Rising.{Climbing}
use Rattle.engine.proofs.steps.climb.Given as goal

abbrev pub invariant-loop-v : goal.invariant-loop-v
invariant-loop-v l = Climbing l.parents l.low l.reach l.node l.v

abbrev pub decreases-loop-v : goal.decreases-loop-v
decreases-loop-v l = l.v
