-- `engine::steps::arrive` meets its contract: glue over Advancing. Assumes nothing.
use native.Mathlib.Omega.{arith}
use Rattle.engine.proofs.Advancing.{came-fits, arrived-met, arrived-new}
use Rattle.engine.proofs.steps.arrive.Goals as goal

pub overflow_sub-x : goal.overflow_sub-x
overflow_sub-x c = c.requires.cursors.some

pub take-reach-requires : goal.take-reach-requires
take-reach-requires c = c.requires.cursors

pub add-own-requires : goal.add-own-requires
add-own-requires c = came-fits _ _ _ _ _ c.requires _ c.coming-came.ensures

pub returns-then-t-x : goal.returns-then-t-x
returns-then-t-x c =
    arrived-met _ _ _ _ _ c.requires _ _ _ c.take-reach.ensures c.coming-came.ensures _ c.if-t-x.true c.add-own.ensures

pub overflow_add-state : goal.overflow_add-state
overflow_add-state c = omega (arith, c.requires.place)

pub returns : goal.returns
returns c = arrived-new _ _ _ _ _ c.requires _ _ _ c.take-reach.ensures c.coming-came.ensures c.if-t-x.false
