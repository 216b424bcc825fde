-- `engine::steps::climb` meets its contract: glue over Rising. Assumes nothing.
use mathlib.Core.Path.{refl}
use Rattle.engine.proofs.Rising.{climbing_start, climbing_low, climbing_before, climbing_less, climbing_step}
use Rattle.engine.proofs.steps.climb.Goals as goal

pub loop-v-init : goal.loop-v-init
loop-v-init c = climbing_start _ _ _ _ _ c.requires refl

pub loop-v-smaller : goal.loop-v-smaller
loop-v-smaller c = climbing_less _ _ _ _ _ c.loop-v.invariant _ c.requires c.loop-v-test.true c.if-reach-v.true refl

pub loop-v-preserved : goal.loop-v-preserved
loop-v-preserved c = climbing_step _ _ _ _ _ c.loop-v.invariant _ c.requires c.loop-v-test.true c.if-reach-v.true refl

pub returns-else-reach-v : goal.returns-else-reach-v
returns-else-reach-v c = climbing_before _ _ _ _ _ c.loop-v.invariant c.if-reach-v.false

pub returns-after-loop-v : goal.returns-after-loop-v
returns-after-loop-v c = climbing_low _ _ _ _ _ c.loop-v.invariant c.loop-v-test.false
