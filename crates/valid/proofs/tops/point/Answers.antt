-- `valid::tops::point` meets its contract: glue over Pointing.
use Rattle.valid.proofs.Pointing.{pointing-step}
use Rattle.valid.proofs.tops.point.Goals as goal

pub loop-v-preserved : goal.loop-v-preserved
loop-v-preserved c =
    pointing-step _ _ _ c.requires _ _ c.loop-v.invariant c.loop-v-test.true _ _ c.top_above-above.ensures c.top_here.ensures
