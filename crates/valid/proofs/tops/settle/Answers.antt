-- `valid::tops::settle` meets its contract: glue over Pointing.
use mathlib.Core.Path.{◌∙◌}
use Rattle.valid.proofs.Pointing.{flag-bit, settling-step}
use Rattle.valid.proofs.tops.settle.Goals as goal

pub loop-v-preserved : goal.loop-v-preserved
loop-v-preserved c =
    settling-step _ _ _ _ c.loop-v.invariant c.loop-v-test.true _ (c.from.ensures ∙ flag-bit _ _)
