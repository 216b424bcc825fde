-- `entities::pass_down` meets its contract: glue over Walking.
use mathlib.Core.Path.{refl}
use Rattle.entities.proofs.Walking.{passing-start, passing_step}
use Rattle.entities.proofs.pass_down.Goals as goal

pub loop-v-init : goal.loop-v-init
loop-v-init c = passing-start _ _ _ c.requires

pub loop-v-preserved : goal.loop-v-preserved
loop-v-preserved c =
    passing_step _ _ _ c.requires _ _ c.loop-v.invariant c.loop-v-test.true _ refl _ c.closest_of.ensures
