-- `entities::count_children` meets its contract: glue over Walking.
use mathlib.Core.Path.{refl}
use Rattle.entities.proofs.Walking.{growing_start, grow-few, growing_step}
use Rattle.entities.proofs.count_children.Goals as goal

pub loop-c-init : goal.loop-c-init
loop-c-init c = growing_start _ _ _ c.requires

pub grow-requires : goal.grow-requires
grow-requires c =
    grow-few _ _ _ _ _ c.requires c.loop-c.invariant c.loop-c-test.true _ refl

pub loop-c-preserved : goal.loop-c-preserved
loop-c-preserved c =
    growing_step _ _ _ _ _ c.requires c.loop-c.invariant c.loop-c-test.true _ refl _ c.grow.ensures
