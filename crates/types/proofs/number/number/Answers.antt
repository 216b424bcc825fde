-- `types::number::number` meets its contract: glue over Taking, Turns and Ending.
use mathlib.Core.Path.{refl}
use Rattle.types.proofs.Taking.{take-pre}
use Rattle.types.proofs.Turns.{taking_step}
use Rattle.types.proofs.Ending.{taking-end}
use Rattle.types.proofs.number.number.Goals as goal

pub take_up-requires : goal.take_up-requires
take_up-requires c = take-pre _ _ _ _ _ _ c.requires _ _ c.loop-i.invariant c.loop-i-test.true _ refl

pub loop-i-preserved : goal.loop-i-preserved
loop-i-preserved c =
    taking_step _ _ _ _ _ _ c.requires _ _ c.loop-i.invariant c.loop-i-test.true _ refl _ c.take_up.ensures

pub returns : goal.returns
returns c = taking-end _ _ _ _ _ _ c.requires _ _ c.loop-i.invariant c.loop-i-test.false
