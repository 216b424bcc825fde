-- `types::number::spread` meets its contract: glue over Spreading.
use mathlib.Core.Path.{refl}
use Rattle.types.proofs.Spreading.{spreading_start, spread-from, spreading_step, spreading_end}
use Rattle.types.proofs.number.spread.Goals as goal

pub loop-v-init : goal.loop-v-init
loop-v-init c = spreading_start _ c.requires

pub bounds-row-first : goal.bounds-row-first
bounds-row-first c = spread-from _ c.requires _ _ c.loop-v.invariant c.loop-v-test.true _ refl

pub loop-v-preserved : goal.loop-v-preserved
loop-v-preserved c = spreading_step _ c.requires _ _ c.loop-v.invariant c.loop-v-test.true _ refl

pub returns : goal.returns
returns c = spreading_end _ c.requires _ _ c.loop-v.invariant c.loop-v-test.false
