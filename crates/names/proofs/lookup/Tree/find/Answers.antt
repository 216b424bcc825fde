-- `names::lookup::find` meets its contract: glue over Walking.
use mathlib.Core.Path.{sym, ◌∙◌}
use native.Mathlib.Omega.{arith}
use Rattle.names.proofs.Walking.{walks_start, walks_turn, walks_step, walks_end}
use Rattle.names.proofs.lookup.Tree.find.Goals as goal
use Rattle.names.proofs.lookup.Tree.find.Goals.{In-Inner}

pub loop-v-init : goal.loop-v-init
loop-v-init c = walks_start _ _ _ _ c.requires.holds

pub offset_bounds-self-at : goal.offset_bounds-self-at
offset_bounds-self-at c = omega (arith, c.loop-v.invariant.small, c.requires.few)

pub bounds-self-at : goal.bounds-self-at
bounds-self-at c = omega (arith, c.loop-v.invariant.small, c.requires.long)

pub returns-in-Leaf : goal.returns-in-Leaf
returns-in-Leaf c = walks_end c.loop-v.invariant _ (sym c.from.ensures ∙ c.in-Leaf.is)

pub way-at-requires : goal.way-at-requires
way-at-requires c = record { few = c.requires.few; long = c.requires.long; node = (walks_turn c.loop-v.invariant _ c.requires.holds _ (sym c.from.ensures ∙ c.in-Inner.is)).node }

pub loop-v-smaller : goal.loop-v-smaller
loop-v-smaller c = (walks_turn c.loop-v.invariant _ c.requires.holds _ (sym c.from.ensures ∙ c.in-Inner.is)).less _ c.way-at.ensures

pub loop-v-preserved : goal.loop-v-preserved
loop-v-preserved c = walks_step c.loop-v.invariant _ c.requires.holds _ (sym c.from.ensures ∙ c.in-Inner.is) _ c.way-at.ensures
