-- `names::lookup::slot` meets its contract: glue over Walking.
use mathlib.Core.Path.{sym, ◌∙◌}
use native.Mathlib.Omega.{arith}
use lib.ListN.{get_or}
use Rattle.names.specs.Inner.Calls.{name_bit}
use Rattle.names.proofs.Walking.{Turn, downs-start, downs-turn, downs-step, downs-stop, downs-end}
use Rattle.names.proofs.lookup.Tree.slot.Goals as goal
use Rattle.names.proofs.lookup.Tree.slot.Goals.{In-Inner}

turn : (c : In-Inner) → Turn c.args.self.now.n c.args.self.now.rows.now (name_bit c.args.name.now) (get_or c.args.self.now.rows.now c.loop-u.at 0) c.in-Inner.u
turn c = downs-turn c.loop-u.invariant _ c.requires.holds _ (sym c.from.ensures ∙ c.in-Inner.is)

pub loop-u-init : goal.loop-u-init
loop-u-init c = downs-start _ _ _ _ _ c.requires.holds

pub offset_bounds-self-at : goal.offset_bounds-self-at
offset_bounds-self-at c = omega (arith, c.loop-u.invariant.small, c.requires.few)

pub bounds-self-at : goal.bounds-self-at
bounds-self-at c = omega (arith, c.loop-u.invariant.small, c.requires.long)

pub overflow_add-self : goal.overflow_add-self
overflow_add-self c = omega (arith, (turn c).node, c.requires.few)

pub offset_bounds-self-self : goal.offset_bounds-self-self
offset_bounds-self-self c = omega (arith, (turn c).node, c.requires.few)

pub bounds-self-self : goal.bounds-self-self
bounds-self-self c = omega (arith, (turn (goal.at.bounds-self-self c).In-Inner).node, c.requires.long)

pub returns-then-d-self : goal.returns-then-d-self
returns-then-d-self c = downs-stop c.loop-u.invariant _ (sym c.from.ensures ∙ c.in-Inner.is) c.if-d-self.true

pub way-at-requires : goal.way-at-requires
way-at-requires c = record { few = c.requires.few; long = c.requires.long; node = (turn (goal.at.way-at-requires c).In-Inner).node }

pub loop-u-smaller : goal.loop-u-smaller
loop-u-smaller c = (turn (goal.at.loop-u-smaller c).In-Inner).less _ c.way-at.ensures

pub loop-u-preserved : goal.loop-u-preserved
loop-u-preserved c = downs-step c.loop-u.invariant _ c.requires.holds _ (sym c.from.ensures ∙ c.in-Inner.is) c.if-d-self.false _ c.way-at.ensures

pub returns : goal.returns
returns c = downs-end c.loop-u.invariant _ (sym c.from.ensures ∙ c.in_default.is)
