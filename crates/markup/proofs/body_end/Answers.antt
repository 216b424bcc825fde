-- `markup::body_end` meets its contract: glue over Loops.
use mathlib.Core.Path.{sym, ◌∙◌}
use Prim.Native.Nat.{◌+◌, ◌<◌}
use native.Mathlib.Omega.{arith}
use lib.ListN.{length}
use Rattle.profile.specs.Classes.{within, COMMENTEDS}
use Rattle.octets.proofs.Laws.{at_true, at_false}
use Rattle.markup.proofs.Classes.{skip-stops}
use Rattle.markup.proofs.Reading.{reading-start}
use Rattle.markup.proofs.Loops.{body-skip, body-stops, body-over_dash, body-at-two}
use Rattle.markup.proofs.body_end.Goals as goal

pub loop-at-init : goal.loop-at-init
loop-at-init c = reading-start _ _ _

pub returns-then-not-is_at : goal.returns-then-not-is_at
returns-then-not-is_at c =
    body-stops _ _ _ (body-skip _ _ _ c.loop-at.invariant _ c.skip-i.ensures) (skip-stops (within COMMENTEDS) _ _ _ c.skip-i.ensures) (at_false _ _ _ (sym c.is_at.ensures ∙ c.if-not-is_at.true))

pub returns-then-is_at : goal.returns-then-is_at
returns-then-is_at c =
    let h = at_true _ _ _ (sym c.is_at.ensures ∙ c.if-not-is_at.false) in
    let k = at_true _ _ _ (sym c.is_at-in-loop-at.ensures ∙ c.if-is_at.true) in
    body-at-two _ _ _ (body-skip _ _ _ c.loop-at.invariant _ c.skip-i.ensures) h.0 h.1 k.0 k.1 _ c.greater_end.ensures

pub loop-at-preserved : goal.loop-at-preserved
loop-at-preserved c =
    let h = at_true _ _ _ (sym c.is_at.ensures ∙ c.if-not-is_at.false) in
    body-over_dash _ _ _ (body-skip _ _ _ c.loop-at.invariant _ c.skip-i.ensures) h.0 h.1 (at_false _ _ _ (sym c.is_at-in-loop-at.ensures ∙ c.if-is_at.false))

pub overflow_add-i : goal.overflow_add-i
overflow_add-i c = let l : c.skip-i.result < length c.args.text.now = (at_true _ _ _ (sym c.is_at.ensures ∙ c.if-not-is_at.false)).0 in omega (arith, c.well_formed)

pub overflow_add-i-then-is_at : goal.overflow_add-i-then-is_at
overflow_add-i-then-is_at c = let l : c.skip-i.result + 1 < length c.args.text.now = (at_true _ _ _ (sym c.is_at-in-loop-at.ensures ∙ c.if-is_at.true)).0 in omega (arith, c.well_formed)
