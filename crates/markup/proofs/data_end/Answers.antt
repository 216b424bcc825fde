-- `markup::data_end` meets its contract: glue over Loops.
use mathlib.Core.Path.{sym, ◌∙◌}
use native.Mathlib.Omega.{arith}
use Rattle.std.proofs.lemmas.Result.{err_from_is_err_and}
use Rattle.profile.specs.Classes.{within, PLAINS}
use Rattle.octets.proofs.Laws.{at_true, at_false}
use Rattle.markup.proofs.Classes.{skip-stops}
use Rattle.markup.proofs.Reading.{reading-start}
use Rattle.markup.proofs.Loops.{data_skip, data_ends, data_at-less, data_at-other, data_over-greater, data_at-broken, data_over_reference, data_over-one, data_over_brackets, data_at-two}
use Rattle.markup.proofs.data_end.Goals as goal
use Rattle.markup.proofs.data_end.Goals.{else-i-j-via-then-i-j+else-is_at, else-i-j-via-else-i-j}

pub loop-i-init : goal.loop-i-init
loop-i-init c = reading-start _ _ _

pub returns-then-text-i : goal.returns-then-text-i
returns-then-text-i c = data_ends _ _ _ (data_skip _ _ _ c.loop-i.invariant _ c.skip-i.ensures) c.if-text-i.true

pub returns-in-60 : goal.returns-in-60
returns-in-60 c = data_at-less _ _ _ (data_skip _ _ _ c.loop-i.invariant _ c.skip-i.ensures) c.if-text-i.false c.in-60.is

pub returns-in_err-i-in-38 : goal.returns-in_err-i-in-38
returns-in_err-i-in-38 c =
    let p = err_from_is_err_and c.from_residual.result c.from_residual.ensures.1 in
    rw (p.1, p.2) (data_at-broken _ _ _ (data_skip _ _ _ c.loop-i.invariant _ c.skip-i.ensures) c.if-text-i.false c.in-38.is _ c.in_err-i-in-38.ensures)

pub loop-i-preserved-in-38 : goal.loop-i-preserved-in-38
loop-i-preserved-in-38 c =
    data_over_reference _ _ _ (data_skip _ _ _ c.loop-i.invariant _ c.skip-i.ensures) c.if-text-i.false c.in-38.is _ c.in_ok-i-in-38.ensures

pub loop-i-preserved-in-62 : goal.loop-i-preserved-in-62
loop-i-preserved-in-62 c =
    data_over-greater _ _ _ (data_skip _ _ _ c.loop-i.invariant _ c.skip-i.ensures) c.if-text-i.false c.in-62.is

pub returns-then-is_at : goal.returns-then-is_at
returns-then-is_at c =
    let h = at_true _ _ _ (sym c.is_at.ensures ∙ c.if-is_at.true) in
    data_at-two _ _ _ (data_skip _ _ _ c.loop-i.invariant _ c.skip-i.ensures) c.if-text-i.false c.in-93.is _ c.skip-j.ensures c.if-i-j.true h.0 h.1

pub loop-i-preserved : goal.loop-i-preserved
loop-i-preserved c =
    elim c.else-i-j.branch [
      | else-i-j-via-then-i-j+else-is_at w ↦
          data_over_brackets _ _ _ (data_skip _ _ _ c.loop-i.invariant _ c.skip-i.ensures) c.if-text-i.false c.in-93.is _ c.skip-j.ensures
          (at_false _ _ _ (sym w.is_at.ensures ∙ w.if-is_at.false))
      | else-i-j-via-else-i-j w ↦ data_over-one _ _ _ (data_skip _ _ _ c.loop-i.invariant _ c.skip-i.ensures) c.if-text-i.false c.in-93.is _ c.skip-j.ensures w.if-i-j.false
    ]

pub returns-in_default : goal.returns-in_default
returns-in_default c =
    data_at-other _ _ _ (data_skip _ _ _ c.loop-i.invariant _ c.skip-i.ensures) c.if-text-i.false
    (skip-stops (within PLAINS) _ _ _ c.skip-i.ensures c.if-text-i.false) (λ q. omega arith) (λ q. omega arith) (λ q. omega arith) (λ q. omega arith)
