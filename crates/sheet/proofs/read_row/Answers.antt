-- `sheet::read_row` meets its contract: glue over Rowing.
use mathlib.Core.Path.{refl, sym, ◌∙◌}
use native.Mathlib.Omega.{arith}
use Rattle.sheet.proofs.Rowing.{row-start, row-to, row-bad, row_last, row_step, row-end, field_none, field-good, field-bad}
use Rattle.sheet.proofs.read_row.Goals as goal

pub loop-i-init : goal.loop-i-init
loop-i-init c = row-start _ _ _

pub slice_bounds-number-end : goal.slice_bounds-number-end
slice_bounds-number-end c = row-to _ _ _ _ _ _ c.loop-i.invariant _ c.field_end-to.ensures

pub returns-then-most-x : goal.returns-then-most-x
returns-then-most-x c =
    row-bad _ _ _ _ _ _ c.loop-i.invariant _ c.field_end-to.ensures c.loop-i-test.true
    (field-bad _ _ _ (sym c.in-Some.is ∙ c.number.ensures) (omega (arith, c.most.ensures, c.if-most-x.true)))

pub returns-in_default : goal.returns-in_default
returns-in_default c =
    row-bad _ _ _ _ _ _ c.loop-i.invariant _ c.field_end-to.ensures c.loop-i-test.true (field_none _ _ (sym c.in_default.is ∙ c.number.ensures))

pub returns-then-to-l : goal.returns-then-to-l
returns-then-to-l c =
    row_last _ _ _ _ _ _ c.loop-i.invariant _ c.field_end-to.ensures c.loop-i-test.true _
    (field-good _ _ _ (sym c.in-Some.is ∙ c.number.ensures) (omega (arith, c.most.ensures, c.if-most-x.false))) _ c.put.ensures _ refl c.if-to-l.true

pub loop-i-preserved : goal.loop-i-preserved
loop-i-preserved c =
    row_step _ _ _ _ _ _ c.loop-i.invariant _ c.field_end-to.ensures c.loop-i-test.true _
    (field-good _ _ _ (sym c.in-Some.is ∙ c.number.ensures) (omega (arith, c.most.ensures, c.if-most-x.false))) _ c.put.ensures c.if-to-l.false

pub returns : goal.returns
returns c = row-end _ _ _ _ _ _ c.loop-i.invariant (omega (arith, c.loop-i-test.false, c.loop-i.auto.i-end))
