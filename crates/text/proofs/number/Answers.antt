-- `text::number` meets its contract: glue over Scanning.
use mathlib.Core.Path.{◌∙◌}
use native.Mathlib.Omega.{arith}
use Rattle.text.proofs.Laws.Text.{number-none, digit_said}
use Rattle.text.proofs.Scanning.{figures_bad, figures_step, figures_end}
use Rattle.text.proofs.number.Goals as goal
use Rattle.text.proofs.number.Goals.{then-n-eq0-via-then-n-eq0, then-n-eq0-via-else-n-eq0+then-n-gt5, else-n-ne1-via-then-n-ne1+else-f-eq48, else-n-ne1-via-else-n-ne1}

pub returns-then-n-eq0 : goal.returns-then-n-eq0
returns-then-n-eq0 c = number-none _ (λ d. elim c.then-n-eq0.branch [
  | then-n-eq0-via-then-n-eq0 w ↦ omega (arith, d.some, w.if-n-eq0.true)
  | then-n-eq0-via-else-n-eq0+then-n-gt5 w ↦ omega (arith, d.few, w.if-n-gt5.true)
])

pub returns-then-f-eq48 : goal.returns-then-f-eq48
returns-then-f-eq48 c = number-none _ (λ d. c.if-n-ne1.true (d.leads c.if-f-eq48.true))

pub returns-then-not-is_ascii_digit : goal.returns-then-not-is_ascii_digit
returns-then-not-is_ascii_digit c =
    figures_bad _ _ _ c.loop-b.invariant c.loop-b-test.true (digit_said _ _ c.is_ascii_digit.ensures.value ∙ c.if-not-is_ascii_digit.true)

pub loop-b-preserved : goal.loop-b-preserved
loop-b-preserved c =
    rw c.from.ensures (figures_step _ _ _ c.loop-b.invariant c.loop-b-test.true (digit_said _ _ c.is_ascii_digit.ensures.value ∙ c.if-not-is_ascii_digit.false))

pub returns : goal.returns
returns c = figures_end _ _ _ c.loop-b.invariant c.loop-b-test.false (omega arith) c.if-n-gt5.false (λ q. elim c.else-n-ne1.branch [
  | else-n-ne1-via-then-n-ne1+else-f-eq48 w ↦ absurd (w.if-f-eq48.false q)
  | else-n-ne1-via-else-n-ne1 w ↦ w.if-n-ne1.false
])
