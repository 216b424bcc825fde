-- `text::field_end` meets its contract: glue over Scanning.
use mathlib.Core.Path.{◌∙◌}
use Rattle.text.proofs.Laws.Text.{field_step, field-stop, field-none, field_length_le}
use Rattle.text.proofs.Scanning.{run_step, run_end, run_out}
use Rattle.text.proofs.field_end.Goals as goal

pub returns-then-l-i-eq44 : goal.returns-then-l-i-eq44
returns-then-l-i-eq44 c = run_end _ _ _ _ c.loop-i.invariant (field-stop _ _ c.loop-i-test.true c.if-l-i-eq44.true)

pub loop-i-preserved : goal.loop-i-preserved
loop-i-preserved c = run_step _ _ _ _ c.loop-i.invariant (field_step _ _ c.loop-i-test.true c.if-l-i-eq44.false)

pub returns : goal.returns
returns c =
    c.max.ensures ∙ run_out _ _ _ _ c.loop-i.invariant c.loop-i.auto.i c.loop-i-test.false (field-none _ _ c.loop-i-test.false) (field_length_le _)
