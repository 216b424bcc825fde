-- `text::line_end` meets its contract: glue over Scanning.
use mathlib.Core.Path.{◌∙◌}
use Rattle.text.proofs.Laws.Text.{ended_starts-at, line_step, line-stop, line-none, line_length_le}
use Rattle.text.proofs.Scanning.{run_step, run_end, run_out}
use Rattle.text.proofs.line_end.Goals as goal

pub returns-then-starts_with : goal.returns-then-starts_with
returns-then-starts_with c = run_end _ _ _ _ c.loop-i.invariant (line-stop _ (ended_starts-at c.args.s.now c.loop-i.i _ c.starts_with.ensures.value ∙ c.if-starts_with.true))

pub loop-i-preserved : goal.loop-i-preserved
loop-i-preserved c =
    run_step _ _ _ _ c.loop-i.invariant (line_step _ _ c.loop-i-test.true (ended_starts-at c.args.s.now c.loop-i.i _ c.starts_with.ensures.value ∙ c.if-starts_with.false))

pub returns : goal.returns
returns c =
    c.max.ensures ∙ run_out _ _ _ _ c.loop-i.invariant c.loop-i.auto.i c.loop-i-test.false (line-none _ _ c.loop-i-test.false) (line_length_le _)
