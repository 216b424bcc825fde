-- `engine::steps::judge` meets its contract: glue over Judging. Assumes nothing.
use mathlib.Core.Path.{sym, ◌∙◌}
use Rattle.engine.proofs.Judging.{judged-none, judged-counted, judged-written}
use Rattle.engine.proofs.steps.judge.Goals as goal

pub returns-then-not-answers : goal.returns-then-not-answers
returns-then-not-answers c = judged-none _ _ _ _ _ (sym c.answers.ensures ∙ c.if-not-answers.true)

pub returns-in-Counted : goal.returns-in-Counted
returns-in-Counted c = judged-counted _ _ _ _ _ (sym c.answers.ensures ∙ c.if-not-answers.false) _ c.in-Counted.is

pub returns-in-Left : goal.returns-in-Left
returns-in-Left c = judged-written _ _ _ _ _ (sym c.answers.ensures ∙ c.if-not-answers.false) _ c.in-Left.is _ _ c.put.ensures
