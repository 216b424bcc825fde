-- `depot::check` meets its contract: glue over Checking. Assumes nothing.
use mathlib.Core.Path.{sym, ◌∙◌}
use Rattle.depot.proofs.Checking.{check-refused, judge-pre, check-judged}
use Rattle.depot.proofs.check.Goals as goal

pub returns-then-not-size_ok : goal.returns-then-not-size_ok
returns-then-not-size_ok c = check-refused _ _ (sym c.size_ok.ensures ∙ c.if-not-size_ok.true)

pub judge-requires : goal.judge-requires
judge-requires c = judge-pre _ _ (sym c.size_ok.ensures ∙ c.if-not-size_ok.false)

pub returns : goal.returns
returns c = check-judged _ _ (sym c.size_ok.ensures ∙ c.if-not-size_ok.false) _ c.judge.ensures
