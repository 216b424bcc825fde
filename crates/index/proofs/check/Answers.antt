-- `index::check` meets its contract.
use mathlib.Core.Path.{sym, ◌∙◌}
use Rattle.index.proofs.Laws.Sizes.{sized_of}
use Rattle.index.proofs.Judging.{size-refused}
use Rattle.index.proofs.check.Goals as goal

pub judge-requires : goal.judge-requires
judge-requires c = sized_of _ _ _ (sym c.size_ok.ensures ∙ c.if-size_ok.true)

pub returns-then-size_ok : goal.returns-then-size_ok
returns-then-size_ok c = c.judge.ensures

pub returns : goal.returns
returns c = size-refused _ _ (sym c.size_ok.ensures ∙ c.if-size_ok.false)
