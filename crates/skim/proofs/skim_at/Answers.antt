-- `skim::skim_at` meets its contract: glue over Pieces.
use mathlib.Core.Path.{sym, ◌∙◌}
use native.Mathlib.Omega.{arith}
use Rattle.skim.proofs.Pieces.{dashes_le, skim_end, skim_data_lem, skim_comment_lem, skim_tag_lem}
use Rattle.skim.proofs.skim_at.Goals as goal

pub returns-then-text-at : goal.returns-then-text-at
returns-then-text-at c = skim_end _ _ c.if-text-at.true

pub returns-then-text-at-ne60 : goal.returns-then-text-at-ne60
returns-then-text-at-ne60 c =
    skim_data_lem _ _ c.if-text-at.false c.if-text-at-ne60.true _ _ c.rise-middle.ensures c.find-end.ensures

pub overflow_add-end : goal.overflow_add-end
overflow_add-end c =
    omega (arith, dashes_le _ _ c.if-text-at.false _ c.dashes-end.ensures, c.well_formed.0.1)

pub returns-then-is_at : goal.returns-then-is_at
returns-then-is_at c = skim_comment_lem _ _ c.if-text-at.false c.if-text-at-ne60.false (sym c.is_at.ensures ∙ c.if-is_at.true) _ c.dashes-end.ensures

pub returns : goal.returns
returns c = c.tag.ensures ∙ skim_tag_lem _ _ c.if-text-at.false c.if-text-at-ne60.false (sym c.is_at.ensures ∙ c.if-is_at.false)
