-- `inplace::behind` meets its contract. Assumes nothing.
use Rattle.std.proofs.Common.{sym, ◌∙◌, ◌<◌, length, arith}
use Rattle.octets.proofs.Laws.{at_true}
use Rattle.inplace.proofs.Comments.{none_first, none_second, one_at}
use Rattle.inplace.proofs.behind.Goals.{else-is_at-via-then-is_at+else-is_at-2, else-is_at-via-else-is_at}
use Rattle.inplace.proofs.behind.Goals as goal

pub overflow_add-at : goal.overflow_add-at
overflow_add-at c = let l : c.args.at < length c.args.text.now = (at_true _ _ _ (sym c.is_at.ensures ∙ c.if-is_at.true)).0 in omega (arith, c.well_formed)

pub returns-then-is_at-2 : goal.returns-then-is_at-2
returns-then-is_at-2 c = one_at c.args.text.now c.args.at (sym c.is_at.ensures ∙ c.if-is_at.true) (sym c.is_at-then-is_at.ensures ∙ c.if-is_at-2.true) _ c.skim_at.ensures

pub returns-else-is_at : goal.returns-else-is_at
returns-else-is_at c =
    elim c.else-is_at.branch [
      | else-is_at-via-then-is_at+else-is_at-2 w ↦ none_second c.args.text.now c.args.at (sym w.is_at-then-is_at.ensures ∙ w.if-is_at-2.false)
      | else-is_at-via-else-is_at w ↦ none_first c.args.text.now c.args.at (sym c.is_at.ensures ∙ w.if-is_at.false)
    ]
