-- `markup::piece_at` meets its contract: glue over Pieces.
use mathlib.Core.Path.{sym, ◌∙◌}
use Rattle.octets.proofs.Laws.{at_true, at_false}
use Rattle.markup.proofs.Pieces.{piece-end, piece_data, piece-comment, piece-close, piece-tag}
use Rattle.markup.proofs.piece_at.Goals as goal

pub returns-then-text-at : goal.returns-then-text-at
returns-then-text-at c = c.ended.ensures ∙ piece-end _ _ c.if-text-at.true

pub returns-then-text-at-ne60 : goal.returns-then-text-at-ne60
returns-then-text-at-ne60 c =
    c.ended-then-text-at-ne60.ensures ∙ piece_data _ _ _ c.if-text-at.false c.if-text-at-ne60.true c.white-middle.ensures _ c.rest_end.ensures

pub returns-then-is_at : goal.returns-then-is_at
returns-then-is_at c =
    let h = at_true _ _ _ (sym c.is_at.ensures ∙ c.if-is_at.true) in
    c.ended-then-is_at.ensures ∙ piece-comment _ _ c.if-text-at.false c.if-text-at-ne60.false h.0 h.1 _ c.comment_end.ensures

pub returns-then-is_at-2 : goal.returns-then-is_at-2
returns-then-is_at-2 c =
    let h = at_true _ _ _ (sym c.is_at-2.ensures ∙ c.if-is_at-2.true) in
    c.close_piece.ensures ∙ piece-close _ _ c.if-text-at.false c.if-text-at-ne60.false h.0 h.1

pub returns : goal.returns
returns c =
    c.tag_piece.ensures
    ∙ piece-tag _ _ c.if-text-at.false c.if-text-at-ne60.false (at_false _ _ _ (sym c.is_at.ensures ∙ c.if-is_at.false)) (at_false _ _ _ (sym c.is_at-2.ensures ∙ c.if-is_at-2.false))

pub close_piece-requires : goal.close_piece-requires
close_piece-requires c = (at_true _ _ _ (sym c.is_at-2.ensures ∙ c.if-is_at-2.true)).0
