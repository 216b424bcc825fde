-- `markup::tag_piece` meets its contract: glue over Tags and Pieces.
use mathlib.Core.Path.{sym, ◌∙◌}
use Prim.Native.Nat.{◌<◌}
use native.Mathlib.Omega.{arith}
use lib.ListN.{length}
use Rattle.octets.proofs.Laws.{at_true}
use Rattle.markup.proofs.Tags.{named}
use Rattle.markup.proofs.Pieces.{tag-none, tag-empty, tag-start}
use Rattle.markup.proofs.tag_piece.Goals as goal

pub returns-then-middle-name : goal.returns-then-middle-name
returns-then-middle-name c = c.ended.ensures ∙ tag-none _ _ _ c.name_end-middle.ensures c.if-middle-name.true

pub returns-then-is_at : goal.returns-then-is_at
returns-then-is_at c =
    let h = at_true _ _ _ (sym c.is_at.ensures ∙ c.if-is_at.true) in
    c.ended-then-is_at.ensures
    ∙ tag-empty _ _ _ _ _ _ (named _ _ _ _ c.name_end-middle.ensures c.white-i.ensures) c.if-middle-name.false h.0 h.1 _ c.greater_end.ensures

pub returns : goal.returns
returns c =
    c.ended-2.ensures
    ∙ tag-start _ _ _ _ _ _ (named _ _ _ _ c.name_end-middle.ensures c.white-i.ensures) c.if-middle-name.false (sym c.is_at.ensures ∙ c.if-is_at.false) _ c.greater_end-2.ensures

pub overflow_add-i : goal.overflow_add-i
overflow_add-i c = let l : c.white-i.result < length c.args.text.now = (at_true _ _ _ (sym c.is_at.ensures ∙ c.if-is_at.true)).0 in omega (arith, c.well_formed)
