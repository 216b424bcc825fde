-- `markup::close_piece` meets its contract: glue over Tags and Pieces.
use mathlib.Core.Path.{◌∙◌}
use Rattle.markup.proofs.Tags.{named}
use Rattle.markup.proofs.Pieces.{close-none, close-is}
use Rattle.markup.proofs.close_piece.Goals as goal

pub returns-then-middle-name : goal.returns-then-middle-name
returns-then-middle-name c = c.ended.ensures ∙ close-none _ _ _ c.name_end-middle.ensures c.if-middle-name.true

pub returns : goal.returns
returns c =
    c.ended-2.ensures ∙ close-is _ _ _ _ _ _ (named _ _ _ _ c.name_end-middle.ensures c.white-i.ensures) c.if-middle-name.false _ c.greater_end.ensures
