-- `markup::rest_end` meets its contract: glue over Loops.
use mathlib.Core.Path.{sym, ◌∙◌}
use Rattle.octets.proofs.Laws.{at_true}
use Rattle.markup.proofs.Reading.{reading-start}
use Rattle.markup.proofs.Loops.{data_at-less}
use Rattle.markup.proofs.rest_end.Goals as goal

pub returns-then-is_at : goal.returns-then-is_at
returns-then-is_at c = let h = at_true _ _ _ (sym c.is_at.ensures ∙ c.if-is_at.true) in data_at-less _ _ _ (reading-start _ _ _) h.0 h.1
