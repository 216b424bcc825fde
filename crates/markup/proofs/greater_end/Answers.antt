-- `markup::greater_end` meets its contract.
use mathlib.Core.Path.{sym, ◌∙◌}
use Prim.Native.Nat.{◌<◌}
use native.Mathlib.Omega.{arith}
use lib.ListN.{length}
use Rattle.octets.proofs.Laws.{at_true, at_false}
use Rattle.markup.proofs.Tags.{close-greater, close_other}
use Rattle.markup.proofs.greater_end.Goals as goal

pub returns-then-is_at : goal.returns-then-is_at
returns-then-is_at c = let h = at_true _ _ _ (sym c.is_at.ensures ∙ c.if-is_at.true) in close-greater _ _ h.0 h.1

pub returns-else-is_at : goal.returns-else-is_at
returns-else-is_at c = close_other _ _ (at_false _ _ _ (sym c.is_at.ensures ∙ c.if-is_at.false))

pub overflow_add-result : goal.overflow_add-result
overflow_add-result c = let l : c.args.at < length c.args.text.now = (at_true _ _ _ (sym c.is_at.ensures ∙ c.if-is_at.true)).0 in omega (arith, c.well_formed)
