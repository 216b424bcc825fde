-- `names::lookup::way` meets its contract.
use mathlib.Core.Path.{refl, sym, ◌∙◌}
use Rattle.names.proofs.Walking.{way-right, way-left}
use Rattle.names.proofs.lookup.Tree.way.Goals as goal

pub returns-then-bit_at : goal.returns-then-bit_at
returns-then-bit_at c = way-right _ _ _ _ _ refl (sym c.bit_at.ensures ∙ c.if-bit_at.true)

pub returns-else-bit_at : goal.returns-else-bit_at
returns-else-bit_at c = way-left _ _ _ _ _ refl (sym c.bit_at.ensures ∙ c.if-bit_at.false)
