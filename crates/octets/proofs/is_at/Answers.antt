-- `octets::is_at` meets its contract.
use mathlib.Core.Path.{sym, ◌∙◌}
use borrow.Author.Tests.{le-ltb}
use Rattle.octets.proofs.Laws.{at_within, at-past}
use Rattle.octets.proofs.is_at.Goals as goal

pub returns-then-at-text : goal.returns-then-at-text
returns-then-at-text c = sym (at_within _ _ _ c.if-at-text.true)

pub returns-else-at-text : goal.returns-else-at-text
returns-else-at-text c = le-ltb _ _ c.if-at-text.false ∙ sym (at-past _ _ _ c.if-at-text.false)
