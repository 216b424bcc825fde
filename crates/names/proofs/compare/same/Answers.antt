-- `names::compare::same` meets its contract: glue over Comparing.
use mathlib.Core.Path.{sym, ◌∙◌}
use borrow.Author.Tests.{eqb-true}
use Rattle.names.proofs.Comparing.{found-whole}
use Rattle.names.proofs.compare.same.Goals as goal

pub returns-then-common-name : goal.returns-then-common-name
returns-then-common-name c = record {
  same = λ e. found-whole _ _ _ c.requires.name (sym c.common.ensures ∙ c.if-common-name.true) (sym c.name_byte.ensures ∙ eqb-true _ _ e);
}
