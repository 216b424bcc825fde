-- `entities::is_entity` meets its contract.
use Rattle.std.proofs.Common.{arith}
use Rattle.std.proofs.lemmas.Grind.{common_steps}
use Rattle.entities.specs.Inner.{entity_by}
use Rattle.entities.proofs.is_entity.Goals as goal

pub returns-then-code-eq1 : goal.returns-then-code-eq1
unfolding entity_by
returns-then-code-eq1 c = grind (arith, common_steps)

pub returns-else-code-eq1 : goal.returns-else-code-eq1
unfolding entity_by
returns-else-code-eq1 c = grind (arith, common_steps)

pub returns-else-tag-ne0 : goal.returns-else-tag-ne0
unfolding entity_by
returns-else-tag-ne0 c = grind (arith, common_steps)
