-- `entities::closest_of` meets its contract.
use Rattle.std.proofs.Common.{arith}
use Rattle.std.proofs.lemmas.Grind.{common_steps}
use Rattle.entities.specs.Inner.{closest_by}
use Rattle.entities.proofs.closest_of.Goals as goal

pub returns-then-is_entity : goal.returns-then-is_entity
unfolding closest_by
returns-then-is_entity c = grind (arith, common_steps)

pub returns-else-is_entity : goal.returns-else-is_entity
unfolding closest_by
returns-else-is_entity c = grind (arith, common_steps)
