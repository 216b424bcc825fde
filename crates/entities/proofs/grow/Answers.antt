-- `entities::grow` meets its contract.
use Rattle.std.proofs.Common.{arith}
use Rattle.std.proofs.lemmas.Grind.{common_steps}
use Rattle.entities.specs.Inner.{grown}
use Rattle.entities.proofs.grow.Goals as goal

pub returns-then-code-ge4 : goal.returns-then-code-ge4
unfolding grown
returns-then-code-ge4 c = grind (arith, common_steps)

pub returns-then-tag-eq0 : goal.returns-then-tag-eq0
unfolding grown
returns-then-tag-eq0 c = grind (arith, common_steps)

pub returns-else-tag-eq0 : goal.returns-else-tag-eq0
unfolding grown
returns-else-tag-eq0 c = grind (arith, common_steps)
