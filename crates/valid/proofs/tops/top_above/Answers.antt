-- `valid::tops::top_above` meets its contract: its definition opened.
use Rattle.std.proofs.Common.{arith}
use Rattle.std.proofs.lemmas.Grind.{common_steps}
use Rattle.valid.specs.Inner.Tops.{top_above}
use Rattle.valid.proofs.tops.top_above.Goals as goal

pub returns-then-v-eq0 : goal.returns-then-v-eq0
unfolding top_above
returns-then-v-eq0 c = grind (arith, common_steps)

pub returns-else-v-eq0 : goal.returns-else-v-eq0
unfolding top_above
returns-else-v-eq0 c = grind (arith, common_steps)
