-- `valid::tops::top_here` meets its contract: its definition opened.
use Rattle.std.proofs.Common.{arith}
use Rattle.std.proofs.lemmas.Grind.{common_steps}
use Rattle.valid.specs.Inner.Tops.{top_here}
use Rattle.valid.proofs.tops.top_here.Goals as goal

pub returns-then-n-above : goal.returns-then-n-above
unfolding top_here
returns-then-n-above c = grind (arith, common_steps)

pub returns-then-mark-eq1 : goal.returns-then-mark-eq1
unfolding top_here
returns-then-mark-eq1 c = grind (arith, common_steps)

pub returns-else-mark-eq1 : goal.returns-else-mark-eq1
unfolding top_here
returns-else-mark-eq1 c = grind (arith, common_steps)
