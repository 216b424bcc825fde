-- `engine::cursors::Cursors::coming` meets its contract. Before word j is reached, the row is filled for the words before it. Assumes nothing.
use mathlib.Core.Path.{refl, ◌∙◌}
use Rattle.seq.proofs.Laws.Loops.{filling_start, filling_step}
use Rattle.engine.proofs.Taking.{flag-from, coming-end}
use Rattle.engine.proofs.cursors.Cursors.coming.Goals as goal

pub loop-j-init : goal.loop-j-init
loop-j-init c = filling_start _ _

pub loop-j-preserved : goal.loop-j-preserved
loop-j-preserved c = filling_step _ _ _ _ _ c.loop-j.invariant c.loop-j-test.true (c.from.ensures ∙ flag-from _ _ refl)

pub returns : goal.returns
returns c = coming-end _ _ _ _ _ c.loop-j.invariant refl c.loop-j-test.false
