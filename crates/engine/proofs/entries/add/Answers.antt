-- `engine::entries::add` meets its contract. Before word j is reached, the counts of the words before it have been added. Assumes nothing.
use mathlib.Core.Path.{refl}
use native.Mathlib.Omega.{arith}
use Rattle.seq.proofs.Laws.Loops.{filling_start, filling_step}
use Rattle.engine.proofs.Rows.{sums-end}
use Rattle.engine.proofs.entries.add.Goals as goal

pub loop-j-init : goal.loop-j-init
loop-j-init c = filling_start _ _

pub overflow_add-sums : goal.overflow_add-sums
overflow_add-sums c = omega (arith, c.requires.fits c.loop-j.j c.loop-j-test.true)

pub loop-j-preserved : goal.loop-j-preserved
loop-j-preserved c = filling_step _ _ _ _ _ c.loop-j.invariant c.loop-j-test.true refl

pub returns : goal.returns
returns c = sums-end _ _ _ _ _ c.loop-j.invariant refl c.loop-j-test.false
