-- `elca::rows::own_row` meets its contract: its entries are filled in word order.
use mathlib.Core.Path.{refl}
use Rattle.seq.proofs.Laws.Loops.{filling_start, filling_step}
use Rattle.elca.proofs.Writing.{own-end}
use Rattle.elca.proofs.rows.own_row.Goals as goal

pub loop-j-init : goal.loop-j-init
loop-j-init c = filling_start _ _

pub loop-j-preserved : goal.loop-j-preserved
loop-j-preserved c = filling_step _ _ _ _ _ c.loop-j.invariant c.loop-j-test.true refl

pub returns : goal.returns
returns c = own-end _ _ _ _ _ _ _ _ c.requires c.loop-j.invariant c.loop-j-test.false
