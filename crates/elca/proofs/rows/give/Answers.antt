-- `elca::rows::give` meets its contract: glue over Giving.
use Rattle.elca.proofs.Giving.{giving_start, giving_step, giving_end}
use Rattle.elca.proofs.rows.give.Goals as goal

pub loop-j-init : goal.loop-j-init
loop-j-init c = giving_start _ _ _ _ _ _ c.requires

pub loop-j-preserved : goal.loop-j-preserved
loop-j-preserved c = giving_step _ _ _ _ _ _ _ _ c.requires c.loop-j.invariant c.loop-j-test.true

pub returns : goal.returns
returns c = giving_end _ _ _ _ _ _ _ _ c.loop-j.invariant c.loop-j-test.false
