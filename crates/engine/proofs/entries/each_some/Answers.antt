-- `engine::entries::each_some` meets its contract: glue over Rows. Assumes nothing.
use Rattle.engine.proofs.Rows.{testing_start, testing_step, testing_fails, testing_end}
use Rattle.engine.proofs.entries.each_some.Goals as goal

pub loop-j-init : goal.loop-j-init
loop-j-init c = testing_start _ _

pub returns-then-a-j-eq0 : goal.returns-then-a-j-eq0
returns-then-a-j-eq0 c = testing_fails _ _ _ c.loop-j-test.true c.if-a-j-eq0.true

pub loop-j-preserved : goal.loop-j-preserved
loop-j-preserved c = testing_step _ _ _ c.loop-j.invariant c.loop-j-test.true c.if-a-j-eq0.false

pub returns : goal.returns
returns c = testing_end _ _ _ c.loop-j.invariant c.loop-j-test.false
