-- `valid::tops::see_list` meets its contract: glue over Pointing.
use Rattle.valid.proofs.Pointing.{seeing-start, seeing-step}
use Rattle.valid.proofs.tops.see_list.Goals as goal

pub loop-x-init : goal.loop-x-init
loop-x-init c = seeing-start _ _ _ _

pub loop-x-preserved : goal.loop-x-preserved
loop-x-preserved c = seeing-step _ _ _ _ _ _ c.loop-x.invariant c.loop-x-test.true _ c.see.ensures
