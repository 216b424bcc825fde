-- `elca::rows::take_off` meets its contract: glue over Giving.
use Rattle.elca.proofs.Giving.{taking-start, take-pre, taking-skip, taking_step, taking-end}
use Rattle.elca.proofs.rows.take_off.Goals as goal
use Rattle.elca.proofs.rows.take_off.Goals.{then-work-sums-ne0, else-work-sums-ne0}

pub loop-c-init : goal.loop-c-init
loop-c-init c = taking-start _ _ _ _ c.requires

pub give-requires : goal.give-requires
give-requires c = take-pre _ _ _ _ _ _ c.requires c.loop-c.invariant c.loop-c-test.true c.if-work-sums-ne0.true

pub loop-c-preserved : goal.loop-c-preserved
loop-c-preserved c =
    elim c.if-work-sums-ne0.branch [
      | then-work-sums-ne0 w ↦ rw w.work-is (taking_step _ _ _ _ _ _ c.requires c.loop-c.invariant c.loop-c-test.true w.if-work-sums-ne0.true _ w.give.ensures)
      | else-work-sums-ne0 w ↦ rw w.work-is (taking-skip _ _ _ _ _ _ c.requires c.loop-c.invariant c.loop-c-test.true w.if-work-sums-ne0.false)
    ]

pub returns : goal.returns
returns c = taking-end _ _ _ _ _ _ c.loop-c.invariant c.loop-c-test.false
