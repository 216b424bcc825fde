-- `text::Writer::put_all` meets its contract.
use Rattle.text.proofs.Laws.Adding.{added-step, take_more}
use Rattle.text.proofs.Writer.put_all.Goals as goal

pub loop-x-preserved : goal.loop-x-preserved
loop-x-preserved g c =
    added-step _ _ _ _ _ _ c.loop-x.invariant c.put.ensures (take_more _ _ _ c.loop-x-test.true c.x-item.is)
