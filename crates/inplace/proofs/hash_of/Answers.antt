-- `inplace::hash_of` meets its contract. Assumes nothing.
use Rattle.inplace.proofs.Steps.{hashes-start, hashes-step, hashes-end}
use Rattle.inplace.proofs.hash_of.Goals as goal

pub loop-x-init : goal.loop-x-init
loop-x-init c = hashes-start _

pub loop-x-preserved : goal.loop-x-preserved
loop-x-preserved c = hashes-step _ _ _ c.loop-x.invariant c.loop-x-test.true _ _ c.lower.ensures c.step-hash.ensures

pub returns : goal.returns
returns c = hashes-end _ _ _ c.loop-x.invariant c.loop-x-test.false
