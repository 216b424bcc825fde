-- `inplace::hash_word` meets its contract. Assumes nothing.
use Rattle.inplace.proofs.Steps.{hashing_start, hashing_step, hashing_end}
use Rattle.inplace.proofs.hash_word.Goals as goal

pub loop-letter-init : goal.loop-letter-init
loop-letter-init c = hashing_start _ _

pub loop-letter-preserved : goal.loop-letter-preserved
loop-letter-preserved c = hashing_step _ _ _ _ c.loop-letter.invariant _ c.in-Some.ensures _ c.step-hash.ensures

pub returns : goal.returns
returns c = hashing_end _ _ _ _ c.loop-letter.invariant c.in_default.ensures
