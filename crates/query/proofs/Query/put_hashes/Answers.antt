-- `query::Query::put_hashes` meets its contract: glue over Hashing. Assumes nothing.
use Rattle.query.proofs.Hashing.{hashing_start, hashing_step, hashing_end}
use Rattle.query.proofs.Query.put_hashes.Goals as goal

pub loop-j-init : goal.loop-j-init
loop-j-init c = hashing_start _ _

pub loop-j-preserved : goal.loop-j-preserved
loop-j-preserved c = hashing_step _ _ _ _ c.requires c.loop-j.invariant c.loop-j-test.true _ _ c.word.ensures c.hash_of.ensures

pub returns : goal.returns
returns c = hashing_end _ _ _ _ c.loop-j.invariant c.loop-j-test.false
