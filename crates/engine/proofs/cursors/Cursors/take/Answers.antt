-- `engine::cursors::Cursors::take` meets its contract: glue over Walking. Assumes nothing.
use Rattle.std.proofs.Common.{rules}
use Rattle.engine.proofs.Walking.{walking_start, take-pre, take_step, take-end}
use Rattle.engine.proofs.cursors.Cursors.take.Goals as goal

pub loop-j-init : goal.loop-j-init
loop-j-init c = walking_start _ _ _ _

pub take_word-requires : goal.take_word-requires
take_word-requires c = take-pre _ _ _ _ _ _ _ _ c.requires c.loop-j.invariant c.loop-j-test.true

pub loop-j-preserved : goal.loop-j-preserved
loop-j-preserved c = take_step _ _ _ _ _ _ _ _ c.requires c.loop-j.invariant c.loop-j-test.true _ _ c.take_word.ensures _ (search rules)

pub returns : goal.returns
returns c = take-end _ _ _ _ _ _ _ _ c.requires c.loop-j.invariant c.loop-j-test.false
