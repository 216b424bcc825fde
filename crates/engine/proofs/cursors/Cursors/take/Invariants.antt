-- `engine::cursors::Cursors::take` meets its contract: glue over Walking. Assumes nothing.
use Rattle.engine.specs.Inner.Cursors.{head_after, up_to_after}
use Rattle.engine.proofs.Walking.{Walking}
use Rattle.engine.proofs.cursors.Cursors.take.Given as goal

abbrev pub invariant-loop-j : goal.invariant-loop-j
invariant-loop-j l = Walking (head_after l.ends l.occurrences l.fn.self l.reach) (up_to_after l.fn.self l.reach) l.ends l.fn.self l.self l.next l.from l.j
