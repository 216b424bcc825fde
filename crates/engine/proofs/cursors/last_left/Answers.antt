-- `engine::cursors::last_left` meets its contract. Assumes nothing.
use Rattle.engine.proofs.Taking.{last_some, last_none}
use Rattle.engine.proofs.cursors.last_left.Goals as goal

pub returns-then-from-to : goal.returns-then-from-to
returns-then-from-to c = last_some _ _ _ c.if-from-to.true

pub returns-else-from-to : goal.returns-else-from-to
returns-else-from-to c = last_none _ _ _ c.if-from-to.false
