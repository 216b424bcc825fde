-- `engine::Entry::close_into` meets its contract. Assumes nothing.
use Rattle.engine.proofs.Values.{closed-full, closed-other}
use Rattle.engine.proofs.Entry.close_into.Goals as goal

pub returns-then-full : goal.returns-then-full
returns-then-full c = closed-full _ _ _ _ c.if-full.true c.add.ensures

pub returns-else-full : goal.returns-else-full
returns-else-full c = closed-other _ _ _ _ c.if-full.false c.add-else-full.ensures
