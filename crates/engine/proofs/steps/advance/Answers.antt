-- `engine::steps::advance` meets its contract: glue over Advancing. Assumes nothing.
use Rattle.engine.proofs.Advancing.{advanced_closed, advanced_arrived}
use Rattle.engine.proofs.steps.advance.Goals as goal

pub arrive-requires : goal.arrive-requires
arrive-requires c = c.requires.arrive c.if-t-s.true

pub returns-then-t-s : goal.returns-then-t-s
returns-then-t-s c = advanced_arrived _ _ _ _ _ _ _ _ _ _ _ c.if-t-s.true c.arrive.ensures

pub close-requires : goal.close-requires
close-requires c = c.requires.close c.if-t-s.false

pub returns : goal.returns
returns c =
    advanced_closed _ _ _ _ _ _ _ _ _ _ _ _ c.if-t-s.false c.close.ensures
