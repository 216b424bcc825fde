-- `mentions::reach` meets its contract. Assumes nothing.
use Rattle.mentions.proofs.Steps.{reach-tag, reach-solid, reach-blank}
use Rattle.mentions.proofs.reach.Goals as goal

pub returns-then-s : goal.returns-then-s
returns-then-s c = reach-tag _ _ c.if-s.true _ c.quiet_end.ensures

pub returns-then-s-2 : goal.returns-then-s-2
returns-then-s-2 c = reach-solid _ _ c.if-s.false _ c.quiet_end-at.ensures c.if-s-2.true

pub returns-else-s-2 : goal.returns-else-s-2
returns-else-s-2 c = reach-blank _ _ c.if-s.false _ c.quiet_end-at.ensures c.if-s-2.false _ c.white.ensures
