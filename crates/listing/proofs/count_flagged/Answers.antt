-- `listing::count_flagged` meets its contract: glue over Writing.
use Rattle.listing.proofs.Writing.{counted_start, counted-turn, counted-end}
use Rattle.listing.proofs.count_flagged.Goals as goal

pub loop-flag-init : goal.loop-flag-init
loop-flag-init c = counted_start _

pub loop-flag-preserved : goal.loop-flag-preserved
loop-flag-preserved c = counted-turn _ _ _ c.loop-flag.invariant c.loop-flag-test.true _ c.from-m.ensures

pub returns : goal.returns
returns c = counted-end _ _ _ c.loop-flag.invariant c.loop-flag-test.false
