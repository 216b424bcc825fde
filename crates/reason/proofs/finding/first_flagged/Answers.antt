-- `reason::finding::first_flagged` meets its contract: what is found from the entry at hand on is what is found in the list.
use mathlib.Core.Path.{refl}
use Rattle.reason.proofs.Lowest.{lowest_step, lowest-here, lowest-none}
use Rattle.reason.proofs.finding.first_flagged.Goals as goal

pub loop-x-init : goal.loop-x-init
loop-x-init c = refl

pub returns-then-row-x-ne0 : goal.returns-then-row-x-ne0
returns-then-row-x-ne0 c = lowest-here _ _ _ c.loop-x-test.true c.loop-x.invariant c.if-row-x-ne0.true

pub loop-x-preserved : goal.loop-x-preserved
loop-x-preserved c = lowest_step _ _ _ c.loop-x-test.true c.loop-x.invariant c.if-row-x-ne0.false

pub returns : goal.returns
returns c = lowest-none _ _ _ c.loop-x.invariant c.loop-x-test.false
