-- `slca::drop_above` meets its contract: glue over Dropping.
use Rattle.slca.proofs.Dropping.{dropping_start, dropping_skip, dropping_mark, dropping_end}
use Rattle.slca.proofs.drop_above.Goals as goal

pub loop-i-init : goal.loop-i-init
loop-i-init c = dropping_start _ _ c.requires

pub loop-i-preserved-then-flags-i-ne0 : goal.loop-i-preserved-then-flags-i-ne0
loop-i-preserved-then-flags-i-ne0 c = dropping_mark _ _ _ _ c.requires c.loop-i.invariant c.loop-i-test.true c.if-flags-i-ne0.true

pub loop-i-preserved : goal.loop-i-preserved
loop-i-preserved c = dropping_skip _ _ _ _ c.requires c.loop-i.invariant c.loop-i-test.true c.if-flags-i-ne0.false

pub returns : goal.returns
returns c = dropping_end _ _ _ _ c.loop-i.invariant c.loop-i-test.false
