-- `mentions::quiet_end` meets its contract. Assumes nothing.
use Rattle.std.proofs.Common.{sym, ◌∙◌}
use Rattle.octets.proofs.Running.{run-start, run_step, run-stop, at_end}
use Rattle.inplace.proofs.Letters.{folded-none}
use Rattle.mentions.proofs.Steps.{stop-any, stop-none}
use Rattle.mentions.proofs.quiet_end.Goals as goal

pub loop-i-init : goal.loop-i-init
loop-i-init c = run-start _ _ _

pub returns-then-fold-ne0 : goal.returns-then-fold-ne0
returns-then-fold-ne0 c = run-stop _ _ _ _ c.loop-i.invariant c.loop-i-test.true (stop-any _ _ _ c.fold.ensures c.then-fold-ne0.either)

pub loop-i-preserved : goal.loop-i-preserved
loop-i-preserved c = run_step _ _ _ _ c.loop-i.invariant c.loop-i-test.true (stop-none _ _ (folded-none _ (sym c.fold.ensures ∙ c.if-fold-ne0.false)) c.if-x-eq60.false c.if-x-y.false)

pub returns : goal.returns
returns c = at_end _ _ _ _ c.loop-i.invariant c.loop-i-test.false c.loop-i.auto.i-end _ c.max.ensures
