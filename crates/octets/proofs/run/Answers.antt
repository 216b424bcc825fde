-- `octets::run` meets its contract: glue over Running.
use mathlib.Core.Path.{sym}
use native.Mathlib.Omega.{arith}
use lib.ListN.{get_or}
use Rattle.octets.proofs.Running.{run-start, run_step, run-stop, at_end}
use Rattle.octets.proofs.run.Goals as goal

pub loop-i-init : goal.loop-i-init
loop-i-init g c = λ f agrees. run-start _ _ _

pub returns-then-not-test : goal.returns-then-not-test
returns-then-not-test g c = λ f agrees.
    run-stop _ _ _ _ (c.loop-i.invariant f agrees) c.loop-i-test.true (sym (agrees (get_or c.args.text.now c.loop-i.i 0) _ (omega (arith, c.type_inv.text c.loop-i.i)) c.if-not-test.ensures))

pub loop-i-preserved : goal.loop-i-preserved
loop-i-preserved g c = λ f agrees.
    run_step _ _ _ _ (c.loop-i.invariant f agrees) c.loop-i-test.true (sym (agrees (get_or c.args.text.now c.loop-i.i 0) _ (omega (arith, c.type_inv.text c.loop-i.i)) c.if-not-test.ensures))

pub returns : goal.returns
returns g c = λ f agrees. at_end _ _ _ _ (c.loop-i.invariant f agrees) c.loop-i-test.false c.loop-i.auto.i-end _ c.max.ensures
