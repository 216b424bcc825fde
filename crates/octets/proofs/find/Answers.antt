-- `octets::find` meets its contract: glue over Running.
use native.Mathlib.Omega.{arith}
use Rattle.std.proofs.Common.{rules}
use Rattle.profile.specs.Spans.{other}
use Rattle.octets.proofs.Laws.{other-same, other-not}
use Rattle.octets.proofs.Running.{run_on, run-rest, run-stop, run_end}
use Rattle.octets.proofs.find.Goals as goal

pub returns-then-text-i-lt4 : goal.returns-then-text-i-lt4
unfolding other
returns-then-text-i-lt4 c = run-rest _ _ _ _ c.loop-i.invariant _ (c.run.ensures _ (λ x r l p. search rules))

pub returns-then-text-i : goal.returns-then-text-i
returns-then-text-i c = run-stop _ _ _ _ c.loop-j.invariant (omega (arith, c.if-text-i-lt4.false)) (other-same _ _ c.if-text-i.true)

pub loop-j-preserved : goal.loop-j-preserved
loop-j-preserved c = run_on _ _ _ _ c.loop-j.invariant (omega (arith, c.if-text-i-lt4.false)) (other-not _ _ c.if-text-i.false) _ (omega arith)

pub returns : goal.returns
returns c = run_end _ _ _ _ c.loop-i.invariant c.loop-i-test.false
