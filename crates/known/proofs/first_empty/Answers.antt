-- `known::first_empty` meets its contract: glue over Laws.
use native.Mathlib.Omega.{arith}
use Rattle.known.proofs.Laws.{moves-start, moves-stop, moves-step, moves-end}
use Rattle.known.proofs.first_empty.Goals as goal

pub loop-j-init : goal.loop-j-init
loop-j-init c = moves-start _ _

pub returns-then-to-from : goal.returns-then-to-from
returns-then-to-from c = moves-stop _ _ _ _ c.loop-j.invariant (omega (arith, c.loop-j-test.true)) c.if-to-from.true

pub loop-j-preserved : goal.loop-j-preserved
loop-j-preserved c = moves-step _ _ _ _ c.loop-j.invariant (omega (arith, c.loop-j-test.true)) c.if-to-from.false

pub returns : goal.returns
returns c = moves-end _ _ _ _ c.loop-j.invariant c.loop-j-test.false
