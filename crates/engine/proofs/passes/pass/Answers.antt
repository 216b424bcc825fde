-- `engine::passes::pass` meets its contract: glue over Running and Passing. Assumes nothing.
use native.Mathlib.Omega.{arith}
use borrow.Author.Tests.{lt-ltb, le-ltb}
use Rattle.engine.proofs.Laws.Cursors.{set-pre}
use Rattle.engine.proofs.Running.{turning_at, turning_deep, turning_asks, turning_less, turning_again}
use Rattle.engine.proofs.Passing.{pass-begins, pass-ends}
use Rattle.engine.proofs.passes.pass.Goals as goal

pub new-reach-requires : goal.new-reach-requires
new-reach-requires c = set-pre _ c.requires.sound

pub loop-n-init : goal.loop-n-init
loop-n-init c = pass-begins _ _ _ _ _ _ c.requires _ _ c.new-reach.ensures _ c.new.ensures

pub bounds-stack-n : goal.bounds-stack-n
bounds-stack-n c = turning_at _ _ _ _ c.loop-n.invariant (lt-ltb 0 _ c.loop-n-test.true)

pub offset_bounds-stack-n : goal.offset_bounds-stack-n
offset_bounds-stack-n c = omega (arith, turning_deep _ _ _ _ c.loop-n.invariant (lt-ltb 0 _ c.loop-n-test.true))

pub offset_bounds-stack-low : goal.offset_bounds-stack-low
offset_bounds-stack-low c = omega (arith, turning_deep _ _ _ _ c.loop-n.invariant (lt-ltb 0 _ c.loop-n-test.true), c.saturating_sub-low.ensures)

pub advance-n-requires : goal.advance-n-requires
advance-n-requires c = turning_asks _ _ _ _ c.loop-n.invariant (lt-ltb 0 _ c.loop-n-test.true) _ (omega (arith, c.saturating_sub-low.ensures)) _

pub loop-n-smaller : goal.loop-n-smaller
loop-n-smaller c =
    turning_less _ _ _ _ c.loop-n.invariant (lt-ltb 0 _ c.loop-n-test.true) _ (omega (arith, c.saturating_sub-low.ensures)) _ _ _ _ _ c.advance-n.ensures

pub loop-n-preserved : goal.loop-n-preserved
loop-n-preserved c =
    turning_again _ _ _ _ c.loop-n.invariant (lt-ltb 0 _ c.loop-n-test.true) _ (omega (arith, c.saturating_sub-low.ensures)) _ _ _ _ _ c.advance-n.ensures

pub returns : goal.returns
returns c = pass-ends _ _ _ _ _ _ c.requires _ _ _ _ c.loop-n.invariant (le-ltb 0 _ c.loop-n-test.false) _ c.number.ensures
