-- `judge::judge` meets its contract: glue over Walk and Closing.
use mathlib.Core.Path.{refl}
use native.Mathlib.Omega.{arith}
use Rattle.judge.proofs.Walk.{walk_start, size-reply, walk_halts, walk-goes, walk-less}
use Rattle.judge.proofs.Closing.{walk-closes}
use Rattle.judge.proofs.judge.Goals as goal

pub returns-then-text-gt-LONGEST : goal.returns-then-text-gt-LONGEST
returns-then-text-gt-LONGEST c = size-reply _ c.if-text-gt-LONGEST.true

pub loop-end-init : goal.loop-end-init
loop-end-init c = walk_start _ _ (omega (arith, c.if-text-gt-LONGEST.false)) refl

pub loop-end-preserved-in-Some : goal.loop-end-preserved-in-Some
loop-end-preserved-in-Some c = rw c.behind-s.ensures (walk-closes _ _ _ _ c.loop-end.invariant _ c.in-Some.ensures)

pub returns-in-Break : goal.returns-in-Break
returns-in-Break c = walk_halts _ _ _ _ c.loop-end.invariant _ _ c.in-Break.ensures

pub loop-end-smaller : goal.loop-end-smaller
loop-end-smaller c = walk-less _ _ _ _ c.loop-end.invariant _ _ c.in-Continue.ensures _ c.piece_at-p.ensures

pub loop-end-preserved : goal.loop-end-preserved
loop-end-preserved c = walk-goes _ _ _ _ c.loop-end.invariant _ _ c.in-Continue.ensures _ c.piece_at-p.ensures
