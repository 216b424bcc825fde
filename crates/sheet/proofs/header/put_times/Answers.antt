-- `sheet::header::put_times` meets its contract.
use mathlib.Core.Path.{sym, ap}
use native.Mathlib.Omega.{arith}
use Prim.Native.Nat.{ℕ}
use Rattle.text.proofs.Laws.Adding.{added-start, added-step, added_same}
use Rattle.sheet.specs.Table.{times}
use Rattle.sheet.proofs.Laws.Table.{times_zero, times_more}
use Rattle.sheet.proofs.header.put_times.Goals as goal

pub loop-init : goal.loop-init
loop-init c = added_same _ _ _ _ (added-start _) (sym (times_zero _))

pub loop-preserved : goal.loop-preserved
loop-preserved c = added-step _ _ _ _ _ _ c.loop.invariant c.put_all.ensures (times_more c.loop.counter c.args.text.now)

pub returns : goal.returns
returns c = added_same _ _ _ _ c.loop.invariant (ap (λ (k : ℕ). times k c.args.text.now) (omega (arith, c.loop-test.false, c.loop.auto.counter-end)))
