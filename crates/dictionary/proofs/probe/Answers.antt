-- `dictionary::probe` meets its contract: glue over the walk of `probing`. Assumes nothing.
use Rattle.std.proofs.Common.{◌-◌, sym, inl, inr, arith}
use native.Mathlib.Nat.{mod-lt}
use lib.ListN.{get_or}
use Rattle.probing.proofs.Walk.{walk_step, stop-free, stop-held, go_on}
use Rattle.words.specs.Reading.{word_at}
use Rattle.dictionary.proofs.Laws.{started, no_slots, stopped, missed}
use Rattle.dictionary.proofs.probe.Goals.{then-x-eq0-via-then-x-eq0, then-x-eq0-via-else-x-eq0+then-holds, then-i-slots, else-i-slots}
use Rattle.dictionary.proofs.probe.Goals as goal

pub returns-in_err-i : goal.returns-in_err-i
returns-in_err-i g c = λ T q agrees. rw c.from_residual.ensures (no_slots T q _ _ (omega (arith, c.in_err-i.ensures)))

pub loop-init : goal.loop-init
loop-init g c = let start = c.in_ok-i.ensures in (omega (arith, mod-lt c.args.hash start.0, start.1), λ T q agrees. started T q c.args.hash c.args.slots.now c.in_ok-i.i start)

pub bounds-slots-i : goal.bounds-slots-i
bounds-slots-i g c = c.loop.invariant.0

pub returns-then-x-eq0 : goal.returns-then-x-eq0
returns-then-x-eq0 g c = λ T q agrees. let w = c.loop.invariant.1 T q agrees in
    elim c.then-x-eq0.branch [
      | then-x-eq0-via-then-x-eq0 b ↦ stopped T q _ _ _ _ w c.loop-test.true (stop-free (word_at T) _ _ b.if-x-eq0.true)
      | then-x-eq0-via-else-x-eq0+then-holds b ↦ stopped T q _ _ _ _ w c.loop-test.true (stop-held (word_at T) _ _ b.if-x-eq0.false (sym (agrees (get_or c.args.slots.now c.loop.i 0 - 1) _ b.if-holds.ensures)))
    ]

pub loop-preserved : goal.loop-preserved
loop-preserved g c = (
  elim c.if-i-slots.branch [ then-i-slots b ↦ omega (arith, c.loop-test.true, b.i-is) | else-i-slots b ↦ omega (arith, c.loop.invariant.0, b.if-i-slots.false, b.i-is) ],
  λ T q agrees. walk_step (word_at T) _ _ _ _ _ (c.loop.invariant.1 T q agrees) _ c.loop-test.true (go_on (word_at T) _ _ c.if-x-eq0.false (sym (agrees (get_or c.args.slots.now c.loop.i 0 - 1) _ c.if-holds.ensures)))
      (elim c.if-i-slots.branch [ then-i-slots b ↦ inl (b.if-i-slots.true, b.i-is) | else-i-slots b ↦ inr (b.if-i-slots.false, b.i-is) ]),
)

pub returns : goal.returns
returns g c = λ T q agrees. missed T q _ _ _ _ (c.loop.invariant.1 T q agrees) c.loop-test.false
