-- `index::counts::sum_up` meets its contract: glue over Summing.
use Prim.Native.Nat.{◌-◌}
use lib.ListN.{length}
use Rattle.tree.specs.Tree.{parent}
use Rattle.index.specs.Inner.{HandPre}
use Rattle.index.proofs.Summing.{handing_start, hand_to, hand_fits, handing_step, handing_end, summing_start, hand_pre, summing_step, summing_end}
use native.Mathlib.Omega.{arith}
use Rattle.index.proofs.counts.sum_up.Goals as goal
use Rattle.index.proofs.counts.sum_up.Goals.{In-loop-i}

-- Node i's sums may be handed to its parent.
handed : (c : In-loop-i) → HandPre (length c.args.parents.now) c.args.k (c.loop-i.i - 1) (parent c.args.parents.now (c.loop-i.i - 1)) c.loop-i.work
handed c = hand_pre _ _ _ _ _ _ c.requires (omega (arith, c.loop-i-test.true)) c.loop-i.invariant (omega (arith, c.loop-i-test.true))

pub loop-i-init : goal.loop-i-init
loop-i-init c = summing_start _ _ _ c.requires

pub loop-j-init : goal.loop-j-init
loop-j-init c = handing_start _ _ _ _ _ (handed (goal.at.loop-j-init c).In-loop-i)

pub bounds-work-up : goal.bounds-work-up
bounds-work-up c = hand_to _ _ _ _ _ _ _ (handed (goal.at.bounds-work-up c).In-loop-i) c.loop-j.invariant c.loop-j-test.true

pub overflow_add-work-in-loop-j-2 : goal.overflow_add-work-in-loop-j-2
overflow_add-work-in-loop-j-2 c =
    omega (arith, hand_fits _ _ _ _ _ _ _ (handed (goal.at.overflow_add-work-in-loop-j-2 c).In-loop-i) c.loop-j.invariant c.loop-j-test.true)

pub bounds-work-up-in-loop-j : goal.bounds-work-up-in-loop-j
bounds-work-up-in-loop-j c = hand_to _ _ _ _ _ _ _ (handed (goal.at.bounds-work-up-in-loop-j c).In-loop-i) c.loop-j.invariant c.loop-j-test.true

pub loop-j-preserved : goal.loop-j-preserved
loop-j-preserved c = handing_step _ _ _ _ _ _ _ (handed (goal.at.loop-j-preserved c).In-loop-i) c.loop-j.invariant c.loop-j-test.true

pub loop-i-preserved : goal.loop-i-preserved
loop-i-preserved c =
    summing_step _ _ _ _ _ _ c.requires (omega (arith, c.loop-i-test.true)) c.loop-i.invariant (omega (arith, c.loop-i-test.true)) _
    (handing_end _ _ _ _ _ _ _ c.loop-j.invariant c.loop-j-test.false)

pub returns : goal.returns
returns c = summing_end _ _ _ _ _ c.loop-i.invariant c.loop-i-test.false
