-- `index::counts::mark_words` meets its contract: glue over Marking.
use Prim.Native.Nat.{◌+◌, ◌-◌, ◌*◌, ◌<◌}
use mathlib.Core.Path.{refl}
use lib.ListN.{length, get_or, take, drop}
use Rattle.index.specs.Inner.{MarkPre}
use Rattle.index.proofs.Marking.{marking-start, mark-below, mark-fits, marking_step, marking-end, columns_start, column-pre, columns_step, columns_end}
use native.Mathlib.Omega.{arith}
use Rattle.index.proofs.counts.mark_words.Goals as goal
use Rattle.index.proofs.counts.mark_words.Goals.{In-loop-j, In-loop-v}

-- What is known of word j's list.
listed : (c : In-loop-j) →
    MarkPre (length c.args.lent.parents.now) (length c.args.lent.ends.now) c.loop-j.j (take (get_or c.args.lent.ends.now c.loop-j.j 0 - c.loop-j.from) (drop c.loop-j.from c.args.lent.occurrences.now)) c.loop-j.work
listed c = column-pre _ _ _ _ _ _ _ _ c.requires c.loop-j.invariant c.loop-j-test.true refl

-- The sum that is marked is one of work.
below : (c : In-loop-v) →
    get_or (take (get_or c.args.lent.ends.now c.loop-j.j 0 - c.loop-j.from) (drop c.loop-j.from c.args.lent.occurrences.now)) c.loop-v.v-index 0 * length c.args.lent.ends.now + c.loop-j.j
    < length c.args.lent.parents.now * length c.args.lent.ends.now
below c = mark-below _ _ _ _ _ _ _ _ (listed (goal.at.In-loop-v c).In-loop-j) c.loop-v.invariant c.loop-v-test.true refl

pub loop-j-init : goal.loop-j-init
loop-j-init c = columns_start _ _ _ _ c.requires

pub loop-v-init : goal.loop-v-init
loop-v-init c = marking-start _ _ _ _ _ (listed (goal.at.loop-v-init c).In-loop-j)

pub overflow_mul-work : goal.overflow_mul-work
overflow_mul-work c = omega (arith, below (goal.at.overflow_mul-work c).In-loop-v, c.requires.small)

pub overflow_add-work : goal.overflow_add-work
overflow_add-work c = omega (arith, below (goal.at.overflow_add-work c).In-loop-v, c.requires.small)

pub offset_bounds-work-v : goal.offset_bounds-work-v
offset_bounds-work-v c = omega (arith, below (goal.at.offset_bounds-work-v c).In-loop-v, c.requires.small)

pub bounds-work-v : goal.bounds-work-v
bounds-work-v c = omega (arith, below (goal.at.bounds-work-v c).In-loop-v, c.loop-v.invariant.cells.long)

pub overflow_add-work-in-loop-v : goal.overflow_add-work-in-loop-v
overflow_add-work-in-loop-v c =
    omega (arith, mark-fits _ _ _ _ _ _ _ _ (listed (goal.at.overflow_add-work-in-loop-v c).In-loop-j) c.loop-v.invariant c.loop-v-test.true refl)

pub bounds-work-v-in-loop-v : goal.bounds-work-v-in-loop-v
bounds-work-v-in-loop-v c = omega (arith, below (goal.at.bounds-work-v-in-loop-v c).In-loop-v, c.loop-v.invariant.cells.long)

pub loop-v-preserved : goal.loop-v-preserved
loop-v-preserved c = marking_step _ _ _ _ _ _ _ _ (listed (goal.at.loop-v-preserved c).In-loop-j) c.loop-v.invariant c.loop-v-test.true refl

pub loop-j-preserved : goal.loop-j-preserved
loop-j-preserved c =
    columns_step _ _ _ _ _ _ _ _ c.requires c.loop-j.invariant c.loop-j-test.true refl _ (marking-end _ _ _ _ _ _ _ c.loop-v.invariant c.loop-v-test.false)

pub returns : goal.returns
returns c = columns_end _ _ _ _ _ _ c.loop-j.invariant c.loop-j-test.false
