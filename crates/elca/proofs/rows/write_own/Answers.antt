-- `elca::rows::write_own` meets its contract: glue over Writing.
use Prim.Native.Nat.{◌+◌, ◌≤◌}
use lib.ListN.{length}
use Rattle.elca.proofs.Writing.{writing_start, write-fits, row-pre, writing_no, writing-yes, writing-end}
use native.Mathlib.Omega.{arith}
use Rattle.elca.proofs.rows.write_own.Goals as goal
use Rattle.elca.proofs.rows.write_own.Goals.{Then-work-sums-eq1, then-work-sums-eq1, else-work-sums-eq1}

-- The row that is written is within own.
fits : (c : Then-work-sums-eq1) → c.loop-v.at + c.args.k ≤ length c.loop-v.own
fits c = write-fits _ _ _ _ _ _ _ _ c.requires c.loop-v.invariant c.loop-v-test.true c.if-work-sums-eq1.true

pub loop-v-init : goal.loop-v-init
loop-v-init c = writing_start _ _ _ _ _

pub overflow_add-next : goal.overflow_add-next
overflow_add-next c = omega (arith, fits c, c.loop-v.invariant.long, c.well_formed)

pub offset_bounds-own-at : goal.offset_bounds-own-at
offset_bounds-own-at c = omega (arith, fits c, c.loop-v.invariant.long, c.well_formed)

pub slice_bounds-own_row-end : goal.slice_bounds-own_row-end
slice_bounds-own_row-end c = fits c

pub own_row-requires : goal.own_row-requires
own_row-requires c =
    row-pre _ _ _ _ _ _ _ _ c.requires c.loop-v.invariant c.loop-v-test.true c.if-work-sums-eq1.true

pub loop-v-preserved : goal.loop-v-preserved
loop-v-preserved c =
    elim c.if-work-sums-eq1.branch [
      | then-work-sums-eq1 w ↦ rw (w.own-is, w.at-is) (writing-yes _ _ _ _ _ _ _ _ c.requires c.loop-v.invariant c.loop-v-test.true w.if-work-sums-eq1.true _ w.own_row.ensures)
      | else-work-sums-eq1 w ↦ rw (w.own-is, w.at-is) (writing_no _ _ _ _ _ _ _ _ c.requires c.loop-v.invariant c.loop-v-test.true w.if-work-sums-eq1.false)
    ]

pub returns : goal.returns
returns c = writing-end _ _ _ _ _ _ _ _ c.loop-v.invariant c.loop-v-test.false
