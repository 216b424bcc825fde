-- `listing::write_flagged` meets its contract: glue over Writing.
use Rattle.listing.proofs.Writing.{written_start, written-fits, written-yes, written_no, written-end}
use Rattle.listing.proofs.write_flagged.Goals as goal
use Rattle.listing.proofs.write_flagged.Goals.{then-flag-eq1, else-flag-eq1}

pub loop-v-init : goal.loop-v-init
loop-v-init c = written_start _ _

pub bounds-out-m : goal.bounds-out-m
bounds-out-m c = written-fits _ _ _ _ _ c.requires c.loop-v.invariant c.loop-v-test.true c.if-flag-eq1.true

pub loop-v-preserved : goal.loop-v-preserved
loop-v-preserved c =
    elim c.if-flag-eq1.branch [
      | then-flag-eq1 w ↦ rw (w.out-is, w.m-is) (written-yes _ _ _ _ _ c.requires c.loop-v.invariant c.loop-v-test.true w.if-flag-eq1.true)
      | else-flag-eq1 w ↦ rw (w.out-is, w.m-is) (written_no _ _ _ _ _ c.requires c.loop-v.invariant c.loop-v-test.true w.if-flag-eq1.false)
    ]

pub returns : goal.returns
returns c = written-end _ _ _ _ _ c.loop-v.invariant c.loop-v-test.false
