-- `build::lists::sum_rows` meets its contract: glue over Sums. Assumes nothing.
use Rattle.build.proofs.Sums.{row-pre, all-sums-step}
use Rattle.build.proofs.lists.sum_rows.Goals as goal

pub sum_row-requires : goal.sum_row-requires
sum_row-requires c = row-pre _ _ _ _ _ c.requires c.loop-j.invariant c.loop-j-test.true

pub loop-j-preserved : goal.loop-j-preserved
loop-j-preserved c = all-sums-step _ _ _ _ _ c.requires c.loop-j.invariant c.loop-j-test.true _ c.sum_row.ensures
