-- `build::lists::sum_row` meets its contract: glue over Sums. Assumes nothing.
use Rattle.std.proofs.Common.{◌-◌, refl, arith}
use Rattle.build.proofs.Sums.{row-start, sum_fits, row_step, row-end}
use Rattle.build.proofs.lists.sum_row.Goals as goal

pub loop-i-init : goal.loop-i-init
loop-i-init c = row-start _ _ c.requires

pub overflow_add-row : goal.overflow_add-row
overflow_add-row c = omega (arith, sum_fits _ _ _ _ (c.loop-i.i - 1) c.requires (omega (arith, c.loop-i-test.true)) c.loop-i.invariant (omega (arith, c.loop-i-test.true)) _ refl)

pub loop-i-preserved : goal.loop-i-preserved
loop-i-preserved c = row_step _ _ _ _ (c.loop-i.i - 1) c.requires (omega (arith, c.loop-i-test.true)) c.loop-i.invariant (omega (arith, c.loop-i-test.true)) _ refl

pub returns : goal.returns
returns c = row-end _ _ _ _ c.loop-i.invariant c.loop-i-test.false
