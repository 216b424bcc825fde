-- `build::lists::sum_row` meets its contract: glue over Sums. Assumes nothing.
use Rattle.index.proofs.Summing.{Summing}
use Rattle.build.proofs.lists.sum_row.Given as goal

abbrev pub invariant-loop-i : goal.invariant-loop-i
invariant-loop-i l = Summing l.parents 1 l.initial.row l.row l.i
