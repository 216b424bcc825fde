-- `build::lists::sum_rows` meets its contract: glue over Sums. Assumes nothing.
use Rattle.build.proofs.Sums.{AllSums}
use Rattle.build.proofs.lists.sum_rows.Given as goal

abbrev pub invariant-loop-j : goal.invariant-loop-j
invariant-loop-j l = AllSums l.parents l.k l.initial.counts l.counts l.j
