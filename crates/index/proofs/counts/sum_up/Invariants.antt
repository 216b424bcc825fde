-- `index::counts::sum_up` meets its contract: glue over Summing.
use lib.ListN.{length}
use Rattle.index.proofs.Summing.{Summing, Handing}
use Rattle.index.proofs.counts.sum_up.Given as goal

abbrev pub invariant-loop-i : goal.invariant-loop-i
invariant-loop-i l = Summing l.parents l.k l.initial.work l.work l.i

abbrev pub invariant-loop-j : goal.invariant-loop-j
invariant-loop-j l = Handing (length l.parents) l.k l.i l.up l.initial.work l.work l.j
