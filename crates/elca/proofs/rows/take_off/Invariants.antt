-- `elca::rows::take_off` meets its contract: glue over Giving.
use Rattle.elca.proofs.Giving.{Taking}
use Rattle.elca.proofs.rows.take_off.Given as goal

abbrev pub invariant-loop-c : goal.invariant-loop-c
invariant-loop-c l = Taking l.parents l.counts l.k l.initial.work l.work l.c
