-- `elca::rows::give` meets its contract: glue over Giving.
use Rattle.elca.proofs.Giving.{Giving}
use Rattle.elca.proofs.rows.give.Given as goal

abbrev pub invariant-loop-j : goal.invariant-loop-j
invariant-loop-j l = Giving l.n l.k l.c l.up l.counts l.initial.work l.work l.j
