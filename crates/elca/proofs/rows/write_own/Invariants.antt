-- `elca::rows::write_own` meets its contract: glue over Writing.
use Rattle.elca.proofs.Writing.{Writing}
use Rattle.elca.proofs.rows.write_own.Given as goal

abbrev pub invariant-loop-v : goal.invariant-loop-v
invariant-loop-v l = Writing l.n l.k l.counts l.work l.initial.own l.own l.v l.at
