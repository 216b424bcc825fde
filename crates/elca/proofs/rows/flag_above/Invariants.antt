-- `elca::rows::flag_above` meets its contract: glue over Flagging.
use Rattle.elca.proofs.Flagging.{Flagging}
use Rattle.elca.proofs.rows.flag_above.Given as goal

abbrev pub invariant-loop-v : goal.invariant-loop-v
invariant-loop-v l = Flagging l.n l.k l.counts l.initial.work l.work l.v
