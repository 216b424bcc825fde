-- `slca::drop_above` meets its contract: glue over Dropping.
use Rattle.slca.proofs.Dropping.{Dropping}
use Rattle.slca.proofs.drop_above.Given as goal

abbrev pub invariant-loop-i : goal.invariant-loop-i
invariant-loop-i l = Dropping l.parents l.initial.flags l.flags l.i
