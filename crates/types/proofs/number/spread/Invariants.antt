-- `types::number::spread` meets its contract: glue over Spreading.
use Rattle.types.proofs.Spreading.{Spreading}
use Rattle.types.proofs.number.spread.Given as goal

abbrev pub invariant-loop-v : goal.invariant-loop-v
invariant-loop-v l = Spreading l.initial.row l.row l.v
