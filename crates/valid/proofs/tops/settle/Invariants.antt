-- `valid::tops::settle` meets its contract: glue over Pointing.
use Rattle.valid.proofs.Pointing.{Settling}
use Rattle.valid.proofs.tops.settle.Given as goal

abbrev pub invariant-loop-v : goal.invariant-loop-v
invariant-loop-v l = Settling l.p l.seen l.flags l.v
