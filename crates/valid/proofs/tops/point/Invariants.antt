-- `valid::tops::point` meets its contract: glue over Pointing.
use Rattle.valid.proofs.Pointing.{Pointing}
use Rattle.valid.proofs.tops.point.Given as goal

abbrev pub invariant-loop-v : goal.invariant-loop-v
invariant-loop-v l = Pointing l.parents l.negators l.initial.tops l.tops l.v
