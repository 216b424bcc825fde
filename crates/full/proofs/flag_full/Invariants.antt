-- `full::flag_full` meets its contract: the flags are filled from the first node to the last.
use mathlib.Core.Bool.{cond}
use Rattle.seq.proofs.Laws.Loops.{Filling}
use Rattle.full.specs.Full.{full_by}
use Rattle.full.proofs.flag_full.Given as goal

abbrev pub invariant-loop-v : goal.invariant-loop-v
invariant-loop-v l = Filling (λ u. cond (full_by l.counts l.n l.k u) 1 0) l.initial.flags l.flags l.v
