-- `full::is_full` meets its contract: a column of counts above 0.
use Prim.Native.Nat.{◌+◌, ◌*◌}
use lib.Dec.{ltb}
use lib.ListN.{get_or}
use Rattle.seq.proofs.Laws.Loops.{Column}
use Rattle.full.proofs.is_full.Given as goal

abbrev pub invariant-loop-j : goal.invariant-loop-j
invariant-loop-j l = Column (λ i e. ltb 0 (get_or l.counts e 0)) l.n l.k l.v l.j (l.j * l.n + l.v)
