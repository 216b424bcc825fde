-- `engine::entries::add` meets its contract. Before word j is reached, the counts of the words before it have been added. Assumes nothing.
use Prim.Native.Nat.{◌+◌}
use lib.ListN.{get_or, replicate}
use Rattle.seq.proofs.Laws.Loops.{Filling}
use Rattle.engine.proofs.entries.add.Given as goal

abbrev pub invariant-loop-j : goal.invariant-loop-j
invariant-loop-j l = Filling (λ i. get_or l.a i 0 + get_or l.b i 0) (replicate 8 0) l.sums l.j
