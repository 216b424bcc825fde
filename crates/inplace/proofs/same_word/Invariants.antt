-- `inplace::same_word` meets its contract. Assumes nothing.
use Rattle.std.proofs.Common.{◌-◌, length}
use Rattle.inplace.proofs.Steps.{Pair}
use Rattle.inplace.proofs.same_word.Given as goal

abbrev pub invariant-loop-p : goal.invariant-loop-p
invariant-loop-p l = Pair l.text l.a l.b l.i l.j

abbrev pub decreases-loop-p : goal.decreases-loop-p
decreases-loop-p l = length l.text - l.i
