-- `inplace::hash_word` meets its contract. Assumes nothing.
use Rattle.std.proofs.Common.{◌-◌, length}
use Rattle.inplace.proofs.Steps.{Hashing}
use Rattle.inplace.proofs.hash_word.Given as goal

abbrev pub invariant-loop-letter : goal.invariant-loop-letter
invariant-loop-letter l = Hashing l.text l.at l.hash l.end

abbrev pub decreases-loop-letter : goal.decreases-loop-letter
decreases-loop-letter l = length l.text - l.end
