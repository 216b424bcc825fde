-- `inplace::hash_of` meets its contract. Assumes nothing.
use Rattle.inplace.proofs.Steps.{Hashes}
use Rattle.inplace.proofs.hash_of.Given as goal

abbrev pub invariant-loop-x : goal.invariant-loop-x
invariant-loop-x l = Hashes l.word l.hash l.x-index
