-- `inplace::is_word` meets its contract. Assumes nothing.
use Rattle.inplace.proofs.Steps.{Spelling}
use Rattle.inplace.proofs.is_word.Given as goal

abbrev pub invariant-loop-x : goal.invariant-loop-x
invariant-loop-x l = Spelling l.text l.at l.word l.i l.x-index
