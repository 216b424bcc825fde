-- `text::Writer::put_number` meets its contract.
use native.Mathlib.Omega.{arith}
use Rattle.text.proofs.Writing.{decimal-first, decimal-more}
use Rattle.text.proofs.Laws.Adding.{added-step, added_same}
use Rattle.text.proofs.Writer+u8.+put_number.Goals as goal
use Rattle.text.proofs.Writer+u8.+put_number.Goals.{then-x-ge10, else-x-ge10}

pub returns : goal.returns
returns t c = elim c.if-x-ge10.branch [
  | then-x-ge10 w ↦ added-step _ _ _ _ _ _ w.put_number.ensures (rw w.self-is at c.put.ensures) (decimal-more _ w.if-x-ge10.true (omega arith))
  | else-x-ge10 w ↦ added_same _ _ _ _ (rw w.self-is at c.put.ensures) (decimal-first _ w.if-x-ge10.false)
]
