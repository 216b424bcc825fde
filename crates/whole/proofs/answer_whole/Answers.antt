-- `whole::answer_whole` meets its contract: the array is long enough for any output.
use mathlib.Core.Path.{◌≡◌, sym}
use native.Mathlib.Omega.{arith}
use lib.ListN.{take}
use lib.Seq.{length-take-le}
use Rattle.text.proofs.Laws.Buffers.{take_min}
use Rattle.whole.proofs.Laws.{output-held}
use Rattle.whole.proofs.answer_whole.Goals as goal

pub slice_bounds-answer_table-end : goal.slice_bounds-answer_table-end
slice_bounds-answer_table-end c = sym (length-take-le _ _ (omega (arith, c.min-m.ensures)))

pub returns : goal.returns
returns c =
    let a = c.args in
    let same : take c.min-m.result a.input.now ≡ take a.n a.input.now =
    take_min a.n c.min-m.result a.input.now (omega (arith, c.min-m.ensures)) in
    rw same at (output-held _ _ _ _ (omega arith) c.answer_table.ensures)
