-- `markup::word_end` meets its contract.
use native.Mathlib.Omega.{arith}
use lib.ListN.{drop, length-drop}
use Rattle.profile.proofs.Laws.Spans.{common-text}
use Rattle.markup.proofs.word_end.Goals as goal

pub overflow_add-result : goal.overflow_add-result
overflow_add-result c =
    let a = c.args in
    omega (arith, c.common-n.ensures, common-text a.word.now (drop a.at a.text.now), length-drop a.at a.text.now)

pub overflow_add-result-else-n-word : goal.overflow_add-result-else-n-word
overflow_add-result-else-n-word c =
    let a = c.args in
    omega (arith, c.common-n.ensures, common-text a.word.now (drop a.at a.text.now), length-drop a.at a.text.now)
