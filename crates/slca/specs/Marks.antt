-- Marks of the smallest full nodes: 1 at an SLCA, 2 at any other full node, 0 at a node that is not full.
--   mark_by p g v   == the mark of v, where g tells which nodes are full
--   slca_marks I    == the marks of all nodes, for the positive words of I
-- Letters: I index, p parents; v node, c child; g test. Assumes nothing.
use Rattle.std.specs.Prelude.{ℕ, List, Bool, cond, ◌&&◌, length}
use Rattle.seq.specs.Below.{some_below, tabulate}
use Rattle.tree.specs.Tree.{child}
use Rattle.index.specs.Index.{Index, nodes, wanted}
use Rattle.answers.specs.Answers.{full}

unfoldable pub mark_by : List ℕ → (ℕ → Bool) → ℕ → ℕ
mark_by p g v = cond (g v) (cond (some_below (length p) λ c. child p v c && g c) 2 1) 0

unfoldable pub slca_marks : Index → List ℕ
slca_marks I = tabulate (nodes I) (mark_by I.parents (full I.parents I.positive (wanted I)))
