-- The nodes whose type repeats, as flags (02, Q-1: some node of the same type has a sibling with its tag).
--   repeat_flag p t v    == 1 where v is no text and its type repeats, else 0
--   fits_types p t w     == at most 65,536 nodes, a tag for each, room for three rows of them in w entries, and a tree that keeps the rules
--   repeat_rows p t w    == w after the call: the flags of all nodes and then twice as many zeros over its front; as lent where `fits_types` fails
--   RepeatedFlagged …   == the whole outcome of the call
-- Letters: p parents, t tags, w rows; v node. Assumes nothing.
use Rattle.std.specs.Prelude.{ℕ, ◌*◌, ◌≡◌, List, ◌++◌, Bool, not, cond, ◌&&◌, eqb, leb, length, replicate}
use Rattle.seq.specs.Below.{tabulate}
use Rattle.seq.specs.Memory.{over}
use Rattle.tree.specs.Rules.{text, tree_bad}
use Rattle.answers.specs.Classes.{repeats}

unfoldable pub repeat_flag : List ℕ → List ℕ → ℕ → ℕ
repeat_flag p t v = cond (not (text t v) && repeats p t v) 1 0

unfoldable pub fits_types : List ℕ → List ℕ → ℕ → Bool
fits_types p t w = leb (length p) 65536 && (eqb (length t) (length p) && (leb (length p * 3) w && eqb (tree_bad p t) (length p)))

-- The flags of all nodes, and twice as many zeros.
unfoldable pub flag_rows : List ℕ → List ℕ → List ℕ
flag_rows p t = tabulate (length p) (repeat_flag p t) ++ replicate (length p * 2) 0

unfoldable pub repeat_rows : List ℕ → List ℕ → List ℕ → List ℕ
repeat_rows p t w = cond (fits_types p t (length w)) (over (flag_rows p t) w) w

pub record RepeatedFlagged (p t w : List ℕ) (r : Bool) (w' : List ℕ) : Type 0 where
  pub fits : r ≡ fits_types p t (length w)
  pub rows : w' ≡ repeat_rows p t w
