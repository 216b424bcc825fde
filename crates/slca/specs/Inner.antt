-- The marks from flags and from counts, and what the functions of this crate ask of each other; no public contract cites it.
--   marks_of p fl   == the marks of all nodes, where the full ones are flagged with 1
--   marks_by p cs   == the marks of all nodes, by counts of whole rows
-- Letters: p parents, fl flags, cs counts; v node, c child. Assumes nothing.
use Rattle.std.specs.Prelude.{ℕ, suc, ◌<◌, ◌≡◌, List, cond, eqb, length, get_or}
use Rattle.seq.specs.Below.{tabulate}
use Rattle.tree.specs.Tree.{parent}
use Rattle.tree.specs.Plain.{Down}
use Rattle.full.specs.Full.{full_flags}
use Rattle.slca.specs.Marks.{mark_by}

unfoldable pub marks_of : List ℕ → List ℕ → List ℕ
marks_of p fl = tabulate (length p) (mark_by p (λ v. eqb (get_or fl v 0) 1))

unfoldable pub marks_by : List ℕ → List ℕ → List ℕ
marks_by p cs = marks_of p (full_flags cs (length p))

-- Flags of full nodes: each parent stands before its child, and a full node's parent is full.
pub record DropPre (p fl : List ℕ) : Type 0 where
  pub down : Down p (length p)
  pub long : length fl ≡ length p
  pub flags : (v : ℕ) → v < length p → get_or fl v 0 ≡ cond (eqb (get_or fl v 0) 1) 1 0
  pub upward : (c : ℕ) → suc c < length p → get_or fl (suc c) 0 ≡ 1 → get_or fl (parent p (suc c)) 0 ≡ 1

-- What is lent to mark: as many flags as nodes, and counts whose flags are those of full nodes.
pub record MarkSlcaPre (p cs fl : List ℕ) : Type 0 where
  pub long : length fl ≡ length p
  pub full : DropPre p (full_flags cs (length p))
