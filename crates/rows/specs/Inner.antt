-- What the functions of this crate promise each other; no public contract cites it. Assumes nothing.
use Rattle.std.specs.Prelude.{ℕ, ◌*◌, ◌≤◌, ◌≡◌, List, length, take}
use Rattle.seq.specs.Below.{tabulate}
use Rattle.text.specs.declared.Writer.{Writer}
use Rattle.sheet.specs.declared.Shape.{Shape}
use Rattle.sheet.specs.Table.{Table}
use Rattle.rows.specs.Lent.{lists_of, end_of, count_of}

-- ---- the index that is lent
abbrev pub table_in : Shape → List ℕ → Table
table_in t cs = record { positive = t.p; negative = t.q; nodes = t.n; cells = cs }

-- A writer of n places has written t.
pub record Stock (n : ℕ) (t : List ℕ) (w : Writer ℕ) : Type 0 where
  pub long : length w.out.now ≡ n
  pub within : w.at ≤ n
  pub holds : take w.at w.out.now ≡ t

-- The first k words of a table have been lent: e where their lists end, o the lists, c the counts.
pub record Lent (T : Table) (k : ℕ) (e o c : Writer ℕ) : Type 0 where
  pub ends : Stock 8 (tabulate k (end_of T)) e
  pub lists : Stock 2048 (lists_of T k) o
  pub counts : Stock 2048 (tabulate (k * T.nodes) (count_of T)) c
