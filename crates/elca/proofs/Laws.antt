-- Laws of the search's rows of work. Assumes nothing.
use Prim.Native.Nat.{ℕ, ◌+◌, ◌*◌, ◌<◌}
use mathlib.Core.Path.{◌≡◌}
use mathlib.Core.List.{List}
use native.Mathlib.Omega.{arith}
use lib.ListN.{length, set}
use lib.Seq.{get_or-set_other}
use Rattle.seq.proofs.Laws.Numbers.{row_le}
use Rattle.index.specs.Inner.{cell}
use Rattle.index.proofs.Laws.Cells.{cell_below}
use Rattle.elca.specs.Inner.Rows.{flag_at}
use Rattle.elca.specs.Inner.Steps.{Grid}

-- ---- where things are
module _ (n k : ℕ) (cs w : List ℕ) (g : Grid n k cs w) where
  -- A sum, a flag and a count are within what is lent.
  pub sum_in : (v j : ℕ) → v < n → j < k → v * k + j < length w
  sum_in v j a b = omega (arith, cell_below n k v j a b, g.long)

  pub flag_in_lem : (v : ℕ) → v < n → n * k + v < length w
  flag_in_lem v a = omega (arith, g.long)

  pub count_in_lem : (v j : ℕ) → v < n → j < k → j * n + v < length cs
  count_in_lem v j a b = omega (arith, row_le j k n b, g.counted)

-- A flag is no sum: a store to one leaves the others.
pub cell-keeps : (n k : ℕ) (w : List ℕ) (u x v j : ℕ) → v < n → j < k → cell k (set w (n * k + u) x) v j ≡ cell k w v j
cell-keeps n k w u x v j a b = get_or-set_other w (n * k + u) (v * k + j) x 0 (omega (arith, cell_below n k v j a b))

pub flag-keeps : (n k : ℕ) (w : List ℕ) (u i x v : ℕ) → u < n → i < k → flag_at n k (set w (u * k + i) x) v ≡ flag_at n k w v
flag-keeps n k w u i x v a b = get_or-set_other w (u * k + i) (n * k + v) x 0 (omega (arith, cell_below n k u i a b))
