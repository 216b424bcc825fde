-- Loops over the 8 counts of a row: what they come to. Assumes nothing.
--   filled_row, sums-end           a row is written word by word
--   Testing                        each of the first j counts is 1 or more
-- Letters: a, b rows, d, w a row as it was and as it is; k words, j word.
use Prim.Native.Nat.{ℕ, zero-le, ◌+◌, ◌≤◌, ◌<◌}
use mathlib.Core.Path.{◌≡◌, sym, ap, ◌∙◌}
use mathlib.Core.List.{List}
use mathlib.Core.Bool.{Bool, true, false}
use native.Mathlib.Nat.{le_antisymm}
use native.Mathlib.Omega.{arith}
use lib.Dec.{ltb}
use lib.ListN.{length, get_or}
use Rattle.seq.specs.Below.{every_below, tabulate}
use Rattle.seq.proofs.Laws.Bools.{ltb-some, ltb-none}
use Rattle.seq.proofs.Laws.Below.{every-zero, every-suc, every-fails}
use Rattle.seq.proofs.Laws.Loops.{Filling, filling_end}
use Rattle.engine.specs.Inner.Entries.{sums, each_some}

-- A row of 8 that has been filled.
pub filled_row : (f : ℕ → ℕ) (d w : List ℕ) (j : ℕ) → Filling f d w j → length d ≡ 8 → 8 ≤ j → w ≡ tabulate 8 f
filled_row f d w j s e l = filling_end f d w j s (omega arith) ∙ ap (λ z. tabulate z f) e

pub sums-end : (a b d w : List ℕ) (j : ℕ) → Filling (λ i. get_or a i 0 + get_or b i 0) d w j → length d ≡ 8 → 8 ≤ j → w ≡ sums a b
unfolding sums
sums-end a b d w j s e l = filled_row _ d w j s e l

-- ---- whether each count is 1 or more
abbrev some : List ℕ → ℕ → Bool
some a j = ltb 0 (get_or a j 0)

pub record Testing (k : ℕ) (a : List ℕ) (j : ℕ) : Type 0 where
  pub within : j ≤ k
  pub passed : every_below j (some a) ≡ true

pub testing_start : (k : ℕ) (a : List ℕ) → Testing k a 0
testing_start k a = record { within = zero-le; passed = every-zero (some a) }

pub testing_step : (k : ℕ) (a : List ℕ) (j : ℕ) → Testing k a j → j < k → (get_or a j 0 ≡ 0 → ⊥) → Testing k a (j + 1)
testing_step k a j t l ne = record { within = omega arith; passed = every-suc j (some a) t.passed (ltb-some _ ne) }

pub testing_fails : (k : ℕ) (a : List ℕ) (j : ℕ) → j < k → get_or a j 0 ≡ 0 → false ≡ each_some k a
unfolding each_some
testing_fails k a j l e = sym (every-fails k (some a) j l (ltb-none _ e))

pub testing_end : (k : ℕ) (a : List ℕ) (j : ℕ) → Testing k a j → k ≤ j → true ≡ each_some k a
unfolding each_some
testing_end k a j t l = sym (ap (λ (z : ℕ). every_below z (some a)) (le_antisymm l t.within) ∙ t.passed)
