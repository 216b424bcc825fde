-- Flagging the nodes whose counts are above what their full children hold: what the loops know, and how a turn keeps it. Assumes nothing.
-- Letters: cs counts, w₀ work as lent, w as it is now; n nodes, k words; v node, j word.
use Prim.Native.Nat.{ℕ, zero-le, ◌+◌, ◌*◌, ◌≤◌, ◌<◌}
use mathlib.Core.Path.{◌≡◌, refl, ap, ◌∙◌}
use mathlib.Core.List.{List}
use mathlib.Core.Bool.{Bool, cond}
use native.Mathlib.Omega.{arith}
use borrow.Author.Count.{below_none, below_more}
use lib.Dec.{ltb}
use lib.ListN.{length, get_or, set, length-set}
use lib.Seq.{get_or-set_same, get_or-set_other}
use Rattle.seq.specs.Below.{every_below}
use Rattle.seq.proofs.Laws.Below.{every_ext}
use Rattle.index.specs.Inner.{cell}
use Rattle.elca.specs.Inner.Rows.{flag_at, above_held, SumsAndFlags}
use Rattle.elca.specs.Inner.Steps.{Grid}
use Rattle.elca.proofs.Laws.{flag_in_lem, cell-keeps}

-- ---- one node
pub above-is : (cs : List ℕ) (n k : ℕ) (w : List ℕ) (v : ℕ) (b : Bool) → b ≡ every_below k (λ j. ltb (cell k w v j) (get_or cs (j * n + v) 0)) → b ≡ above_held cs n k w v
unfolding above_held
above-is cs n k w v b e = e

-- ---- all nodes
pub record Flagging (n k : ℕ) (cs w₀ w : List ℕ) (v : ℕ) : Type 0 where
  pub within : v ≤ n
  pub long : length w ≡ length w₀
  -- the sums are as they were, and so are the tests
  pub cells : (u j : ℕ) → u < n → j < k → cell k w u j ≡ cell k w₀ u j
  pub flags : (u : ℕ) → u < v → flag_at n k w u ≡ cond (above_held cs n k w₀ u) 1 0

pub flagging-start : (n k : ℕ) (cs w : List ℕ) → Flagging n k cs w w 0
flagging-start n k cs w = record {
  within = zero-le;
  long = refl;
  cells = λ u j a b. refl;
  flags = below_none (λ (u : ℕ). flag_at n k w u ≡ cond (above_held cs n k w u) 1 0);
}

module _ (n k : ℕ) (cs w₀ w : List ℕ) (v : ℕ) (g₀ : Grid n k cs w₀) (s : Flagging n k cs w₀ w v) (l : v < n) where
  grid : Grid n k cs w
  grid = record { counted = g₀.counted; long = s.long ∙ g₀.long; small = g₀.small }

  pub flag-place : n * k + v < length w
  flag-place = flag_in_lem n k cs w grid v l

  same_above : above_held cs n k w v ≡ above_held cs n k w₀ v
  unfolding above_held
  same_above = every_ext k _ _ (λ j h. ap (λ (x : ℕ). ltb x (get_or cs (j * n + v) 0)) (s.cells v j l h))

  pub flagging-step : (b : Bool) → b ≡ above_held cs n k w v → Flagging n k cs w₀ (set w (n * k + v) (cond b 1 0)) (v + 1)
  flagging-step b e = record {
    within = omega arith;
    long = length-set w (n * k + v) (cond b 1 0) ∙ s.long;
    cells = λ u j a h. cell-keeps n k w v (cond b 1 0) u j a h ∙ s.cells u j a h;
    flags = below_more (λ (u : ℕ). flag_at n k (set w (n * k + v) (cond b 1 0)) u ≡ cond (above_held cs n k w₀ u) 1 0) v
        (λ u q. get_or-set_other w (n * k + v) (n * k + u) (cond b 1 0) 0 (omega arith) ∙ s.flags u q)
        (get_or-set_same w (n * k + v) (cond b 1 0) 0 flag-place ∙ ap (λ (z : Bool). cond z 1 0) (e ∙ same_above));
  }

pub flagging-end : (n k : ℕ) (cs w₀ w : List ℕ) (v : ℕ) → Grid n k cs w₀ → Flagging n k cs w₀ w v → n ≤ v →
    SumsAndFlags n k (cell k w₀) (λ v. cond (above_held cs n k w₀ v) 1 0) w
flagging-end n k cs w₀ w v g s h = record {
  long = s.long ∙ g.long;
  cells = s.cells;
  flags = λ u l. s.flags u (omega arith);
}
