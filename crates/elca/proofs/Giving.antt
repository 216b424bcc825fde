-- Taking off what full children hold: what the loops know, and how a turn keeps it. Assumes nothing.
--   Giving    the loop over the words, from one child to its parent
--   Taking    the loop over the nodes
-- Letters: p parents, cs counts, w₀ work as lent, w as it is now; n nodes, k words; v node, c child, j word.
use Prim.Native.Nat.{ℕ, zero-le, ◌+◌, ◌*◌, ◌≤◌, ◌<◌}
use mathlib.Core.Path.{◌≡◌, refl, sym, ap, ap₂, ◌∙◌}
use mathlib.Core.Logic.{⊎_elim}
use mathlib.Core.List.{List}
use mathlib.Core.Bool.{Bool, true, false, not, cond, ◌&&◌, and-false, and-true}
use native.Mathlib.Nat.{eq-or-lt_of_le, add-zero, le_antisymm}
use native.Mathlib.Numerals.{add-one}
use native.Mathlib.Omega.{arith}
use borrow.Author.Tests.{lt-ltb, le-ltb, eq-eqb, ne_eqb}
use lib.Dec.{eqb, ltb}
use lib.ListN.{length, get_or, set, length-set}
use Rattle.seq.specs.Below.{sum_below}
use Rattle.seq.proofs.Laws.Bools.{cond_le}
use Rattle.seq.proofs.Laws.Numbers.{less_or}
use Rattle.seq.proofs.Laws.Sums.{sum-zero, sum-suc, sum_le, sum_mono}
use Rattle.tree.specs.Tree.{parent, child}
use Rattle.tree.proofs.Laws.Children.{child-root, child-of, parent-less}
use Rattle.index.specs.Inner.{cell}
use Rattle.index.proofs.Laws.Cells.{cell-add}
use Rattle.elca.specs.Inner.Rows.{flag_at, held_by, SumsAndFlags}
use Rattle.elca.specs.Inner.Steps.{Grid, GivePre, given, TakeOffPre, is_flagged}
use Rattle.elca.proofs.Laws.{sum_in, flag-keeps}

-- ---- from one child to its parent
-- The first j words' counts are given.
pub record Giving (n k c up : ℕ) (cs w₀ w : List ℕ) (j : ℕ) : Type 0 where
  pub words : j ≤ k
  pub rows : SumsAndFlags n k (λ v i. cell k w₀ v i + cond (eqb v up && ltb i j) (get_or cs (i * n + c) 0) 0) (flag_at n k w₀) w

pub giving_start : (n k c up : ℕ) (cs w : List ℕ) → GivePre n k c up cs w → Giving n k c up cs w w 0
giving_start n k c up cs w pre = record {
  words = zero-le;
  rows = record {
    long = pre.grid.long;
    cells = λ v i a b. sym (ap (λ (z : Bool). cell k w v i + cond (eqb v up && z) (get_or cs (i * n + c) 0) 0) (le-ltb i 0 zero-le)
        ∙ ap (λ (z : Bool). cell k w v i + cond z (get_or cs (i * n + c) 0) 0) (and-false (eqb v up)) ∙ add-zero _);
    flags = λ v l. refl;
  };
}

module _ (n k c up : ℕ) (cs w₀ w : List ℕ) (j : ℕ) (pre : GivePre n k c up cs w₀) (s : Giving n k c up cs w₀ w j) (h : j < k) where
  grid : Grid n k cs w
  grid = record { counted = pre.grid.counted; long = s.rows.long; small = pre.grid.small }

  give-to : up * k + j < length w
  give-to = sum_in n k cs w grid up j pre.node h

  takes : cell k w up j ≡ cell k w₀ up j
  takes =
      s.rows.cells up j pre.node h
      ∙ ap (λ (b : Bool). cell k w₀ up j + cond (eqb up up && b) (get_or cs (j * n + c) 0) 0) (le-ltb j j (omega arith))
      ∙ ap (λ (b : Bool). cell k w₀ up j + cond b (get_or cs (j * n + c) 0) 0) (and-false (eqb up up)) ∙ add-zero _

  pub giving_step : Giving n k c up cs w₀ (set w (up * k + j) (cell k w up j + get_or cs (j * n + c) 0)) (j + 1)
  giving_step = record {
    words = omega arith;
    rows = record {
      long = length-set w (up * k + j) (cell k w up j + get_or cs (j * n + c) 0) ∙ s.rows.long;
      cells = λ v i a b.
          cell-add k w up j (get_or cs (j * n + c) 0) v i give-to h b
          ∙ ap (λ (x : ℕ). x + cond (eqb v up && eqb i j) (get_or cs (j * n + c) 0) 0) (s.rows.cells v i a b) ∙ one_more v i;
      flags = λ v l. flag-keeps n k w up j (cell k w up j + get_or cs (j * n + c) 0) v pre.node h ∙ s.rows.flags v l;
    };
  }
    where
      one_more : (v i : ℕ) → (cell k w₀ v i + cond (eqb v up && ltb i j) (get_or cs (i * n + c) 0) 0) + cond (eqb v up && eqb i j) (get_or cs (j * n + c) 0) 0
          ≡ cell k w₀ v i + cond (eqb v up && ltb i (j + 1)) (get_or cs (i * n + c) 0) 0
      one_more v i =
          ⊎_elim (λ (q : i < j). rw (lt-ltb i j q, ne_eqb i j (omega arith), lt-ltb i (j + 1) (omega arith), and-false (eqb v up)) (add-zero _))
          (λ (q : j ≤ i).
          ⊎_elim
          (λ (z : j ≡ i). rw (le-ltb i j q, eq-eqb i j (sym z), lt-ltb i (j + 1) (omega arith), and-false (eqb v up), z) (omega arith))
          (λ (z : j < i). rw (le-ltb i j q, ne_eqb i j (omega arith), le-ltb i (j + 1) (omega arith), and-false (eqb v up)) (omega arith))
          (eq-or-lt_of_le q))
          (less_or i j)

pub giving_end : (n k c up : ℕ) (cs w₀ w : List ℕ) (j : ℕ) → Giving n k c up cs w₀ w j → k ≤ j → SumsAndFlags n k (given cs n k c up w₀) (flag_at n k w₀) w
giving_end n k c up cs w₀ w j s h = record {
  long = s.rows.long;
  cells = λ v i a b.
      s.rows.cells v i a b
      ∙ ap (λ (z : Bool). cell k w₀ v i + cond (eqb v up && z) (get_or cs (i * n + c) 0) 0) (lt-ltb i j (omega (arith, s.words)))
      ∙ ap (λ (z : Bool). cell k w₀ v i + cond z (get_or cs (i * n + c) 0) 0) (and-true (eqb v up));
  flags = s.rows.flags;
}

-- ---- over the nodes
-- What the flagged children of v below c hold of word j.
abbrev pub held_to : List ℕ → List ℕ → ℕ → List ℕ → ℕ → ℕ → ℕ → ℕ
held_to p cs k w₀ c v j = sum_below c λ i. cond (child p v i && is_flagged (length p) k w₀ i) (get_or cs (j * length p + i) 0) 0

pub record Taking (p cs : List ℕ) (k : ℕ) (w₀ w : List ℕ) (c : ℕ) : Type 0 where
  pub within : c ≤ length p
  pub past : 0 < c
  pub rows : SumsAndFlags (length p) k (held_to p cs k w₀ c) (flag_at (length p) k w₀) w

pub taking-start : (p cs : List ℕ) (k : ℕ) (w : List ℕ) → TakeOffPre p cs k w → Taking p cs k w w 1
taking-start p cs k w pre = record {
  within = pre.nodes;
  past = omega arith;
  rows = record {
    long = pre.grid.long;
    cells = λ v j a b. pre.zeros v j a b ∙ sym (sum-suc 0 _ ∙ ap₂ (λ (x : ℕ) (g : Bool). x + cond (g && is_flagged (length p) k w 0) (get_or cs (j * length p + 0) 0) 0) (sum-zero _) (child-root p v));
    flags = λ v l. refl;
  };
}

module _ (p cs : List ℕ) (k : ℕ) (w₀ w : List ℕ) (c : ℕ) (pre : TakeOffPre p cs k w₀) (s : Taking p cs k w₀ w c) (l : c < length p) where
  grid₂ : Grid (length p) k cs w
  grid₂ = record { counted = pre.grid.counted; long = s.rows.long; small = pre.grid.small }

  up_in : parent p c < length p
  up_in = omega (arith, parent-less p (length p) pre.down c s.past l)

  next : (v j : ℕ) (b : Bool) → is_flagged (length p) k w₀ c ≡ b →
      held_to p cs k w₀ (c + 1) v j ≡ held_to p cs k w₀ c v j + cond (eqb v (parent p c) && b) (get_or cs (j * length p + c) 0) 0
  next v j b e =
      ap (λ (z : ℕ). sum_below z (λ i. cond (child p v i && is_flagged (length p) k w₀ i) (get_or cs (j * length p + i) 0) 0)) (add-one c)
      ∙ sum-suc c _
      ∙ ap₂ (λ (x y : Bool). held_to p cs k w₀ c v j + cond (x && y) (get_or cs (j * length p + c) 0) 0) (child-of p v c s.past) e

  -- The flag of c is as it was lent.
  flag_same : get_or w (length p * k + c) 0 ≡ flag_at (length p) k w₀ c
  flag_same = s.rows.flags c l

  pub taking-skip : get_or w (length p * k + c) 0 ≡ 0 → Taking p cs k w₀ w (c + 1)
  taking-skip e = record {
    within = omega arith;
    past = omega arith;
    rows = record {
      long = s.rows.long;
      cells = λ v j a b. s.rows.cells v j a b ∙ sym (next v j false (ap not (eq-eqb _ 0 (sym flag_same ∙ e))) ∙ none (eqb v (parent p c)) _ _);
      flags = s.rows.flags;
    };
  }
    where
      none : (b : Bool) (x y : ℕ) → x + cond (b && false) y 0 ≡ x
      none true x y = add-zero x
      none false x y = add-zero x

  module _ (ne : get_or w (length p * k + c) 0 ≡ 0 → ⊥) where
    flagged : is_flagged (length p) k w₀ c ≡ true
    flagged = ap not (ne_eqb _ 0 (λ q. ne (flag_same ∙ q)))

    with-next : (v j : ℕ) → held_to p cs k w₀ (c + 1) v j ≡ held_to p cs k w₀ c v j + cond (eqb v (parent p c)) (get_or cs (j * length p + c) 0) 0
    with-next v j = next v j true flagged ∙ ap (λ (b : Bool). held_to p cs k w₀ c v j + cond b (get_or cs (j * length p + c) 0) 0) (and-true (eqb v (parent p c)))

    pub take-pre : GivePre (length p) k c (parent p c) cs w
    take-pre = record {
      grid = grid₂;
      child = l;
      node = up_in;
      fits = λ j h.
          omega (
            arith,
            s.rows.cells (parent p c) j up_in h,
            ap (λ (b : Bool). held_to p cs k w₀ c (parent p c) j + cond b (get_or cs (j * length p + c) 0) 0) (eq-eqb (parent p c) (parent p c) refl),
            with-next (parent p c) j,
            all-children j,
            sum_le (c + 1) (length p) (λ i. cond (child p (parent p c) i) (get_or cs (j * length p + i) 0) 0) (omega arith),
            pre.fits (parent p c) j up_in h,
          );
    }
      where
        all-children : (j : ℕ) → held_to p cs k w₀ (c + 1) (parent p c) j ≤ sum_below (c + 1) (λ i. cond (child p (parent p c) i) (get_or cs (j * length p + i) 0) 0)
        all-children j = sum_mono (c + 1) _ _ (λ i q. fewer (child p (parent p c) i) (is_flagged (length p) k w₀ i) (get_or cs (j * length p + i) 0))
          where
            fewer : (a b : Bool) (y : ℕ) → cond (a && b) y 0 ≤ cond a y 0
            fewer true b y = cond_le b y
            fewer false b y = zero-le

    pub taking_step : (w' : List ℕ) → SumsAndFlags (length p) k (given cs (length p) k c (parent p c) w) (flag_at (length p) k w) w' → Taking p cs k w₀ w' (c + 1)
    taking_step w' r = record {
      within = omega arith;
      past = omega arith;
      rows = record {
        long = r.long;
        cells = λ v j a b. r.cells v j a b ∙ ap (λ (x : ℕ). x + cond (eqb v (parent p c)) (get_or cs (j * length p + c) 0) 0) (s.rows.cells v j a b) ∙ sym (with-next v j);
        flags = λ v q. r.flags v q ∙ s.rows.flags v q;
      };
    }

pub taking-end : (p cs : List ℕ) (k : ℕ) (w₀ w : List ℕ) (c : ℕ) → Taking p cs k w₀ w c → length p ≤ c →
    SumsAndFlags (length p) k (held_by p cs (is_flagged (length p) k w₀)) (flag_at (length p) k w₀) w
unfolding held_by
taking-end p cs k w₀ w c s h = record {
  long = s.rows.long;
  cells = λ v j a b. s.rows.cells v j a b ∙ ap (λ (z : ℕ). held_to p cs k w₀ z v j) (le_antisymm s.within h);
  flags = s.rows.flags;
}
