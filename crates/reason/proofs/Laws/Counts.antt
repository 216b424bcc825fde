-- The first word missing at a node, by the counts, and a flag by it. Assumes nothing.
-- Letters: cs counts, n nodes, k words; v u nodes, j word, a the flag of u's parent.
use Prim.Native.Nat.{ℕ, zero, suc, ◌+◌, ◌*◌}
use mir.Val.{bool_byte}
use mathlib.Core.Path.{◌≡◌, refl, ap, ap₂, ◌∙◌}
use mathlib.Core.Logic.{⊎_elim}
use mathlib.Core.List.{List}
use mathlib.Core.Bool.{Bool, true, false, not, cond, ◌&&◌}
use native.Mathlib.Omega.{arith}
use Rattle.std.specs.Prelude.{Some, None, is_some}
use Rattle.std.specs.List.{prefix_len, position_or_len, range_with_len}
use Rattle.seq.proofs.Laws.Bools.{equal_or}
use Rattle.seq.proofs.Laws.Below.{first_ext}
use lib.Dec.{eqb, ltb}
use borrow.Author.Tests.{lt-ltb, le-ltb, eq-eqb, ne_eqb}
use lib.ListN.{get_or}
use Rattle.seq.specs.Below.{first_fail}
use Rattle.reason.specs.Inner.{found_below, missing_by, none_missing, flag_below}

-- ---- what is there where a test passes
pub test_none : (b : Bool) (y : ℕ) → None ≡ cond b (Some y) None → b ≡ false
test_none true y e = cc
test_none false y e = refl

pub test_some : (b : Bool) (x y : ℕ) → Some x ≡ cond b (Some y) None → (b ≡ true) × (x ≡ y)
test_some true x y e = (refl, cc)
test_some false x y e = cc

-- ---- the first word missing
-- `position` over a range is `first_fail`.
prefix-range : (g : ℕ → Bool) (a n : ℕ) → prefix_len g (range_with_len a n) ≡ first_fail n (λ j. g (a + j))
unfolding first_fail
prefix-range g a zero = refl
prefix-range g a (suc n) =
    ap₂ (λ (b : Bool) (m : ℕ). cond b m 0) (ap g (omega arith))
    (omega (arith, prefix-range g (a + 1) n, first_ext n (λ j. g (a + 1 + j)) (λ j. g (a + suc j)) (λ j l. ap g (omega arith))))

pub missing-is : (cs : List ℕ) (n k v : ℕ) → position_or_len (λ j. eqb (get_or cs (j * n + v) 0) 0) (range_with_len 0 k) ≡ missing_by cs n k v
unfolding missing_by
missing-is cs n k v = prefix-range (λ j. not (eqb (get_or cs (j * n + v) 0) 0)) 0 k ∙ first_ext k _ _ (λ j l. ap (λ (i : ℕ). not (eqb (get_or cs (i * n + v) 0) 0)) (omega arith) ∙ some (get_or cs (j * n + v) 0))
  where
    some : (x : ℕ) → not (eqb x 0) ≡ ltb 0 x
    some x = ⊎_elim (λ (q : x ≡ 0). rw (eq-eqb x 0 q, le-ltb 0 x (omega arith)) refl) (λ (q : x ≡ 0 → ⊥). rw (ne_eqb x 0 q, lt-ltb 0 x (omega arith)) refl) (equal_or x 0)

module _ (cs : List ℕ) (n k u a : ℕ) where
  pub flag-below-is : flag_below cs n k u a ≡ cond (not (eqb a 0) && not (none_missing cs n k u)) 1 0
  unfolding flag_below
  flag-below-is = refl

  -- Nothing below a node that is not flagged is flagged.
  pub flag-below-none : a ≡ 0 → bool_byte (not (eqb a 0)) ≡ flag_below cs n k u a
  unfolding flag_below
  flag-below-none e = rw (eq-eqb a 0 e) refl

  -- A flag below one that is set.
  pub flag-below-some : (a ≡ 0 → ⊥) → bool_byte (is_some (found_below k (missing_by cs n k u))) ≡ flag_below cs n k u a
  unfolding flag_below
  flag-below-some ne = rw (ne_eqb a 0 ne) (by_test (missing_by cs n k u) (ltb (missing_by cs n k u) k))
    where
      by_test : (j : ℕ) (b : Bool) → bool_byte (is_some (cond b (Some j) None)) ≡ cond (true && not (not b)) 1 0
      by_test j true = refl
      by_test j false = refl
