-- How many words in a row are seen: all of them exactly where each one is. Assumes nothing.
use Prim.Native.Nat.{ℕ, zero, suc, zero-le, ◌≤◌, ◌<◌}
use mathlib.Core.Path.{◌≡◌, refl, sym, ap, ap₂, ◌∙◌}
use mathlib.Core.Logic.{⊎_elim}
use mathlib.Core.Bool.{Bool, true, cond, ◌&&◌}
use native.Mathlib.Nat.{not-suc-le-zero, eq-or-lt_of_le, le_of_suc-le-suc}
use native.Mathlib.Omega.{arith}
use lib.Dec.{eqb}
use borrow.Author.Tests.{eq-eqb, eqb-true}
use Rattle.seq.proofs.Laws.Bools.{bool_cases, and_left, and_right}
use Rattle.valid.specs.Inner.Tops.{reached}

pub reached-zero : (f : ℕ → Bool) → reached f 0 ≡ 0
unfolding reached
reached-zero f = refl

pub reached-suc : (f : ℕ → Bool) (j : ℕ) → reached f (suc j) ≡ cond (eqb (reached f j) j && f j) (suc j) (reached f j)
unfolding reached
reached-suc f j = refl

reached_le : (f : ℕ → Bool) (j : ℕ) → reached f j ≤ j
reached_le f zero = rw (reached-zero f) zero-le
reached_le f (suc j) =
    rw (reached-suc f j) (⊎_elim (λ q. rw q (omega arith)) (λ q. rw q (omega (arith, reached_le f j))) (bool_cases (eqb (reached f j) j && f j)))

-- The words up to j are seen, and so is j.
both_seen : (f : ℕ → Bool) (j : ℕ) → reached f (suc j) ≡ suc j → (eqb (reached f j) j && f j) ≡ true
both_seen f j e =
    ⊎_elim (λ q. q) (λ q. absurd (short (rw q at (sym (reached-suc f j) ∙ e)))) (bool_cases (eqb (reached f j) j && f j))
  where
    short : reached f j ≡ suc j → ⊥
    short z = omega (arith, reached_le f j)

pub reached-at : (f : ℕ → Bool) (j : ℕ) → reached f j ≡ j → (i : ℕ) → i < j → f i ≡ true
reached-at f zero e i l = absurd (not-suc-le-zero l)
reached-at f (suc j) e i l =
    ⊎_elim (λ (q : i ≡ j). ap f q ∙ and_right (eqb (reached f j) j) (f j) (both_seen f j e))
    (λ q. reached-at f j (eqb-true (reached f j) j (and_left _ _ (both_seen f j e))) i q) (eq-or-lt_of_le (le_of_suc-le-suc l))

pub reached-of : (f : ℕ → Bool) (j : ℕ) → ((i : ℕ) → i < j → f i ≡ true) → reached f j ≡ j
reached-of f zero h = reached-zero f
reached-of f (suc j) h =
    reached-suc f j ∙ rw (eq-eqb (reached f j) j (reached-of f j (λ i l. h i (omega arith))), h j (omega arith))

pub reached_ext : (f g : ℕ → Bool) (j : ℕ) → ((i : ℕ) → i < j → f i ≡ g i) → reached f j ≡ reached g j
reached_ext f g zero h = reached-zero f ∙ sym (reached-zero g)
reached_ext f g (suc j) h =
    reached-suc f j ∙ ap₂ (λ (x : ℕ) (b : Bool). cond (eqb x j && b) (suc j) x) (reached_ext f g j (λ i l. h i (omega arith))) (h j (omega arith)) ∙ sym (reached-suc g j)
