-- Laws of spans and common beginnings, and of the bytes of a row. Assumes nothing.
--   span-step, span-stop, span_none         the span from a place on, byte by byte
--   span_le, span-passes, span-stops        a span is within the row; its bytes pass, and the byte after it, if there is one, fails
--   span-is, span_ge                        and these fix it
--   span-keeps                              the bytes of a span, all together
--   span-past                               a span that goes on over another
--   span_ext                                two tests that agree below n have one span on a row of numbers below n
--   common-step, common-stop, common-end    the common beginning from a place on, byte by byte
--   common-word, common-text, common-same   it is within both rows, and the same in both
--   common-span                             it is within a span where the bytes of one row pass
--   common-differs                          after it, where neither row ends, the bytes differ
--   each-drop, each_take                    the bytes of a part of a row
-- Letters: t w rows of bytes, f g tests of a byte, i k places. Assumes nothing.
use Prim.Native.Nat.{ℕ, zero, suc, zero-le, ◌+◌, ◌≤◌, ◌<◌}
use mathlib.Core.Path.{◌≡◌, refl, sym, ap, ap₂, ◌∙◌}
use mathlib.Core.Logic.{⊎_elim}
use mathlib.Core.List.{List, [], ◌∷◌}
use mathlib.Core.Bool.{Bool, true, false, cond}
use native.Mathlib.Nat.{not-suc-le-zero, le_of_suc-le-suc}
use native.Mathlib.Omega.{arith}
use lib.Dec.{eqb}
use borrow.Author.Tests.{eq-eqb, ne_eqb, eqb-true, eqb-false}
use lib.ListN.{length, get_or, take, drop, length-take, length-drop, drop_of_length-le}
use lib.Seq.{drop-cons, get_or-drop, get_or-take}
use Rattle.seq.specs.Lists.{every_of, EachBelow}
use Rattle.seq.proofs.Laws.Bools.{bool_cases, bool-not_both, and_left, and_right, and_both}
use Rattle.seq.proofs.Laws.Numbers.{less_or}
use Rattle.seq.proofs.Laws.Lists.{each_tail}
use Rattle.profile.specs.Spans.{span, common}

-- ---- the bytes of a part
pub each-drop : (n : ℕ) (t : List ℕ) (i : ℕ) → EachBelow n t → EachBelow n (drop i t)
each-drop n t i b k l = rw (get_or-drop i t k 0) (b (i + k) (omega (arith, length-drop i t)))

pub each_take : (n : ℕ) (t : List ℕ) (i : ℕ) → EachBelow n t → EachBelow n (take i t)
each_take n t i b k l = rw (get_or-take i t k 0 (omega (arith, length-take i t))) (b k (omega (arith, length-take i t)))

-- ---- a span
pub span-step : (f : ℕ → Bool) (t : List ℕ) (i : ℕ) → i < length t → f (get_or t i 0) ≡ true → span f (drop i t) ≡ suc (span f (drop (suc i) t))
unfolding span
span-step f t i l e = ap (span f) (drop-cons t i 0 l) ∙ ap (λ (b : Bool). cond b (suc (span f (drop (suc i) t))) 0) e

pub span-stop : (f : ℕ → Bool) (t : List ℕ) (i : ℕ) → i < length t → f (get_or t i 0) ≡ false → span f (drop i t) ≡ 0
unfolding span
span-stop f t i l e = ap (span f) (drop-cons t i 0 l) ∙ ap (λ (b : Bool). cond b (suc (span f (drop (suc i) t))) 0) e

pub span_none : (f : ℕ → Bool) (t : List ℕ) (i : ℕ) → length t ≤ i → span f (drop i t) ≡ 0
unfolding span
span_none f t i l = ap (span f) (drop_of_length-le t l)

pub span_le : (f : ℕ → Bool) (t : List ℕ) → span f t ≤ length t
unfolding span
span_le f [] = zero-le
span_le f (x ∷ t) = ⊎_elim (λ q. rw q (omega (arith, span_le f t))) (λ q. rw q zero-le) (bool_cases (f x))

pub span-passes : (f : ℕ → Bool) (t : List ℕ) (i : ℕ) → i < span f t → f (get_or t i 0) ≡ true
unfolding span
span-passes f [] i l = absurd (not-suc-le-zero l)
span-passes f (x ∷ t) zero l = ⊎_elim (λ q. q) (λ q. absurd (not-suc-le-zero (rw q at l))) (bool_cases (f x))
span-passes f (x ∷ t) (suc i) l =
    ⊎_elim (λ q. span-passes f t i (le_of_suc-le-suc (rw q at l))) (λ q. absurd (not-suc-le-zero (rw q at l))) (bool_cases (f x))

pub span-stops : (f : ℕ → Bool) (t : List ℕ) → span f t < length t → f (get_or t (span f t) 0) ≡ false
unfolding span
span-stops f [] l = absurd (not-suc-le-zero l)
span-stops f (x ∷ t) l = ⊎_elim (λ q. rw q (span-stops f t (le_of_suc-le-suc (rw q at l)))) (λ q. rw q q) (bool_cases (f x))

pub span-is : (f : ℕ → Bool) (t : List ℕ) (r : ℕ) → r ≤ length t → ((i : ℕ) → i < r → f (get_or t i 0) ≡ true) →
    (r < length t → f (get_or t r 0) ≡ false) → r ≡ span f t
unfolding span
span-is f [] r l p s = omega arith
span-is f (x ∷ t) zero l p s = rw (s (omega arith))
span-is f (x ∷ t) (suc r) l p s =
    rw (p 0 (omega arith)) (ap suc (span-is f t r (le_of_suc-le-suc l) (λ i h. p (suc i) (omega arith)) (λ h. s (omega arith))))

-- As many bytes as pass are in the span.
pub span_ge : (f : ℕ → Bool) (t : List ℕ) (r : ℕ) → r ≤ length t → ((i : ℕ) → i < r → f (get_or t i 0) ≡ true) → r ≤ span f t
span_ge f t r l p =
    ⊎_elim (λ q. absurd (bool-not_both (f (get_or t (span f t) 0)) (p (span f t) q) (span-stops f t (omega arith)))) (λ q. q) (less_or (span f t) r)

pub span-keeps : (f : ℕ → Bool) (t : List ℕ) → every_of f (take (span f t) t) ≡ true
unfolding span every_of
span-keeps f [] = refl
span-keeps f (x ∷ t) = ⊎_elim (λ q. rw q (and_both (f x) _ q (span-keeps f t))) (λ q. rw q) (bool_cases (f x))

pub span-past : (f g : ℕ → Bool) → ((x : ℕ) → f x ≡ true → g x ≡ true) → (t : List ℕ) → span g t ≡ span f t + span g (drop (span f t) t)
unfolding span
span-past f g e [] = refl
span-past f g e (x ∷ t) = by_byte (f x) refl (span-past f g e t)
  where
    passing : g x ≡ true → span g (x ∷ t) ≡ suc (span g t)
    passing q = ap (λ (b : Bool). cond b (suc (span g t)) 0) q

    by_byte : (b : Bool) → f x ≡ b → span g t ≡ span f t + span g (drop (span f t) t) →
        span g (x ∷ t) ≡ cond b (suc (span f t)) 0 + span g (drop (cond b (suc (span f t)) 0) (x ∷ t))
    by_byte true q r = omega (arith, passing (e x q))
    by_byte false q r = omega arith

pub span_ext : (f g : ℕ → Bool) (n : ℕ) (t : List ℕ) → EachBelow n t → ((x : ℕ) → x < n → f x ≡ g x) → span f t ≡ span g t
unfolding span
span_ext f g n [] b e = refl
span_ext f g n (x ∷ t) b e =
    ap₂ (λ (c : Bool) (k : ℕ). cond c (suc k) 0) (e x (b 0 (omega arith))) (span_ext f g n t (each_tail n x t b) e)

-- ---- a common beginning
module _ (w t : List ℕ) (k i : ℕ) (lw : k < length w) where
  pub common-step : i < length t → get_or t i 0 ≡ get_or w k 0 → common (drop k w) (drop i t) ≡ suc (common (drop (suc k) w) (drop (suc i) t))
  unfolding common
  common-step lt e =
      ap₂ common (drop-cons w k 0 lw) (drop-cons t i 0 lt)
      ∙ ap (λ (b : Bool). cond b (suc (common (drop (suc k) w) (drop (suc i) t))) 0) (eq-eqb (get_or t i 0) (get_or w k 0) e)

  pub common-stop : i < length t → (get_or t i 0 ≡ get_or w k 0 → ⊥) → common (drop k w) (drop i t) ≡ 0
  unfolding common
  common-stop lt e =
      ap₂ common (drop-cons w k 0 lw) (drop-cons t i 0 lt)
      ∙ ap (λ (b : Bool). cond b (suc (common (drop (suc k) w) (drop (suc i) t))) 0) (ne_eqb (get_or t i 0) (get_or w k 0) e)

  pub common-short : length t ≤ i → common (drop k w) (drop i t) ≡ 0
  unfolding common
  common-short l = ap₂ common (drop-cons w k 0 lw) (drop_of_length-le t l)

pub common-end : (w t : List ℕ) (k i : ℕ) → length w ≤ k → common (drop k w) (drop i t) ≡ 0
unfolding common
common-end w t k i l = ap (λ (v : List ℕ). common v (drop i t)) (drop_of_length-le w l)

pub common-none : (w t : List ℕ) (i : ℕ) → length t ≤ i → common w (drop i t) ≡ 0
unfolding common
common-none [] t i l = refl
common-none (y ∷ w) t i l = ap (common (y ∷ w)) (drop_of_length-le t l)

pub common-word : (w t : List ℕ) → common w t ≤ length w
unfolding common
common-word [] t = zero-le
common-word (y ∷ w) [] = zero-le
common-word (y ∷ w) (x ∷ t) = ⊎_elim (λ q. rw q (omega (arith, common-word w t))) (λ q. rw q zero-le) (bool_cases (eqb x y))

pub common-text : (w t : List ℕ) → common w t ≤ length t
unfolding common
common-text [] t = zero-le
common-text (y ∷ w) [] = zero-le
common-text (y ∷ w) (x ∷ t) = ⊎_elim (λ q. rw q (omega (arith, common-text w t))) (λ q. rw q zero-le) (bool_cases (eqb x y))

pub common-same : (w t : List ℕ) → take (common w t) w ≡ take (common w t) t
unfolding common
common-same [] t = refl
common-same (y ∷ w) [] = refl
common-same (y ∷ w) (x ∷ t) =
    ⊎_elim (λ q. rw q (ap₂ (λ (a : ℕ) (l : List ℕ). a ∷ l) (sym (eqb-true x y q)) (common-same w t))) (λ q. rw q) (bool_cases (eqb x y))

pub common-span : (f : ℕ → Bool) (w t : List ℕ) → every_of f w ≡ true → common w t ≤ span f t
unfolding common span every_of
common-span f [] t e = zero-le
common-span f (y ∷ w) [] e = zero-le
common-span f (y ∷ w) (x ∷ t) e = by_byte (eqb x y) refl (common-span f w t (and_right (f y) (every_of f w) e))
  where
    passing : eqb x y ≡ true → span f (x ∷ t) ≡ suc (span f t)
    passing q = ap (λ (b : Bool). cond b (suc (span f t)) 0) (ap f (eqb-true x y q) ∙ and_left (f y) (every_of f w) e)

    by_byte : (b : Bool) → eqb x y ≡ b → common w t ≤ span f t → cond b (suc (common w t)) 0 ≤ span f (x ∷ t)
    by_byte true q r = omega (arith, passing q)
    by_byte false q r = zero-le

pub common-differs : (w t : List ℕ) → common w t < length w → common w t < length t → get_or t (common w t) 0 ≡ get_or w (common w t) 0 → ⊥
unfolding common
common-differs [] t a b = absurd (not-suc-le-zero a)
common-differs (y ∷ w) [] a b = absurd (not-suc-le-zero b)
common-differs (y ∷ w) (x ∷ t) a b =
    ⊎_elim (λ q. rw q (common-differs w t (le_of_suc-le-suc (rw q at a)) (le_of_suc-le-suc (rw q at b)))) (λ q. rw q (eqb-false x y q)) (bool_cases (eqb x y))
