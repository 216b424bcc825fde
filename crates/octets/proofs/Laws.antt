-- Laws for callers. Those of spans, common beginnings and classes are in `profile`, proofs/Laws/Spans and proofs/Classes. Assumes nothing.
--   other-same, other-not                     a byte that is x, and one that is not
--   low_in, low-past                          a byte up to 32, and one above
--   at_within, at-past                        whether a byte stands at a place within the text, and past it
--   at_true, at_false                         what it says that a byte stands there, and that it does not
--   skip_unique, white_unique, find_unique, rise_unique, is_at_unique, common_unique   no second outcome fits `skip`, `white`, `find`, `rise`, `is_at`, `common`
-- Letters: t text, w word, x y bytes, s set of classes, o place.
use Prim.Native.Nat.{ℕ, ◌+◌, ◌≤◌, ◌<◌}
use mathlib.Core.Path.{◌≡◌, refl, sym, ap, ◌∙◌}
use mathlib.Core.Logic.{◌⊎◌, inl, inr}
use mathlib.Core.List.{List, [], ◌∷◌}
use mathlib.Core.Bool.{Bool, true, false, not, ◌&&◌, false≢true}
use borrow.Author.Tests.{eq-eqb, ne_eqb, le-leb, lt-leb, eqb-true, eqb-false, ltb-true, ltb-false}
use lib.Dec.{eqb, ltb}
use lib.ListN.{length, get_or, drop, drop_of_length-le}
use lib.Seq.{drop-cons}
use Rattle.seq.proofs.Laws.Bools.{bool_cases}
use Rattle.profile.specs.Bytes.{white, starts_with}
use Rattle.profile.specs.Classes.{within}
use Rattle.profile.specs.Spans.{span, other, low, common}

pub other-same : (x y : ℕ) → y ≡ x → other x y ≡ false
unfolding other
other-same x y e = ap not (eq-eqb y x e)

pub other-not : (x y : ℕ) → (y ≡ x → ⊥) → other x y ≡ true
unfolding other
other-not x y e = ap not (ne_eqb y x e)

pub low_in : (y : ℕ) → y ≤ 32 → low y ≡ true
unfolding low
low_in y l = le-leb y 32 l

pub low-past : (y : ℕ) → 32 < y → low y ≡ false
unfolding low
low-past y l = lt-leb y 32 l

and-true : (b : Bool) → (b && true) ≡ b
and-true true = refl
and-true false = refl

module _ (x : ℕ) (t : List ℕ) (i : ℕ) where
  pub at_within : i < length t → starts_with (x ∷ []) (drop i t) ≡ eqb (get_or t i 0) x
  unfolding starts_with
  at_within l = ap (starts_with (x ∷ [])) (drop-cons t i 0 l) ∙ and-true (eqb (get_or t i 0) x)

  pub at-past : length t ≤ i → starts_with (x ∷ []) (drop i t) ≡ false
  unfolding starts_with
  at-past l = ap (starts_with (x ∷ [])) (drop_of_length-le t l)

  pub at_true : starts_with (x ∷ []) (drop i t) ≡ true → (i < length t) × (get_or t i 0 ≡ x)
  at_true e = by_place (bool_cases (ltb i (length t)))
    where
      by_place : (ltb i (length t) ≡ true) ⊎ (ltb i (length t) ≡ false) → (i < length t) × (get_or t i 0 ≡ x)
      by_place (inl q) = (ltb-true i (length t) q, eqb-true _ _ (sym (at_within (ltb-true i (length t) q)) ∙ e))
      by_place (inr q) = absurd (false≢true (sym (at-past (ltb-false i (length t) q)) ∙ e))

  pub at_false : starts_with (x ∷ []) (drop i t) ≡ false → i < length t → get_or t i 0 ≡ x → ⊥
  at_false e l = eqb-false _ _ (sym (at_within l) ∙ e)

pub skip_unique : (t : List ℕ) (o s r r' : ℕ) → r ≡ o + span (within s) (drop o t) → r' ≡ o + span (within s) (drop o t) → r ≡ r'
skip_unique t o s r r' a b = a ∙ sym b

pub white_unique : (t : List ℕ) (o r r' : ℕ) → r ≡ o + span white (drop o t) → r' ≡ o + span white (drop o t) → r ≡ r'
white_unique t o r r' a b = a ∙ sym b

pub find_unique : (t : List ℕ) (o x r r' : ℕ) → r ≡ o + span (other x) (drop o t) → r' ≡ o + span (other x) (drop o t) → r ≡ r'
find_unique t o x r r' a b = a ∙ sym b

pub rise_unique : (t : List ℕ) (o r r' : ℕ) → r ≡ o + span low (drop o t) → r' ≡ o + span low (drop o t) → r ≡ r'
rise_unique t o r r' a b = a ∙ sym b

pub is_at_unique : (t : List ℕ) (o x : ℕ) (r r' : Bool) → r ≡ starts_with (x ∷ []) (drop o t) → r' ≡ starts_with (x ∷ []) (drop o t) → r ≡ r'
is_at_unique t o x r r' a b = a ∙ sym b

pub common_unique : (w t : List ℕ) (o r r' : ℕ) → r ≡ common w (drop o t) → r' ≡ common w (drop o t) → r ≡ r'
common_unique w t o r r' a b = a ∙ sym b
