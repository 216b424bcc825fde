-- What stands at a place of a text, and the loop over a comment's body. Assumes nothing.
--   found                      the byte that was looked for stands where it was found
--   pair-at, pair-not          whether two bytes stand at a place
--   until_le, until-run        the bytes before a word are within the row, and go to its first byte at least
--   Looking w t o i            == the first w from o on is the first from i on
--   looking_start, -run, -over, -found, -end
--   Dashes t o i               the same of two dashes, the first `-` from o on at which two may stand being at i, or none
--   dashes_first, dashes_next  as they are looked for
-- Letters: t text, w word, y z bytes, o where the loop began, i where it is.
use Prim.Native.Nat.{ℕ, suc, zero-le, ◌+◌, ◌≤◌, ◌<◌}
use mathlib.Core.Path.{◌≡◌, refl, sym, ap, ◌∙◌}
use mathlib.Core.Logic.{⊎_elim}
use mathlib.Core.List.{List, [], ◌∷◌}
use mathlib.Core.Bool.{Bool, true, false, not, cond, ◌&&◌}
use native.Mathlib.Omega.{arith}
use lib.Dec.{eqb}
use lib.ListN.{length, get_or, drop, length-drop, drop_of_length-le}
use lib.Seq.{drop-drop, get_or-drop}
use borrow.Author.Tests.{eq-eqb, eqb-true, not-false}
use Rattle.seq.proofs.Laws.Bools.{bool_cases, and_both, and_false-right}
use Rattle.profile.specs.Bytes.{'-', starts_with}
use Rattle.profile.specs.Spans.{span, other}
use Rattle.profile.proofs.Laws.Spans.{span-stops}
use Rattle.markup.proofs.Reading.{row_at}
use Rattle.skim.specs.Skim.{until}

-- ---- a word at a place
starts-at : (y : ℕ) (w t : List ℕ) (i : ℕ) → i < length t → starts_with (y ∷ w) (drop i t) ≡ (eqb (get_or t i 0) y && starts_with w (drop (i + 1) t))
unfolding starts_with
starts-at y w t i l = ap (starts_with (y ∷ w)) (row_at t i l)

-- The byte that was looked for stands where it was found.
pub found : (y : ℕ) (t : List ℕ) (i j : ℕ) → j ≡ i + span (other y) (drop i t) → j < length t → get_or t j 0 ≡ y
unfolding other
found y t i j p l =
    eqb-true (get_or t j 0) y
    (not-false _ (ap (other y) (ap (λ k. get_or t k 0) p ∙ sym (get_or-drop i t (span (other y) (drop i t)) 0)) ∙ span-stops (other y) (drop i t) (omega (arith, length-drop i t))))

module _ (y z : ℕ) (t : List ℕ) (i : ℕ) (l : i < length t) where
  pub pair-at : get_or t i 0 ≡ y → starts_with (z ∷ []) (drop (i + 1) t) ≡ true → starts_with (y ∷ z ∷ []) (drop i t) ≡ true
  pair-at e f = starts-at y (z ∷ []) t i l ∙ and_both _ _ (eq-eqb (get_or t i 0) y e) f

  pub pair-not : starts_with (z ∷ []) (drop (i + 1) t) ≡ false → starts_with (y ∷ z ∷ []) (drop i t) ≡ false
  pair-not f = starts-at y (z ∷ []) t i l ∙ and_false-right (eqb (get_or t i 0) y) _ f

-- ---- the bytes before a word
pub until_le : (w t : List ℕ) → until w t ≤ length t
unfolding until
until_le w [] = zero-le
until_le w (x ∷ t) = ⊎_elim (λ q. rw q zero-le) (λ q. rw q (omega (arith, until_le w t))) (bool_cases (starts_with w (x ∷ t)))

until-run : (y : ℕ) (w t : List ℕ) → until (y ∷ w) t ≡ span (other y) t + until (y ∷ w) (drop (span (other y) t) t)
unfolding until span other starts_with
until-run y w [] = refl
until-run y w (x ∷ t) = by_byte (eqb x y) refl (until-run y w t)
  where
    by_byte : (b : Bool) → eqb x y ≡ b → until (y ∷ w) t ≡ span (other y) t + until (y ∷ w) (drop (span (other y) t) t) →
        cond (b && starts_with w t) 0 (suc (until (y ∷ w) t)) ≡
        cond (not b) (suc (span (other y) t)) 0 + until (y ∷ w) (drop (cond (not b) (suc (span (other y) t)) 0) (x ∷ t))
    by_byte true q r = ap (λ (c : Bool). cond (c && starts_with w t) 0 (suc (until (y ∷ w) t))) (sym q) ∙ omega arith
    by_byte false q r = omega arith

pub record Looking (w t : List ℕ) (o i : ℕ) : Type 0 where
  pub same : i + until w (drop i t) ≡ o + until w (drop o t)

pub looking_start : (w t : List ℕ) (o : ℕ) → Looking w t o o
looking_start w t o = record { same = refl }

pub looking_run : (y : ℕ) (w t : List ℕ) (o i : ℕ) → Looking (y ∷ w) t o i → (j : ℕ) → j ≡ i + span (other y) (drop i t) → Looking (y ∷ w) t o j
looking_run y w t o i r j p =
    record { same = omega (arith, p, r.same, until-run y w (drop i t), ap (until (y ∷ w)) (drop-drop (span (other y) (drop i t)) i t ∙ ap (λ k. drop k t) (sym p))) }

module _ (w t : List ℕ) (o i : ℕ) (r : Looking w t o i) where
  pub looking_end : length t ≤ i → i ≡ o + until w (drop o t)
  unfolding until
  looking_end l = omega (arith, r.same, ap (until w) (drop_of_length-le t l))

  module _ (l : i < length t) where
    here : until w (drop i t) ≡ cond (starts_with w (drop i t)) 0 (suc (until w (drop (i + 1) t)))
    unfolding until
    here = rw (row_at t i l)

    pub looking_over : starts_with w (drop i t) ≡ false → Looking w t o (i + 1)
    looking_over e = record { same = omega (arith, r.same, here ∙ ap (λ (b : Bool). cond b 0 (suc (until w (drop (i + 1) t)))) e) }

    pub looking_found : starts_with w (drop i t) ≡ true → i ≡ o + until w (drop o t)
    looking_found e = omega (arith, r.same, here ∙ ap (λ (b : Bool). cond b 0 (suc (until w (drop (i + 1) t)))) e)

-- ---- two dashes
pub record Dashes (t : List ℕ) (o i : ℕ) : Type 0 where
  pub looking : Looking ('-' ∷ '-' ∷ []) t o i
  pub dash : i < length t → get_or t i 0 ≡ '-'

pub dashes_first : (t : List ℕ) (o i : ℕ) → i ≡ o + span (other '-') (drop o t) → Dashes t o i
dashes_first t o i p = record { looking = looking_run _ _ t o o (looking_start _ t o) i p; dash = found _ t o i p }

pub dashes_next : (t : List ℕ) (o i : ℕ) → Dashes t o i → i < length t → starts_with ('-' ∷ []) (drop (i + 1) t) ≡ false →
    (j : ℕ) → j ≡ i + 1 + span (other '-') (drop (i + 1) t) → Dashes t o j
dashes_next t o i d l e j p =
    record {
      looking = looking_run _ _ t o (i + 1) (looking_over _ t o i d.looking l (pair-not '-' '-' t i l e)) j p;
      dash = found _ t (i + 1) j p;
    }
