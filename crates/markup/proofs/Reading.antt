-- What is left of a piece at a place, and the steps of the loops that read one. Assumes nothing.
--   after-add, after-suc                         one front after another
--   reached-after, reached-stop                  the same at places
--   ok-whole, ok_place, err-broken               what was reached, and how
--   run-over                                     a front of bytes each of which leads on
--   Reading F t o i                              what F says of the text t from o on is what it says from i on, with the bytes between in front
--   reading-start, -step, -rest, -stop
--   row_at, row_is, row-end                      what stands at a place of a text
-- Letters: t u rows of bytes, F what is asked of one, f a test of a byte, o where the loop began, i where it is, n a size, s a stop.
use Prim.Native.Nat.{ℕ, suc, ◌+◌, ◌≤◌, ◌<◌}
use mathlib.Core.Path.{◌≡◌, refl, sym, ap, ◌∙◌}
use mathlib.Core.Logic.{⊎_elim}
use mathlib.Core.List.{List, [], ◌∷◌}
use mathlib.Core.Bool.{Bool, true, false}
use native.Mathlib.Numerals.{add-one}
use native.Mathlib.Omega.{arith}
use lib.ListN.{length, get_or, drop, drop_of_length-le}
use lib.Seq.{drop-cons, drop-drop}
use Rattle.std.proofs.Common.{Ok, Err}
use Rattle.seq.proofs.Laws.Bools.{bool_cases}
use Rattle.profile.specs.Spans.{span}
use Rattle.profile.specs.Pieces.{Stop, stop, after}
use Rattle.profile.proofs.Stops.{after-zero}
use Rattle.markup.specs.Inner.{reached, reached_from}

-- ---- stops
pub after-add : (m n : ℕ) (s : Stop) → after m (after n s) ≡ after (m + n) s
after-add m n s = ap (λ k. stop k s.whole) both
  where
    both : m + (n + s.size) ≡ m + n + s.size
    both = omega arith

pub after-suc : (n : ℕ) (s : Stop) → after 1 (after n s) ≡ after (suc n) s
after-suc n s = ap (λ k. stop k s.whole) both
  where
    both : 1 + (n + s.size) ≡ suc n + s.size
    both = omega arith

pub reached-after : (i n : ℕ) (s : Stop) → reached_from i (after n s) ≡ reached_from (i + n) s
reached-after i n s = ap (λ k. reached k s.whole) both
  where
    both : i + (n + s.size) ≡ i + n + s.size
    both = omega arith

pub reached-stop : (i : ℕ) (b : Bool) → reached_from i (stop 0 b) ≡ reached i b
reached-stop i b = ap (λ k. reached k b) none
  where
    none : i + 0 ≡ i
    none = omega arith

-- ---- what is reached
module _ (j n : ℕ) where
  pub ok-whole : (b : Bool) → Ok j ≡ reached n b → b ≡ true
  ok-whole true e = refl
  ok-whole false e = cc

  pub ok_place : (b : Bool) → Ok j ≡ reached n b → j ≡ n
  ok_place true e = cc
  ok_place false e = cc

  pub err-broken : (b : Bool) → Err j ≡ reached n b → b ≡ false
  err-broken true e = cc
  err-broken false e = refl

-- A front of bytes each of which leads on.
pub run-over : (F : List ℕ → Stop) (f : ℕ → Bool) → ((x : ℕ) (t : List ℕ) → f x ≡ true → F (x ∷ t) ≡ after 1 (F t)) →
    (u : List ℕ) → F u ≡ after (span f u) (F (drop (span f u) u))
unfolding span
run-over F f e [] = after-zero (F [])
run-over F f e (x ∷ u) =
    ⊎_elim (λ q. rw q (e x u q ∙ ap (after 1) (run-over F f e u) ∙ after-suc (span f u) _)) (λ q. rw q (after-zero (F (x ∷ u)))) (bool_cases (f x))

-- ---- a loop
pub record Reading (F : List ℕ → Stop) (t : List ℕ) (o i : ℕ) : Type 0 where
  pub same : reached_from i (F (drop i t)) ≡ reached_from o (F (drop o t))

pub reading-start : (F : List ℕ → Stop) (t : List ℕ) (o : ℕ) → Reading F t o o
reading-start F t o = record { same = refl }

module _ (F : List ℕ → Stop) (t : List ℕ) (o i : ℕ) (r : Reading F t o i) where
  -- n bytes on, to the place j
  pub reading_step : (n j : ℕ) → j ≡ i + n → F (drop i t) ≡ after n (F (drop n (drop i t))) → Reading F t o j
  reading_step n j p e =
      record {
        same =
            ap (λ k. reached_from k (F (drop k t))) p ∙ sym (reached-after i n (F (drop (i + n) t)))
            ∙ ap (λ u. reached_from i (after n (F u))) (sym (drop-drop n i t)) ∙ ap (reached_from i) (sym e) ∙ r.same;
      }

  -- the rest is told by s, n bytes on
  pub reading-rest : (n : ℕ) (s : Stop) → F (drop i t) ≡ after n s → reached_from (i + n) s ≡ reached_from o (F (drop o t))
  reading-rest n s e = sym (reached-after i n s) ∙ ap (reached_from i) (sym e) ∙ r.same

  -- it ends here
  pub reading-stop : (b : Bool) → F (drop i t) ≡ stop 0 b → reached i b ≡ reached_from o (F (drop o t))
  reading-stop b e = sym (reached-stop i b) ∙ ap (reached_from i) (sym e) ∙ r.same

-- ---- the row at a place
pub row_at : (t : List ℕ) (i : ℕ) → i < length t → drop i t ≡ get_or t i 0 ∷ drop (i + 1) t
row_at t i l = rw (add-one i) (drop-cons t i 0 l)

pub row_is : (t : List ℕ) (i : ℕ) → i < length t → (x : ℕ) → get_or t i 0 ≡ x → drop i t ≡ x ∷ drop (i + 1) t
row_is t i l x e = row_at t i l ∙ ap (λ y. y ∷ drop (i + 1) t) e

pub row-end : (t : List ℕ) (i : ℕ) → length t ≤ i → drop i t ≡ []
row-end t i l = drop_of_length-le t l
