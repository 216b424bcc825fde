-- Laws of the numbering of names.
--   tags-some, tags-none       the first of some names is numbered, and then the rest
--   with-known, with-new       the names seen after one more
--   place-new                  a new name stands behind all that were seen
--   known_more, known-last     the names known after one more
--   place-more, place-last     and where they stand
-- Letters: n x y names, l names. Assumes nothing.
use Prim.Native.Nat.{ℕ, suc, ◌<◌}
use mathlib.Core.Path.{◌≡◌, refl, sym, ap}
use mathlib.Core.Logic.{◌⊎◌, inl, inr, ⊎_elim}
use mathlib.Core.List.{List, [], ◌∷◌, ◌++◌}
use mathlib.Core.Bool.{true, false, false≢true}
use native.Mathlib.Nat.{not-suc-le-zero}
use lib.ListN.{length}
use Rattle.seq.specs.Lists.{same_list}
use Rattle.seq.proofs.Laws.Bools.{bool_cases, or_cases, or_left, or_right}
use Rattle.seq.proofs.Laws.Lists.{same_list-is, same_list_self}
use Rattle.profile.specs.Tags.{known, place, with, tags_after}

pub tags-none : (seen l : List (List ℕ)) → tags_after seen ([] ∷ l) ≡ 0 ∷ tags_after seen l
unfolding tags_after
tags-none seen l = refl

pub tags-some : (seen l : List (List ℕ)) (n : List ℕ) → 0 < length n → tags_after seen (n ∷ l) ≡ suc (place seen n) ∷ tags_after (with seen n) l
unfolding tags_after
tags-some seen l [] h = absurd (not-suc-le-zero h)
tags-some seen l (x ∷ n) h = refl

pub with-known : (seen : List (List ℕ)) (n : List ℕ) → known seen n ≡ true → with seen n ≡ seen
unfolding with
with-known seen n e = rw e

pub with-new : (seen : List (List ℕ)) (n : List ℕ) → known seen n ≡ false → with seen n ≡ seen ++ (n ∷ [])
unfolding with
with-new seen n e = rw e

pub place-new : (seen : List (List ℕ)) (n : List ℕ) → known seen n ≡ false → place seen n ≡ length seen
unfolding known place
place-new [] n e = refl
place-new (m ∷ seen) n e =
    ⊎_elim (λ q. absurd (false≢true (sym (rw q at e)))) (λ q. rw q (ap suc (place-new seen n (rw q at e)))) (bool_cases (same_list m n))

-- ---- one more
pub known_more : (seen : List (List ℕ)) (n x : List ℕ) → known seen n ≡ true → known (seen ++ (x ∷ [])) n ≡ true
unfolding known
known_more [] n x e = absurd (false≢true e)
known_more (m ∷ seen) n x e =
    ⊎_elim (λ q. or_left (same_list m n) _ q) (λ q. or_right (same_list m n) _ (known_more seen n x q)) (or_cases (same_list m n) (known seen n) e)

pub known-last : (seen : List (List ℕ)) (x : List ℕ) → known (seen ++ (x ∷ [])) x ≡ true
unfolding known
known-last [] x = or_left (same_list x x) false (same_list_self x)
known-last (m ∷ seen) x = or_right (same_list m x) _ (known-last seen x)

-- A name known after one more is that one, or was known.
pub known_cases : (seen : List (List ℕ)) (n x : List ℕ) → known (seen ++ (x ∷ [])) n ≡ true → (x ≡ n) ⊎ (known seen n ≡ true)
unfolding known
known_cases [] n x e = ⊎_elim (λ q. inl (same_list-is x n q)) (λ q. absurd (false≢true q)) (or_cases (same_list x n) false e)
known_cases (m ∷ seen) n x e =
    ⊎_elim (λ q. inr (or_left (same_list m n) _ q))
    (λ q. ⊎_elim (λ p. inl p) (λ p. inr (or_right (same_list m n) _ p)) (known_cases seen n x q)) (or_cases (same_list m n) _ e)

pub place-more : (seen : List (List ℕ)) (n x : List ℕ) → known seen n ≡ true → place (seen ++ (x ∷ [])) n ≡ place seen n
unfolding known place
place-more [] n x e = absurd (false≢true e)
place-more (m ∷ seen) n x e =
    ⊎_elim (λ q. rw q) (λ q. rw q (ap suc (place-more seen n x (rw q at e)))) (bool_cases (same_list m n))

pub place-last : (seen : List (List ℕ)) (x : List ℕ) → known seen x ≡ false → place (seen ++ (x ∷ [])) x ≡ length seen
unfolding known place
place-last [] x e = rw (same_list_self x)
place-last (m ∷ seen) x e =
    ⊎_elim (λ q. absurd (false≢true (sym (rw q at e)))) (λ q. rw q (ap suc (place-last seen x (rw q at e)))) (bool_cases (same_list m x))
