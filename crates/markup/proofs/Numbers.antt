-- Kinds and their numbers. Assumes nothing.
--   number-of       the number of the kind of a number that a kind has
--   kind-number     the kind of a kind's number
--   number_same     two kinds of one number are one
--   of_number       a number whose kind is k, which is not Nothing, is that of k
-- Letters: k h kinds, n a number.
use Prim.Native.Nat.{ℕ, zero, suc, ◌≤◌, ◌<◌}
use mathlib.Core.Path.{◌≡◌, refl, sym, ap, ◌∙◌}
use mathlib.Core.Logic.{⊎_elim}
use mathlib.Core.Bool.{false}
use native.Mathlib.Omega.{arith}
use lib.Dec.{eqb, leb}
use borrow.Author.Tests.{ne_eqb, leb-true, leb-false}
use Rattle.seq.proofs.Laws.Bools.{bool_cases}
use Rattle.markup.specs.declared.Kind.{Kind}
use Rattle.markup.specs.declared.Kind.TheVariants.{End, Data, Comment, Start, Empty, Close, Nothing}
use Rattle.markup.specs.Pieces.{number, kind_of}

pub number-of : (n : ℕ) → n ≤ 6 → number (kind_of n) ≡ n
unfolding number kind_of
number-of zero l = refl
number-of (suc zero) l = refl
number-of (suc (suc zero)) l = refl
number-of (suc (suc (suc zero))) l = refl
number-of (suc (suc (suc (suc zero)))) l = refl
number-of (suc (suc (suc (suc (suc zero))))) l = refl
number-of (suc (suc (suc (suc (suc (suc zero)))))) l = refl
number-of (suc (suc (suc (suc (suc (suc (suc n))))))) l = absurd (omega arith)

pub kind-number : (k : Kind) → kind_of (number k) ≡ k
unfolding number kind_of
kind-number End = refl
kind-number Data = refl
kind-number Comment = refl
kind-number Start = refl
kind-number Empty = refl
kind-number Close = refl
kind-number Nothing = refl

pub number_same : (k h : Kind) → number k ≡ number h → k ≡ h
number_same k h e = sym (kind-number k) ∙ ap kind_of e ∙ kind-number h

past : (n : ℕ) → 6 ≤ n → kind_of n ≡ Nothing
unfolding kind_of
past n l = rw (other 0 (omega arith), other 1 (omega arith), other 2 (omega arith), other 3 (omega arith), other 4 (omega arith), other 5 (omega arith))
  where
    other : (k : ℕ) → k < 6 → eqb n k ≡ false
    other k h = ne_eqb n k (λ (q : n ≡ k). omega arith)

pub of_number : (n : ℕ) (k : Kind) → (k ≡ Nothing → ⊥) → kind_of n ≡ k → n ≡ number k
of_number n k h e =
    ⊎_elim (λ l. sym (number-of n (leb-true n 6 l)) ∙ ap number e) (λ l. absurd (h (sym e ∙ past n (omega (arith, leb-false n 6 l))))) (bool_cases (leb n 6))
