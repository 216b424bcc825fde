-- Whether what is lent is a query.
--   every-range          `all` over a range, which tests the ends
--   size_none, size-many, size-falls, size-last, size-letters   the ways out of `is_query`;  is-query-unique: no second outcome fits
-- Letters: Q query, f the end before, j word. Assumes nothing.
use Prim.Native.Nat.{ℕ, zero, suc, pred, ◌+◌, ◌≤◌, ◌<◌}
use mathlib.Core.Path.{◌≡◌, refl, sym, ap, ap₂, ◌∙◌}
use mathlib.Core.Bool.{Bool, true, false, ◌&&◌}
use native.Mathlib.Omega.{arith}
use lib.Dec.{leb}
use lib.ListN.{length, get_or}
use borrow.Author.Tests.{eq-eqb, ne_eqb, lt-leb, le-leb}
use Rattle.std.specs.List.{list_all, range_with_len}
use Rattle.seq.specs.Below.{every_below}
use Rattle.seq.specs.Lists.{every_of}
use Rattle.seq.proofs.Laws.Bools.{and_both, and_false-left, and_false-right}
use Rattle.seq.proofs.Laws.Below.{every-zero, every_ext}
use Rattle.index.specs.Index.{start}
use Rattle.words.specs.Runs.{word_byte}
use Rattle.query.specs.Query.{Query, word_count, rises, query_ok}
use Rattle.query.proofs.Kept.{start-suc}

-- ---- ends_rise: `all` over a range is `every_below`
and_assoc : (a b c : Bool) → (a && (b && c)) ≡ ((a && b) && c)
and_assoc true b c = refl
and_assoc false b c = refl

every_front : (n : ℕ) (f : ℕ → Bool) → every_below (suc n) f ≡ (f 0 && every_below n (λ i. f (suc i)))
unfolding every_below
every_front zero f = and_true (f 0)
  where
    and_true : (b : Bool) → (true && b) ≡ (b && true)
    and_true true = refl
    and_true false = refl
every_front (suc n) f = ap (λ (b : Bool). b && f (suc n)) (every_front n f) ∙ sym (and_assoc (f 0) (every_below n (λ i. f (suc i))) (f (suc n)))

range_from : (f : ℕ → Bool) (a n : ℕ) → list_all f (range_with_len a n) ≡ every_below n (λ i. f (a + i))
range_from f a zero = sym (every-zero (λ i. f (a + i)))
range_from f a (suc n) =
    ap₂ (λ (x y : Bool). x && y) (ap f (omega arith)) (range_from f (a + 1) n ∙ every_ext n _ (λ i. f (a + suc i)) (λ i l. ap f (omega arith)))
    ∙ sym (every_front n (λ i. f (a + i)))

pub every-range : (f : ℕ → Bool) (n : ℕ) → list_all f (range_with_len 0 n) ≡ every_below n f
every-range f n = range_from f 0 n ∙ every_ext n _ _ (λ i l. ap f (omega arith))

-- ---- is_query
module _ (Q : Query) where
  -- The ends as the code takes them: e is where all bytes end.
  last-end : (e : ℕ) → e ≡ start Q.ends (word_count Q) → (word_count Q ≡ 0 → ⊥) → get_or Q.ends (pred (word_count Q)) 0 ≡ e
  last-end e p n = by (word_count Q) n p
    where
      by : (k : ℕ) → (k ≡ 0 → ⊥) → e ≡ start Q.ends k → get_or Q.ends (pred k) 0 ≡ e
      by zero h q = absurd (h refl)
      by (suc k) h q = sym (q ∙ start-suc Q.ends k)

  pub size_none : word_count Q ≡ 0 → false ≡ query_ok Q
  unfolding query_ok
  size_none e = sym (and_false-left _ _ (and_false-left _ _ (lt-leb 1 (word_count Q) (omega arith))))

  pub size-many : 8 < word_count Q → false ≡ query_ok Q
  unfolding query_ok
  size-many h = sym (and_false-left _ _ (and_false-right (leb 1 (word_count Q)) _ (lt-leb (word_count Q) 8 h)))

  pub size-falls : rises Q.ends ≡ false → false ≡ query_ok Q
  unfolding query_ok
  size-falls e = sym (and_false-right (leb 1 (word_count Q) && leb (word_count Q) 8) _ (and_false-left _ _ e))

  module _ (n : word_count Q ≡ 0 → ⊥) (e : ℕ) (last : e ≡ start Q.ends (word_count Q)) where
    pub size-last : (e ≡ length Q.words → ⊥) → false ≡ query_ok Q
    unfolding query_ok
    size-last m =
        sym (and_false-right (leb 1 (word_count Q) && leb (word_count Q) 8) _ (and_false-right (rises Q.ends) _ (and_false-left _ _ (ne_eqb _ _ (λ z. m (sym (last-end e last n) ∙ z))))))

    pub size-letters : word_count Q ≤ 8 → rises Q.ends ≡ true → e ≡ length Q.words → every_of word_byte Q.words ≡ query_ok Q
    unfolding query_ok
    size-letters h r m =
        sym (ap₂ ◌&&◌ (and_both _ _ (le-leb 1 (word_count Q) (omega (arith, n))) (le-leb (word_count Q) 8 h))
        (ap₂ ◌&&◌ r (ap (λ z. z && every_of word_byte Q.words) (eq-eqb _ _ (last-end e last n ∙ m)))))

  pub is-query_unique : (r r' : Bool) → r ≡ query_ok Q → r' ≡ query_ok Q → r ≡ r'
  is-query_unique r r' a b = a ∙ sym b
