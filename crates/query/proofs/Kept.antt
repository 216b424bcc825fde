-- What is known of a query that is taken.
--   query-plain      the test of a query is its plain definition;  query-kept: the half that the loops over its words use
--   word-none, word-cut   word j's bytes as code takes them;  word_unique: no second outcome fits
-- Letters: Q query, E ends, W bytes; j word, s where its bytes begin, f and t where those that there are begin and end. Assumes nothing.
use Prim.Native.Nat.{ℕ, zero, suc, pred, min, max, ◌+◌, ◌-◌, ◌≤◌, ◌<◌}
use mathlib.Core.Path.{◌≡◌, refl, sym, ap, ◌∙◌}
use mathlib.Core.Logic.{◌↔◌, ⊎_elim}
use mathlib.Core.List.{List, [], ◌∷◌}
use mathlib.Core.Bool.{true, ◌&&◌}
use native.Mathlib.Nat.{not-suc-le-zero}
use native.Mathlib.Omega.{arith}
use lib.Dec.{eqb, ltb, leb}
use lib.ListN.{length, get_or, take, drop, length-drop, drop_of_length-le}
use lib.Seq.{take_all, take-nil}
use Rattle.std.proofs.lemmas.List.{get_or_past}
use borrow.Author.Tests.{eq-eqb, eqb-true, lt-ltb, ltb-true, le-leb, leb-true}
use Rattle.seq.specs.Below.{every_below}
use Rattle.seq.proofs.Laws.Numbers.{less_or}
use Rattle.seq.specs.Lists.{every_of}
use Rattle.seq.proofs.Laws.Bools.{and_left, and_right, and_both}
use Rattle.seq.proofs.Laws.Below.{every-at, every_of_lem}
use Rattle.seq.proofs.Laws.Lists.{every_of-at}
use Rattle.index.specs.Index.{start, word_list}
use Rattle.words.specs.Runs.{word_byte}
use Rattle.query.specs.Query.{Query, word_count, rises, query_ok}
use Rattle.query.specs.Plain.{IsQuery}

-- ---- a query that is taken
letters-of : (l : List ℕ) → ((i : ℕ) → i < length l → word_byte (get_or l i 0) ≡ true) → every_of word_byte l ≡ true
unfolding every_of
letters-of [] h = refl
letters-of (x ∷ l) h = and_both (word_byte x) (every_of word_byte l) (h 0 (omega arith)) (letters-of l (λ i g. h (suc i) (omega arith)))

pub query-kept : (Q : Query) → query_ok Q ≡ true → IsQuery Q
query-kept Q ok =
    record {
      some = leb-true 1 (word_count Q) (and_left _ _ counts);
      few = leb-true (word_count Q) 8 (and_right (leb 1 (word_count Q)) _ counts);
      not_empty = λ j l. ltb-true (start Q.ends j) (get_or Q.ends j 0) (every-at (word_count Q) (λ j. ltb (start Q.ends j) (get_or Q.ends j 0)) climbs j l);
      last = eqb-true _ _ (and_left _ _ ends);
      letters = every_of-at word_byte Q.words 0 (and_right (eqb (get_or Q.ends (pred (word_count Q)) 0) (length Q.words)) _ ends);
    }
  where
    counts : (leb 1 (word_count Q) && leb (word_count Q) 8) ≡ true
    counts = unfold query_ok in and_left _ _ ok

    rest : (rises Q.ends && (eqb (get_or Q.ends (pred (word_count Q)) 0) (length Q.words) && every_of word_byte Q.words)) ≡ true
    rest = unfold query_ok in and_right (leb 1 (word_count Q) && leb (word_count Q) 8) _ ok

    climbs : every_below (word_count Q) (λ j. ltb (start Q.ends j) (get_or Q.ends j 0)) ≡ true
    climbs = unfold rises in and_left (rises Q.ends) _ rest

    ends : (eqb (get_or Q.ends (pred (word_count Q)) 0) (length Q.words) && every_of word_byte Q.words) ≡ true
    ends = and_right (rises Q.ends) _ rest

query-of : (Q : Query) → IsQuery Q → query_ok Q ≡ true
unfolding query_ok rises
query-of Q q =
    and_both _ _ (and_both _ _ (le-leb 1 (word_count Q) q.some) (le-leb (word_count Q) 8 q.few))
    (and_both _ _ (every_of_lem (word_count Q) _ (λ j l. lt-ltb (start Q.ends j) (get_or Q.ends j 0) (q.not_empty j l)))
    (and_both _ _ (eq-eqb _ _ q.last) (letters-of Q.words q.letters)))

pub query-plain : (Q : Query) → (query_ok Q ≡ true) ↔ IsQuery Q
query-plain Q = (query-kept Q, query-of Q)

-- Where a word begins, as code finds it.
pub start-none : (ends : List ℕ) (j : ℕ) → j ≡ 0 → 0 ≡ start ends j
unfolding start
start-none ends j e = sym (ap (start ends) e)

pub start-some : (ends : List ℕ) (j : ℕ) → (j ≡ 0 → ⊥) → get_or ends (j - 1) 0 ≡ start ends j
unfolding start
start-some ends zero n = absurd (n refl)
start-some ends (suc j) n = let less : suc j - 1 ≡ j = omega arith in ap (λ (z : ℕ). get_or ends z 0) less

-- Ends do not fall, and none is past the last.
pub start-suc : (ends : List ℕ) (j : ℕ) → start ends (suc j) ≡ get_or ends j 0
unfolding start
start-suc ends j = refl

module _ (Q : Query) (q : IsQuery Q) where
  up_to : (i d : ℕ) → i + d < word_count Q → get_or Q.ends i 0 ≤ get_or Q.ends (i + d) 0
  up_to i zero l = let same : i + 0 ≡ i = omega arith in omega (arith, ap (λ (z : ℕ). get_or Q.ends z 0) same)
  up_to i (suc d) l =
      let next : i + suc d ≡ suc (i + d) = omega arith in
      omega (arith, up_to i d (omega arith), q.not_empty (suc (i + d)) (omega arith), start-suc Q.ends (i + d), ap (λ (z : ℕ). get_or Q.ends z 0) next)

  pub end-within : (j : ℕ) → j < word_count Q → get_or Q.ends j 0 ≤ length Q.words
  end-within j l = omega (arith, up_to j (word_count Q - suc j) (omega arith), q.last, ap (λ (z : ℕ). get_or Q.ends z 0) (top (word_count Q) l))
    where
      top : (k : ℕ) → j < k → j + (k - suc j) ≡ pred k
      top zero h = absurd (not-suc-le-zero h)
      top (suc k) h = omega arith

-- Word j's bytes as code takes them, whatever the ends are: no word behind the last, and a place past the end of the bytes is their end.
pub word-none : (E W : List ℕ) (j : ℕ) → length E ≤ j → [] ≡ word_list E W j
unfolding word_list
word-none E W j l =
    let none : get_or E j 0 - start E j ≡ 0 = omega (arith, get_or_past E j 0 l) in
    sym (ap (λ (k : ℕ). take k (drop (start E j) W)) none)

pub word-cut : (E W : List ℕ) (j s f t : ℕ) → s ≡ start E j → f ≡ min s (length W) → (m : ℕ) → m ≡ min (length W) (get_or E j 0) → t ≡ max m f →
    take (t - f) (drop f W) ≡ word_list E W j
unfolding word_list
word-cut E W j s f t b a m e d = ⊎_elim inside past (less_or s (length W)) ∙ ap (λ (x : ℕ). take (get_or E j 0 - x) (drop x W)) b
  where
    inside : s < length W → take (t - f) (drop f W) ≡ take (get_or E j 0 - s) (drop s W)
    inside h = ap (λ (x : ℕ). take (t - x) (drop x W)) from ∙ ⊎_elim within short (less_or (length W) (get_or E j 0))
      where
        from : f ≡ s
        from = omega arith

        short : get_or E j 0 ≤ length W → take (t - s) (drop s W) ≡ take (get_or E j 0 - s) (drop s W)
        short l = ap (λ (k : ℕ). take k (drop s W)) (omega (arith, from))

        within : length W < get_or E j 0 → take (t - s) (drop s W) ≡ take (get_or E j 0 - s) (drop s W)
        within l =
            take_all (t - s) (drop s W) (omega (arith, from, length-drop s W)) ∙
            sym (take_all (get_or E j 0 - s) (drop s W) (omega (arith, length-drop s W)))

    past : length W ≤ s → take (t - f) (drop f W) ≡ take (get_or E j 0 - s) (drop s W)
    past l =
        ap (take (t - f)) (drop_of_length-le W (omega arith)) ∙ take-nil (t - f) ∙
        sym (ap (take (get_or E j 0 - s)) (drop_of_length-le W l) ∙ take-nil (get_or E j 0 - s))

-- No second outcome fits the contract of `word`.
pub word_unique : (E W : List ℕ) (j : ℕ) (r r' : List ℕ) → r ≡ word_list E W j → r' ≡ word_list E W j → r ≡ r'
word_unique E W j r r' a b = a ∙ sym b
