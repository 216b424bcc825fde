-- The hashes of a query's words.
--   Hashing, hashing-*   the loop that hashes the words
--   no_query, no_room_lem, with-room   the ways out of `hash_words`;  hashes-of: what it leaves in 8 zeros
--   asked-apart, asked-same        the ways out of `is_asked`;  asked_is: where the hashes are those of the two words, they need not be asked;  asked-other: words of two hashes are two
--   hash-words_unique, is-asked_unique   no second outcome fits
-- Letters: Q query, h hashes, d those that were lent, j word, f where its bytes begin. Assumes nothing.
use Prim.Native.Nat.{ℕ, zero-le, ◌+◌, ◌≤◌, ◌<◌}
use mathlib.Core.Path.{◌≡◌, refl, sym, ap, ◌∙◌}
use mathlib.Core.List.{List, map}
use mathlib.Core.Bool.{Bool, true, false, ◌&&◌}
use native.Mathlib.Omega.{arith}
use lib.Dec.{eqb, leb}
use lib.ListN.{length, get_or, set}
use borrow.Author.Tests.{eq-eqb, ne_eqb, le-leb, lt-leb}
use Rattle.seq.specs.Below.{tabulate}
use Rattle.seq.specs.Lists.{same_list}
use Rattle.seq.specs.Memory.{over}
use Rattle.seq.proofs.Laws.Bools.{and_both, and_false-left, and_false-right, cond-true, cond-false}
use Rattle.seq.proofs.Laws.Gather.{length-tabulate, get_d_tabulate}
use Rattle.seq.proofs.Laws.Memory.{over-front, length_over}
use Rattle.seq.proofs.Laws.Loops.{Filling, filling_start, filling_step}
use Rattle.seq.proofs.Laws.Lists.{same_list-is}
use Rattle.index.specs.Index.{word_list}
use Rattle.fnv.specs.Fnv.{hash_of}
use Rattle.words.specs.Runs.{Word, lower}
use Rattle.words.specs.Reading.{word_at}
use Rattle.query.specs.Query.{Query, asked, word_count, query_ok, hashes_of, hashes_after, Hashes}
use Rattle.query.specs.Inner.{HashPre}
use Rattle.query.proofs.Kept.{query-kept}

-- ---- put_hashes
abbrev hash_at : Query → ℕ → ℕ
hash_at Q j = hash_of (asked Q j)

-- The first j hashes are written.
pub record Hashing (Q : Query) (d h : List ℕ) (j : ℕ) : Type 0 where
  pub within : j ≤ word_count Q
  pub filled : Filling (hash_at Q) d h j

pub hashing_start : (Q : Query) (d : List ℕ) → Hashing Q d d 0
hashing_start Q d = record { within = zero-le; filled = filling_start (hash_at Q) d }

module _ (Q : Query) (d h : List ℕ) (j : ℕ) (pre : HashPre Q d) (s : Hashing Q d h j) (l : j < word_count Q) where
  pub slot-fits : j < length h
  slot-fits = omega (arith, pre.room, s.filled.long)

  pub hashing_step : (w : Word) (x : ℕ) → w ≡ word_list Q.ends Q.words j → x ≡ hash_of (map lower w) → Hashing Q d (set h j x) (j + 1)
  unfolding asked
  hashing_step w x e p =
      record { within = omega arith; filled = filling_step (hash_at Q) d h j x s.filled (omega (arith, pre.room)) (p ∙ ap (λ (z : Word). hash_of (map lower z)) e) }

pub hashing_end : (Q : Query) (d h : List ℕ) (j : ℕ) → Hashing Q d h j → word_count Q ≤ j → h ≡ over (hashes_of Q) d
unfolding hashes_of
hashing_end Q d h j s l = let all : j ≡ word_count Q = omega (arith, s.within) in s.filled.front ∙ ap (λ (z : ℕ). over (tabulate z (hash_at Q)) d) all

-- ---- hash_words
module _ (Q : Query) (h : List ℕ) where
  pub no_query : query_ok Q ≡ false → h ≡ hashes_after Q h
  unfolding hashes_after
  no_query e = sym (cond-false (query_ok Q && leb (word_count Q) (length h)) (and_false-left _ _ e) _ _)

  pub no_room_lem : length h < word_count Q → h ≡ hashes_after Q h
  unfolding hashes_after
  no_room_lem l = sym (cond-false (query_ok Q && leb (word_count Q) (length h)) (and_false-right (query_ok Q) _ (lt-leb (word_count Q) (length h) l)) _ _)

  pub with-room : query_ok Q ≡ true → word_count Q ≤ length h → over (hashes_of Q) h ≡ hashes_after Q h
  unfolding hashes_after
  with-room e l = sym (cond-true (query_ok Q && leb (word_count Q) (length h)) (and_both (query_ok Q) _ e (le-leb (word_count Q) (length h) l)) _ _)

pub hash-words_unique : (Q : Query) (d h h' : List ℕ) → h ≡ hashes_after Q d → h' ≡ hashes_after Q d → h ≡ h'
hash-words_unique Q d h h' a b = a ∙ sym b

-- A row of 8 has room for every query.
pub hashes-of : (Q : Query) → query_ok Q ≡ true → (d h : List ℕ) → length d ≡ 8 → h ≡ hashes_after Q d → Hashes Q h
hashes-of Q ok d h e r =
    record {
      long = ap length written ∙ length_over (hashes_of Q) d (omega (arith, hashes-long, room)) ∙ e;
      each = λ j l. ap (λ (z : List ℕ). get_or z j 0) written ∙ over-front (hashes_of Q) d j (omega (arith, hashes-long)) ∙ (unfold hashes_of in get_d_tabulate (word_count Q) (hash_at Q) j 0 l);
    }
  where
    room : word_count Q ≤ length d
    room = omega (arith, e, (query-kept Q ok).few)

    written : h ≡ over (hashes_of Q) d
    written = r ∙ sym (with-room Q d ok room)

    hashes-long : length (hashes_of Q) ≡ word_count Q
    hashes-long = unfold hashes_of in length-tabulate (word_count Q) (hash_at Q)

-- ---- is_asked
pub asked-apart : (a b : ℕ) (x : Bool) → (a ≡ b → ⊥) → false ≡ (eqb a b && x)
asked-apart a b x n = sym (and_false-left _ _ (ne_eqb a b n))

pub asked-same : (a b : ℕ) (x : Bool) → a ≡ b → x ≡ (eqb a b && x)
asked-same a b x e = sym (ap (λ z. z && x) (eq-eqb a b e))

module _ (T : List ℕ) (i a : ℕ) (q : Word) (b : ℕ) where
  -- Words of two hashes are two.
  pub asked_is : a ≡ hash_of (word_at T i) → b ≡ hash_of q → (eqb a b && same_list q (word_at T i)) ≡ same_list q (word_at T i)
  asked_is own hash = by (same_list q (word_at T i)) refl
    where
      by : (x : Bool) → same_list q (word_at T i) ≡ x → (eqb a b && x) ≡ x
      by true e = ap (λ z. z && true) (eq-eqb a b (own ∙ sym (ap hash_of (same_list-is q (word_at T i) e)) ∙ sym hash))
      by false e = and_false-right (eqb a b) false refl

  pub asked-other : a ≡ hash_of (word_at T i) → b ≡ hash_of q → (a ≡ b → ⊥) → same_list q (word_at T i) ≡ false
  asked-other own hash ne = sym (asked_is own hash) ∙ and_false-left (eqb a b) (same_list q (word_at T i)) (ne_eqb a b ne)

  pub is-asked_unique : (r r' : Bool) → r ≡ (eqb a b && same_list q (word_at T i)) → r' ≡ (eqb a b && same_list q (word_at T i)) → r ≡ r'
  is-asked_unique r r' x y = x ∙ sym y
