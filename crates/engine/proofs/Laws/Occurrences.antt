-- The words' lists as parts of the occurrences. Assumes nothing.
--   tally-rising, length-rising   a rising list has each number at most once, so it is no longer than there are numbers
--   list-none, none_in  a word that there is not has no list
--   list-long, list_at, list-from   a list, entry by entry
--   list-below, list-rising, list_le   occurrences are nodes, in increasing number
--   occurrence-less, occurrence-below   the same of a word's occurrences, from its start to its end
-- Letters: J job; l list, n numbers; j word, i, m places in a list, a, b places among the occurrences.
use Prim.Native.Nat.{ℕ, zero, suc, ◌+◌, ◌-◌, ◌≤◌, ◌<◌}
use mathlib.Core.Path.{◌≡◌, sym, ap, ◌∙◌}
use mathlib.Core.List.{List, []}
use mathlib.Core.Bool.{cond}
use mathlib.Core.Logic.{⊎_elim}
use native.Mathlib.Nat.{not-suc-le-zero}
use native.Mathlib.Omega.{arith}
use lib.Dec.{eqb}
use lib.ListN.{length, get_or, take, drop, length-drop, get_or-eq_default}
use lib.Seq.{length-take-le, get_or-take, get_or-drop}
use Rattle.seq.specs.Lists.{tally, some_of, EachBelow}
use Rattle.seq.proofs.Laws.Numbers.{less_or}
use Rattle.seq.proofs.Laws.Gather.{listed_le}
use Rattle.seq.proofs.Laws.Members.{Rising, listed-tally, listed-of-rising}
use Rattle.index.specs.Index.{start, word_list}
use Rattle.engine.specs.Inner.Going.{Job, nodes_of, words_of, list_of, Sound}

-- ---- lists that rise
rising-less : (l : List ℕ) → Rising l → (i m : ℕ) → i < m → m < length l → get_or l i 0 < get_or l m 0
rising-less l r i zero h b = absurd (not-suc-le-zero h)
rising-less l r i (suc m) h b =
    ⊎_elim
    (λ (g : i < m). omega (arith, rising-less l r i m g (omega arith), r m b))
    (λ (g : m ≤ i). let e : i ≡ m = omega arith in rw e (r m b))
    (less_or i m)

-- Of a rising list, a number is an entry at most once.
pub tally-rising : (n : ℕ) (l : List ℕ) → EachBelow n l → Rising l → (x : ℕ) → x < n → tally (eqb x) l ≡ cond (some_of (eqb x) l) 1 0
tally-rising n l b r x h = ap (tally (eqb x)) (sym (listed-of-rising n l b r)) ∙ listed-tally n (λ v. some_of (eqb v) l) x h

pub length-rising : (n : ℕ) (l : List ℕ) → EachBelow n l → Rising l → length l ≤ n
length-rising n l b r = omega (arith, ap length (listed-of-rising n l b r), listed_le n (λ v. some_of (eqb v) l))

module _ (J : Job) (S : Sound J) where
  abbrev from : ℕ → ℕ
  from j = start J.ends j

  abbrev end : ℕ → ℕ
  end j = get_or J.ends j 0

  abbrev at : ℕ → ℕ
  at a = get_or J.occurrences a 0

  -- ---- the lists
  -- A word that there is not has no list.
  pub list-none : (j : ℕ) → words_of J ≤ j → list_of J j ≡ []
  unfolding word_list
  list-none j h =
      let z : end j - from j ≡ 0 = omega (arith, get_or-eq_default J.ends 0 h) in
      ap (λ (m : ℕ). take m (drop (from j) J.occurrences)) z

  pub list-long : (j : ℕ) → j < words_of J → length (list_of J j) ≡ end j - from j
  unfolding word_list
  list-long j l = length-take-le (end j - from j) (drop (from j) J.occurrences) (omega (arith, length-drop (from j) J.occurrences, (S.lists j l).within))

  pub list_at : (j i : ℕ) → i < end j - from j → get_or (list_of J j) i 0 ≡ at (from j + i)
  unfolding word_list
  list_at j i h = get_or-take (end j - from j) (drop (from j) J.occurrences) i 0 h ∙ get_or-drop (from j) J.occurrences i 0

  -- A place among the occurrences as one in the list.
  pub list-from : (j a : ℕ) → from j ≤ a → a < end j → get_or (list_of J j) (a - from j) 0 ≡ at a
  list-from j a h l = list_at j (a - from j) (omega arith) ∙ ap at (let z : from j + (a - from j) ≡ a = omega arith in z)

  pub none_in : (j i : ℕ) → words_of J ≤ j → i < length (list_of J j) → ⊥
  none_in j i h l = not-suc-le-zero (rw (list-none j h) at l)

  pub list-below : (j : ℕ) → j < 8 → EachBelow (nodes_of J) (list_of J j)
  list-below j l i h = ⊎_elim (λ (g : j < words_of J). (S.lists j g).list.below i h) (λ (g : words_of J ≤ j). absurd (none_in j i g h)) (less_or j (words_of J))

  pub list-rising : (j : ℕ) → j < 8 → Rising (list_of J j)
  list-rising j l i h = ⊎_elim (λ (g : j < words_of J). (S.lists j g).list.increasing i h) (λ (g : words_of J ≤ j). absurd (none_in j (suc i) g h)) (less_or j (words_of J))

  pub list_le : (j : ℕ) → j < 8 → length (list_of J j) ≤ nodes_of J
  list_le j l = length-rising (nodes_of J) (list_of J j) (list-below j l) (list-rising j l)

  pub occurrence-less : (j a b : ℕ) → j < words_of J → from j ≤ a → a < b → b < end j → at a < at b
  occurrence-less j a b l h g m =
      let r : get_or (list_of J j) (a - from j) 0 < get_or (list_of J j) (b - from j) 0 =
      rising-less (list_of J j) (list-rising j (omega (arith, S.few_words))) (a - from j) (b - from j) (omega arith) (omega (arith, list-long j l))
      in
      omega (arith, list-from j a h (omega arith), list-from j b (omega arith) m)

  pub occurrence-below : (j a : ℕ) → j < words_of J → from j ≤ a → a < end j → at a < nodes_of J
  occurrence-below j a l h g = omega (arith, list-from j a h g, list-below j (omega (arith, S.few_words)) (a - from j) (omega (arith, list-long j l)))
