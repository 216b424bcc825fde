-- Counting answers from the last to the first, and where each of them is listed. Assumes nothing.
--   listed-place        where a number that passes is listed: behind the lower ones
--   past-none           no answer from s on: none is counted
--   past-closed         the top is closed, with the nodes up to q
--   past-arrived        a node comes: nothing changes
--   past_split          all answers: those before a node, the node itself, those past it
--   past-root           the root is closed last
--   past-place, place_in   the place of an answer, by the number of answers that are left
--   answer-listed, answer-row   what is listed there, and the row of its own counts
-- Letters: J job; b whether the smallest are listed; s the first node met; v, q, r, x nodes, j word.
use Prim.Native.Nat.{ℕ, zero, suc, ◌+◌, ◌-◌, ◌*◌, ◌≤◌, ◌<◌}
use mathlib.Core.Path.{◌≡◌, refl, sym, ap, ap₂, ◌∙◌}
use mathlib.Core.List.{List, [], ◌∷◌, ◌++◌}
use mathlib.Core.Bool.{Bool, true, false, cond, ◌&&◌}
use mathlib.Core.Logic.{⊎_elim}
use native.Mathlib.Nat.{not-suc-le-zero}
use native.Mathlib.Omega.{arith}
use lib.Dec.{leb, ltb, eqb}
use borrow.Author.Tests.{lt-ltb, le-ltb, ltb-true, le-leb, leb-true, eq-eqb, ne_eqb}
use lib.ListN.{length, get_or, length-append, get_or-append}
use lib.Seq.{get_or_at}
use Rattle.seq.specs.Below.{sum_below, gather, listed}
use Rattle.seq.proofs.Laws.Bools.{bool_cases, bool_false, and_left, and_right, and_false-right}
use Rattle.seq.proofs.Laws.Numbers.{less_or}
use Rattle.seq.proofs.Laws.Sums.{sum_ext, sum-none, sum-add, sum-pick, sum-suc}
use Rattle.seq.proofs.Laws.Gather.{gather_le, gather-rows}
use Rattle.seq.proofs.Laws.Members.{length-listed}
use Rattle.answers.specs.Answers.{own_count}
use Rattle.engine.specs.Inner.Going.{Job, nodes_of, words_of, list_of, is_answer, answers_of, total, own_rows, past_of}

-- ---- the place of a number that is listed
listed_more : (n : ℕ) (f : ℕ → Bool) → f n ≡ true → listed (suc n) f ≡ listed n f ++ (n ∷ [])
unfolding listed gather
listed_more n f e = rw e

listed-less : (n : ℕ) (f : ℕ → Bool) → f n ≡ false → (i : ℕ) → i < length (listed n f) → get_or (listed (suc n) f) i 0 ≡ get_or (listed n f) i 0
unfolding listed gather
listed-less n f e i l = rw e (get_or-append (gather n f (λ i. i ∷ [])) [] 0 i l)

listed_upto : (m n : ℕ) (f : ℕ → Bool) → m ≤ n → length (listed m f) ≤ length (listed n f)
unfolding listed
listed_upto m n f l = gather_le m n f (λ i. i ∷ []) l

-- The numbers that pass and are below v are fewer than those below n.
listed-before : (n : ℕ) (f : ℕ → Bool) (v : ℕ) → v < n → f v ≡ true → length (listed v f) < length (listed n f)
listed-before n f v l e =
    omega (arith, ap length (listed_more v f e), length-append (listed v f) (v ∷ []), listed_upto (suc v) n f l)

pub listed-place : (n : ℕ) (f : ℕ → Bool) (v : ℕ) → v < n → f v ≡ true → get_or (listed n f) (length (listed v f)) 0 ≡ v
listed-place zero f v l e = absurd (not-suc-le-zero l)
listed-place (suc n) f v l e =
    ⊎_elim
    (λ (h : v < n). ⊎_elim
    (λ q. ap (λ (z : List ℕ). get_or z (length (listed v f)) 0) (listed_more n f q) ∙ get_or-append (listed n f) (n ∷ []) 0 (length (listed v f)) (listed-before n f v h e) ∙ listed-place n f v h e)
    (λ q. listed-less n f q (length (listed v f)) (listed-before n f v h e) ∙ listed-place n f v h e)
    (bool_cases (f n)))
    (λ (h : n ≤ v). let z : v ≡ n = omega arith in
    rw z (ap (λ (z : List ℕ). get_or z (length (listed n f)) 0) (listed_more n f (rw z at e)) ∙ get_or_at (listed n f) n [] 0 (length (listed n f)) refl))
    (less_or v n)

-- ---- sums in parts
-- Of a sum, what is below v.
sum-before : (n : ℕ) (g : ℕ → ℕ) (v : ℕ) → v ≤ n → sum_below n (λ r. cond (ltb r v) (g r) 0) ≡ sum_below v g
sum-before zero g v l = let z : v ≡ 0 = omega arith in rw z (sum-none 0 _ (λ i h. absurd (not-suc-le-zero h)) ∙ sym (sum-none 0 g (λ i h. absurd (not-suc-le-zero h))))
sum-before (suc n) g v l =
    ⊎_elim
    (λ (h : n < v). let z : v ≡ suc n = omega arith in rw z (sum_ext (suc n) _ g (λ r b. rw (lt-ltb r (suc n) b))))
    (λ (h : v ≤ n). sum-suc n (λ r. cond (ltb r v) (g r) 0) ∙ rw (le-ltb n v h) (omega (arith, sum-before n g v h)))
    (less_or n v)

module _ (J : Job) (b : Bool) where
  abbrev past : ℕ → ℕ → ℕ → Bool
  past s v r = (ltb v r && leb s r) && is_answer J b r

  -- ---- what is counted
  pub past-none : (s v : ℕ) → ((r : ℕ) → r < nodes_of J → s ≤ r → is_answer J b r ≡ true → ⊥) → past_of J b s v ≡ 0
  unfolding past_of
  past-none s v none =
      sum-none (nodes_of J) _
      (λ r l. ap (λ (z : Bool). cond z 1 0) (bool_false (past s v r) (λ z. none r l (leb-true s r (and_right (ltb v r) _ (and_left _ _ z))) (and_right (ltb v r && leb s r) _ z))))

  -- The answers past q are those past v, and v, where none is between.
  pub past-closed : (s q v : ℕ) → q < v → v < nodes_of J → s ≤ v → ((r : ℕ) → q < r → r < v → s ≤ r → is_answer J b r ≡ true → ⊥) →
      past_of J b s q ≡ past_of J b s v + cond (is_answer J b v) 1 0
  unfolding past_of
  past-closed s q v h l m none =
      sum_ext (nodes_of J) _ (λ r. cond (past s v r) 1 0 + cond (eqb v r) (cond (is_answer J b r) 1 0) 0) (λ r k. one r)
      ∙ sum-add (nodes_of J) (λ r. cond (past s v r) 1 0) (λ r. cond (eqb v r) (cond (is_answer J b r) 1 0) 0)
      ∙ ap (λ (z : ℕ). sum_below (nodes_of J) (λ r. cond (past s v r) 1 0) + z) (sum-pick (nodes_of J) (λ r. cond (is_answer J b r) 1 0) v l)
    where
      no_answer : (r : ℕ) → r < v → past s q r ≡ true → ⊥
      no_answer r g z = none r (ltb-true q r (and_left _ _ (and_left _ _ z))) g (leb-true s r (and_right (ltb q r) _ (and_left _ _ z))) (and_right (ltb q r && leb s r) _ z)

      one : (r : ℕ) → ◌≡◌ {A = ℕ} (cond (past s q r) 1 0) (cond (past s v r) 1 0 + cond (eqb v r) (cond (is_answer J b r) 1 0) 0)
      one r =
          ⊎_elim
          (λ (g : v < r). rw (lt-ltb q r (omega arith), lt-ltb v r g, ne_eqb v r (λ (z : v ≡ r). omega arith)) (omega arith))
          (λ (g : r ≤ v). ⊎_elim
          (λ (k : r < v). rw (bool_false (past s q r) (no_answer r k), le-ltb v r g, ne_eqb v r (λ (z : v ≡ r). omega arith)) refl)
          (λ (k : v ≤ r). let z : r ≡ v = omega arith in rw (z, lt-ltb q v h, le-leb s v m, le-ltb v v (omega arith), eq-eqb v v refl) (omega arith))
          (less_or r v))
          (less_or v r)

  -- Where x comes, what is past the old top from suc x on is what is past x from the next reach on.
  pub past-arrived : (v x r : ℕ) → v ≤ x → r ≤ x → past_of J b (suc x) v ≡ past_of J b r x
  unfolding past_of
  past-arrived v x r h m = sum_ext (nodes_of J) _ _ (λ q l. ap (λ (z : Bool). cond (z && is_answer J b q) 1 0) (same q))
    where
      same : (q : ℕ) → (ltb v q && leb (suc x) q) ≡ (ltb x q && leb r q)
      same q =
          ⊎_elim
          (λ (l : x < q). rw (lt-ltb v q (omega arith), lt-ltb x q l, le-leb r q (omega arith)))
          (λ (l : q ≤ x). rw (le-ltb x q l) (and_false-right (ltb v q) false refl))
          (less_or x q)

  -- ---- all answers
  pub past_split : (s v : ℕ) → v < nodes_of J → s ≤ v → total J b ≡ length (listed v (is_answer J b)) + (cond (is_answer J b v) 1 0 + past_of J b s v)
  unfolding past_of
  past_split s v l m =
      length-listed (nodes_of J) (is_answer J b)
      ∙ sum_ext (nodes_of J) _ (λ r. cond (ltb r v) (cond (is_answer J b r) 1 0) 0 + (cond (eqb v r) (cond (is_answer J b r) 1 0) 0 + cond (past s v r) 1 0)) (λ r k. one r)
      ∙ sum-add (nodes_of J) (λ r. cond (ltb r v) (cond (is_answer J b r) 1 0) 0) (λ r. cond (eqb v r) (cond (is_answer J b r) 1 0) 0 + cond (past s v r) 1 0)
      ∙ ap₂ ◌+◌
      (sum-before (nodes_of J) (λ r. cond (is_answer J b r) 1 0) v (omega arith) ∙ sym (length-listed v (is_answer J b)))
      (sum-add (nodes_of J) (λ r. cond (eqb v r) (cond (is_answer J b r) 1 0) 0) (λ r. cond (past s v r) 1 0)
      ∙ ap (λ (z : ℕ). z + sum_below (nodes_of J) (λ r. cond (past s v r) 1 0)) (sum-pick (nodes_of J) (λ r. cond (is_answer J b r) 1 0) v l))
    where
      one : (r : ℕ) → ◌≡◌ {A = ℕ} (cond (is_answer J b r) 1 0) (cond (ltb r v) (cond (is_answer J b r) 1 0) 0 + (cond (eqb v r) (cond (is_answer J b r) 1 0) 0 + cond (past s v r) 1 0))
      one r =
          ⊎_elim
          (λ (g : r < v). rw (lt-ltb r v g, ne_eqb v r (λ (z : v ≡ r). omega arith), le-ltb v r (omega arith)) (omega arith))
          (λ (g : v ≤ r). ⊎_elim
          (λ (k : v < r). rw (le-ltb r v g, ne_eqb v r (λ (z : v ≡ r). omega arith), lt-ltb v r k, le-leb s r (omega arith)) (omega arith))
          (λ (k : r ≤ v). rw (le-ltb r v g, eq-eqb v r (omega arith), le-ltb v r k) (omega arith))
          (less_or v r))
          (less_or r v)

  -- The root is closed last.
  pub past-root : (s : ℕ) → 0 < nodes_of J → s ≤ 0 → total J b ≡ past_of J b s 0 + cond (is_answer J b 0) 1 0
  past-root s l m = omega (arith, past_split s 0 l m, length-listed 0 (is_answer J b), sum-none 0 (λ i. cond (is_answer J b i) 1 0) (λ i h. absurd (not-suc-le-zero h)))

  -- ---- the place of an answer v, where m answers are left and those past v are met
  module _ (s v m : ℕ) (l : v < nodes_of J) (h : s ≤ v) (left : m + past_of J b s v ≡ total J b) (is : is_answer J b v ≡ true) where
    pub past-place : m ≡ suc (length (listed v (is_answer J b)))
    past-place = omega (arith, rw is at (past_split s v l h))

    place-before : m - 1 ≡ length (listed v (is_answer J b))
    place-before = omega (arith, past-place)

    pub place_in : m - 1 < total J b
    place_in = omega (arith, past-place)

    pub answer-listed : get_or (answers_of J b) (m - 1) 0 ≡ v
    answer-listed = ap (λ (i : ℕ). get_or (answers_of J b) i 0) place-before ∙ listed-place (nodes_of J) (is_answer J b) v l is

    pub answer-row : (j : ℕ) → j < words_of J → get_or (own_rows J b) ((m - 1) * words_of J + j) 0 ≡ own_count J.parents (words_of J) (list_of J) v j
    unfolding own_rows
    answer-row j lj =
        gather-rows (words_of J) (nodes_of J) (is_answer J b) (own_count J.parents (words_of J) (list_of J)) (m - 1) j place_in lj
        ∙ ap (λ (r : ℕ). own_count J.parents (words_of J) (list_of J) r j) answer-listed
