-- Laws of the plain statements about numbers and lists. Assumes nothing.
--   lowest-first       the first number at which a test fails is the lowest bad one, where the test means what is kept
--   lowest_unique      there is one lowest bad number
--   first-are-listed   what is listed and written over the front of a buffer stands there as it should
--   first-are-once, first-are-total, first-are_unique   each number stands there once, and there is one way to write them
--   first-are-map      the same for a statement that means the same
--   stays-over         what is written over the front of a buffer leaves the rest
--   stays_unique       a buffer is fixed by its front and by what stays
-- Letters: n numbers, l list, m entries; i j k places; f test; o buffer as it was lent, o' o'' as it is.
use Prim.Native.Nat.{ℕ, zero, suc, ◌≤◌, ◌<◌}
use mathlib.Core.Path.{◌≡◌, sym, ap, ◌∙◌}
use mathlib.Core.Logic.{⊎_elim}
use mathlib.Core.List.{List}
use mathlib.Core.Bool.{Bool, true, cond}
use native.Mathlib.Nat.{le_antisymm, not-le_of_lt, not-suc-le-zero, le_of_suc-le-suc}
use native.Mathlib.Omega.{arith}
use lib.Dec.{eqb}
use borrow.Author.Tests.{eq-eqb, eqb-true}
use lib.ListN.{length, get_or, take}
use lib.Seq.{length-take-le, get_or-take, ext_get_or}
use Rattle.seq.specs.Below.{first_fail, sum_below, listed}
use Rattle.seq.specs.Lists.{some_of}
use Rattle.seq.specs.Memory.{over}
use Rattle.seq.specs.Plain.{LowestBad, Among, FirstAre, StaysFrom}
use Rattle.seq.proofs.Laws.Bools.{bool-not_both}
use Rattle.seq.proofs.Laws.Numbers.{less_or}
use Rattle.seq.proofs.Laws.Below.{first_below, first-at}
use Rattle.seq.proofs.Laws.Lists.{Entry, some_of-at, some_of-of}
use Rattle.seq.proofs.Laws.Members.{Rising, member_self, member_below, rising_unique, listed_below, listed-rising, listed_member, length-listed}
use Rattle.seq.proofs.Laws.Memory.{length_over, over-front, over-rest}

-- ---- the lowest bad number
pub lowest-first : (n : ℕ) (f : ℕ → Bool) (Keeps : ℕ → Type 0) → ((i : ℕ) → i < n → f i ≡ true → Keeps i) → ((i : ℕ) → i < n → Keeps i → f i ≡ true) →
    first_fail n f < n → LowestBad n Keeps (first_fail n f)
lowest-first n f Keeps to of h = record {
  within = h;
  before = λ k l. to k (omega arith) (first_below n f k l);
  breaks = λ q. bool-not_both (f (first_fail n f)) (of (first_fail n f) h q) (first-at n f h);
}

pub lowest_unique : (n : ℕ) (Keeps : ℕ → Type 0) (i j : ℕ) → LowestBad n Keeps i → LowestBad n Keeps j → i ≡ j
lowest_unique n Keeps i j a b =
    le_antisymm (⊎_elim (λ q. absurd (b.breaks (a.before j q))) (λ q. q) (less_or j i)) (⊎_elim (λ q. absurd (a.breaks (b.before i q))) (λ q. q) (less_or i j))

-- ---- what is written over the front of a buffer
pub stays-over : (new old : List ℕ) → length new ≤ length old → StaysFrom (length new) old (over new old)
stays-over new old l = record { long = length_over new old l; same = over-rest new old }

pub stays_unique : (m : ℕ) (o o' o'' : List ℕ) → StaysFrom m o o' → StaysFrom m o o'' → ((i : ℕ) → i < m → get_or o' i 0 ≡ get_or o'' i 0) → o' ≡ o''
stays_unique m o o' o'' a b front =
    ext_get_or 0 o' o'' (a.long ∙ sym b.long) (λ i l. ⊎_elim (λ q. front i q) (λ q. a.same i q ∙ sym (b.same i q)) (less_or i m))

-- ---- the first entries are the numbers of which a statement holds
pub first-are-map : (n : ℕ) (P Q : ℕ → Type 0) (m : ℕ) (l : List ℕ) → ((v : ℕ) → v < n → P v → Q v) → ((v : ℕ) → v < n → Q v → P v) → FirstAre n P m l → FirstAre n Q m l
first-are-map n P Q m l to of a = record {
  within = a.within;
  rising = a.rising;
  below = a.below;
  holds = λ i h. to (get_or l i 0) (a.below i h) (a.holds i h);
  has = λ v h q. a.has v h (of v h q);
}

-- An entry of the first m.
among_member : (m : ℕ) (l : List ℕ) (y : ℕ) → m ≤ length l → Among m l y → some_of (eqb y) (take m l) ≡ true
among_member m l y h a =
    some_of-of (eqb y) (take m l) a.at (omega (arith, a.within, length-take-le m l h)) (eq-eqb y _ (sym (get_or-take m l a.at 0 a.within ∙ a.is)))

member_among : (m : ℕ) (l : List ℕ) (y : ℕ) → m ≤ length l → some_of (eqb y) (take m l) ≡ true → Among m l y
member_among m l y h e =
    let r : Entry (eqb y) (take m l) = some_of-at (eqb y) (take m l) e in
    let b : r.at < m = omega (arith, r.below, length-take-le m l h) in
    record { at = r.at; within = b; is = sym (eqb-true y _ r.passes ∙ get_or-take m l r.at 0 b) }

module _ (n : ℕ) (f : ℕ → Bool) where
  pub first-are-listed : (o : List ℕ) → length (listed n f) ≤ length o → FirstAre n (λ v. f v ≡ true) (length (listed n f)) (over (listed n f) o)
  first-are-listed o h = record {
    within = omega (arith, length_over (listed n f) o h);
    rising = λ i l. rw (over-front (listed n f) o i (omega arith), over-front (listed n f) o (suc i) l) (listed-rising n f i l);
    below = λ i l. rw (over-front (listed n f) o i l) (listed_below n f i l);
    holds = λ i l.
        ap f (over-front (listed n f) o i l) ∙ sym (listed_member n f (get_or (listed n f) i 0) (listed_below n f i l)) ∙ member_self (listed n f) i l;
    has = λ v l e. placed v (some_of-at (eqb v) (listed n f) (listed_member n f v l ∙ e));
  }
    where
      placed : (v : ℕ) → Entry (eqb v) (listed n f) → Among (length (listed n f)) (over (listed n f) o) v
      placed v r = record { at = r.at; within = r.below; is = over-front (listed n f) o r.at r.below ∙ sym (eqb-true v _ r.passes) }

  -- There is one way to write them.
  pub first-are_unique : (m : ℕ) (l : List ℕ) → FirstAre n (λ v. f v ≡ true) m l → take m l ≡ listed n f
  first-are_unique m l a = rising_unique (take m l) (listed n f) rising (listed-rising n f) to of
    where
      long : length (take m l) ≡ m
      long = length-take-le m l a.within

      rising : Rising (take m l)
      rising i h = rw (get_or-take m l i 0 (omega (arith, long)), get_or-take m l (suc i) 0 (omega (arith, long))) (a.rising i (omega (arith, long)))

      to : (y : ℕ) → some_of (eqb y) (take m l) ≡ true → some_of (eqb y) (listed n f) ≡ true
      to y e =
          let r : Among m l y = member_among m l y a.within e in
          let b : y < n = omega (arith, r.is, a.below r.at r.within) in
          listed_member n f y b ∙ ap f (sym r.is) ∙ a.holds r.at r.within

      of : (y : ℕ) → some_of (eqb y) (listed n f) ≡ true → some_of (eqb y) (take m l) ≡ true
      of y e =
          let b : y < n = member_below n (listed n f) (listed_below n f) y e in
          among_member m l y a.within (a.has y b (sym (listed_member n f y b) ∙ e))

  -- So m is the number of those that pass.
  pub first-are-total : (m : ℕ) (l : List ℕ) → FirstAre n (λ v. f v ≡ true) m l → m ≡ sum_below n (λ v. cond (f v) 1 0)
  first-are-total m l a = sym (length-take-le m l a.within) ∙ ap length (first-are_unique m l a) ∙ length-listed n f

-- A later entry is greater.
pub first-are-less : (n : ℕ) (P : ℕ → Type 0) (m : ℕ) (l : List ℕ) → FirstAre n P m l → (i j : ℕ) → i < j → j < m → get_or l i 0 < get_or l j 0
first-are-less n P m l a i zero h b = absurd (not-suc-le-zero h)
first-are-less n P m l a i (suc j) h b =
    let last : get_or l j 0 < get_or l (suc j) 0 = a.rising j b in
    ⊎_elim (λ q. omega (arith, first-are-less n P m l a i j q (omega arith)))
    (λ q. omega (arith, ap (λ (k : ℕ). get_or l k 0) (le_antisymm q (le_of_suc-le-suc h)))) (less_or i j)

-- Each stands there once.
pub first-are-once : (n : ℕ) (P : ℕ → Type 0) (m : ℕ) (l : List ℕ) → FirstAre n P m l → (i j : ℕ) → i < m → j < m → get_or l i 0 ≡ get_or l j 0 → i ≡ j
first-are-once n P m l a i j hi hj e = le_antisymm (no_less j i hi (sym e)) (no_less i j hj e)
  where
    no_less : (i j : ℕ) → j < m → get_or l i 0 ≡ get_or l j 0 → j ≤ i
    no_less i j hj e = ⊎_elim (λ q. absurd (not-le_of_lt (first-are-less n P m l a i j q hj) (omega arith))) (λ q. q) (less_or i j)
