-- The flagged entries of the words' lists: what the loops know, and how a turn keeps it. Assumes nothing.
--   lowest_step ..              the loop over one list
--   Seeking                     the loop over the words
-- Letters: ends, occ occurrences, fl flags, l list; i place in the list, x entry; j word, low the row of lowest entries, low₀ as it began.
use Prim.Native.Nat.{ℕ, suc, ◌+◌, ◌-◌, ◌≤◌, ◌<◌}
use mathlib.Core.Path.{◌≡◌, refl, sym, ap, ◌∙◌}
use mathlib.Core.List.{List, [], ◌∷◌}
use mathlib.Core.Bool.{Bool, true, false, not, cond, ◌||◌}
use native.Mathlib.Nat.{le_antisymm}
use native.Mathlib.Numerals.{add-one}
use native.Mathlib.Omega.{arith}
use borrow.Author.Tests.{lt-ltb, le-ltb, eq-eqb, ne_eqb}
use lib.ListN.{length, get_or, set, take, drop, replicate, drop_of_length-le}
use lib.Seq.{drop-cons}
use Rattle.std.specs.Prelude.{Option, Some, None, find}
use Rattle.seq.specs.Below.{tabulate}
use Rattle.seq.specs.Lists.{some_of, first_of, EachBelow}
use Rattle.seq.specs.Memory.{over}
use Rattle.seq.proofs.Laws.Bools.{cond-true, cond-false}
use Rattle.seq.proofs.Laws.Loops.{Filling, filling_start, filling_step}
use Rattle.seq.proofs.Laws.Memory.{over-nil}
use Rattle.seq.proofs.Laws.Scan.{Scan, scan-start, scan_step, scan-fails, scan-end}
use Rattle.index.specs.Index.{start, word_list}
use Rattle.index.proofs.Laws.Lists.{part-is, part-below}
use Rattle.reason.specs.declared.finding.Why.TheVariants.{NotListed, Listed}
use Rattle.reason.specs.Reasons.{NOT_LISTED, naming}
use Rattle.reason.specs.Inner.{flagged, lowest_by, lowest_in, unowned_by, FindPre, stops, Finds}
use Rattle.reason.proofs.Laws.Counts.{test_none, test_some}

-- ---- one list
module _ (fl l : List ℕ) (i : ℕ) (h : i < length l) where
  -- The entries from place i on, where the one at i is not flagged.
  pub lowest_step : find (flagged fl) (drop i l) ≡ lowest_by fl l → get_or fl (get_or l i 0) 0 ≡ 0 → find (flagged fl) (drop (i + 1) l) ≡ lowest_by fl l
  lowest_step s z =
      rw add-one (sym (rw (drop-cons l i 0 h) (ap (λ (b : Bool). cond b (Some (get_or l i 0)) (find (flagged fl) (drop (suc i) l))) (ap not (eq-eqb (get_or fl (get_or l i 0) 0) 0 z)))) ∙ s)

  pub lowest-here : find (flagged fl) (drop i l) ≡ lowest_by fl l → (get_or fl (get_or l i 0) 0 ≡ 0 → ⊥) → Some (get_or l i 0) ≡ lowest_by fl l
  lowest-here s ne =
      sym (rw (drop-cons l i 0 h) (ap (λ (b : Bool). cond b (Some (get_or l i 0)) (find (flagged fl) (drop (suc i) l))) (ap not (ne_eqb (get_or fl (get_or l i 0) 0) 0 ne)))) ∙ s

pub lowest-none : (fl l : List ℕ) (i : ℕ) → find (flagged fl) (drop i l) ≡ lowest_by fl l → length l ≤ i → None ≡ lowest_by fl l
lowest-none fl l i s h = sym (ap (find (flagged fl)) (drop_of_length-le l {i = i} h)) ∙ s

-- What is found is the first entry that is flagged, where some is.
find-some : (f : ℕ → Bool) (l : List ℕ) → find f l ≡ cond (some_of f l) (Some (first_of f 0 l)) None
unfolding some_of first_of
find-some f [] = refl
find-some f (x ∷ l) = by_test (f x) (some_of f l) (first_of f 0 l) (find f l) (find-some f l)
  where
    by_test : (b c : Bool) (y : ℕ) (r : Option ℕ) → r ≡ cond c (Some y) None → cond b (Some x) r ≡ cond (b || c) (Some (cond b x y)) None
    by_test true c y r e = refl
    by_test false c y r e = e

-- ---- the words, one after the other
-- Word j has a flagged entry.
abbrev pub has_one : List ℕ → List ℕ → List ℕ → ℕ → Bool
has_one ends occ fl j = some_of (flagged fl) (word_list ends occ j)

-- The words before j have one each, and the row begins with their lowest.
pub record Seeking (ends occ fl low₀ low : List ℕ) (begin j : ℕ) : Type 0 where
  pub begins : begin ≡ start ends j
  pub passed : Scan (length ends) (has_one ends occ fl) j
  pub filled : Filling (lowest_in ends occ fl) low₀ low j

pub seeking_start : (ends occ fl low₀ : List ℕ) → Seeking ends occ fl low₀ low₀ 0 0
unfolding start
seeking_start ends occ fl low₀ = record { begins = refl; passed = scan-start (length ends) (has_one ends occ fl); filled = filling_start (lowest_in ends occ fl) low₀ }

module _ (ends occ fl low₀ low : List ℕ) (begin j : ℕ) (pre : FindPre ends occ fl) (s : Seeking ends occ fl low₀ low begin j) (h : j < length ends) where
  -- The word's list ends here.
  abbrev to : ℕ
  to = get_or ends j 0

  -- The word's list, as the code takes it.
  abbrev part : List ℕ
  part = take (to - begin) (drop begin occ)

  pub list-below : EachBelow (length fl) part
  list-below = part-below (length fl) ends occ j begin to (pre.words j h) s.begins refl

  module _ (r : Option ℕ) (er : r ≡ lowest_by fl part) where
    r-is : r ≡ cond (has_one ends occ fl j) (Some (lowest_in ends occ fl j)) None
    r-is = er ∙ ap (lowest_by fl) (sym (part-is (length fl) ends occ j begin to (pre.words j h) s.begins refl)) ∙ find-some (flagged fl) (word_list ends occ j)

    -- The first word without a flagged entry.
    pub seeking_stops : r ≡ None → Finds ends occ fl (NotListed j)
    unfolding unowned_by
    seeking_stops e = record {
      reason = ap (naming NOT_LISTED) first ∙ sym (cond-true (stops ends occ fl) stopped _ _);
      occurrences = sym (ap (λ (t : List ℕ). over t (replicate 8 0)) (cond-true (stops ends occ fl) stopped _ _) ∙ over-nil (replicate 8 0));
    }
      where
        first : j ≡ unowned_by ends occ fl
        first = scan-fails (length ends) (has_one ends occ fl) j s.passed (test_none (has_one ends occ fl j) _ (sym e ∙ r-is))

        stopped : stops ends occ fl ≡ true
        stopped = lt-ltb (unowned_by ends occ fl) (length ends) (omega (arith, first))

    pub seeking_step : (x : ℕ) → r ≡ Some x → length low₀ ≡ 8 → Seeking ends occ fl low₀ (set low j x) to (j + 1)
    unfolding start
    seeking_step x e q = record {
      begins = rw (add-one j) refl;
      passed = scan_step (length ends) (has_one ends occ fl) j s.passed h (test_some (has_one ends occ fl j) x _ (sym e ∙ r-is)).0;
      filled = filling_step (lowest_in ends occ fl) low₀ low j x s.filled (omega (arith, pre.few_words)) (test_some (has_one ends occ fl j) x _ (sym e ∙ r-is)).1;
    }

-- Every word has a flagged entry.
pub seeking_end : (ends occ fl low : List ℕ) (begin j : ℕ) → Seeking ends occ fl (replicate 8 0) low begin j → length ends ≤ j →
    Finds ends occ fl (Listed low)
unfolding unowned_by
seeking_end ends occ fl low begin j s h = record {
  reason = sym (cond-false (stops ends occ fl) goes _ _);
  occurrences =
      s.filled.front ∙ ap (λ (z : ℕ). over (tabulate z (lowest_in ends occ fl)) (replicate 8 0)) whole
      ∙ sym (ap (λ (t : List ℕ). over t (replicate 8 0)) (cond-false (stops ends occ fl) goes _ _));
}
  where
    whole : j ≡ length ends
    whole = le_antisymm s.passed.within h

    goes : stops ends occ fl ≡ false
    goes = le-ltb (unowned_by ends occ fl) (length ends) (omega (arith, scan-end (length ends) (has_one ends occ fl) j s.passed h))
