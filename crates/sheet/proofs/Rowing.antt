-- The loop over the fields of a node line: what it knows at field i, which begins at place `at` of the line, and how a turn keeps it. Assumes nothing.
--   field_none, field-good, field-bad         one field against the number read from it
--   row-start, row-bad, row_last, row_step, row-end   the loop
-- Letters: w fields wanted, l line; c the writer of the cells at its start, d the writer now; f field, x its number.
use Prim.Native.Nat.{ℕ, suc, min, ◌+◌, ◌-◌, ◌≤◌, ◌<◌}
use mathlib.Core.Path.{◌≡◌, refl, sym, ap, ◌∙◌}
use mathlib.Core.Logic.{◌⊎◌, ⊎_elim}
use mathlib.Core.List.{List, [], ◌∷◌, ◌++◌, map}
use mathlib.Core.Bool.{Bool, true, false, not, ◌&&◌}
use native.Mathlib.Nat.{add-zero, not-le_of_lt}
use native.Mathlib.Numerals.{add-one}
use native.Mathlib.Omega.{arith}
use borrow.Author.Count.{below_none, below_more}
use borrow.Author.Tests.{le-leb, leb-true, ne_eqb, eqb-true, not-true}
use lib.Dec.{eqb, leb}
use lib.ListN.{length, get_or, take, drop, length-drop}
use lib.Seq.{take-suc, get_or-drop, drop-drop}
use Rattle.seq.specs.Below.{every_below}
use Rattle.seq.proofs.Laws.Bools.{bool_cases, bool_false, bool-not_both, and_right, and_both, and_false-left, and_false-right, or_cases, or_left, or_right}
use Rattle.seq.proofs.Laws.Below.{every_of_lem, every-fails, first-is}
use Rattle.std.specs.Prelude.{Some, None}
use Rattle.text.specs.Text.{field_length, fields, numeral, value, number_of}
use Rattle.text.specs.declared.Writer.{Writer}
use Rattle.text.specs.Buffers.{Added}
use Rattle.text.proofs.Laws.Text.{numeral-at, Number, number-some, number-none_is, value-small, field_length_le, fields-last, fields-more, fields-some, fields-first}
use Rattle.text.proofs.Laws.Adding.{added-start, added-step, added_same}
use Rattle.sheet.specs.Table.{occurrence, field_ok, row_ok}
use Rattle.sheet.specs.Inner.{most_in, RowRead}
use Rattle.sheet.specs.Promises.{row_read}

-- ---- one field
pub record Field (i : ℕ) (f : List ℕ) (x : ℕ) : Type 0 where
  pub ok : field_ok i f ≡ true
  pub same : x ≡ value f

most-mark : (i : ℕ) → occurrence i ≡ true → most_in i ≡ 1
unfolding most_in
most-mark i e = rw e

most_other : (i : ℕ) → occurrence i ≡ false → most_in i ≡ 99999
unfolding most_in
most_other i e = rw e

-- A field that is no number.
pub field_none : (i : ℕ) (f : List ℕ) → None ≡ number_of f → field_ok i f ≡ false
unfolding field_ok
field_none i f e = and_false-left (numeral f) _ (number-none_is f (sym e))

-- A field that is the number x.
module _ (i : ℕ) (f : List ℕ) (x : ℕ) (e : Some x ≡ number_of f) where
  is-number : Number f x
  is-number = number-some f x (sym e)

  pub field-good : x ≤ most_in i → Field i f x
  unfolding field_ok
  field-good h = record {
    ok = and_both (numeral f) _ is-number.is (⊎_elim
        (λ m. or_right (not (occurrence i)) _ (le-leb (value f) 1 (omega (arith, is-number.gives, most-mark i m))))
        (λ m. or_left (not (occurrence i)) _ (ap not m)) (bool_cases (occurrence i)));
    same = is-number.gives;
  }

  -- A field that passes holds no more than it may.
  field-most : field_ok i f ≡ true → x ≤ most_in i
  unfolding field_ok
  field-most q =
      ⊎_elim
      (λ m. ⊎_elim (λ r. absurd (bool-not_both (occurrence i) m (not-true (occurrence i) r)))
      (λ r. omega (arith, is-number.gives, leb-true (value f) 1 r, most-mark i m)) (or_cases (not (occurrence i)) (leb (value f) 1) (and_right (numeral f) _ q)))
      (λ m. omega (arith, is-number.gives, value-small f (numeral-at f is-number.is), most_other i m)) (bool_cases (occurrence i))

  pub field-bad : most_in i < x → field_ok i f ≡ false
  field-bad h = bool_false (field_ok i f) (λ q. not-le_of_lt h (field-most q))

-- ---- the fields of the line
pub record Rowing (w : ℕ) (l : List ℕ) (c d : Writer ℕ) (i at : ℕ) : Type 0 where
  pub inside : at ≤ length l
  -- the fields from i on are those of the rest of the line
  pub left : drop i (fields l) ≡ fields (drop at l)
  pub passed : (k : ℕ) → k < i → field_ok k (get_or (fields l) k []) ≡ true
  -- the numbers of the fields before i have been put behind the cells
  pub added : Added (map value (take i (fields l))) c d

pub row-start : (w : ℕ) (l : List ℕ) (c : Writer ℕ) → Rowing w l c c 0 0
row-start w l c = record {
  inside = omega arith;
  left = refl;
  passed = below_none (λ (k : ℕ). field_ok k (get_or (fields l) k []) ≡ true);
  added = added-start c;
}

map_more : (fs : List (List ℕ)) (i : ℕ) → i < length fs → map value (take (i + 1) fs) ≡ map value (take i fs) ++ (value (get_or fs i []) ∷ [])
map_more fs i h = ap (λ (k : ℕ). map value (take k fs)) (add-one i) ∙ ap (map value) (take-suc fs i [] h) ∙ map-append (take i fs) (get_or fs i [] ∷ [])
  where
    map-append : (x y : List (List ℕ)) → map value (x ++ y) ≡ map value x ++ map value y
    map-append [] y = refl
    map-append (f ∷ x) y = ap (λ (t : List ℕ). value f ∷ t) (map-append x y)

-- Where the first r of w fields pass, and there is no further one that does, these are what is read.
pub row_read_lem : (w : ℕ) (l : List ℕ) (r : ℕ) → r ≤ w → r ≤ length (fields l) → ((k : ℕ) → k < r → field_ok k (get_or (fields l) k []) ≡ true) →
    (r < min w (length (fields l)) → field_ok r (get_or (fields l) r []) ≡ false) → map value (take r (fields l)) ≡ row_read w l
unfolding row_read
row_read_lem w l r a b passed here =
    ap (λ (k : ℕ). map value (take k (fields l)))
    (first-is (min w (length (fields l))) (λ i. field_ok i (get_or (fields l) i [])) r (omega arith) passed here)

module _ (w : ℕ) (l : List ℕ) (c d : Writer ℕ) (i at : ℕ) (s : Rowing w l c d i at) where
  here : i < length (fields l)
  here = omega (arith, fields-some (drop at l), ap length s.left, length-drop i (fields l))

  -- The loop has ended, and there is a field too many.
  pub row-end : i ≡ w → RowRead w l c false d
  unfolding row_ok
  row-end h = record {
    good = sym (and_false-left (eqb (length (fields l)) w) _ (ne_eqb (length (fields l)) w (omega (arith, here))));
    cells = added_same _ _ c d s.added (row_read_lem w l i (omega arith) (omega (arith, here)) s.passed (λ q. absurd (not-le_of_lt q (omega arith))));
  }

  -- The field that begins at `at` ends at `to`.
  module _ (to : ℕ) (e : to ≡ at + field_length (drop at l)) where
    pub row-to : to ≤ length l
    row-to = omega (arith, field_length_le (drop at l), length-drop at l, s.inside)

    -- This is field i.
    field : List ℕ
    field = take (to - at) (drop at l)

    is_field : get_or (fields l) i [] ≡ field
    unfolding field
    is_field =
        ap (λ (k : ℕ). get_or (fields l) k []) (sym (add-zero i)) ∙ sym (get_or-drop i (fields l) 0 [])
        ∙ ap (λ (fs : List (List ℕ)). get_or fs 0 []) s.left ∙ fields-first (drop at l) ∙ ap (λ (k : ℕ). take k (drop at l)) size
      where
        size : field_length (drop at l) ≡ to - at
        size = omega arith

    module _ (h : i < w) where
      pub row-bad : field_ok i (take (to - at) (drop at l)) ≡ false → RowRead w l c false d
      unfolding field row_ok
      row-bad q = record {
        good = sym (and_false-right (eqb (length (fields l)) w) _ (every-fails w (λ k. field_ok k (get_or (fields l) k [])) i h fails));
        cells = added_same _ _ c d s.added (row_read_lem w l i (omega arith) (omega (arith, here)) s.passed (λ r. fails));
      }
        where
          fails : field_ok i (get_or (fields l) i []) ≡ false
          fails = ap (field_ok i) is_field ∙ q

      module _ (x : ℕ) (good : Field i (take (to - at) (drop at l)) x) (d' : Writer ℕ) (put : Added (x ∷ []) d d') where
        passes : (k : ℕ) → k < i + 1 → field_ok k (get_or (fields l) k []) ≡ true
        unfolding field
        passes = below_more (λ (k : ℕ). field_ok k (get_or (fields l) k []) ≡ true) i s.passed (ap (field_ok i) is_field ∙ good.ok)

        adding : Added (map value (take (i + 1) (fields l))) c d'
        unfolding field
        adding =
            added-step _ _ _ c d d' s.added put
            (map_more (fields l) i here ∙ ap (λ (v : ℕ). map value (take i (fields l)) ++ (v ∷ [])) (sym (good.same ∙ ap value (sym is_field))))

        -- The line ends here: it is good if this was the last field wanted.
        pub row_last : (b : Bool) → b ≡ eqb (i + 1) w → to ≡ length l → RowRead w l c b d'
        unfolding row_ok
        row_last b same z = record {
          good = same ∙ sym (ap (λ (m : ℕ). eqb m w && every_below w (λ k. field_ok k (get_or (fields l) k []))) size ∙ all (bool_cases (eqb (i + 1) w)));
          cells = added_same _ _ c d' adding (row_read_lem w l (i + 1) (omega arith) (omega (arith, size)) passes (λ r. absurd (not-le_of_lt r (omega (arith, size)))));
        }
          where
            size : length (fields l) ≡ i + 1
            size = omega (arith, here, length-drop i (fields l), ap length (s.left ∙ fields-last (drop at l) (omega (arith, length-drop at l, s.inside))))

            all : (eqb (i + 1) w ≡ true) ⊎ (eqb (i + 1) w ≡ false) → (eqb (i + 1) w && every_below w (λ k. field_ok k (get_or (fields l) k []))) ≡ eqb (i + 1) w
            all t =
                ⊎_elim (λ q. and_both _ _ q (every_of_lem w _ (λ k r. passes k (omega (arith, eqb-true (i + 1) w q)))) ∙ sym q)
                (λ q. and_false-left _ _ q ∙ sym q) t

        -- A comma follows.
        pub row_step : (to ≡ length l → ⊥) → Rowing w l c d' (i + 1) (to + 1)
        row_step z = record {
          inside = omega (arith, row-to);
          left = sym (drop-drop 1 i (fields l)) ∙ ap (drop 1) (s.left ∙ fields-more (drop at l) more)
              ∙ ap fields (drop-drop (suc (field_length (drop at l))) at l ∙ ap (λ (j : ℕ). drop j l) after);
          passed = passes;
          added = adding;
        }
          where
            more : field_length (drop at l) < length (drop at l)
            more = omega (arith, row-to, length-drop at l, s.inside)

            after : at + suc (field_length (drop at l)) ≡ to + 1
            after = omega arith
