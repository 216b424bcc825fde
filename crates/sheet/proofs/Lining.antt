-- The loop over the node lines: what it knows at node v, whose line begins at place `at` of the text, and how a turn keeps it. Assumes nothing.
--   rows_start, rows-full, rows-bad, rows_step, rows_end
-- Letters: w fields of a line, s text, a where the node lines begin, L all of them; c the writer of the cells at the start, d the writer now; l line.
use Prim.Native.Nat.{ℕ, zero, suc, min, ◌+◌, ◌-◌, ◌≤◌, ◌<◌}
use mathlib.Core.Path.{◌≡◌, refl, sym, ap, ap₂, ◌∙◌}
use mathlib.Core.Logic.{⊎_elim}
use mathlib.Core.List.{List, [], ◌∷◌, ◌++◌, map, append-nil, append_assoc}
use mathlib.Core.Bool.{Bool, true, false, cond}
use native.Mathlib.Nat.{add-zero, sub-zero, suc-sub-suc, not-le_of_lt, not-suc-le-zero, le_of_suc-le-suc}
use native.Mathlib.Numerals.{add-one}
use native.Mathlib.Omega.{arith}
use borrow.Author.Tests.{le-ltb, lt-ltb, eq-eqb, ne_eqb, eqb-true, eqb-false}
use lib.Dec.{eqb, ltb}
use lib.ListN.{length, get_or, take, drop, length-drop, drop_of_length-le}
use lib.Seq.{take_all, take-suc, get_or-drop, drop-drop}
use Rattle.seq.proofs.Laws.Bools.{bool_cases, and_left, and_right, and_both, and_false-left, and_false-right}
use Rattle.seq.proofs.Laws.Below.{every-at, first_le}
use Rattle.seq.proofs.Laws.Numbers.{less_or}
use Rattle.seq.proofs.Laws.Scan.{Scan, scan-start, scan_step, scan-fails, scan-end}
use Rattle.text.specs.Text.{line_length, first_line, after_line, all_lines, fields, value}
use Rattle.text.specs.declared.Writer.{Writer}
use Rattle.text.specs.Buffers.{Added}
use Rattle.text.proofs.Laws.Text.{line_length_le, lines_none, lines-some}
use Rattle.text.proofs.Laws.Adding.{added-start, added-step, added_same}
use Rattle.std.specs.Prelude.{Result, Ok, Err}
use Rattle.sheet.specs.declared.Broken.{Broken}
use Rattle.sheet.specs.declared.Broken.TheVariants.{Line}
use Rattle.sheet.specs.Table.{row_ok, row_of, cells_of}
use Rattle.sheet.specs.Inner.{node_line_ok, good_lines, rows_told, RowRead, RowsRead}
use Rattle.sheet.specs.Promises.{row_read, rows_read}
use Rattle.sheet.proofs.Rowing.{row_read_lem}

-- ---- what is read of lines
-- Of a good line all is read.
pub row-whole : (w : ℕ) (l : List ℕ) → row_ok w l ≡ true → row_read w l ≡ row_of l
unfolding row_ok row_of
row-whole w l e =
    sym (row_read_lem w l w (omega arith) (omega (arith, size)) (every-at w _ (and_right (eqb (length (fields l)) w) _ e)) (λ r. absurd (not-le_of_lt r (omega arith))))
    ∙ ap (map value) (take_all w (fields l) (omega (arith, size)))
  where
    size : length (fields l) ≡ w
    size = eqb-true (length (fields l)) w (and_left (eqb (length (fields l)) w) _ e)

pub rows_none : (w m : ℕ) → rows_read w m [] ≡ []
unfolding rows_read
rows_none w zero = refl
rows_none w (suc m) = refl

-- Where the first v lines are good, all of them is read.
pub rows-read : (w m : ℕ) (L : List (List ℕ)) (v : ℕ) → v ≤ m → v ≤ length L → ((k : ℕ) → k < v → row_ok w (get_or L k []) ≡ true) →
    cells_of (take v L) ++ rows_read w (m - v) (drop v L) ≡ rows_read w m L
unfolding rows_read cells_of
rows-read w m L zero a b h = ap (λ (k : ℕ). rows_read w k L) (sub-zero m)
rows-read w zero L (suc v) a b h = absurd (not-suc-le-zero a)
rows-read w (suc m) [] (suc v) a b h = absurd (not-suc-le-zero b)
rows-read w (suc m) (l ∷ L) (suc v) a b h =
    append_assoc (row_of l) (cells_of (take v L)) _
    ∙ ap₂ ◌++◌ (sym (row-whole w l first))
    (ap (λ (k : ℕ). cells_of (take v L) ++ rows_read w k (drop v L)) (suc-sub-suc m v)
    ∙ rows-read w m L v (le_of_suc-le-suc a) (le_of_suc-le-suc b) (λ k q. h (suc k) (omega arith)))
    ∙ ap (λ (t : Bool). row_read w l ++ cond t (rows_read w m L) []) (sym first)
  where
    first : row_ok w l ≡ true
    first = h zero (omega arith)

cells-append : (x : List (List ℕ)) (l : List ℕ) → cells_of (x ++ (l ∷ [])) ≡ cells_of x ++ row_of l
unfolding cells_of
cells-append [] l = append-nil (row_of l)
cells-append (f ∷ x) l = ap (λ (t : List ℕ). row_of f ++ t) (cells-append x l) ∙ sym (append_assoc (row_of f) (cells_of x) (row_of l))

-- One line more.
cells-more : (L : List (List ℕ)) (v : ℕ) → v < length L → cells_of (take (v + 1) L) ≡ cells_of (take v L) ++ row_of (get_or L v [])
cells-more L v h = ap (λ (k : ℕ). cells_of (take k L)) (add-one v) ∙ ap cells_of (take-suc L v [] h) ∙ cells-append (take v L) (get_or L v [])

pub drop_min : (k : ℕ) (s : List ℕ) → drop (min k (length s)) s ≡ drop k s
drop_min k s = ⊎_elim near far (less_or k (length s))
  where
    near : k < length s → drop (min k (length s)) s ≡ drop k s
    near h = ap (λ (j : ℕ). drop j s) size
      where
        size : min k (length s) ≡ k
        size = omega arith

    far : length s ≤ k → drop (min k (length s)) s ≡ drop k s
    far h = drop_of_length-le s {i = min k (length s)} (omega arith) ∙ sym (drop_of_length-le s h)

-- ---- the loop
pub record Lining (w : ℕ) (s : List ℕ) (a : ℕ) (c d : Writer ℕ) (v at : ℕ) : Type 0 where
  pub inside : at ≤ length s
  pub few : v ≤ 256
  -- the lines from v on are those of the rest of the text
  pub left : drop v (all_lines (drop a s)) ≡ all_lines (drop at s)
  pub scan : Scan (length (all_lines (drop a s))) (node_line_ok w (all_lines (drop a s))) v
  pub added : Added (cells_of (take v (all_lines (drop a s)))) c d

-- The outcome where all lines are good, and where line v is the first that is not.
pub all_good : (w v : ℕ) (L : List (List ℕ)) → v ≡ good_lines w L → v ≡ length L → Ok v ≡ rows_told w L
unfolding rows_told
all_good w v L e f = rw (eq-eqb (good_lines w L) (length L) (sym e ∙ f)) (ap Ok e)

pub one_bad : (w v : ℕ) (L : List (List ℕ)) → v ≡ good_lines w L → v < length L → Err (Line (v + 2)) ≡ rows_told w L
unfolding rows_told
one_bad w v L e l = rw (ne_eqb (good_lines w L) (length L) (omega arith)) (ap (λ (k : ℕ). Err (Line (k + 2))) e)

-- And what an outcome says.
pub record AllGood (w : ℕ) (L : List (List ℕ)) (n : ℕ) : Type 0 where
  pub is : n ≡ good_lines w L
  pub all : good_lines w L ≡ length L

pub told_ok : (w n : ℕ) (L : List (List ℕ)) → Ok n ≡ rows_told w L → AllGood w L n
unfolding rows_told
told_ok w n L e =
    ⊎_elim (λ q. record { is = yes (rw q at e); all = eqb-true (good_lines w L) (length L) q }) (λ q. absurd (no (rw q at e)))
    (bool_cases (eqb (good_lines w L) (length L)))
  where
    yes : ◌≡◌ {A = Result ℕ Broken} (Ok n) (Ok (good_lines w L)) → n ≡ good_lines w L
    yes q = cc

    no : ◌≡◌ {A = Result ℕ Broken} (Ok n) (Err (Line (good_lines w L + 2))) → ⊥
    no q = cc

pub record OneBad (w : ℕ) (L : List (List ℕ)) (b : Broken) : Type 0 where
  pub is : b ≡ Line (good_lines w L + 2)
  pub before : good_lines w L < length L

pub told_err : (w : ℕ) (b : Broken) (L : List (List ℕ)) → Err b ≡ rows_told w L → OneBad w L b
unfolding rows_told
told_err w b L e =
    ⊎_elim (λ q. absurd (no (rw q at e)))
    (λ q. record { is = yes (rw q at e); before = omega (arith, eqb-false (good_lines w L) (length L) q, first_le (length L) (node_line_ok w L)) })
    (bool_cases (eqb (good_lines w L) (length L)))
  where
    no : ◌≡◌ {A = Result ℕ Broken} (Err b) (Ok (good_lines w L)) → ⊥
    no q = cc

    yes : ◌≡◌ {A = Result ℕ Broken} (Err b) (Err (Line (good_lines w L + 2))) → b ≡ Line (good_lines w L + 2)
    yes q = cc

pub rows_start : (w : ℕ) (s : List ℕ) (a : ℕ) (c : Writer ℕ) → a ≤ length s → Lining w s a c c 0 a
unfolding cells_of
rows_start w s a c h = record {
  inside = h;
  few = omega arith;
  left = refl;
  scan = scan-start (length (all_lines (drop a s))) (node_line_ok w (all_lines (drop a s)));
  added = added-start c;
}

module _ (w : ℕ) (s : List ℕ) (a : ℕ) (c d : Writer ℕ) (v at : ℕ) (i : Lining w s a c d v at) where
  -- The lines of all nodes.
  abbrev L : List (List ℕ)
  L = all_lines (drop a s)

  good-lines : (k : ℕ) → k < v → row_ok w (get_or L k []) ≡ true
  good-lines k h = and_right (ltb k 256) _ (i.scan.passed k h)

  all_read : (t : List ℕ) → cells_of (take v L) ++ t ≡ cells_of (take v L) ++ rows_read w (256 - v) (drop v L) → cells_of (take v L) ++ t ≡ rows_read w 256 L
  all_read t e = e ∙ rows-read w 256 L v i.few i.scan.within good-lines

  -- The text has ended.
  pub rows_end : length s ≤ at → RowsRead w L c (Ok v) d
  rows_end h = record {
    told = all_good w v L (scan-end _ _ v i.scan (omega (arith, size))) size;
    cells = added_same _ _ c d i.added read;
  }
    where
      none : drop v L ≡ []
      none = i.left ∙ lines_none (drop at s) (omega (arith, length-drop at s))

      size : v ≡ length L
      size = omega (arith, i.scan.within, ap length none, length-drop v L)

      read : cells_of (take v L) ≡ rows_read w 256 L
      read = sym (append-nil (cells_of (take v L))) ∙ all_read [] (ap (λ (t : List ℕ). cells_of (take v L) ++ t) (sym (ap (rows_read w (256 - v)) none ∙ rows_none w (256 - v))))

  -- There is one more line.
  module _ (h : at < length s) where
    some : drop v L ≡ first_line (drop at s) ∷ all_lines (after_line (drop at s))
    some = i.left ∙ lines-some (drop at s) (omega (arith, length-drop at s))

    more : v < length L
    more = omega (arith, i.scan.within, ap length some, length-drop v L)

    is-line : get_or L v [] ≡ first_line (drop at s)
    is-line =
        ap (λ (k : ℕ). get_or L k []) (sym (add-zero v)) ∙ sym (get_or-drop v L 0 []) ∙ ap (λ (M : List (List ℕ)). get_or M 0 []) some

    -- A node after the 256th.
    pub rows-full : v ≡ 256 → RowsRead w L c (Err (Line (v + 2))) d
    unfolding rows_read
    rows-full e = record {
      told = one_bad w v L (scan-fails _ _ v i.scan (and_false-left (ltb v 256) _ (le-ltb v 256 (omega arith)))) more;
      cells = added_same _ _ c d i.added read;
    }
      where
        none : 256 - v ≡ 0
        none = omega arith

        read : cells_of (take v L) ≡ rows_read w 256 L
        read =
            sym (append-nil (cells_of (take v L)))
            ∙ all_read [] (ap (λ (k : ℕ). cells_of (take v L) ++ rows_read w k (drop v L)) (sym none))

    -- It ends at `to`.
    module _ (to : ℕ) (e : to ≡ at + line_length (drop at s)) where
      pub rows-to : to ≤ length s
      rows-to = omega (arith, line_length_le (drop at s), length-drop at s)

      same_line : get_or L v [] ≡ take (to - at) (drop at s)
      same_line = is-line ∙ ap (λ (k : ℕ). take k (drop at s)) size
        where
          size : line_length (drop at s) ≡ to - at
          size = omega arith

      -- The row that is read of it.
      module _ (r : Bool) (d' : Writer ℕ) (row : RowRead w (take (to - at) (drop at s)) d r d') (f : v ≡ 256 → ⊥) where
        l : List ℕ
        l = take (to - at) (drop at s)

        judged : row_ok w (get_or L v []) ≡ r
        judged = ap (row_ok w) same_line ∙ sym row.good

        next-line : drop v L ≡ get_or L v [] ∷ all_lines (after_line (drop at s))
        next-line = some ∙ ap (λ (x : List ℕ). x ∷ all_lines (after_line (drop at s))) (sym is-line)

        pub rows-bad : r ≡ false → RowsRead w L c (Err (Line (v + 2))) d'
        unfolding rows_read
        rows-bad b = record {
          told = one_bad w v L (scan-fails _ _ v i.scan (and_false-right (ltb v 256) _ (judged ∙ b))) more;
          cells = added-step _ _ _ c d d' i.added row.cells (sym read);
        }
          where
            count : 256 - v ≡ suc (255 - v)
            count = omega (arith, i.few)

            rest : row_read w (take (to - at) (drop at s)) ≡ rows_read w (256 - v) (drop v L)
            rest =
                ap (row_read w) (sym same_line) ∙ sym (append-nil (row_read w (get_or L v [])))
                ∙ ap (λ (t : Bool). row_read w (get_or L v []) ++ cond t (rows_read w (255 - v) (all_lines (after_line (drop at s)))) []) (sym (judged ∙ b))
                ∙ sym (ap₂ (rows_read w) count next-line)

            read : cells_of (take v L) ++ row_read w (take (to - at) (drop at s)) ≡ rows_read w 256 L
            read = all_read (row_read w (take (to - at) (drop at s))) (ap (λ (t : List ℕ). cells_of (take v L) ++ t) rest)

        pub rows_step : r ≡ true → Lining w s a c d' (v + 1) (min (to + 2) (length s))
        rows_step b = record {
          inside = omega arith;
          few = omega (arith, i.few);
          left = sym (drop-drop 1 v L) ∙ ap (drop 1) some ∙ ap all_lines after;
          scan = scan_step _ _ v i.scan more (and_both (ltb v 256) _ (lt-ltb v 256 (omega (arith, i.few))) (judged ∙ b));
          added = added-step _ _ _ c d d' i.added row.cells (sym read);
        }
          where
            place : at + (line_length (drop at s) + 2) ≡ to + 2
            place = omega arith

            after : after_line (drop at s) ≡ drop (min (to + 2) (length s)) s
            after = drop-drop (line_length (drop at s) + 2) at s ∙ ap (λ (j : ℕ). drop j s) place ∙ sym (drop_min (to + 2) s)

            read : cells_of (take v L) ++ row_read w (take (to - at) (drop at s)) ≡ cells_of (take (v + 1) L)
            read =
                ap (λ (t : List ℕ). cells_of (take v L) ++ t)
                (ap (row_read w) (sym same_line) ∙ row-whole w (get_or L v []) (judged ∙ b)) ∙ sym (cells-more L v more)
