-- What is known of a table that has been read. Assumes nothing.
--   taken_at            a text that gives a table keeps every rule: its words and nodes are few, and the cells read are those of the table
--   read-table_unique   no second outcome fits `read_table`
-- Letters: s text; t the table's numbers of words and nodes; c the cells lent, a b the cells at the end, r q the result.
use Prim.Native.Nat.{ℕ, suc, ◌+◌, ◌-◌, ◌*◌, ◌≤◌, ◌<◌}
use mathlib.Core.Path.{◌≡◌, sym, ap, ap₂, ◌∙◌}
use mathlib.Core.Logic.{⊎_elim}
use mathlib.Core.List.{List, [], ◌∷◌, ◌++◌, append-nil}
use mathlib.Core.Bool.{true, false, ◌&&◌, false≢true}
use native.Mathlib.Nat.{not-suc-le-zero, le_of_suc-le-suc, zero-mul, suc-mul}
use native.Mathlib.Omega.{arith}
use borrow.Author.Tests.{leb-true, eqb-true}
use lib.Dec.{eqb, ltb, leb}
use lib.ListN.{length, get_or, length-append, length-map}
use lib.Seq.{take-length, drop-length}
use Rattle.seq.specs.Below.{first_fail}
use Rattle.seq.specs.Lists.{same_list}
use Rattle.seq.proofs.Laws.Bools.{bool_cases, bool_false, and_left, and_right}
use Rattle.seq.proofs.Laws.Below.{first_below}
use Rattle.seq.proofs.Laws.Numbers.{less_or}
use Rattle.text.specs.Text.{first_line, after_line, all_lines, lines, fields, value}
use Rattle.sheet.specs.declared.Shape.{Shape}
use Rattle.std.specs.Prelude.{Result, Ok, Err}
use Rattle.sheet.specs.declared.Broken.{Broken}
use Rattle.sheet.specs.declared.Broken.TheVariants.{TooLong}
use Rattle.sheet.specs.Table.{Table, header_text, positives, negatives, words_of, header_ok, width, row_ok, line_ok, broken, row_of, cells_of, table_of}
use Rattle.sheet.specs.Inner.{node_line_ok}
use Rattle.sheet.specs.Promises.{shape_of, read_lines, read_of, cells_read, rows_read, TableRead}
use Rattle.sheet.proofs.Lining.{rows_none, rows-read}
use Rattle.sheet.proofs.Tabling.{read-broken, read_taken}

abbrev table_in : Shape → List ℕ → Table
table_in t cs = record { positive = t.p; negative = t.q; nodes = t.n; cells = cs }

pub record Taking (s : List ℕ) (t : Shape) : Type 0 where
  pub some_positive : 1 ≤ t.p
  pub words : t.p + t.q ≤ 8
  pub nodes : t.n ≤ 256
  pub size : length (cells_read s) ≡ t.n * width (t.p + t.q)
  pub table : table_of (lines s) ≡ table_in t (cells_read s)

-- ---- what each good line holds
cells-size : (w : ℕ) (L : List (List ℕ)) → ((v : ℕ) → v < length L → row_ok w (get_or L v []) ≡ true) → length (cells_of L) ≡ length L * w
unfolding cells_of row_of row_ok
cells-size w [] h = sym (zero-mul w)
cells-size w (l ∷ L) h =
    omega (
      arith,
      length-append (row_of l) (cells_of L),
      length-map (fields l) value,
      eqb-true (length (fields l)) w (and_left (eqb (length (fields l)) w) _ (h 0 (omega arith))),
      cells-size w L (λ v q. h (suc v) (omega arith)),
      suc-mul (length L) w,
    )

header_at : (l : List ℕ) → header_ok l ≡ true → ((leb 1 (positives l) && leb (words_of l) 8) && same_list l (header_text (positives l) (negatives l))) ≡ true
unfolding header_ok
header_at l e = e

-- ---- a text by its outcome
clash : (b : Broken) (t : Shape) → ◌≡◌ {A = Result Shape Broken} (Err b) (Ok t) → ⊥
clash b t q = cc

module _ (s : List ℕ) (t : Shape) (e : read_of s ≡ Ok t) where
  -- The header line, the node lines, and how many fields these must have.
  abbrev l : List ℕ
  l = first_line s

  abbrev L : List (List ℕ)
  L = all_lines (after_line s)

  abbrev w : ℕ
  w = width (words_of (first_line s))

  short : ltb 16384 (length s) ≡ false
  unfolding read_of
  short = bool_false (ltb 16384 (length s)) (λ q. clash TooLong t (rw q at e))

  by_lines : read_lines (lines s) ≡ Ok t
  unfolding read_of
  by_lines = rw short at e

  -- No line breaks a rule.
  whole : length (lines s) ≤ broken (lines s)
  whole = ⊎_elim (λ q. absurd (clash _ t (sym (read-broken (lines s) q) ∙ by_lines))) (λ q. q) (less_or (broken (lines s)) (length (lines s)))

  is_shape : shape_of (table_of (lines s)) ≡ t
  is_shape = let e : ◌≡◌ {A = Result Shape Broken} (Ok (shape_of (table_of (lines s)))) (Ok t) = sym (read_taken (lines s) whole) ∙ by_lines in cc

  header : header_ok l ≡ true
  unfolding broken lines first_fail line_ok
  header = ⊎_elim (λ q. q) (λ q. absurd (not-suc-le-zero (rw q at whole))) (bool_cases (header_ok l))

  rows : length L ≤ first_fail (length L) (node_line_ok w L)
  unfolding broken lines first_fail line_ok
  rows = le_of_suc-le-suc (rw header at whole)

  node : (v : ℕ) → v < length L → node_line_ok w L v ≡ true
  node v h = first_below (length L) (node_line_ok w L) v (omega (arith, rows))

  few : length L ≤ 256
  few = ⊎_elim (λ q. absurd (false≢true (and_left (ltb 256 256) (row_ok w (get_or L 256 [])) (node 256 q)))) (λ q. q) (less_or 256 (length L))

  good : (v : ℕ) → v < length L → row_ok w (get_or L v []) ≡ true
  good v h = and_right (ltb v 256) _ (node v h)

  all-cells : cells_read s ≡ cells_of L
  unfolding cells_read
  all-cells =
      rw (short, header)
      (sym (rows-read w 256 L (length L) few (omega arith) good)
      ∙ ap₂ (λ (x y : List (List ℕ)). cells_of x ++ rows_read w (256 - length L) y) (take-length L) (drop-length L)
      ∙ ap (λ (x : List ℕ). cells_of L ++ x) (rows_none w (256 - length L)) ∙ append-nil (cells_of L))

  pub taken_at : Taking s t
  unfolding table_of lines
  taken_at = record {
    some_positive = omega (arith, p, leb-true 1 (positives l) (and_left (leb 1 (positives l)) _ (and_left (leb 1 (positives l) && leb (words_of l) 8) _ lawful)));
    words = omega (arith, p, q, leb-true (words_of l) 8 (and_right (leb 1 (positives l)) _ (and_left (leb 1 (positives l) && leb (words_of l) 8) _ lawful)));
    nodes = omega (arith, n, few);
    size = ap length all-cells ∙ cells-size w L good ∙ ap₂ (λ (a b : ℕ). a * width b) n (ap₂ ◌+◌ p q);
    table = λ i. record { positive = p i; negative = q i; nodes = n i; cells = sym all-cells i };
  }
    where
      p : positives l ≡ t.p
      p = ap (λ (x : Shape). x.p) is_shape

      q : negatives l ≡ t.q
      q = ap (λ (x : Shape). x.q) is_shape

      n : length L ≡ t.n
      n = ap (λ (x : Shape). x.n) is_shape

      lawful : ((leb 1 (positives l) && leb (words_of l) 8) && same_list l (header_text (positives l) (negatives l))) ≡ true
      lawful = header_at l header

-- ---- no second outcome fits
pub record SameRead (r q : Result Shape Broken) (a b : List ℕ) : Type 0 where
  pub read : r ≡ q
  pub cells : a ≡ b

pub read-table_unique : (s c : List ℕ) (r q : Result Shape Broken) (a b : List ℕ) → TableRead s c r a → TableRead s c q b → SameRead r q a b
read-table_unique s c r q a b x y = record { read = x.read ∙ sym y.read; cells = x.cells ∙ sym y.cells }
