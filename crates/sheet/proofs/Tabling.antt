-- The whole text: its header, and then its node lines. Assumes nothing.
--   header-judged                      what the header test says of the first line
--   table-long, table-header, table-broken, table_taken    the four outcomes
-- Letters: s text, L its node lines; to where its first line ends; p positive, q negative words; c the cells lent, or their writer, c' the same at the end.
use Prim.Native.Nat.{ℕ, suc, min, ◌+◌, ◌*◌, ◌≤◌, ◌<◌}
use mathlib.Core.Path.{◌≡◌, refl, sym, ap, ap₂, ◌∙◌}
use mathlib.Core.List.{List}
use mathlib.Core.Bool.{Bool, true, false, ◌&&◌}
use native.Mathlib.Numerals.{add-two}
use native.Mathlib.Omega.{arith}
use borrow.Author.Tests.{le-ltb, lt-ltb, leb-true}
use lib.Dec.{leb}
use lib.ListN.{length, take, drop}
use Rattle.seq.specs.Below.{first_fail}
use Rattle.seq.specs.Lists.{same_list}
use Rattle.seq.proofs.Laws.Bools.{and_left, and_right}
use Rattle.seq.proofs.Laws.Below.{first_le}
use Rattle.text.specs.Text.{line_length, first_line, after_line, all_lines, lines}
use Rattle.text.specs.Buffers.{front}
use Rattle.text.proofs.Laws.Text.{line_length_le}
use Rattle.text.proofs.Laws.Buffers.{front-nil, adds-all}
use Rattle.text.specs.declared.Writer.{Writer}
use Rattle.std.specs.Prelude.{Result, Ok, Err}
use Rattle.sheet.specs.declared.Shape.{Shape}
use Rattle.sheet.specs.declared.Broken.{Broken}
use Rattle.sheet.specs.declared.Broken.TheVariants.{TooLong, Line}
use Rattle.sheet.specs.Table.{header_text, positives, negatives, words_of, header_ok, width, line_ok, broken, table_of}
use Rattle.sheet.specs.Inner.{node_line_ok, good_lines, RowsRead}
use Rattle.sheet.specs.Promises.{shape_of, read_lines, read_of, cells_read, TableRead}
use Rattle.sheet.proofs.Lining.{drop_min, AllGood, told_ok, OneBad, told_err}

pub table-long : (s c : List ℕ) → 16384 < length s → TableRead s c (Err TooLong) c
unfolding read_of cells_read
table-long s c h = record {
  read = sym (rw (lt-ltb 16384 (length s) h));
  cells = sym (rw (lt-ltb 16384 (length s) h) (front-nil c));
}

-- ---- a text that is not too long, by its header
module _ (s c : List ℕ) (h : length s ≤ 16384) where
  pub read-lines : read_of s ≡ read_lines (lines s)
  unfolding read_of
  read-lines = rw (le-ltb 16384 (length s) h)

  pub table-header : header_ok (first_line s) ≡ false → TableRead s c (Err (Line 1)) c
  unfolding cells_read read_lines broken lines first_fail line_ok
  table-header e = record {
    read = sym (read-lines ∙ rw e (rw (lt-ltb 0 (suc (length (all_lines (after_line s)))) (omega arith))));
    cells = sym (rw (le-ltb 16384 (length s) h, e) (front-nil c));
  }

-- ---- a text by its lines
pub read-broken : (L : List (List ℕ)) → broken L < length L → read_lines L ≡ Err (Line (suc (broken L)))
unfolding read_lines
read-broken L h = rw (lt-ltb (broken L) (length L) h)

pub read_taken : (L : List (List ℕ)) → length L ≤ broken L → read_lines L ≡ Ok (shape_of (table_of L))
unfolding read_lines
read_taken L h = rw (le-ltb (broken L) (length L) h)

shape_is : (p q n p' q' n' : ℕ) → p ≡ p' → q ≡ q' → n ≡ n' → ◌≡◌ {A = Result Shape Broken} (Ok (record { p = p; q = q; n = n })) (Ok (record { p = p'; q = q'; n = n' }))
shape_is p q n p' q' n' a b c = λ i. Ok (record { p = a i; q = b i; n = c i })

-- ---- the header
pub record Head (s : List ℕ) (to p q : ℕ) : Type 0 where
  pub ends : to ≡ line_length s
  pub positive : p ≡ positives (take to s)
  pub negative : q ≡ negatives (take to s)

-- As the code finds it: the first line begins at place 0.
pub head_of : (s : List ℕ) (to p q : ℕ) → to ≡ 0 + line_length s → p ≡ positives (take to s) → q ≡ negatives (take to s) → Head s to p q
head_of s to p q e f g = record { ends = omega arith; positive = f; negative = g }

pub first_to : (s : List ℕ) (to : ℕ) → to ≡ 0 + line_length s → to ≤ length s
first_to s to e = omega (arith, line_length_le s)

-- The test for a header, apart.
abbrev tested : List ℕ → ℕ → ℕ → Bool
tested l p q = (leb 1 p && leb (p + q) 8) && same_list l (header_text p q)

module _ (s : List ℕ) (to p q : ℕ) (d : Head s to p q) where
  same_line : take to s ≡ first_line s
  same_line = ap (λ (k : ℕ). take k s) d.ends

  is-p : p ≡ positives (first_line s)
  is-p = d.positive ∙ ap positives same_line

  is-q : q ≡ negatives (first_line s)
  is-q = d.negative ∙ ap negatives same_line

  pub header-judged : (b : Bool) → b ≡ ((leb 1 p && leb (p + q) 8) && same_list (take to s) (header_text p q)) → header_ok (first_line s) ≡ b
  unfolding header_ok
  header-judged b e =
      sym (e ∙ ap (λ (l : List ℕ). tested l p q) same_line ∙ ap₂ (λ (i j : ℕ). tested (first_line s) i j) is-p is-q)

  -- What a lawful header bounds.
  pub header-few : header_ok (first_line s) ≡ true → p + q ≤ 8
  unfolding header_ok
  header-few e =
      omega (
        arith,
        is-p,
        is-q,
        leb-true (words_of (first_line s)) 8
            (and_right (leb 1 (positives (first_line s))) _ (and_left (leb 1 (positives (first_line s)) && leb (words_of (first_line s)) 8) _ e)),
      )

  module _ (h : length s ≤ 16384) (e : header_ok (first_line s) ≡ true) (c c' : Writer ℕ) (at : c.at ≡ 0) (r : Result ℕ Broken)
      (rows : RowsRead (2 + 2 * (p + q)) (all_lines (drop (min (to + 2) (length s)) s)) c r c') where
    -- The node lines, and how many fields they must have.
    L : List (List ℕ)
    L = all_lines (after_line s)

    w : ℕ
    w = width (words_of (first_line s))

    read_so : RowsRead w L c r c'
    unfolding L w
    read_so =
        rw (ap (λ (k : ℕ). 2 + 2 * k) (ap₂ ◌+◌ is-p is-q), drop_min (to + 2) s ∙ ap (λ (k : ℕ). drop (k + 2) s) d.ends) at rows

    first-broken : broken (lines s) ≡ suc (good_lines w L)
    unfolding L w broken lines first_fail line_ok
    first-broken = rw e

    size : length (lines s) ≡ suc (length L)
    unfolding L lines
    size = refl

    all-cells : c'.out.now ≡ front (cells_read s) c.out.now
    unfolding L w cells_read
    all-cells = (adds-all _ _ _ _ (rw at at read_so.cells.adds)).holds ∙ sym (rw (le-ltb 16384 (length s) h, e))

    few : good_lines w L ≤ length L
    few = first_le (length L) (node_line_ok w L)

    pub table_taken : (n : ℕ) (x : List ℕ) → r ≡ Ok n → x ≡ c'.out.now → TableRead s c.out.now (Ok (record { p = p; q = q; n = n })) x
    unfolding L table_of lines
    table_taken n x g z = record {
      read = sym (read-lines s c.out.now h ∙ read_taken (lines s) (omega (arith, first-broken, size, told.all))
          ∙ shape_is _ _ _ p q n (sym is-p) (sym is-q) (omega (arith, told.all, told.is)));
      cells = z ∙ all-cells;
    }
      where
        told : AllGood w L n
        told = told_ok w n L (sym g ∙ read_so.told)

    pub table-broken : (b : Broken) (x : List ℕ) → r ≡ Err b → x ≡ c'.out.now → TableRead s c.out.now (Err b) x
    table-broken b x g z = record {
      read = sym (read-lines s c.out.now h ∙ read-broken (lines s) (omega (arith, first-broken, size, told.before))
          ∙ ap (λ (k : ℕ). Err (Line k)) (ap suc first-broken ∙ sym (add-two (good_lines w L))) ∙ ap Err (sym told.is));
      cells = z ∙ all-cells;
    }
      where
        told : OneBad w L b
        told = told_err w b L (sym g ∙ read_so.told)
