-- What the functions of this crate promise each other; no public contract cites it.
--   most_in i        == the largest number that field i of a node line may be
--   good_lines w L   == how many node lines are good before one that is not, of at most 256
--   rows_told w L    == the outcome of reading node lines: how many there are, or the first bad line of the text, whose first line is the header
-- Letters: L lines, l line; w fields of a line; c the writer of the cells, c' what it is at the end; r result. Assumes nothing.
use Rattle.std.specs.Prelude.{ℕ, ◌+◌, ◌≡◌, List, [], Bool, Result, Ok, Err, cond, ◌&&◌, eqb, ltb, length, get_or}
use Rattle.seq.specs.Below.{first_fail}
use Rattle.text.specs.declared.Writer.{Writer}
use Rattle.text.specs.Buffers.{Added}
use Rattle.sheet.specs.declared.Broken.{Broken}
use Rattle.sheet.specs.declared.Broken.TheVariants.{Line}
use Rattle.sheet.specs.Table.{occurrence, row_ok}
use Rattle.sheet.specs.Promises.{row_read, rows_read}

unfoldable pub most_in : ℕ → ℕ
most_in i = cond (occurrence i) 1 99999

pub record RowRead (w : ℕ) (l : List ℕ) (c : Writer ℕ) (r : Bool) (c' : Writer ℕ) : Type 0 where
  pub good : r ≡ row_ok w l
  pub cells : Added (row_read w l) c c'

-- Node v's line, from 0, may be l.
abbrev pub node_line_ok : ℕ → List (List ℕ) → ℕ → Bool
node_line_ok w L v = ltb v 256 && row_ok w (get_or L v [])

abbrev pub good_lines : ℕ → List (List ℕ) → ℕ
good_lines w L = first_fail (length L) (node_line_ok w L)

unfoldable pub rows_told : ℕ → List (List ℕ) → Result ℕ Broken
rows_told w L = cond (eqb (good_lines w L) (length L)) (Ok (good_lines w L)) (Err (Line (good_lines w L + 2)))

pub record RowsRead (w : ℕ) (L : List (List ℕ)) (c : Writer ℕ) (r : Result ℕ Broken) (c' : Writer ℕ) : Type 0 where
  pub told : r ≡ rows_told w L
  pub cells : Added (rows_read w 256 L) c c'
