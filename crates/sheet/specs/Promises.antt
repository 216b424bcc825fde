-- What reading a table promises.
--   row_read w l     == what is read of a node line: its first w fields, up to the first that does not pass
--   rows_read w m L  == what is read of node lines: of the first m, up to the first that is not good
--   cells_read s     == what is read of a text: nothing where it is too long or its header is wrong
--   read_of s        == the outcome: that the text is too long, or the first line, from 1, that breaks a rule; or the table
-- Letters: s text, L lines, l line; w fields of a line; c what was lent as cells, c' what they are at the end; r result. Assumes nothing.
use Rattle.std.specs.Prelude.{ℕ, zero, suc, min, ◌≡◌, List, [], ◌∷◌, ◌++◌, Result, Ok, Err, map, cond, ltb, length, get_or, take}
use Rattle.seq.specs.Below.{first_fail}
use Rattle.text.specs.Text.{first_line, after_line, all_lines, lines, fields, value}
use Rattle.text.specs.Buffers.{front}
use Rattle.sheet.specs.declared.Shape.{Shape}
use Rattle.sheet.specs.declared.Broken.{Broken}
use Rattle.sheet.specs.declared.Broken.TheVariants.{TooLong, Line}
use Rattle.sheet.specs.Table.{Table, words_of, header_ok, width, field_ok, row_ok, broken, table_of}

-- How many of the first w fields pass before one that does not.
abbrev pub passing : ℕ → List (List ℕ) → ℕ
passing w fs = first_fail (min w (length fs)) λ i. field_ok i (get_or fs i [])

unfoldable pub row_read : ℕ → List ℕ → List ℕ
row_read w l = map value (take (passing w (fields l)) (fields l))

unfoldable pub rows_read : ℕ → ℕ → List (List ℕ) → List ℕ
rows_read w zero L = []
rows_read w (suc m) [] = []
rows_read w (suc m) (l ∷ L) = row_read w l ++ cond (row_ok w l) (rows_read w m L) []

abbrev pub shape_of : Table → Shape
shape_of T = record { p = T.positive; q = T.negative; n = T.nodes }

unfoldable pub read_lines : List (List ℕ) → Result Shape Broken
read_lines L = cond (ltb (broken L) (length L)) (Err (Line (suc (broken L)))) (Ok (shape_of (table_of L)))

unfoldable pub read_of : List ℕ → Result Shape Broken
read_of s = cond (ltb 16384 (length s)) (Err TooLong) (read_lines (lines s))

unfoldable pub cells_read : List ℕ → List ℕ
cells_read s =
    cond (ltb 16384 (length s)) []
    (cond (header_ok (first_line s)) (rows_read (width (words_of (first_line s))) 256 (all_lines (after_line s))) [])

pub record TableRead (s c : List ℕ) (r : Result Shape Broken) (c' : List ℕ) : Type 0 where
  pub read : r ≡ read_of s
  pub cells : c' ≡ front (cells_read s) c
