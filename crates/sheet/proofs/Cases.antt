-- What is read of texts that break a rule, each value written out: one table, one theorem. What a lawful table gives, and the place of the line that breaks a rule,
-- are cases of the whole output (`table_laws`). Assumes nothing.
--   table   == the cases
--   cases   == the theorem: every case of the table holds
use Prim.Native.Nat.{ℕ}
use Prim.Native.String.{String}
use mathlib.Core.Path.{◌≡◌, refl}
use mathlib.Core.List.{List, [], ◌∷◌, ◌++◌}
use mathlib.Core.Bool.{true}
use lib.ListN.{replicate}
use Rattle.seq.specs.Below.{every_below, first_fail}
use Rattle.seq.specs.Lists.{every_of, tally, same_list}
use Rattle.text.specs.Text.{bytes, ended, line_length, lines_in, joined, fields, digit, numeral, value_from}
use Rattle.sheet.specs.Table.{times, header_text, header_ok, occurrence, field_ok, row_ok}
use Rattle.sheet.specs.Promises.{row_read, rows_read, cells_read}

-- A text, and the numbers that reading it leaves at the front of the cells.
pub record Case : Type 0 where
  pub input : List ℕ
  pub cells : List ℕ

abbrev leaves : String → List ℕ → Case
leaves s c = record { input = bytes s; cells = c }

pub table : List Case
table =
    -- all numbers of a lawful table
    leaves "parent,tag,+,#\r\n0,1,1,2\r\n0,3,0,10" (0 ∷ 1 ∷ 1 ∷ 2 ∷ 0 ∷ 3 ∷ 0 ∷ 10 ∷ [])
    -- those before the first field that is not good, and nothing of later lines
    ∷ leaves "parent,tag,+,#\r\n0,1,1,2\r\n5,6,7,8\r\n1,1,1,1" (0 ∷ 1 ∷ 1 ∷ 2 ∷ 5 ∷ 6 ∷ [])
    ∷ leaves "parent,tag,+,#\r\n00,1,1,2\r\n5,6,1,8" []
    ∷ leaves "parent,tag,+,#,-,#\r\n0,1,1,2,2,2" (0 ∷ 1 ∷ 1 ∷ 2 ∷ [])
    ∷ leaves "parent,tag,+,#\r\n0,1,1,x" (0 ∷ 1 ∷ 1 ∷ [])
    -- a field too few, and too many
    ∷ leaves "parent,tag,+,#\r\n0,1,1\r\n5,6,1,8" (0 ∷ 1 ∷ 1 ∷ [])
    ∷ leaves "parent,tag,+,#\r\n0,1,1,2,3\r\n5,6,1,8" (0 ∷ 1 ∷ 1 ∷ 2 ∷ [])
    -- nothing where the header is wrong
    ∷ leaves "parent,tag,-,#\r\n0,1,1,2" []
    ∷ leaves "parent,tag,-,#,+,#\r\n0,1,1,2,1,2" []
    ∷ leaves "" []
    -- 256 lines of 257
    ∷ record { input = bytes "parent,tag,+,#\r\n" ++ times 257 (bytes "3,1,0,2\r\n"); cells = times 256 (3 ∷ 1 ∷ 0 ∷ 2 ∷ []) }
    -- 16,384 bytes, and nothing of one more
    ∷ record { input = bytes "parent,tag,+,#\r\n0,1,1,2\r\n" ++ replicate 16359 120; cells = 0 ∷ 1 ∷ 1 ∷ 2 ∷ [] }
    ∷ record { input = bytes "parent,tag,+,#\r\n0,1,1,2\r\n" ++ replicate 16360 120; cells = [] }
    ∷ []

pub cases : every_of (λ c. same_list (cells_read c.input) c.cells) table ≡ true
unfolding every_below first_fail every_of tally same_list bytes ended line_length lines_in joined fields digit numeral value_from times header_text header_ok occurrence field_ok row_ok row_read rows_read cells_read table
cases = refl
