-- What the table program writes for what it reads (01, "The table program").
--   answers_text T      == the answers of elca, slca and valid to a table; ELCA and SLCA run on the positive words
--   head_text           == the line that every output begins with
--   place_of b          == the place of INPUT for an input that is no table: 0 where it is too long, else the line
--   input_text place    == what follows the first line for an input that breaks a rule
--   table_output s      == the whole output for the input s
-- The lines of a search are those of crate `report`. Letters: s input, L its lines; T table. Laws are in proofs/. Assumes nothing.
use Rattle.std.specs.Prelude.{ℕ, suc, List, [], ◌++◌, cond, ltb, length}
use Rattle.index.specs.Replies.{refused}
use Rattle.text.specs.Text.{bytes, lines}
use Rattle.sheet.specs.declared.Broken.{Broken}
use Rattle.sheet.specs.declared.Broken.TheVariants.{TooLong, Line}
use Rattle.sheet.specs.Table.{Table, broken, table_of}
use Rattle.report.specs.Lines.{line_text, elca_text, slca_text, valid_text}
use Rattle.rows.specs.Lent.{index_of}

unfoldable pub answers_text : Table → List ℕ
answers_text T =
    elca_text (index_of T T.positive 0) ++ (slca_text (index_of T T.positive 0) ++ valid_text (index_of T T.positive T.negative))

unfoldable pub head_text : List ℕ
head_text = bytes "search,refusal,place,node\r\n"

-- The refusal that only the program gives.
abbrev pub INPUT : ℕ
INPUT = 6

abbrev pub place_of : Broken → ℕ
place_of TooLong = 0
place_of (Line n) = n

unfoldable pub input_text : ℕ → List ℕ
input_text place = line_text (bytes "input") (refused INPUT place) []

-- The lines L of an input that is not too long.
unfoldable pub lines_output : List (List ℕ) → List ℕ
lines_output L = cond (ltb (broken L) (length L)) (input_text (suc (broken L))) (answers_text (table_of L))

-- Length is tested first.
unfoldable pub table_output : List ℕ → List ℕ
table_output s = head_text ++ cond (ltb 16384 (length s)) (input_text 0) (lines_output (lines s))
