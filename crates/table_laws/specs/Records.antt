-- The output as records of RFC 4180, that is, as the fields of its lines (01, "The table program").
--   line_record name r node   == the fields of one line: search name, refusal number, place, node
--   answer_records name r l   == the lines of a search: one for each node of l; one with an empty node field where l is empty
--   output_records s          == the lines of the whole output: the header line, then INPUT's one line or the answers of elca, slca and valid
-- proofs/Records.antt shows that these are the lines and fields of `table_output`. Letters: s input; T table; I index; r reply, l nodes, v node. Assumes nothing.
use Rattle.std.specs.Prelude.{ℕ, List, [], ◌∷◌, ◌++◌, Result, Ok, Err}
use Rattle.index.specs.declared.Reply.{Reply}
use Rattle.index.specs.Index.{Index}
use Rattle.index.specs.Replies.{refused}
use Rattle.answers.specs.Searches.{is_elca, is_slca, is_valid, out_of, elca_reply, slca_reply, valid_reply}
use Rattle.text.specs.Text.{bytes, lines, decimal}
use Rattle.sheet.specs.declared.Shape.{Shape}
use Rattle.sheet.specs.declared.Broken.{Broken}
use Rattle.sheet.specs.Table.{Table, table_of}
use Rattle.sheet.specs.Promises.{read_of}
use Rattle.report.specs.Lines.{listed_by, lent_work, lent_out, lent_own}
use Rattle.rows.specs.Lent.{index_of}
use Rattle.rows.specs.Output.{INPUT, place_of}

unfoldable pub line_record : List ℕ → Reply → List ℕ → List (List ℕ)
line_record name r node = name ∷ decimal r.refusal ∷ decimal r.place ∷ node ∷ []

unfoldable pub node_records : List ℕ → Reply → List ℕ → List (List (List ℕ))
node_records name r [] = []
node_records name r (v ∷ l) = line_record name r (decimal v) ∷ node_records name r l

unfoldable pub answer_records : List ℕ → Reply → List ℕ → List (List (List ℕ))
answer_records name r [] = line_record name r [] ∷ []
answer_records name r (v ∷ l) = node_records name r (v ∷ l)

-- ---- the three searches
unfoldable pub elca_records : Index → List (List (List ℕ))
elca_records I = let r = elca_reply I lent_work lent_out lent_own in answer_records (bytes "elca") r (listed_by r (out_of I (is_elca I)))

unfoldable pub slca_records : Index → List (List (List ℕ))
slca_records I = let r = slca_reply I lent_work lent_out in answer_records (bytes "slca") r (listed_by r (out_of I (is_slca I)))

unfoldable pub valid_records : Index → List (List (List ℕ))
valid_records I = let r = valid_reply I lent_work lent_out in answer_records (bytes "valid") r (listed_by r (out_of I (is_valid I)))

unfoldable pub table_records : Table → List (List (List ℕ))
table_records T =
    elca_records (index_of T T.positive 0) ++ (slca_records (index_of T T.positive 0) ++ valid_records (index_of T T.positive T.negative))

-- ---- the whole output
unfoldable pub head_record : List (List ℕ)
head_record = bytes "search" ∷ bytes "refusal" ∷ bytes "place" ∷ bytes "node" ∷ []

unfoldable pub read_records : List ℕ → Result Shape Broken → List (List (List ℕ))
read_records s (Err b) = line_record (bytes "input") (refused INPUT (place_of b)) [] ∷ []
read_records s (Ok t) = table_records (table_of (lines s))

unfoldable pub output_records : List ℕ → List (List (List ℕ))
output_records s = head_record ∷ read_records s (read_of s)
