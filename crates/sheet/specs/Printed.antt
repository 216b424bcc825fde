-- A table as a text, as a writer of tables has it. proofs/Printed.antt shows that such a text is read as the table that it is of.
--   row_text ns       == a node line of the numbers ns: in decimal, with commas between them
--   table_text p q R  == the header of p positive and q negative words, then a line for each list of numbers in R; each line is ended by CR LF
--   all_rows R        == the numbers of all node lines, one line after the other
--   Printable p q R  == such a table within the program's bounds
-- Letters: R rows, ns the numbers of one; p positive, q negative words; v node, i field. Assumes nothing.
use Rattle.std.specs.Prelude.{ℕ, ◌+◌, ◌≤◌, ◌<◌, ◌≡◌, List, [], ◌∷◌, ◌++◌, map, true, length, get_or}
use Rattle.text.specs.Text.{comma, decimal}
use Rattle.text.specs.Plain.{joined_by, written}
use Rattle.sheet.specs.Table.{header_text, width, occurrence}

unfoldable pub row_text : List ℕ → List ℕ
row_text ns = joined_by (comma ∷ []) (map decimal ns)

unfoldable pub table_text : ℕ → ℕ → List (List ℕ) → List ℕ
table_text p q R = written (header_text p q ∷ map row_text R)

unfoldable pub all_rows : List (List ℕ) → List ℕ
all_rows [] = []
all_rows (ns ∷ R) = ns ++ all_rows R

-- Field i of node v's line.
abbrev pub in_row : List (List ℕ) → ℕ → ℕ → ℕ
in_row R v i = get_or (get_or R v []) i 0

pub record Printable (p q : ℕ) (R : List (List ℕ)) : Type 0 where
  pub some_positive : 1 ≤ p
  pub few_words : p + q ≤ 8
  pub few_nodes : length R ≤ 256
  pub wide : (v : ℕ) → v < length R → length (get_or R v []) ≡ width (p + q)
  pub small : (v i : ℕ) → v < length R → i < width (p + q) → in_row R v i ≤ 99999
  pub marks : (v i : ℕ) → v < length R → i < width (p + q) → occurrence i ≡ true → in_row R v i ≤ 1
  pub short : length (table_text p q R) ≤ 16384
