-- The table of an index, as a text. proofs/Printed.antt shows that the index read from it is that index again.
--   number_at I v i  == the number in field i of node v's line: parent, tag, then for each word whether it occurs there and its count
--   rows_of I        == the numbers of each node's line
--   index_text I     == the table of an index, each line ended by CR LF
--   Tabular I       == an index that such a table can hold, whose lists keep their rules
--   positive_part I  == the index of its positive words alone: what ELCA and SLCA run on
-- Letters: I index; v node, j word, i field, e entry. Assumes nothing.
use Rattle.std.specs.Prelude.{ℕ, zero, suc, ◌+◌, ◌*◌, ◌/◌, ◌%◌, ◌≤◌, ◌<◌, ◌≡◌, List, [], ◌∷◌, cond, eqb, length, get_or, take}
use Rattle.seq.specs.Below.{tabulate}
use Rattle.seq.specs.Lists.{some_of}
use Rattle.index.specs.Index.{Index, nodes, words, start, word_list}
use Rattle.index.specs.Plain.{WordKept}
use Rattle.sheet.specs.Table.{width}
use Rattle.sheet.specs.Printed.{table_text}

-- 1 where word j occurs at node v, else 0.
unfoldable pub occurs_at : Index → ℕ → ℕ → ℕ
occurs_at I v j = cond (some_of (eqb v) (word_list I.ends I.occurrences j)) 1 0

-- Two fields for each word: whether it occurs, and its count.
unfoldable pub word_at : Index → ℕ → ℕ → ℕ
word_at I v i = cond (eqb (i % 2) 0) (occurs_at I v (i / 2)) (get_or I.counts (i / 2 * nodes I + v) 0)

unfoldable pub number_at : Index → ℕ → ℕ → ℕ
number_at I v zero = get_or I.parents v 0
number_at I v (suc zero) = get_or I.tags v 0
number_at I v (suc (suc i)) = word_at I v i

-- The lines of m nodes from node v on.
unfoldable pub rows_from : Index → ℕ → ℕ → List (List ℕ)
rows_from I zero v = []
rows_from I (suc m) v = tabulate (width (words I)) (number_at I v) ∷ rows_from I m (suc v)

abbrev pub rows_of : Index → List (List ℕ)
rows_of I = rows_from I (nodes I) 0

unfoldable pub index_text : Index → List ℕ
index_text I = table_text I.positive I.negative (rows_of I)

pub record Tabular (I : Index) : Type 0 where
  pub some_positive : 1 ≤ I.positive
  pub few_words : words I ≤ 8
  pub few_nodes : nodes I ≤ 256
  pub tagged : length I.tags ≡ nodes I
  pub ended : length I.ends ≡ words I
  pub counted : length I.counts ≡ words I * nodes I
  pub lists : (j : ℕ) → j < words I → WordKept (nodes I) I.ends I.occurrences j
  pub small_parents : (v : ℕ) → v < nodes I → get_or I.parents v 0 ≤ 99999
  pub small_tags : (v : ℕ) → v < nodes I → get_or I.tags v 0 ≤ 99999
  pub small_counts : (e : ℕ) → e < words I * nodes I → get_or I.counts e 0 ≤ 99999
  pub short : length (index_text I) ≤ 16384

unfoldable pub positive_part : Index → Index
positive_part I = record {
  parents = I.parents;
  tags = I.tags;
  positive = I.positive;
  negative = 0;
  ends = take I.positive I.ends;
  occurrences = take (start I.ends I.positive) I.occurrences;
  counts = take (I.positive * nodes I) I.counts;
}
