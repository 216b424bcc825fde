-- The table that the program reads (01, "The table program").
--   header_text p q   == the header of p positive and q negative words
--   positives l, negatives l  == how many `+` and how many `-` a line has
--   header_ok l       == l is the header of 1 to 8 words, positive words first, at least one positive
--   occurrence i     == field i of a node line says whether a word occurs there
--   width k          == how many fields a node line has where there are k words
--   row_ok w l        == l has w fields, each a number, those that say whether a word occurs being 0 or 1
--   line_ok k i l     == line i, from 0, may be l where there are k words; the line of a 257th node may be nothing
--   broken L         == the first of the lines L, from 0, that breaks a rule, or their number where none does
--   Table            == what is read: p, q, how many nodes there are, and the numbers on their lines
--   field_of T v i       == the number in field i of node v's line
-- Letters: s text, L its lines, l line, f field; T table; p positive, q negative, k words; v node, j word, i field. Laws are in proofs/. Assumes nothing.
use Rattle.std.specs.Prelude.{ℕ, zero, suc, ◌+◌, ◌*◌, ◌%◌, List, [], ◌∷◌, ◌++◌, map, Bool, not, ◌&&◌, ◌||◌, eqb, ltb, leb, length, get_or, drop}
use Rattle.seq.specs.Below.{every_below, first_fail}
use Rattle.seq.specs.Lists.{tally, same_list}
use Rattle.text.specs.Text.{bytes, fields, numeral, value}

-- ---- the header
-- s, m times over.
unfoldable pub times : ℕ → List ℕ → List ℕ
times zero s = []
times (suc m) s = s ++ times m s

unfoldable pub header_text : ℕ → ℕ → List ℕ
header_text p q = bytes "parent,tag" ++ (times p (bytes ",+,#") ++ times q (bytes ",-,#"))

abbrev pub positives : List ℕ → ℕ
positives l = tally (eqb 43) l

abbrev pub negatives : List ℕ → ℕ
negatives l = tally (eqb 45) l

abbrev pub words_of : List ℕ → ℕ
words_of l = positives l + negatives l

unfoldable pub header_ok : List ℕ → Bool
header_ok l = (leb 1 (positives l) && leb (words_of l) 8) && same_list l (header_text (positives l) (negatives l))

-- ---- the lines of nodes
-- Parent, tag, and for each word whether it occurs here and its count.
abbrev pub width : ℕ → ℕ
width k = 2 + 2 * k

unfoldable pub occurrence : ℕ → Bool
occurrence i = leb 2 i && eqb (i % 2) 0

unfoldable pub field_ok : ℕ → List ℕ → Bool
field_ok i f = numeral f && (not (occurrence i) || leb (value f) 1)

unfoldable pub row_ok : ℕ → List ℕ → Bool
row_ok w l = eqb (length (fields l)) w && every_below w λ i. field_ok i (get_or (fields l) i [])

-- ---- the first line that breaks a rule
unfoldable pub line_ok : ℕ → ℕ → List ℕ → Bool
line_ok k zero l = header_ok l
line_ok k (suc v) l = ltb v 256 && row_ok (width k) l

unfoldable pub broken : List (List ℕ) → ℕ
broken L = first_fail (length L) λ i. line_ok (words_of (get_or L 0 [])) i (get_or L i [])

-- ---- what is read
-- The cells are the numbers of all node lines, one line after the other.
pub record Table : Type 0 where
  pub positive : ℕ
  pub negative : ℕ
  pub nodes : ℕ
  pub cells : List ℕ

unfoldable pub row_of : List ℕ → List ℕ
row_of l = map value (fields l)

unfoldable pub cells_of : List (List ℕ) → List ℕ
cells_of [] = []
cells_of (l ∷ L) = row_of l ++ cells_of L

-- The first line is the header; each further one is a node.
unfoldable pub table_of : List (List ℕ) → Table
table_of L = record {
  positive = positives (get_or L 0 []);
  negative = negatives (get_or L 0 []);
  nodes = length (drop 1 L);
  cells = cells_of (drop 1 L);
}

-- The number in field i of node v's line.
abbrev pub field_of : Table → ℕ → ℕ → ℕ
field_of T v i = get_or T.cells (v * width (T.positive + T.negative) + i) 0
