-- The table in plain statements: what the tests of Table mean. proofs/Meaning.antt shows that they mean it.
--   Header l   == l is the header of p positive and q negative words, 1 to 8 words, at least one positive
--   Row w l    == l has w fields, each a number of 1 to 5 digits with no leading zero but 0 itself; where one says whether a word occurs it is 0 or 1
--   LawfulLines L   == every line of a text with the lines L keeps the rules
--   First L i  == line i, from 0, breaks a rule, and every line before it keeps them
--   Told s r   == what the outcome r of reading says of the text s: that it is too long; the first line, from 1, that breaks a rule; a table, no
--                 line breaks one
-- Letters: s text, L lines, l line; w fields; i line or field; r outcome. Assumes nothing.
use Rattle.std.specs.Prelude.{ℕ, zero, suc, ◌+◌, ◌≤◌, ◌<◌, ◌≡◌, List, [], true, Result, Ok, Err, length, get_or}
use Rattle.seq.specs.Plain.{LowestBad}
use Rattle.text.specs.Text.{lines, fields, numeral, value}
use Rattle.sheet.specs.declared.Shape.{Shape}
use Rattle.sheet.specs.declared.Broken.{Broken}
use Rattle.sheet.specs.declared.Broken.TheVariants.{TooLong, Line}
use Rattle.sheet.specs.Table.{header_text, words_of, occurrence, line_ok, table_of}
use Rattle.sheet.specs.Promises.{shape_of}

pub record Header (l : List ℕ) : Type 0 where
  pub p : ℕ
  pub q : ℕ
  pub some_positive : 1 ≤ p
  pub few_words : p + q ≤ 8
  pub text : l ≡ header_text p q

pub record Row (w : ℕ) (l : List ℕ) : Type 0 where
  pub fields_are : length (fields l) ≡ w
  pub numbers : (i : ℕ) → i < w → numeral (get_or (fields l) i []) ≡ true
  pub marks : (i : ℕ) → i < w → occurrence i ≡ true → value (get_or (fields l) i []) ≤ 1

-- Line i keeps its rule: it is the header, or a node line.
abbrev pub Keeps : List (List ℕ) → ℕ → Type 0
Keeps L i = line_ok (words_of (get_or L 0 [])) i (get_or L i []) ≡ true

pub record LawfulLines (L : List (List ℕ)) : Type 0 where
  pub keeps : (i : ℕ) → i < length L → Keeps L i

abbrev pub First : List (List ℕ) → ℕ → Type 0
First L i = LowestBad (length L) (Keeps L) i

unfoldable pub Told : List ℕ → Result Shape Broken → Type 0
Told s (Err TooLong) = 16384 < length s
Told s (Err (Line zero)) = ⊥
Told s (Err (Line (suc i))) = (length s ≤ 16384) × First (lines s) i
Told s (Ok t) = (length s ≤ 16384) × (LawfulLines (lines s) × (t ≡ shape_of (table_of (lines s))))
