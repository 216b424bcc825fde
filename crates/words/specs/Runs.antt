-- The words of a row of characters: its longest runs of ASCII letters and digits, letters in lower case.
--   word_byte x   == x is a letter or a digit
--   lower x      == x in lower case: of a capital letter the small one, of any other byte itself
--   folded x     == a letter in lower case, a digit as it is, and 0 for any other byte
--   closed b     == the word that the run b makes: none where b is empty
--   runs b r     == the words of the row r, where the run b, in lower case already, is open before it
--   words_of r    == the words of the row r, in order
-- That these are the longest runs, and the only function that is so: proofs/Laws. Assumes nothing.
use Rattle.std.specs.Prelude.{ℕ, ◌+◌, List, [], ◌∷◌, ◌++◌, Bool, cond, ◌&&◌, ◌||◌, leb}

abbrev pub Word : Type 0
Word = List ℕ

abbrev in_range : ℕ → ℕ → ℕ → Bool
in_range a b x = leb a x && leb x b

unfoldable pub word_byte : ℕ → Bool
word_byte x = in_range 48 57 x || in_range 65 90 x || in_range 97 122 x

unfoldable pub lower : ℕ → ℕ
lower x = cond (in_range 65 90 x) (x + 32) x

unfoldable pub folded : ℕ → ℕ
folded x = cond (word_byte x) (lower x) 0

unfoldable pub closed : List ℕ → List Word
closed [] = []
closed (x ∷ b) = (x ∷ b) ∷ []

unfoldable pub runs : List ℕ → List ℕ → List Word
runs b [] = closed b
runs b (x ∷ r) = cond (word_byte x) (runs (b ++ (lower x ∷ [])) r) (closed b ++ runs [] r)

unfoldable pub words_of : List ℕ → List Word
words_of r = runs [] r
