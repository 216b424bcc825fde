-- The byte productions of XML 1.0, cut down to ASCII, and the tests that its productions make of a row of bytes.
--   char x          == Char: 9, A, D or 20 to 7F
--   white x         == a byte of S: 20, 9, D or A
--   name_start x     == NameStartChar: `:`, `_` or a letter
--   name_char x      == NameChar: NameStartChar, `-`, `.` or a digit
--   data_char x      == a byte of CharData; plain x: one that is no part of `]]>`
--   commented x     == a byte of a comment's body other than `-`
--   starts_with w t  == t begins with w
--   contains w t    == w stands somewhere in t
--   is_s, is_spaces   == S, and S?, which may be empty
--   is_name n        == Name
--   is_char_data r    == CharData: no `<`, no `&`, and no `]]>` in this run; it may be empty
--   is_comment b     == the body of a Comment: no `--` in it, and none where the closing `-->` begins
-- Letters: x y bytes; s white space; n a name; r a run of data; b a body; t w rows of bytes. Assumes nothing.
use Rattle.std.specs.Prelude.{ℕ, List, [], ◌∷◌, ◌++◌, Bool, true, false, not, ◌&&◌, ◌||◌, eqb, leb}
use Rattle.seq.specs.Lists.{every_of}

-- ---- the bytes that have a name here
abbrev pub '!' : ℕ
'!' = 33

abbrev pub '&' : ℕ
'&' = 38

abbrev pub '-' : ℕ
'-' = 45

abbrev pub '/' : ℕ
'/' = 47

abbrev pub semicolon : ℕ
semicolon = 59

abbrev pub '<' : ℕ
'<' = 60

abbrev pub '>' : ℕ
'>' = 62

abbrev pub ']' : ℕ
']' = 93

-- ---- one byte
abbrev in_range : ℕ → ℕ → ℕ → Bool
in_range a b x = leb a x && leb x b

unfoldable pub char : ℕ → Bool
char x = eqb x 9 || eqb x 10 || eqb x 13 || in_range 32 127 x

unfoldable pub white : ℕ → Bool
white x = eqb x 32 || eqb x 9 || eqb x 13 || eqb x 10

unfoldable pub name_start : ℕ → Bool
name_start x = eqb x 58 || eqb x 95 || in_range 65 90 x || in_range 97 122 x

unfoldable pub name_char : ℕ → Bool
name_char x = name_start x || eqb x 45 || eqb x 46 || in_range 48 57 x

-- A byte of data: a Char other than `<` and `&`.
unfoldable pub data_char : ℕ → Bool
data_char x = char x && not (eqb x '<') && not (eqb x '&')

-- A byte of data that goes on with any run: none of `]]>` is in it.
unfoldable pub plain : ℕ → Bool
plain x = data_char x && not (eqb x ']') && not (eqb x '>')

-- A byte of a comment's body other than `-`.
unfoldable pub commented : ℕ → Bool
commented x = char x && not (eqb x '-')

-- ---- rows of bytes
unfoldable pub starts_with : List ℕ → List ℕ → Bool
starts_with [] t = true
starts_with (y ∷ w) [] = false
starts_with (y ∷ w) (x ∷ t) = eqb x y && starts_with w t

unfoldable pub contains : List ℕ → List ℕ → Bool
contains w [] = starts_with w []
contains w (x ∷ t) = starts_with w (x ∷ t) || contains w t

unfoldable pub is_spaces : List ℕ → Bool
is_spaces s = every_of white s

unfoldable pub is_s : List ℕ → Bool
is_s [] = false
is_s (x ∷ s) = white x && is_spaces s

unfoldable pub is_name : List ℕ → Bool
is_name [] = false
is_name (x ∷ n) = name_start x && every_of name_char n

unfoldable pub is_char_data : List ℕ → Bool
is_char_data r = every_of data_char r && not (contains (']' ∷ ']' ∷ '>' ∷ []) r)

unfoldable pub is_comment : List ℕ → Bool
is_comment b = every_of char b && not (contains ('-' ∷ '-' ∷ []) (b ++ ('-' ∷ [])))
