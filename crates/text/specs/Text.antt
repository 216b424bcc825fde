-- Tables of RFC 4180 without quoted fields, as texts (01, "The table program"): lines, fields, numbers. A text is the list of its bytes.
--   bytes t        == the bytes of a quoted text (of characters below 128)
--   ended s        == a line end, CR LF, stands at the front of s
--   line_length s   == how many bytes stand before the first CR LF of s: all of them where s has none
--   lines s        == the lines of s. The last end is optional: what follows a CR LF is a line only if it is not empty.
--                     The first line always is, so the empty text has one line, which is empty
--   field_length l  == how many bytes of a line stand before its first comma: all of them where it has none
--   fields l       == the fields of a line: one more than it has commas
--   numeral f      == the field is a decimal number of 1 to 5 digits with no leading zero but 0 itself
--   value f        == the number that the digits of a field give (0 of the empty field)
--   number_of f     == the value of a field that is a number, and none of one that is not
--   decimal n      == the digits of a number below 10 to the power 10, with no leading zero but 0 itself
-- A lone CR or LF is a byte of its line like any other. Letters: s text, l line, f field; x byte, n number. Laws are in proofs/. Assumes nothing.
use Rattle.std.specs.Prelude.{ℕ, zero, suc, ◌+◌, ◌*◌, ◌-◌, ◌/◌, ◌%◌, Option, Some, None, List, [], ◌∷◌, ◌++◌, Bool, not, cond, ◌&&◌, ◌||◌, eqb, leb, length, get_or, take, drop}
use Prim.Native.Char.{code}
use Prim.Native.String.{String, [] as empty, ◌∷◌ as ◌then◌}
use Rattle.seq.specs.Lists.{every_of}

unfoldable pub bytes : String → List ℕ
bytes empty = []
bytes (c then t) = code c ∷ bytes t

abbrev pub CR : ℕ
CR = 13

abbrev pub LF : ℕ
LF = 10

abbrev pub comma : ℕ
comma = 44

-- ---- lines
unfoldable pub ended : List ℕ → Bool
ended s = eqb (get_or s 0 0) CR && eqb (get_or s 1 0) LF

unfoldable pub line_length : List ℕ → ℕ
line_length [] = 0
line_length (x ∷ s) = cond (ended (x ∷ s)) 0 (suc (line_length s))

abbrev pub first_line : List ℕ → List ℕ
first_line s = take (line_length s) s

-- What follows the first line and its end.
abbrev pub after_line : List ℕ → List ℕ
after_line s = drop (line_length s + 2) s

-- The lines of s, at most m of them: none of the empty text.
unfoldable pub lines_in : ℕ → List ℕ → List (List ℕ)
lines_in zero s = []
lines_in (suc m) s = cond (eqb (length s) 0) [] (first_line s ∷ lines_in m (after_line s))

-- The lines of s: none of the empty text. Each takes a byte at least, so there are no more of them than bytes.
abbrev pub all_lines : List ℕ → List (List ℕ)
all_lines s = lines_in (length s) s

unfoldable pub lines : List ℕ → List (List ℕ)
lines s = first_line s ∷ all_lines (after_line s)

-- ---- fields
unfoldable pub field_length : List ℕ → ℕ
field_length [] = 0
field_length (x ∷ l) = cond (eqb x comma) 0 (suc (field_length l))

-- A byte put before the first field.
unfoldable pub joined : ℕ → List (List ℕ) → List (List ℕ)
joined x [] = []
joined x (f ∷ fs) = (x ∷ f) ∷ fs

unfoldable pub fields : List ℕ → List (List ℕ)
fields [] = [] ∷ []
fields (x ∷ l) = cond (eqb x comma) ([] ∷ fields l) (joined x (fields l))

-- ---- numbers
unfoldable pub digit : ℕ → Bool
digit x = leb 48 x && leb x 57

unfoldable pub numeral : List ℕ → Bool
numeral f = (leb 1 (length f) && leb (length f) 5) && (every_of digit f && (eqb (length f) 1 || not (eqb (get_or f 0 0) 48)))

-- The digits of f after a number n.
unfoldable pub value_from : ℕ → List ℕ → ℕ
value_from n [] = n
value_from n (x ∷ f) = value_from (n * 10 + (x - 48)) f

abbrev pub value : List ℕ → ℕ
value f = value_from 0 f

unfoldable pub number_of : List ℕ → Option ℕ
number_of f = cond (numeral f) (Some (value f)) None

-- The last d digits of n, with no leading zero: none where n is 0.
unfoldable pub digits_in : ℕ → ℕ → List ℕ
digits_in zero n = []
digits_in (suc d) n = cond (eqb n 0) [] (digits_in d (n / 10) ++ ((48 + n % 10) ∷ []))

unfoldable pub decimal : ℕ → List ℕ
decimal n = cond (eqb n 0) (48 ∷ []) (digits_in 10 n)
