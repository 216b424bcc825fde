-- What the definitions of Text and Buffers give at the edges of their rules, each value written out: one table, one theorem. Assumes nothing.
--   table   == the cases
--   cases   == the theorem: every case of the table holds
use Prim.Native.Nat.{ℕ}
use Prim.Native.String.{String}
use mathlib.Core.Path.{◌≡◌, refl}
use mathlib.Core.List.{List, [], ◌∷◌}
use mathlib.Core.Bool.{true}
use Rattle.seq.specs.Lists.{every_of, same_list}
use Rattle.std.specs.Prelude.{Option, Some, None}
use Rattle.text.specs.Text.{bytes, ended, line_length, field_length, digit, numeral, value_from, number_of, digits_in, decimal}
use Rattle.text.specs.Buffers.{front}

-- What a definition gives, and what it must give.
pub record Case : Type 0 where
  pub given : List ℕ
  pub right : List ℕ

abbrev line : String → ℕ → Case
line s n = record { given = line_length (bytes s) ∷ []; right = n ∷ [] }

abbrev field : String → ℕ → Case
field l n = record { given = field_length (bytes l) ∷ []; right = n ∷ [] }

-- The number of a field, or nothing.
told : Option ℕ → List ℕ
told None = []
told (Some n) = n ∷ []

abbrev number : String → ℕ → Case
number f n = record { given = told (number_of (bytes f)); right = n ∷ [] }

abbrev no-number : String → Case
no-number f = record { given = told (number_of (bytes f)); right = [] }

abbrev digits : ℕ → String → Case
digits n f = record { given = decimal n; right = bytes f }

abbrev written : String → String → String → Case
written w o out = record { given = front (bytes w) (bytes o); right = bytes out }

pub table : List Case
table =
    -- a line ends before CR LF, and nowhere else
    line "ab\r\ncd" 2
    ∷ line "\r\n" 0
    ∷ line "ab" 2
    ∷ line "a\rb\nc\n\rd\r\r\n" 9
    -- a field ends before a comma, and nowhere else
    ∷ field "ab,c" 2
    ∷ field ",a" 0
    ∷ field "a;b\r\nc" 6
    -- no number where a field is none
    ∷ number "0" 0
    ∷ number "90210" 90210
    ∷ number "99999" 99999
    ∷ no-number ""
    ∷ no-number "00"
    ∷ no-number "01"
    ∷ no-number "200000"
    ∷ no-number "1/"
    ∷ no-number "1:"
    ∷ no-number " 1"
    -- no leading zero but 0 itself, and all ten digits
    ∷ digits 0 "0"
    ∷ digits 10 "10"
    ∷ digits 4294967295 "4294967295"
    -- later bytes stay, and what does not fit is left out
    ∷ written "" "xyz" "xyz"
    ∷ written "ab" "xyz" "abz"
    ∷ written "abc" "xyz" "abc"
    ∷ written "abcd" "xyz" "abc"
    ∷ written "ab" "" ""
    ∷ []

pub cases : every_of (λ c. same_list c.given c.right) table ≡ true
unfolding every_of same_list bytes ended line_length field_length digit numeral value_from number_of digits_in decimal front told table
cases = refl
