-- The class of each byte, by a table of 256.
--   1 no Char; 2 `<`; 4 `&`; 8 `]`; 16 `>`; 32 white space; 64 any other Char; 128 a digit or `.`; 256 NameStartChar; 512 `-`
-- Each class is a power of two, and a set of classes is their sum.
--   table            == the class of each byte value, in order: a row for each sixteen
--   class x          == the class of the byte x (0, which is none, past the table)
--   within s x       == the class of x is one of the set s: it has a bit with it in common (none past the table)
--   CHARS, WHITES, NAMESTARTS, NAMECHARS, PLAINS, COMMENTEDS   == the sets of classes that are the byte productions;  BRACKETS: that of `]`
--   ClassRule x      == the byte productions, and the bytes that have a class of their own, read off the class of x
-- The rule is proved once for the whole table, in proofs/Classes. `/`, `!` and the letters of the references are told by the byte. Assumes nothing.
use Rattle.std.specs.Prelude.{ℕ, ◌≡◌, List, [], ◌∷◌, Bool, not, eqb, get_or}
use Rattle.std.specs.Int.Bits.{bit_and}
use Rattle.profile.specs.Bytes.{'&', '-', '<', '>', ']', char, white, name_start, name_char, plain, commented}

unfoldable pub table : List ℕ
table =
    1 ∷ 1 ∷ 1 ∷ 1 ∷ 1 ∷ 1 ∷ 1 ∷ 1 ∷ 1 ∷ 32 ∷ 32 ∷ 1 ∷ 1 ∷ 32 ∷ 1 ∷ 1 ∷
    1 ∷ 1 ∷ 1 ∷ 1 ∷ 1 ∷ 1 ∷ 1 ∷ 1 ∷ 1 ∷ 1 ∷ 1 ∷ 1 ∷ 1 ∷ 1 ∷ 1 ∷ 1 ∷
    32 ∷ 64 ∷ 64 ∷ 64 ∷ 64 ∷ 64 ∷ 4 ∷ 64 ∷ 64 ∷ 64 ∷ 64 ∷ 64 ∷ 64 ∷ 512 ∷ 128 ∷ 64 ∷
    128 ∷ 128 ∷ 128 ∷ 128 ∷ 128 ∷ 128 ∷ 128 ∷ 128 ∷ 128 ∷ 128 ∷ 256 ∷ 64 ∷ 2 ∷ 64 ∷ 16 ∷ 64 ∷
    64 ∷ 256 ∷ 256 ∷ 256 ∷ 256 ∷ 256 ∷ 256 ∷ 256 ∷ 256 ∷ 256 ∷ 256 ∷ 256 ∷ 256 ∷ 256 ∷ 256 ∷ 256 ∷
    256 ∷ 256 ∷ 256 ∷ 256 ∷ 256 ∷ 256 ∷ 256 ∷ 256 ∷ 256 ∷ 256 ∷ 256 ∷ 64 ∷ 64 ∷ 8 ∷ 64 ∷ 256 ∷
    64 ∷ 256 ∷ 256 ∷ 256 ∷ 256 ∷ 256 ∷ 256 ∷ 256 ∷ 256 ∷ 256 ∷ 256 ∷ 256 ∷ 256 ∷ 256 ∷ 256 ∷ 256 ∷
    256 ∷ 256 ∷ 256 ∷ 256 ∷ 256 ∷ 256 ∷ 256 ∷ 256 ∷ 256 ∷ 256 ∷ 256 ∷ 64 ∷ 64 ∷ 64 ∷ 64 ∷ 64 ∷
    1 ∷ 1 ∷ 1 ∷ 1 ∷ 1 ∷ 1 ∷ 1 ∷ 1 ∷ 1 ∷ 1 ∷ 1 ∷ 1 ∷ 1 ∷ 1 ∷ 1 ∷ 1 ∷
    1 ∷ 1 ∷ 1 ∷ 1 ∷ 1 ∷ 1 ∷ 1 ∷ 1 ∷ 1 ∷ 1 ∷ 1 ∷ 1 ∷ 1 ∷ 1 ∷ 1 ∷ 1 ∷
    1 ∷ 1 ∷ 1 ∷ 1 ∷ 1 ∷ 1 ∷ 1 ∷ 1 ∷ 1 ∷ 1 ∷ 1 ∷ 1 ∷ 1 ∷ 1 ∷ 1 ∷ 1 ∷
    1 ∷ 1 ∷ 1 ∷ 1 ∷ 1 ∷ 1 ∷ 1 ∷ 1 ∷ 1 ∷ 1 ∷ 1 ∷ 1 ∷ 1 ∷ 1 ∷ 1 ∷ 1 ∷
    1 ∷ 1 ∷ 1 ∷ 1 ∷ 1 ∷ 1 ∷ 1 ∷ 1 ∷ 1 ∷ 1 ∷ 1 ∷ 1 ∷ 1 ∷ 1 ∷ 1 ∷ 1 ∷
    1 ∷ 1 ∷ 1 ∷ 1 ∷ 1 ∷ 1 ∷ 1 ∷ 1 ∷ 1 ∷ 1 ∷ 1 ∷ 1 ∷ 1 ∷ 1 ∷ 1 ∷ 1 ∷
    1 ∷ 1 ∷ 1 ∷ 1 ∷ 1 ∷ 1 ∷ 1 ∷ 1 ∷ 1 ∷ 1 ∷ 1 ∷ 1 ∷ 1 ∷ 1 ∷ 1 ∷ 1 ∷
    1 ∷ 1 ∷ 1 ∷ 1 ∷ 1 ∷ 1 ∷ 1 ∷ 1 ∷ 1 ∷ 1 ∷ 1 ∷ 1 ∷ 1 ∷ 1 ∷ 1 ∷ 1 ∷
    []

unfoldable pub class : ℕ → ℕ
class x = get_or table x 0

unfoldable pub within : ℕ → ℕ → Bool
within s x = not (eqb (bit_and (class x) s) 0)

abbrev pub CHARS : ℕ
CHARS = 1022

abbrev pub WHITES : ℕ
WHITES = 32

abbrev pub NAMESTARTS : ℕ
NAMESTARTS = 256

abbrev pub NAMECHARS : ℕ
NAMECHARS = 896

abbrev pub PLAINS : ℕ
PLAINS = 992

abbrev pub COMMENTEDS : ℕ
COMMENTEDS = 510

abbrev pub BRACKETS : ℕ
BRACKETS = 8

pub record ClassRule (x : ℕ) : Type 0 where
  pub of_char : char x ≡ within CHARS x
  pub of-white : white x ≡ within WHITES x
  pub of-name_start : name_start x ≡ within NAMESTARTS x
  pub of-name_char : name_char x ≡ within NAMECHARS x
  pub of_plain : plain x ≡ within PLAINS x
  pub of-commented : commented x ≡ within COMMENTEDS x
  pub of_bracket : eqb x ']' ≡ within BRACKETS x
  pub of-less : eqb x '<' ≡ eqb (class x) 2
  pub of_ampersand : eqb x '&' ≡ eqb (class x) 4
  pub of-greater : eqb x '>' ≡ eqb (class x) 16
  pub of_dash : eqb x '-' ≡ eqb (class x) 512
