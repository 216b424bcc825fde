-- The table of classes keeps the standard's productions: one computed test for each line of the rule. Assumes nothing.
--   class-rule                    the rule at each byte
--   span-name_char                 so a run of NameChars in a row of bytes is a run of their classes
use Prim.Native.Nat.{ℕ, ◌<◌}
use mathlib.Core.Path.{◌≡◌, refl, sym}
use mathlib.Core.List.{List}
use mathlib.Core.Bool.{Bool, true, false, not, false≢true}
use lib.Dec.{eqb}
use Rattle.seq.specs.Below.{every_below}
use Rattle.seq.specs.Lists.{EachBelow}
use Rattle.seq.proofs.Laws.Below.{every-at}
use Rattle.profile.specs.Bytes.{'&', '-', '<', '>', ']', char, white, name_start, name_char, data_char, plain, commented}
use Rattle.profile.specs.Classes.{table, class, within, CHARS, WHITES, NAMESTARTS, NAMECHARS, PLAINS, COMMENTEDS, BRACKETS, ClassRule}
use Rattle.profile.specs.Spans.{span}
use Rattle.profile.proofs.Laws.Spans.{span_ext}

same : Bool → Bool → Bool
same true b = b
same false b = not b

same-is : (a b : Bool) → same a b ≡ true → a ≡ b
unfolding same
same-is true true e = refl
same-is true false e = absurd (false≢true e)
same-is false true e = absurd (false≢true e)
same-is false false e = refl

-- Two tests that agree on each byte.
by-table : (f g : ℕ → Bool) → every_below 256 (λ x. same (f x) (g x)) ≡ true → (x : ℕ) → x < 256 → f x ≡ g x
by-table f g e x l = same-is (f x) (g x) (every-at 256 (λ x. same (f x) (g x)) e x l)

pub class-rule : (x : ℕ) → x < 256 → ClassRule x
unfolding same every_below char white name_start name_char data_char plain commented within class table
class-rule x l =
    record {
      of_char = by-table char (within CHARS) refl x l;
      of-white = by-table white (within WHITES) refl x l;
      of-name_start = by-table name_start (within NAMESTARTS) refl x l;
      of-name_char = by-table name_char (within NAMECHARS) refl x l;
      of_plain = by-table plain (within PLAINS) refl x l;
      of-commented = by-table commented (within COMMENTEDS) refl x l;
      of_bracket = by-table (λ y. eqb y ']') (within BRACKETS) refl x l;
      of-less = by-table (λ y. eqb y '<') (λ y. eqb (class y) 2) refl x l;
      of_ampersand = by-table (λ y. eqb y '&') (λ y. eqb (class y) 4) refl x l;
      of-greater = by-table (λ y. eqb y '>') (λ y. eqb (class y) 16) refl x l;
      of_dash = by-table (λ y. eqb y '-') (λ y. eqb (class y) 512) refl x l;
    }

-- ---- a run of classes in a row of bytes
pub span-name_char : (t : List ℕ) → EachBelow 256 t → span (within NAMECHARS) t ≡ span name_char t
span-name_char t b = span_ext (within NAMECHARS) name_char 256 t b (λ x l. sym (class-rule x l).of-name_char)
