-- What the code says of one byte: the tests of the library are those of `words`.
--   told, each_told, lowered   a letter or digit, a list of them, and lower case
--   fold-rule                  how `fold` tells them: one computed test over all bytes;  fold-letter, -digit, -other: its ways out
--   folded-letter, folded-other   what `fold` makes of a letter or digit, and of another byte
--   folded-some, folded-none   which bytes it folds to 0: no letter and no digit
-- Letters: x a byte. Assumes nothing.
use Rattle.std.proofs.Common.{◌≡◌, ℕ, List, [], ◌∷◌, true, false, cond, ◌&&◌, ◌<◌, ◌∙◌, refl, ap, arith}
use Rattle.std.specs.Char.{is_ascii_alphanumeric, is_ascii_digit, is_ascii_lowercase, to_ascii_lowercase}
use Rattle.std.specs.List.{list_all}
use lib.Bits.{bit_or}
use lib.Dec.{eqb}
use borrow.Author.Tests.{eqb-true}
use Rattle.seq.specs.Below.{every_below}
use Rattle.seq.proofs.Laws.Below.{every-at}
use Rattle.seq.specs.Lists.{every_of}
use Rattle.words.specs.Runs.{word_byte, lower, folded}

pub told : (x : ℕ) → is_ascii_alphanumeric x ≡ word_byte x
unfolding word_byte
told x = refl

pub each_told : (l : List ℕ) → list_all is_ascii_alphanumeric l ≡ every_of word_byte l
unfolding every_of word_byte
each_told [] = refl
each_told (x ∷ l) = ap (λ z. is_ascii_alphanumeric x && z) (each_told l)

pub lowered : (x : ℕ) → to_ascii_lowercase x ≡ lower x
unfolding lower
lowered x = grind arith

-- How `fold` tells what a byte is: one computed test over all bytes.
abbrev by_bit : ℕ → ℕ
by_bit x = cond (is_ascii_lowercase (bit_or x 32)) (bit_or x 32) (cond (is_ascii_digit x) x 0)

pub fold-rule : (x : ℕ) → x < 256 → by_bit x ≡ folded x
unfolding folded word_byte lower every_below
fold-rule x l = eqb-true (by_bit x) (folded x) (every-at 256 (λ x. eqb (by_bit x) (folded x)) refl x l)

module _ (x : ℕ) (l : x < 256) where
  pub fold-letter : true ≡ is_ascii_lowercase (bit_or x 32) → bit_or x 32 ≡ folded x
  fold-letter a = ap (λ p. cond p (bit_or x 32) (cond (is_ascii_digit x) x 0)) a ∙ fold-rule x l

  module _ (a : false ≡ is_ascii_lowercase (bit_or x 32)) where
    rest : cond (is_ascii_digit x) x 0 ≡ folded x
    rest = ap (λ p. cond p (bit_or x 32) (cond (is_ascii_digit x) x 0)) a ∙ fold-rule x l

    pub fold-digit : true ≡ is_ascii_digit x → x ≡ folded x
    fold-digit b = ap (λ p. cond p x 0) b ∙ rest

    pub fold-other : false ≡ is_ascii_digit x → 0 ≡ folded x
    fold-other b = ap (λ p. cond p x 0) b ∙ rest

module _ (x : ℕ) where
  pub folded-letter : word_byte x ≡ true → folded x ≡ lower x
  unfolding folded
  folded-letter e = rw e

  pub folded-other : word_byte x ≡ false → folded x ≡ 0
  unfolding folded
  folded-other e = rw e

  -- No letter or digit is 0, in lower case neither.
  pub folded-some : (folded x ≡ 0 → ⊥) → word_byte x ≡ true
  unfolding folded
  folded-some n = grind arith

  pub folded-none : folded x ≡ 0 → word_byte x ≡ false
  unfolding folded word_byte lower
  folded-none z = grind arith
