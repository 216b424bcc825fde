-- No second outcome fits what the public functions promise. Letters: T text, i j places, w a word that is lent, x a byte. Assumes nothing.
use Prim.Native.Nat.{ℕ}
use mathlib.Core.Path.{◌≡◌, sym, ◌∙◌}
use mathlib.Core.List.{List, map}
use mathlib.Core.Bool.{Bool}
use Rattle.seq.specs.Lists.{every_of, same_list}
use Rattle.fnv.specs.Fnv.{hash_of}
use Rattle.words.specs.Runs.{word_byte, lower, folded}
use Rattle.words.specs.Reading.{word_at}
use Rattle.inplace.specs.declared.Hashed.{Hashed}
use Rattle.inplace.specs.Hashed.{hashed_at}

pub fold_unique : (x r r' : ℕ) → r ≡ folded x → r' ≡ folded x → r ≡ r'
fold_unique x r r' a b = a ∙ sym b

pub hash-word_unique : (T : List ℕ) (i : ℕ) (r r' : Hashed) → r ≡ hashed_at T i → r' ≡ hashed_at T i → r ≡ r'
hash-word_unique T i r r' a b = a ∙ sym b

pub same-word_unique : (T : List ℕ) (i j : ℕ) (r r' : Bool) → r ≡ same_list (word_at T i) (word_at T j) → r' ≡ same_list (word_at T i) (word_at T j) → r ≡ r'
same-word_unique T i j r r' a b = a ∙ sym b

pub is-word_unique : (T : List ℕ) (i : ℕ) (w : List ℕ) (r r' : Bool) → r ≡ same_list (map lower w) (word_at T i) → r' ≡ same_list (map lower w) (word_at T i) → r ≡ r'
is-word_unique T i w r r' a b = a ∙ sym b

pub hash-of_unique : (w : List ℕ) (r r' : ℕ) → r ≡ hash_of (map lower w) → r' ≡ hash_of (map lower w) → r ≡ r'
hash-of_unique w r r' a b = a ∙ sym b

pub only-letters_unique : (w : List ℕ) (r r' : Bool) → r ≡ every_of word_byte w → r' ≡ every_of word_byte w → r ≡ r'
only-letters_unique w r r' a b = a ∙ sym b
