-- The hash of a word that stands in a text, and where the word ends.
--   hashed_at T i  == of the word that is read in the text T from the place i on: 32-bit FNV-1a of its letters and digits in lower case, and the place behind the last of them
-- Assumes nothing.
use Rattle.std.specs.Prelude.{ℕ, List}
use Rattle.fnv.specs.Fnv.{hash_of}
use Rattle.words.specs.Reading.{word_at, end_at}
use Rattle.inplace.specs.declared.Hashed.{Hashed}

unfoldable pub hashed_at : List ℕ → ℕ → Hashed
hashed_at T i = record { hash = hash_of (word_at T i); end = end_at T i }
