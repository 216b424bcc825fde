-- The words of a query, lent as bytes and ends (02, Q-5).
--   Query          == what is lent: all words' bytes, one after the other, and each word's end
--   word_count Q    == how many words there are
--   asked Q j      == word j of the query in lower case: the bytes from the previous end up to its own
--   rises ends     == each end is above the one before, and the first above 0: no word is empty
--   query_ok Q      == there are 1 to 8 words, the ends rise to the length of the bytes, and every byte is a letter or a digit
--   hashes_of Q     == the hash of each word
--   hashes_after Q h   == h with these over its front; h itself where this is no query, or has more words than h has entries
--   Hashes Q h     == h has 8 entries, and the front is these
-- A word's bytes are taken as a word's list is of the occurrences (`index`, specs/Index). Letters: Q query, j word. Assumes nothing.
use Rattle.std.specs.Prelude.{ℕ, pred, ◌<◌, ◌≡◌, List, map, Bool, cond, ◌&&◌, eqb, ltb, leb, length, get_or}
use Rattle.seq.specs.Below.{every_below, tabulate}
use Rattle.seq.specs.Lists.{every_of}
use Rattle.seq.specs.Memory.{over}
use Rattle.index.specs.Index.{start, word_list}
use Rattle.fnv.specs.Fnv.{hash_of}
use Rattle.words.specs.Runs.{Word, word_byte, lower}

pub record Query : Type 0 where
  pub words : List ℕ
  pub ends : List ℕ

abbrev pub query : List ℕ → List ℕ → Query
query w e = record { words = w; ends = e }

abbrev pub word_count : Query → ℕ
word_count Q = length Q.ends

unfoldable pub asked : Query → ℕ → Word
asked Q j = map lower (word_list Q.ends Q.words j)

unfoldable pub rises : List ℕ → Bool
rises ends = every_below (length ends) λ j. ltb (start ends j) (get_or ends j 0)

unfoldable pub query_ok : Query → Bool
query_ok Q =
    (leb 1 (word_count Q) && leb (word_count Q) 8) &&
    (rises Q.ends && (eqb (get_or Q.ends (pred (word_count Q)) 0) (length Q.words) && every_of word_byte Q.words))

-- ---- hashes
unfoldable pub hashes_of : Query → List ℕ
hashes_of Q = tabulate (word_count Q) λ j. hash_of (asked Q j)

unfoldable pub hashes_after : Query → List ℕ → List ℕ
hashes_after Q h = cond (query_ok Q && leb (word_count Q) (length h)) (over (hashes_of Q) h) h

pub record Hashes (Q : Query) (h : List ℕ) : Type 0 where
  pub long : length h ≡ 8
  pub each : (j : ℕ) → j < word_count Q → get_or h j 0 ≡ hash_of (asked Q j)
