-- What a query is, in plain words.
--   IsQuery Q       == there are 1 to 8 words, none is empty, the last ends with the bytes, and every byte is a letter or a digit
-- Letters: Q query, j word, i place of a byte. Assumes nothing.
use Rattle.std.specs.Prelude.{ℕ, pred, ◌≤◌, ◌<◌, ◌≡◌, true, length, get_or}
use Rattle.index.specs.Index.{start}
use Rattle.words.specs.Runs.{word_byte}
use Rattle.query.specs.Query.{Query, word_count}

pub record IsQuery (Q : Query) : Type 0 where
  pub some : 1 ≤ word_count Q
  pub few : word_count Q ≤ 8
  pub not_empty : (j : ℕ) → j < word_count Q → start Q.ends j < get_or Q.ends j 0
  pub last : get_or Q.ends (pred (word_count Q)) 0 ≡ length Q.words
  pub letters : (i : ℕ) → i < length Q.words → word_byte (get_or Q.words i 0) ≡ true
