-- What the functions of this crate promise each other; no public contract cites it.
--   HashPre Q h   == Q is a query, and h has an entry for each word
-- Assumes nothing.
use Rattle.std.specs.Prelude.{ℕ, ◌≤◌, ◌≡◌, List, true, length}
use Rattle.query.specs.Query.{Query, word_count, query_ok}

pub record HashPre (Q : Query) (h : List ℕ) : Type 0 where
  pub ok : query_ok Q ≡ true
  pub room : word_count Q ≤ length h
