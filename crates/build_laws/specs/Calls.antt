-- What a caller does with what was built, and what the replies say of the query and the text, by the grammar alone.
--   handed Q n b    == the index that a caller hands over after a call that replied n nodes for the query Q and left b: of each slice the front that was
--                      written, all words positive; the occurrences go up to the last end
--   built T Q       == the index of the text T and the query Q itself
--   rows l          == of what is lent to build, what is lent to a reader
--   Enough T Q l    == what is lent is enough: each distinct word has a slot, and the tree as for the reader, the ends, the lists and the counts fit
--   Taken T Q l n   == Q is a query, T a text of the profile that keeps the limits and has n nodes, and what is lent is enough
--   Cramped T Q l   == the same, but what is lent is not enough
-- What MARKUP and TREE say is in `judge`, specs/Meaning. Letters: T text, Q query, l b what is lent, before and after; n nodes. Assumes nothing.
use Rattle.std.specs.Prelude.{ℕ, pred, ◌*◌, ◌≤◌, List, length, get_or, take}
use Rattle.index.specs.Index.{Index}
use Rattle.index.specs.Promises.{lent}
use Rattle.profile.specs.Reader.{tree_of}
use Rattle.judge.specs.Meaning.{Kept}
use Rattle.reader.specs.Read.{Lent as Rows, parents_of, tags_in}
use Rattle.query.specs.Query.{Query, word_count}
use Rattle.query.specs.Plain.{IsQuery}
use Rattle.plan.specs.Lists.{lists_to}
use Rattle.build.specs.Build.{Lent, ends_for, counts_for}
use Rattle.build_laws.specs.Words.{new_places}

-- ---- the index
abbrev pub handed : Query → ℕ → Lent → Index
handed Q n b =
    lent (take n b.parents) (take n b.tags) (word_count Q) 0 (take (word_count Q) b.ends) (take (get_or b.ends (pred (word_count Q)) 0) b.occurrences)
    (take (word_count Q * n) b.counts)

abbrev pub built : List ℕ → Query → Index
built T Q = lent (parents_of (tree_of T)) (tags_in (tree_of T)) (word_count Q) 0 (ends_for T Q (word_count Q)) (lists_to T Q (word_count Q)) (counts_for T Q (word_count Q))

abbrev pub rows : Lent → Rows
rows l = record { parents = l.parents; tags = l.tags; firsts = l.firsts; lasts = l.lasts; work = l.work }

-- ---- the replies
pub record Enough (T : List ℕ) (Q : Query) (l : Lent) : Type 0 where
  pub words : length (new_places T) ≤ length l.slots
  pub parents : length (tree_of T) ≤ length l.parents
  pub tags : length (tree_of T) ≤ length l.tags
  pub firsts : length (tree_of T) ≤ length l.firsts
  pub lasts : length (tree_of T) ≤ length l.lasts
  pub work : 3 * length (tree_of T) ≤ length l.work
  pub ends : word_count Q ≤ length l.ends
  pub occurrences : length (lists_to T Q (word_count Q)) ≤ length l.occurrences
  pub counts : word_count Q * length (tree_of T) ≤ length l.counts

pub record Taken (T : List ℕ) (Q : Query) (l : Lent) (n : ℕ) : Type 0 where
  pub query : IsQuery Q
  pub kept : Kept T n
  pub room : Enough T Q l

pub record Cramped (T : List ℕ) (Q : Query) (l : Lent) : Type 0 where
  pub query : IsQuery Q
  pub nodes : ℕ
  pub kept : Kept T nodes
  pub short : Enough T Q l → ⊥
