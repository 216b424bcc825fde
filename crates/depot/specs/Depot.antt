-- The index that a depot lends: one without counts, and what is checked of it before a search on a stack (02, Q-3; 01, "Replies").
--   depot p t a b ends occ   == the index that a depot lends: one without counts
--   depot_of D                 == the index that the struct D lends
--   depot_lengths_ok I         == tags are as many as the nodes, and ends as many as the words
--   depot_size_ok I s          == no bound is broken, every length is as it must be, and the stack, s long, has 64 entries or more
--   depot_checked I s r       == SIZE, TREE or LIST, the lowest number that applies, with its place; r where none does
-- Letters: I index; p parents, t tags, a positive and b negative words; s length of the stack, r reply. Assumes nothing.
use Rattle.std.specs.Prelude.{ℕ, List, [], Bool, cond, ◌&&◌, eqb, leb, length}
use Rattle.tree.specs.Rules.{tree_bad}
use Rattle.index.specs.declared.Reply.{Reply}
use Rattle.index.specs.Index.{Index, nodes, words}
use Rattle.index.specs.Rules.{lists_bad}
use Rattle.index.specs.Replies.{SIZE, TREE, LIST, refused, refusing, nodes_ok, words_ok}
use Rattle.index.specs.Promises.{lent}
use Rattle.depot.specs.declared.Depot.{Depot}

abbrev pub depot : List ℕ → List ℕ → ℕ → ℕ → List ℕ → List ℕ → Index
depot p t a b ends occ = lent p t a b ends occ []

abbrev pub depot_of : Depot → Index
depot_of D = depot D.parents.now D.tags.now D.positive D.negative D.ends.now D.occurrences.now

-- tags n long, ends k long
unfoldable pub depot_lengths_ok : Index → Bool
depot_lengths_ok I = eqb (length I.tags) (nodes I) && eqb (length I.ends) (words I)

-- No negative word is taken.
unfoldable pub depot_size_ok : Index → ℕ → Bool
depot_size_ok I s = (nodes_ok I && words_ok 0 I) && (depot_lengths_ok I && leb 64 s)

unfoldable pub depot_checked : Index → ℕ → Reply → Reply
depot_checked I s r =
    cond (depot_size_ok I s)
    (refusing TREE (tree_bad I.parents I.tags) (nodes I)
    (refusing LIST (lists_bad (nodes I) I.ends I.occurrences) (words I)
    r))
    (refused SIZE 0)
