-- What the functions of this crate promise each other; no public contract cites it.
--   JudgePre I   == what is asked where nothing gives SIZE: at most 65,536 nodes and 8 words
--   judged I     == TREE or LIST, the lowest number that applies, with its place; acceptance where neither does
-- Letters: I index. Assumes nothing.
use Rattle.std.specs.Prelude.{◌≤◌, length}
use Rattle.tree.specs.Rules.{tree_bad}
use Rattle.index.specs.declared.Reply.{Reply}
use Rattle.index.specs.Index.{Index, nodes}
use Rattle.index.specs.Rules.{lists_bad}
use Rattle.index.specs.Replies.{accepted, TREE, LIST, totalled, refusing}

pub record JudgePre (I : Index) : Type 0 where
  pub few_nodes : nodes I ≤ 65536
  pub few_words : length I.ends ≤ 8

unfoldable pub judged : Index → Reply
judged I =
    refusing TREE (tree_bad I.parents I.tags) (nodes I)
    (refusing LIST (lists_bad (nodes I) I.ends I.occurrences) (length I.ends) (totalled accepted 0))
