-- `depot::judge` meets its contract: glue over Checking. Assumes nothing.
use Rattle.depot.proofs.Checking.{judged-tree, judged-list, judged-clean}
use Rattle.depot.proofs.judge.Goals as goal

pub returns-then-bad_node-n : goal.returns-then-bad_node-n
returns-then-bad_node-n c = judged-tree _ _ c.tree_bad-bad_node.ensures c.if-bad_node-n.true

pub returns-then-bad_word-depot : goal.returns-then-bad_word-depot
returns-then-bad_word-depot c = judged-list _ _ c.tree_bad-bad_node.ensures c.if-bad_node-n.false _ c.lists_bad-bad_word.ensures c.if-bad_word-depot.true

pub returns : goal.returns
returns c = judged-clean _ _ c.tree_bad-bad_node.ensures c.if-bad_node-n.false _ c.lists_bad-bad_word.ensures c.if-bad_word-depot.false
