-- `tree::tree_bad` meets its contract: glue over Walk.
use Rattle.tree.specs.Tree.{parent}
use Rattle.tree.proofs.Walk.{Walk, Climb}
use Rattle.tree.proofs.tree_bad.Given as goal

abbrev pub invariant-loop-i : goal.invariant-loop-i
invariant-loop-i l = Walk l.parents l.tags l.i l.level

abbrev pub invariant-loop-at : goal.invariant-loop-at
invariant-loop-at l = Climb l.parents l.i (parent l.parents l.i) l.level l.at

abbrev pub decreases-loop-at : goal.decreases-loop-at
decreases-loop-at l = l.at
