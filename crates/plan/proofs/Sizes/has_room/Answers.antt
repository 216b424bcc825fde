-- `plan::Sizes::has_room` meets its contract: glue over Room. Assumes nothing.
use Rattle.std.proofs.Common.{sym, arith}
use Rattle.plan.proofs.Room.{small_product, room-tree, room-ends, room-counts}
use Rattle.plan.proofs.Sizes.has_room.Goals.{then-not-tree-via-then-not-tree, then-not-tree-via-else-not-tree+then-self-k}
use Rattle.plan.proofs.Sizes.has_room.Goals as goal

pub returns-then-not-tree : goal.returns-then-not-tree
returns-then-not-tree c =
    elim c.then-not-tree.branch [
      | then-not-tree-via-then-not-tree w ↦ room-tree _ _ _ (sym w.if-not-tree.ensures)
      | then-not-tree-via-else-not-tree+then-self-k w ↦ room-ends _ _ _ w.if-self-k.true
    ]

pub overflow_mul-result : goal.overflow_mul-result
overflow_mul-result c = omega (arith, small_product _ _ c.requires.words c.requires.few)

pub returns : goal.returns
returns c = room-counts _ _ _ (sym c.if-not-tree.ensures) c.if-self-k.false
