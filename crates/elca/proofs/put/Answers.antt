-- `elca::put` meets its contract: glue over Answering.
use Rattle.elca.proofs.Answering.{few, short-out, short-own, own-pre, answered}
use native.Mathlib.Omega.{arith}
use Rattle.elca.proofs.put.Goals as goal
use Rattle.elca.proofs.put.Goals.{then-out-m-via-then-out-m, then-out-m-via-else-out-m+then-own-m}

pub overflow_cast-result : goal.overflow_cast-result
overflow_cast-result c = omega (arith, few _ _ _ _ c.requires _ c.count_flagged-m.ensures)

pub returns-then-out-m : goal.returns-then-out-m
returns-then-out-m c =
    elim c.then-out-m.branch [
      | then-out-m-via-then-out-m w ↦ short-out _ _ _ _ c.requires _ c.count_flagged-m.ensures _ _ w.if-out-m.true
      | then-out-m-via-else-out-m+then-own-m w ↦ short-own _ _ _ _ c.requires _ c.count_flagged-m.ensures _ _ w.if-own-m.true
    ]

pub write_own-requires : goal.write_own-requires
write_own-requires c =
    own-pre _ _ _ _ c.requires _ c.count_flagged-m.ensures c.args.out.now _ c.if-out-m.false c.if-own-m.false

pub returns : goal.returns
returns c =
    answered _ _ _ _ c.requires _ c.count_flagged-m.ensures _ _ c.if-out-m.false c.if-own-m.false _ _ _
    c.write_own.ensures c.list_flagged.ensures
