-- `markup::body_end` meets its contract: glue over Loops.
use Prim.Native.Nat.{◌-◌}
use lib.ListN.{length}
use Rattle.markup.proofs.Loops.{Body}
use Rattle.markup.proofs.body_end.Given as goal

abbrev pub invariant-loop-at : goal.invariant-loop-at
invariant-loop-at l = Body l.text l.at l.i

abbrev pub decreases-loop-at : goal.decreases-loop-at
decreases-loop-at l = length l.text - l.i
