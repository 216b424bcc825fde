-- `markup::data_end` meets its contract: glue over Loops.
use Prim.Native.Nat.{◌-◌}
use lib.ListN.{length}
use Rattle.markup.proofs.Loops.{Data}
use Rattle.markup.proofs.data_end.Given as goal

abbrev pub invariant-loop-i : goal.invariant-loop-i
invariant-loop-i l = Data l.text l.at l.i

abbrev pub decreases-loop-i : goal.decreases-loop-i
decreases-loop-i l = length l.text - l.i
