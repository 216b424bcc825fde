-- `skim::dashes` meets its contract: glue over Rows.
use Prim.Native.Nat.{◌-◌}
use lib.ListN.{length}
use Rattle.skim.proofs.Rows.{Dashes}
use Rattle.skim.proofs.dashes.Given as goal

abbrev pub invariant-loop-i : goal.invariant-loop-i
invariant-loop-i l = Dashes l.text l.at l.i

abbrev pub decreases-loop-i : goal.decreases-loop-i
decreases-loop-i l = length l.text - l.i
