-- `judge::judge` meets its contract: glue over Walk and Closing.
use Prim.Native.Nat.{◌-◌}
use lib.ListN.{length}
use Rattle.judge.proofs.Walk.{Walk}
use Rattle.judge.proofs.judge.Given as goal

abbrev pub invariant-loop-end : goal.invariant-loop-end
invariant-loop-end l = Walk l.text l.names l.at l.s

abbrev pub decreases-loop-end : goal.decreases-loop-end
decreases-loop-end l = length l.text - l.at
