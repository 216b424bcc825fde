-- `octets::find` meets its contract: glue over Running.
use Prim.Native.Nat.{◌+◌, ◌-◌}
use lib.ListN.{length}
use Rattle.profile.specs.Spans.{other}
use Rattle.octets.proofs.Running.{Run}
use Rattle.octets.proofs.find.Given as goal

abbrev pub invariant-loop-i : goal.invariant-loop-i
invariant-loop-i l = Run (other l.x) l.text l.at l.i

abbrev pub invariant-loop-j : goal.invariant-loop-j
invariant-loop-j l = Run (other l.x) l.text l.at (l.i + l.j)

abbrev pub decreases-loop-i : goal.decreases-loop-i
decreases-loop-i l = length l.text - l.i
