-- `sheet::read_rows` meets its contract: glue over Lining.
use Prim.Native.Nat.{◌-◌}
use Rattle.sheet.proofs.Lining.{Lining}
use Rattle.sheet.proofs.read_rows.Given as goal

abbrev pub invariant-loop-from : goal.invariant-loop-from
invariant-loop-from l = Lining l.width l.s l.at l.initial.cells l.cells l.v l.from

abbrev pub decreases-loop-from : goal.decreases-loop-from
decreases-loop-from l = 256 - l.v
