-- `sheet::read_row` meets its contract: glue over Rowing.
use Rattle.sheet.proofs.Rowing.{Rowing}
use Rattle.sheet.proofs.read_row.Given as goal

abbrev pub invariant-loop-i : goal.invariant-loop-i
invariant-loop-i l = Rowing l.width l.l l.initial.cells l.cells l.i l.from
