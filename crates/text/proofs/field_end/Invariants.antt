-- `text::field_end` meets its contract: glue over Scanning.
use Rattle.text.specs.Text.{field_length}
use Rattle.text.proofs.Scanning.{Run}
use Rattle.text.proofs.field_end.Given as goal

abbrev pub invariant-loop-i : goal.invariant-loop-i
invariant-loop-i l = Run field_length l.l l.at l.i
