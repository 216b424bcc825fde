-- `text::line_end` meets its contract: glue over Scanning.
use Rattle.text.specs.Text.{line_length}
use Rattle.text.proofs.Scanning.{Run}
use Rattle.text.proofs.line_end.Given as goal

abbrev pub invariant-loop-i : goal.invariant-loop-i
invariant-loop-i l = Run line_length l.s l.at l.i
