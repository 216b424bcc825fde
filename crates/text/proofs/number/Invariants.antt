-- `text::number` meets its contract: glue over Scanning.
use Rattle.text.proofs.Scanning.{Figures}
use Rattle.text.proofs.number.Given as goal

abbrev pub invariant-loop-b : goal.invariant-loop-b
invariant-loop-b l = Figures l.f l.b-index l.x
