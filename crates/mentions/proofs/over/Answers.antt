-- `mentions::over` meets its contract. Assumes nothing.
use Rattle.std.proofs.Common.{arith}
use Rattle.mentions.proofs.Steps.{passed-end, reference_fits, passed_reference}
use Rattle.mentions.proofs.over.Goals as goal

pub returns-then-s : goal.returns-then-s
returns-then-s c = passed-end _ _ c.requires c.if-text-s-eq60.false c.if-s.true

pub overflow_add-result-2 : goal.overflow_add-result-2
overflow_add-result-2 c = omega (arith, reference_fits _ _ c.requires c.if-text-s-eq60.false _ c.find-end.ensures)

pub returns : goal.returns
returns c = passed_reference _ _ c.requires c.if-text-s-eq60.false c.if-s.false _ c.find-end.ensures
