-- The reason's promise, put into numbers.
use Rattle.reason.proofs.Laws.InNumbers.{in_numbers_lem}
use Rattle.sonquilate.proofs.sq_reason.Goals as goal

pub returns : goal.returns
returns c = in_numbers_lem _ _ _ _ _ c.explain.ensures _ c.in_numbers.ensures
