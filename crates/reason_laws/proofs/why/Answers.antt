-- `reason_laws::why` meets its contract: what is demanded follows from the contract of the function that it calls. Assumes nothing.
use Rattle.reason_laws.proofs.Calls.{reason_demands}
use Rattle.reason_laws.proofs.why.Goals as goal

pub returns : goal.returns
returns c = reason_demands _ _ _ _ _ c.sq_reason.ensures
