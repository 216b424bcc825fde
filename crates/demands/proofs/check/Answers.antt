-- `demands::check` meets its contract: what is demanded of a call follows from the contract of `sonquilate::sq_check`. Assumes nothing.
use Rattle.demands.proofs.Calls.{check_demands}
use Rattle.demands.proofs.check.Goals as goal

pub returns : goal.returns
returns c = check_demands _ _ _ _ c.sq_check.ensures
