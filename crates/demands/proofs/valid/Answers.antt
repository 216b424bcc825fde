-- `demands::valid` meets its contract: what is demanded of a call follows from the contract of `sonquilate::sq_valid`. Assumes nothing.
use Rattle.demands.proofs.Calls.{valid_demands}
use Rattle.demands.proofs.valid.Goals as goal

pub returns : goal.returns
returns c = valid_demands _ _ _ _ _ _ c.sq_valid.ensures
