-- `demands::slca` meets its contract: what is demanded of a call follows from the contract of `sonquilate::sq_slca`. Assumes nothing.
use Rattle.demands.proofs.Calls.{slca_demands}
use Rattle.demands.proofs.slca.Goals as goal

pub returns : goal.returns
returns c = slca_demands _ _ _ _ _ _ c.sq_slca.ensures
