-- `demands::elca` meets its contract: what is demanded of a call follows from the contract of `sonquilate::sq_elca`. Assumes nothing.
use Rattle.demands.proofs.Calls.{elca_demands}
use Rattle.demands.proofs.elca.Goals as goal

pub returns : goal.returns
returns c = elca_demands _ _ _ _ _ _ _ _ c.sq_elca.ensures
