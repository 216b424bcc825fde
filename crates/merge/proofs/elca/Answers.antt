-- `merge::elca` meets its contract: what the engine promises is what is promised. Assumes nothing.
use Rattle.merge.proofs.Searched.{searched-elca}
use Rattle.merge.proofs.elca.Goals as goal

pub returns : goal.returns
returns c = rw c.into.ensures (searched-elca _ _ _ _ _ _ _ _ c.search.ensures)
