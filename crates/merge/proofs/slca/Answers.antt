-- `merge::slca` meets its contract: what the engine promises is what is promised, whatever becomes of the own counts. Assumes nothing.
use Rattle.merge.proofs.Searched.{searched-slca}
use Rattle.merge.proofs.slca.Goals as goal

pub returns : goal.returns
returns c = rw c.into.ensures (searched-slca _ _ _ _ _ _ _ _ c.search.ensures)
