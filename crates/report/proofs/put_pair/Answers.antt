-- `report::put_pair` meets its contract: one addition after the other.
use mathlib.Core.Path.{refl}
use Rattle.text.proofs.Laws.Adding.{added-step}
use Rattle.report.proofs.put_pair.Goals as goal

pub returns : goal.returns
returns c = added-step _ _ _ _ _ _ c.put_elca.ensures c.put_slca.ensures refl
