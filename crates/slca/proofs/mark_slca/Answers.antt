-- `slca::mark_slca` meets its contract.
use Rattle.slca.proofs.Laws.{drop-again, marks-by}
use Rattle.slca.proofs.mark_slca.Goals as goal

pub drop_above-requires : goal.drop_above-requires
drop_above-requires c = drop-again _ _ _ c.requires _ c.flag_full.ensures

pub returns : goal.returns
returns c = marks-by _ _ _ c.requires _ c.flag_full.ensures _ c.drop_above.ensures
