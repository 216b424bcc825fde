-- `elca::search` meets its contract: glue over Searching.
use Rattle.elca.proofs.Searching.{take-pre, above-pre, put-pre, found}
use Rattle.elca.proofs.search.Goals as goal

pub take_off-requires : goal.take_off-requires
take_off-requires c = take-pre _ _ _ _ c.requires _ c.flag_full.ensures

pub flag_above-requires : goal.flag_above-requires
flag_above-requires c =
    above-pre _ _ _ _ c.requires _ c.flag_full.ensures _ c.take_off.ensures

pub put-answer-requires : goal.put-answer-requires
put-answer-requires c =
    put-pre _ _ _ _ c.requires _ c.flag_full.ensures _ c.take_off.ensures _ c.flag_above.ensures

pub returns : goal.returns
returns c =
    found _ _ _ _ c.requires _ c.flag_full.ensures _ c.take_off.ensures _ c.flag_above.ensures _ _ _ _ _ _ c.put-answer.ensures c.clear.ensures
