-- `valid::tops::keep` meets its contract: the steps of Keeping.
use Rattle.valid.proofs.Keeping.{keep-words-pre, keep-kept}
use Rattle.valid.proofs.tops.keep.Goals as goal

pub see_words-requires : goal.see_words-requires
see_words-requires c = keep-words-pre _ _ _ _ _ _ c.requires _ c.point.ensures _ c.clear.ensures

pub returns : goal.returns
returns c =
    keep-kept _ _ _ _ _ _ c.requires _ c.point.ensures _ c.see_words.ensures _ c.settle.ensures _ c.clear-2.ensures
