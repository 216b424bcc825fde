-- `valid::tops::see_words` meets its contract: glue over Pointing.
use Rattle.valid.proofs.Pointing.{words-start, words-list-pre, words_step}
use Rattle.valid.proofs.tops.see_words.Goals as goal

pub loop-j-init : goal.loop-j-init
loop-j-init c = words-start _ _ _ _ _ c.requires

pub see_list-requires : goal.see_list-requires
see_list-requires c = words-list-pre _ _ _ _ _ c.requires _ _ _ c.loop-j.invariant c.loop-j-test.true

pub loop-j-preserved : goal.loop-j-preserved
loop-j-preserved c =
    words_step _ _ _ _ _ c.requires _ _ _ c.loop-j.invariant c.loop-j-test.true _ c.see_list.ensures
