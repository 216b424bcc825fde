-- `inplace::same_word` meets its contract. Assumes nothing.
use Rattle.inplace.proofs.Steps.{pair-start, pair-longer, pair-differ, pair_step, pair-end}
use Rattle.inplace.proofs.same_word.Goals as goal

pub loop-p-init : goal.loop-p-init
loop-p-init c = pair-start _ _ _

pub loop-p-preserved : goal.loop-p-preserved
loop-p-preserved c = pair_step _ _ _ _ _ c.loop-p.invariant _ c.in-Some.ensures _ c.in-Some-letter_from.ensures c.if-p-q.true

pub returns-in_default-letter_from : goal.returns-in_default-letter_from
returns-in_default-letter_from c = pair-differ _ _ _ _ _ c.loop-p.invariant _ c.in-Some.ensures _ c.in-Some-letter_from.ensures c.if-p-q.false

pub returns-in_default-letter_from-2 : goal.returns-in_default-letter_from-2
returns-in_default-letter_from-2 c = pair-longer _ _ _ _ _ c.loop-p.invariant _ c.in-Some.ensures c.in_default-letter_from.ensures

pub returns : goal.returns
returns c = pair-end _ _ _ _ _ c.loop-p.invariant c.in_default.ensures _ c.letter_from-2.ensures _ c.is_none.ensures
