-- `inplace::is_word` meets its contract. Assumes nothing.
use Rattle.std.proofs.Common.{sym, ◌∙◌}
use Rattle.inplace.proofs.Steps.{spelling_start, spelling_short, spelling_differ, spelling_step, spelling_end}
use Rattle.inplace.proofs.is_word.Goals as goal

pub loop-x-init : goal.loop-x-init
loop-x-init c = spelling_start _ _ _

pub returns-in_default : goal.returns-in_default
returns-in_default c = spelling_differ _ _ _ _ _ c.loop-x.invariant c.loop-x-test.true _ c.in-Some.ensures (λ e. c.if-letter-lower.false (e ∙ sym c.lower.ensures))

pub returns-in_default-2 : goal.returns-in_default-2
returns-in_default-2 c = spelling_short _ _ _ _ _ c.loop-x.invariant c.loop-x-test.true c.in_default.ensures

pub loop-x-preserved : goal.loop-x-preserved
loop-x-preserved c = spelling_step _ _ _ _ _ c.loop-x.invariant c.loop-x-test.true _ c.in-Some.ensures (c.if-letter-lower.true ∙ c.lower.ensures)

pub returns : goal.returns
returns c = spelling_end _ _ _ _ _ c.loop-x.invariant c.loop-x-test.false _ c.letter_from-2.ensures _ c.is_none.ensures
