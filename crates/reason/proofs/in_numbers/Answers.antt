-- `reason::in_numbers` meets its contract, case by case.
use mathlib.Core.Path.{sym}
use Rattle.reason.proofs.Laws.InNumbers.{numbers-refused, numbers-case}
use Rattle.reason.proofs.in_numbers.Goals as goal

pub returns-then-reply-ne-ACCEPTED : goal.returns-then-reply-ne-ACCEPTED
returns-then-reply-ne-ACCEPTED c = numbers-refused _ c.if-reply-ne-ACCEPTED.true

pub returns-in-NotFull : goal.returns-in-NotFull
returns-in-NotFull c = numbers-case _ _ c.if-reply-ne-ACCEPTED.false (sym c.in-NotFull.is)

pub returns-in-NotListed : goal.returns-in-NotListed
returns-in-NotListed c = numbers-case _ _ c.if-reply-ne-ACCEPTED.false (sym c.in-NotListed.is)

pub returns-in-Listed : goal.returns-in-Listed
returns-in-Listed c = numbers-case _ _ c.if-reply-ne-ACCEPTED.false (sym c.in-Listed.is)
