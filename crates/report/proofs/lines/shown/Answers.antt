-- `report::lines::shown` meets its contract.
use Rattle.report.proofs.Laws.Lines.{shown-accepted, shown-refused}
use Rattle.report.proofs.lines.shown.Goals as goal

pub returns-then-reply-ne0 : goal.returns-then-reply-ne0
returns-then-reply-ne0 c = shown-refused _ _ c.if-reply-ne0.true

pub returns : goal.returns
returns c = shown-accepted _ _ _ c.if-reply-ne0.false c.min.ensures
