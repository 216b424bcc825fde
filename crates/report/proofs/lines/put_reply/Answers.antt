-- `report::lines::put_reply` meets its contract: one addition after the other.
use mathlib.Core.Path.{refl}
use Rattle.report.specs.Lines.{reply_text}
use Rattle.text.proofs.Laws.Adding.{added-step}
use Rattle.report.proofs.lines.put_reply.Goals as goal

pub returns : goal.returns
unfolding reply_text
returns c =
    added-step _ _ _ _ _ _ c.put_all.ensures
    (added-step _ _ _ _ _ _ c.put.ensures
    (added-step _ _ _ _ _ _ c.put_number.ensures
    (added-step _ _ _ _ _ _ c.put-2.ensures (added-step _ _ _ _ _ _ c.put_number-2.ensures c.put-3.ensures refl) refl) refl) refl) refl
