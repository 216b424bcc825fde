-- `reason::flags::flag_of` meets its contract.
use mathlib.Core.Path.{◌∙◌}
use Rattle.reason.proofs.Laws.Counts.{flag-below-none, flag-below-some}
use Rattle.reason.proofs.flags.flag_of.Goals as goal
use Rattle.reason.proofs.flags.flag_of.Goals.{then-above-ne0, else-above-ne0}

pub returns : goal.returns
returns c =
    c.from.ensures ∙ elim c.if-above-ne0.branch [
      | then-above-ne0 w ↦ rw (w.from-is, w.is_some.ensures, w.first_missing.ensures) (flag-below-some _ _ _ _ _ w.if-above-ne0.true)
      | else-above-ne0 w ↦ rw w.from-is (flag-below-none _ _ _ _ _ w.if-above-ne0.false)
    ]
