-- `skim::dashes` meets its contract: glue over Rows.
use mathlib.Core.Path.{sym, ◌∙◌}
use Rattle.skim.proofs.Rows.{pair-at, looking_found, looking_end, dashes_first, dashes_next}
use Rattle.skim.proofs.dashes.Goals as goal

pub loop-i-init : goal.loop-i-init
loop-i-init c = dashes_first _ _ _ c.find-i.ensures

pub loop-i-preserved : goal.loop-i-preserved
loop-i-preserved c = dashes_next _ _ _ c.loop-i.invariant c.loop-i-test.true (sym c.is_at.ensures ∙ c.if-not-is_at.true) _ c.find-i-in-loop-i.ensures

pub returns-else-not-is_at : goal.returns-else-not-is_at
returns-else-not-is_at c =
    looking_found _ _ _ _ c.loop-i.invariant.looking c.loop-i-test.true
    (pair-at _ _ _ _ c.loop-i-test.true (c.loop-i.invariant.dash c.loop-i-test.true) (sym c.is_at.ensures ∙ c.if-not-is_at.false))

pub returns-after-loop-i : goal.returns-after-loop-i
returns-after-loop-i c = looking_end _ _ _ _ c.loop-i.invariant.looking c.loop-i-test.false
