-- `judge::turns::tag_turn` meets its contract.
use borrow.Author.Tests.{not-false, not-true}
use native.Mathlib.Omega.{arith}
use mathlib.Core.Path.{sym, ◌∙◌}
use Rattle.judge.proofs.Numbers.{tag-closed, tag-broken, tag-full, tag-node}
use Rattle.judge.proofs.turns.tag_turn.Goals as goal

pub returns-then-is_closed : goal.returns-then-is_closed
returns-then-is_closed c = c.broken.ensures ∙ tag-closed _ _ _ _ (sym c.is_closed.ensures ∙ c.if-is_closed.true)

pub returns-then-not-p : goal.returns-then-not-p
returns-then-not-p c = c.broken-then-not-p.ensures ∙ tag-broken _ _ _ _ (sym c.is_closed.ensures ∙ c.if-is_closed.false) (not-true _ c.if-not-p.true)

pub returns-then-is_full : goal.returns-then-is_full
returns-then-is_full c = c.over.ensures ∙ tag-full _ _ _ _ (sym c.is_closed.ensures ∙ c.if-is_closed.false) (not-false _ c.if-not-p.false) (sym c.is_full.ensures ∙ c.if-is_full.true)

pub returns : goal.returns
returns c =
    rw c.behind.ensures
    (tag-node _ _ _ _ (sym c.is_closed.ensures ∙ c.if-is_closed.false) (not-false _ c.if-not-p.false) (sym c.is_full.ensures ∙ c.if-is_full.false) _ (omega arith))
