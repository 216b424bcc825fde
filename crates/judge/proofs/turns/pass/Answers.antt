-- `judge::turns::pass` meets its contract.
use borrow.Author.Tests.{not-false, not-true}
use mathlib.Core.Path.{◌∙◌}
use Rattle.judge.proofs.Numbers.{passed-broken, passed_on}
use Rattle.judge.proofs.turns.pass.Goals as goal

pub returns-then-not-p : goal.returns-then-not-p
returns-then-not-p c = c.broken.ensures ∙ passed-broken _ _ (not-true _ c.if-not-p.true)

pub returns : goal.returns
returns c = passed_on _ _ (not-false _ c.if-not-p.false)
