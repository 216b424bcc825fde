-- `judge::turns::close_turn` meets its contract.
use Prim.Native.Nat.{◌+◌}
use borrow.Author.Tests.{not-false, not-true}
use native.Mathlib.Omega.{arith}
use mathlib.Core.Path.{◌∙◌}
use Rattle.judge.proofs.Numbers.{common-fits, close-outside, close-differs, close-longer, close-broken, close-on}
use Rattle.judge.proofs.turns.close_turn.Goals as goal
use Rattle.judge.proofs.turns.close_turn.Goals.{then-same-size-via-then-same-size, then-same-size-via-else-same-size+then-p-name}

pub returns-then-s-eq0 : goal.returns-then-s-eq0
returns-then-s-eq0 c = c.broken.ensures ∙ close-outside _ _ _ _ _ c.if-s-eq0.true

pub overflow_add-name-then-same-size : goal.overflow_add-name-then-same-size
overflow_add-name-then-same-size c = omega (arith, c.requires.place, c.requires.holds.short, common-fits _ c.args.text.now (c.args.at + 2) c.common-same.ensures)

pub broken-requires-then-same-size : goal.broken-requires-then-same-size
broken-requires-then-same-size c = omega (arith, c.requires.place, c.requires.holds.short, common-fits _ c.args.text.now (c.args.at + 2) c.common-same.ensures)

pub returns-then-same-size : goal.returns-then-same-size
returns-then-same-size c =
    c.broken-then-same-size.ensures
    ∙ (elim c.then-same-size.branch [
      | then-same-size-via-then-same-size w ↦ close-differs _ _ _ _ _ c.if-s-eq0.false _ c.common-same.ensures w.if-same-size.true
      | then-same-size-via-else-same-size+then-p-name w ↦ close-longer _ _ _ _ _ c.if-s-eq0.false _ c.common-same.ensures w.if-p-name.true
    ])

pub returns-then-not-p : goal.returns-then-not-p
returns-then-not-p c = c.broken-then-not-p.ensures ∙ close-broken _ _ _ _ _ c.if-s-eq0.false _ c.common-same.ensures c.if-same-size.false c.if-p-name.false (not-true _ c.if-not-p.true)

pub returns : goal.returns
returns c = rw c.behind.ensures (close-on _ _ _ _ _ c.if-s-eq0.false _ c.common-same.ensures c.if-same-size.false c.if-p-name.false (not-false _ c.if-not-p.false))
