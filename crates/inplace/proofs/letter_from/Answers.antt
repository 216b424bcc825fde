-- `inplace::letter_from` meets its contract. Assumes nothing.
use Rattle.std.proofs.Common.{sym, ◌∙◌}
use Rattle.inplace.proofs.Steps.{seeking_start, seeking_found, seeking_stop, seeking_jump, seeking_end}
use Rattle.inplace.proofs.letter_from.Goals as goal

pub loop-i-init : goal.loop-i-init
loop-i-init c = seeking_start _ _

pub returns-then-byte-ne0 : goal.returns-then-byte-ne0
returns-then-byte-ne0 c = seeking_found _ _ _ c.loop-i.invariant c.loop-i-test.true _ c.fold-byte.ensures c.if-byte-ne0.true

pub returns-in_err-i : goal.returns-in_err-i
returns-in_err-i c =
    rw c.from_residual.ensures (seeking_stop _ _ _ c.loop-i.invariant c.loop-i-test.true (sym c.fold-byte.ensures ∙ c.if-byte-ne0.false) c.in_err-i.ensures)

pub loop-i-preserved : goal.loop-i-preserved
loop-i-preserved c =
    let there = c.in_ok-i.ensures in
    seeking_jump _ _ _ c.loop-i.invariant c.loop-i-test.true (sym c.fold-byte.ensures ∙ c.if-byte-ne0.false) _ there.0 there.1

pub returns : goal.returns
returns c = seeking_end _ _ _ c.loop-i.invariant c.loop-i-test.false
