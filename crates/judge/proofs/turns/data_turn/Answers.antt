-- `judge::turns::data_turn` meets its contract.
use borrow.Author.Tests.{not-false, not-true}
use native.Mathlib.Omega.{arith}
use mathlib.Core.Path.{sym, ◌∙◌}
use Rattle.judge.proofs.Numbers.{data_outside, data_white, data_solid, data_full, data_broken, data_node_lem}
use Rattle.judge.proofs.turns.data_turn.Goals as goal
use Rattle.judge.proofs.turns.data_turn.Goals.{then-p-via-then-p, then-p-via-else-p+then-s}

pub returns-then-s-eq0 : goal.returns-then-s-eq0
returns-then-s-eq0 c = c.space_turn.ensures ∙ data_outside _ _ c.if-s-eq0.true

pub returns-then-p : goal.returns-then-p
returns-then-p c =
    c.pass.ensures
    ∙ (elim c.then-p.branch [
      | then-p-via-then-p w ↦ data_white _ _ c.if-s-eq0.false w.if-p.true
      | then-p-via-else-p+then-s w ↦ data_solid _ _ c.if-s-eq0.false w.if-s.true
    ])

pub returns-then-is_full : goal.returns-then-is_full
returns-then-is_full c = c.over.ensures ∙ data_full _ _ c.if-s-eq0.false c.if-p.false c.if-s.false (sym c.is_full.ensures ∙ c.if-is_full.true)

pub returns-then-not-p : goal.returns-then-not-p
returns-then-not-p c = c.broken.ensures ∙ data_broken _ _ c.if-s-eq0.false c.if-p.false c.if-s.false (sym c.is_full.ensures ∙ c.if-is_full.false) (not-true _ c.if-not-p.true)

pub returns : goal.returns
returns c = data_node_lem _ _ c.if-s-eq0.false c.if-p.false c.if-s.false (sym c.is_full.ensures ∙ c.if-is_full.false) (not-false _ c.if-not-p.false) _ (omega arith)
