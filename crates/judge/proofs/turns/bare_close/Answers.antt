-- `judge::turns::bare_close` meets its contract: glue over Closing.
use Prim.Native.Nat.{◌+◌, ◌-◌, ◌<◌, ◌≤◌}
use mathlib.Core.Path.{sym, ◌∙◌}
use native.Mathlib.Omega.{arith}
use lib.ListN.{length, get_or}
use Rattle.octets.proofs.Laws.{at_true}
use Rattle.judge.specs.Inner.{no_name}
use Rattle.judge.proofs.Closing.{bare-is, name-top}
use Rattle.judge.proofs.turns.bare_close.Goals as goal
use Rattle.judge.proofs.turns.bare_close.Goals.{Else-depth-eq0, Else-not-is_at}

-- The `<` is within the text.
angle : (c : Else-not-is_at) → c.args.at < length c.args.text.now
angle c = (at_true _ _ _ (sym c.is_at.ensures ∙ c.if-not-is_at.false)).0

-- The name that is open is within the text.
within : (c : Else-depth-eq0) → (get_or c.args.names.now (c.args.depth - 1) no_name).start + (get_or c.args.names.now (c.args.depth - 1) no_name).size ≤ length c.args.text.now
within c = name-top _ _ _ _ c.requires c.if-depth-eq0.false

pub overflow_add-at : goal.overflow_add-at
overflow_add-at c = omega (arith, angle (goal.at.overflow_add-at c).Else-not-is_at, c.requires.short)

pub overflow_add-here : goal.overflow_add-here
overflow_add-here c = omega (arith, angle (goal.at.overflow_add-here c).Else-not-is_at, c.requires.short)

pub overflow_add-end : goal.overflow_add-end
overflow_add-end c = omega (arith, angle (goal.at.overflow_add-end c).Else-not-is_at, within (goal.at.overflow_add-end c).Else-depth-eq0, c.requires.short)

pub overflow_add-result : goal.overflow_add-result
overflow_add-result c = omega (arith, angle (goal.at.overflow_add-result c).Else-not-is_at, within (goal.at.overflow_add-result c).Else-depth-eq0, c.requires.short)

pub returns : goal.returns
returns c =
    let a = at_true _ c.args.text.now c.args.at (sym c.is_at.ensures ∙ c.if-not-is_at.false) in
    let b = at_true _ c.args.text.now (c.args.at + 1) (sym c.is_at-else-not-is_at.ensures ∙ c.if-not-is_at-2.false) in
    let g = at_true _ _ _ (sym c.is_at-2.ensures ∙ c.if-not-is_at-3.false) in
    bare-is _ _ _ _ c.if-depth-eq0.false g.0 a.1 b.1 g.1 _ c.common.ensures c.if-common-size.false
