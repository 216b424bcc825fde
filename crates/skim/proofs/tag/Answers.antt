-- `skim::tag` meets its contract: glue over Pieces.
use Prim.Native.Nat.{◌+◌}
use mathlib.Core.Path.{sym, ap, ◌∙◌}
use native.Mathlib.Omega.{arith}
use Rattle.skim.proofs.Pieces.{found_le, skimmed, tag-close, tag-empty, tag-start}
use Rattle.skim.proofs.tag.Goals as goal
use Rattle.skim.proofs.tag.Goals.{then-is_at, else-is_at+then-text-last-eq47, else-is_at+else-text-last-eq47}

pub bounds-text-last : goal.bounds-text-last
bounds-text-last c =
    omega (arith, c.find-last.ensures, found_le _ _ _ c.requires c.find-last.ensures)

pub overflow_add-result : goal.overflow_add-result
overflow_add-result c = omega (arith, found_le _ _ _ c.requires c.find-last.ensures, c.well_formed.0.1)

pub returns : goal.returns
returns c =
    let e = c.find-last.ensures in
    elim c.if-is_at.branch [
      | then-is_at w ↦ ap (λ k. skimmed k c.args.at (c.find-last.result + 1)) w.kind-is ∙ tag-close _ _ _ c.requires e (sym c.is_at.ensures ∙ w.if-is_at.true)
      | else-is_at+then-text-last-eq47 w ↦ ap (λ k. skimmed k c.args.at (c.find-last.result + 1)) w.kind-is ∙ tag-empty _ _ _ c.requires e (sym c.is_at.ensures ∙ w.if-is_at.false) w.if-text-last-eq47.true
      | else-is_at+else-text-last-eq47 w ↦ ap (λ k. skimmed k c.args.at (c.find-last.result + 1)) w.kind-is ∙ tag-start _ _ _ c.requires e (sym c.is_at.ensures ∙ w.if-is_at.false) w.if-text-last-eq47.false
    ]
