-- `valid::mark` meets its contract: glue over Negating.
use mathlib.Core.Path.{refl}
use Rattle.valid.proofs.Negating.{negating_start, mark_target, negating_skip, negating_mark}
use Rattle.valid.proofs.mark.Goals as goal
use Rattle.valid.proofs.mark.Goals.{then-tags-x-eq0, else-tags-x-eq0}

pub loop-x-init : goal.loop-x-init
loop-x-init c = negating_start _ _ _ c.requires

pub bounds-row-c : goal.bounds-row-c
bounds-row-c c =
    mark_target _ _ _ c.requires _ _ c.loop-x.invariant c.loop-x-test.true _ refl c.if-tags-x-eq0.true _ refl

pub loop-x-preserved : goal.loop-x-preserved
loop-x-preserved c =
    elim c.if-tags-x-eq0.branch [
      | then-tags-x-eq0 w ↦ rw w.row-is (negating_mark _ _ _ c.requires _ _ c.loop-x.invariant c.loop-x-test.true _ refl w.if-tags-x-eq0.true _ refl)
      | else-tags-x-eq0 w ↦ rw w.row-is (negating_skip _ _ _ c.requires _ _ c.loop-x.invariant c.loop-x-test.true _ refl w.if-tags-x-eq0.false)
    ]
