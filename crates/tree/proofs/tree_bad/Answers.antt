-- `tree::tree_bad` meets its contract: glue over Walk.
use mathlib.Core.Logic.{⊎_elim}
use native.Mathlib.Omega.{arith}
use Rattle.tree.proofs.Walk.{Stepped, climb-start, climb-step, downs, answer, walk_end, no_parent, parent-text, too_deep, walk_step}
use Rattle.tree.proofs.tree_bad.Goals as goal
use Rattle.tree.proofs.tree_bad.Goals.{Else-at-eq0}

stepped : (c : Else-at-eq0) → Stepped c.args.parents.now c.loop-i.i c.loop-at.level c.loop-at.at
stepped c = climb-step _ _ _ _ (downs _ _ _ _ c.loop-i.invariant) c.loop-at.invariant c.loop-at-test.true c.if-at-eq0.false

pub loop-at-init : goal.loop-at-init
loop-at-init c = climb-start _ _ _ _ c.loop-i.invariant _ _ c.saturating_sub-at.ensures

pub returns-then-at-eq0 : goal.returns-then-at-eq0
returns-then-at-eq0 c =
    answer _ _ _ _ c.loop-i.invariant (omega arith) (no_parent _ _ _ _ c.loop-i.invariant _ _ c.loop-at.invariant c.loop-at-test.true c.if-at-eq0.true)

pub overflow_sub-level : goal.overflow_sub-level
overflow_sub-level c = (stepped (goal.at.overflow_sub-level c).Else-at-eq0).counted

pub loop-at-smaller : goal.loop-at-smaller
loop-at-smaller c = (stepped (goal.at.loop-at-smaller c).Else-at-eq0).falls

pub loop-at-preserved : goal.loop-at-preserved
loop-at-preserved c = (stepped (goal.at.loop-at-preserved c).Else-at-eq0).again

pub returns-then-tags-at-eq0 : goal.returns-then-tags-at-eq0
returns-then-tags-at-eq0 c =
    answer _ _ _ _ c.loop-i.invariant (omega arith)
    (⊎_elim (parent-text _ _ _ _ c.loop-i.invariant _ _ c.loop-at.invariant c.loop-at-test.false)
    (λ q. too_deep _ _ _ _ c.loop-i.invariant _ _ c.loop-at.invariant c.loop-at-test.false (omega (arith, q.1)))
    c.then-tags-at-eq0.either)

pub loop-i-preserved : goal.loop-i-preserved
loop-i-preserved c =
    walk_step _ _ _ _ c.loop-i.invariant _ _ c.loop-at.invariant c.loop-at-test.false (omega arith) c.if-tags-at-eq0.false (omega (arith, c.if-level-ge64.false))

pub returns : goal.returns
returns c = walk_end _ _ _ _ c.loop-i.invariant _ c.min-n.ensures c.loop-i-test.false c.loop-i.auto.i-end
