-- `full::flag_full` meets its contract: the flags are filled from the first node to the last.
use mathlib.Core.Path.{sym, ◌∙◌}
use Rattle.seq.proofs.Laws.Loops.{filling_start, filling_step, filling_end}
use Rattle.full.proofs.Laws.{flag-from, full_flags-none, full_flags-is}
use Rattle.full.proofs.flag_full.Goals as goal

pub returns-then-n-eq0 : goal.returns-then-n-eq0
returns-then-n-eq0 c = full_flags-none _ _ c.if-n-eq0.true

pub loop-v-init : goal.loop-v-init
loop-v-init c = filling_start _ _

pub loop-v-preserved : goal.loop-v-preserved
loop-v-preserved c =
    filling_step _ _ _ _ _ c.loop-v.invariant c.loop-v-test.true
    (c.from.ensures ∙ flag-from _ _ c.is_full.ensures)

pub returns : goal.returns
returns c = full_flags-is _ _ _ (sym c.loop-v.invariant.long) (filling_end _ _ _ _ c.loop-v.invariant c.loop-v-test.false)
