-- `elca::rows::flag_above` meets its contract: glue over Flagging.
use mathlib.Core.Path.{refl, ◌∙◌}
use Rattle.full.proofs.Laws.{flag-from}
use Rattle.elca.proofs.Flagging.{flagging-start, flagging-step, flagging-end}
use Rattle.elca.proofs.rows.flag_above.Goals as goal

pub loop-v-init : goal.loop-v-init
loop-v-init c = flagging-start _ _ _ _

pub loop-v-preserved : goal.loop-v-preserved
loop-v-preserved c =
    rw (c.from.ensures ∙ flag-from _ _ refl) (flagging-step _ _ _ _ _ _ c.requires c.loop-v.invariant c.loop-v-test.true _ c.is_above-above.ensures)

pub returns : goal.returns
returns c = flagging-end _ _ _ _ _ _ c.requires c.loop-v.invariant c.loop-v-test.false
