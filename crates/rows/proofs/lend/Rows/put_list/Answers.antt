-- `rows::lend::Rows::put_list` meets its contract.
use mathlib.Core.Path.{sym, ◌∙◌}
use borrow.Author.Tests.{eq-eqb, ne_eqb}
use Rattle.text.proofs.Laws.Adding.{added-start, added-step, added_same}
use Rattle.rows.proofs.Laws.Lists.{listed-zero, listed-yes, listed_no}
use Rattle.rows.proofs.lend.Rows.put_list.Goals as goal
use Rattle.rows.proofs.lend.Rows.put_list.Goals.{then-field-eq1, else-field-eq1}

pub loop-v-init : goal.loop-v-init
loop-v-init c = added_same _ _ _ _ (added-start _) (sym (listed-zero _))

pub loop-v-preserved : goal.loop-v-preserved
loop-v-preserved c = elim c.if-field-eq1.branch [
  | then-field-eq1 w ↦ rw w.out-is
      (added-step _ _ _ _ _ _ c.loop-v.invariant w.put.ensures (listed-yes _ _ (eq-eqb _ _ (sym c.field.ensures ∙ w.if-field-eq1.true))))
  | else-field-eq1 w ↦ rw w.out-is
      (added-step _ _ _ _ _ _ c.loop-v.invariant (added-start _) (listed_no _ _ (ne_eqb _ _ (λ q. w.if-field-eq1.false (c.field.ensures ∙ q)))))
]
