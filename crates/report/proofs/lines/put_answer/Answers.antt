-- `report::lines::put_answer` meets its contract.
use mathlib.Core.Path.{sym, ap, ◌∙◌}
use mathlib.Core.List.{List, append-nil, ◌++◌}
use Prim.Native.Nat.{ℕ}
use lib.Seq.{take_all}
use Rattle.report.specs.Lines.{node_lines, answer_text}
use Rattle.report.proofs.Laws.Lines.{nodes-none, nodes-step, alone, alone-none, alone-some, answer-parts}
use Rattle.text.proofs.Laws.Adding.{added-start, added-step, added_same}
use Rattle.report.proofs.lines.put_answer.Goals as goal
use Rattle.report.proofs.lines.put_answer.Goals.{then-is_empty, else-is_empty}

pub loop-v-init : goal.loop-v-init
loop-v-init c = rw (nodes-none _ _, append-nil _) (elim c.if-is_empty.branch [
  | then-is_empty w ↦ rw w.out-is (added_same _ _ _ _ w.put_line.ensures (alone-none _ _ _ (sym c.is_empty.ensures ∙ w.if-is_empty.true)))
  | else-is_empty w ↦ rw w.out-is (added_same _ _ _ _ (added-start _) (alone-some _ _ _ (sym c.is_empty.ensures ∙ w.if-is_empty.false)))
])

pub loop-v-preserved : goal.loop-v-preserved
loop-v-preserved c =
    added-step _ _ _ _ _ _ c.loop-v.invariant c.put_line-in-loop-v.ensures
    (nodes-step c.args.name.now c.args.reply (alone c.args.name.now c.args.reply c.shown-listed.result.now) c.shown-listed.result.now c.loop-v.v-index c.loop-v-test.true)

pub returns : goal.returns
returns c =
    added_same _ _ _ _ c.loop-v.invariant
    (ap (λ (t : List ℕ). alone c.args.name.now c.args.reply c.shown-listed.result.now ++ node_lines c.args.name.now c.args.reply t)
    (take_all _ c.shown-listed.result.now c.loop-v-test.false)
    ∙ answer-parts _ _ _ ∙ ap (answer_text c.args.name.now c.args.reply) c.shown-listed.ensures)
