-- `rows::lend::Rows::put_column` meets its contract.
use mathlib.Core.Path.{sym, ap, ◌∙◌}
use mathlib.Core.List.{[], ◌∷◌, ◌++◌}
use Prim.Native.Nat.{ℕ}
use Rattle.seq.specs.Below.{tabulate}
use Rattle.seq.proofs.Laws.Gather.{tabulate-suc}
use Rattle.sheet.specs.Table.{field_of}
use Rattle.text.proofs.Laws.Adding.{added-start, added-step, added_same}
use Rattle.rows.specs.Inner.{table_in}
use Rattle.rows.proofs.Laws.Lists.{tabulate-zero}
use Rattle.rows.proofs.lend.Rows.put_column.Goals as goal

pub loop-v-init : goal.loop-v-init
loop-v-init c = added_same _ _ _ _ (added-start _) (sym (tabulate-zero _))

pub loop-v-preserved : goal.loop-v-preserved
loop-v-preserved c =
    added-step _ _ _ _ _ _ c.loop-v.invariant c.put.ensures
    (tabulate-suc c.loop-v.v (λ u. field_of (table_in c.args.self.now.shape c.args.self.now.cells.now) u c.args.i)
    ∙ ap (λ (x : ℕ). tabulate c.loop-v.v (λ u. field_of (table_in c.args.self.now.shape c.args.self.now.cells.now) u c.args.i) ++ (x ∷ [])) (sym c.field.ensures))
