-- `rows::search::put_answers` meets its contract: what is lent is the index.
use mathlib.Core.Path.{refl}
use native.Mathlib.Omega.{arith}
use Rattle.rows.specs.Inner.{table_in}
use Rattle.text.proofs.Laws.Adding.{added-step}
use Rattle.rows.proofs.Lending.{column-written, lent-start, lent-index, answers-three}
use Rattle.rows.proofs.search.put_answers.Goals as goal

pub loop-j-init : goal.loop-j-init
loop-j-init c = lent-start _ _ _ _ refl refl refl refl refl refl

pub returns : goal.returns
returns c =
    added-step _ _ _ _ _ _ c.put_pair.ensures c.put_valid.ensures
    (answers-three (table_in c.args.rows.now.shape c.args.rows.now.cells.now) _ _
    (lent-index (table_in c.args.rows.now.shape c.args.rows.now.cells.now) _ _ _ _ _ _ _ _ (omega (arith, c.loop-j-test.false, c.loop-j.auto.j-end))
    (column-written _ c.args.rows.now.few_nodes 0 _ _ refl refl c.put_column.ensures) (column-written _ c.args.rows.now.few_nodes 1 _ _ refl refl c.put_column-2.ensures)
    c.loop-j.invariant _ _ _ _ _ c.written.ensures c.written-2.ensures c.written-3.ensures c.written-4.ensures c.written-5.ensures)
    (lent-index (table_in c.args.rows.now.shape c.args.rows.now.cells.now) _ _ _ _ _ _ _ _ (omega (arith, c.loop-k-test.false, c.loop-k.auto.k-end))
    (column-written _ c.args.rows.now.few_nodes 0 _ _ refl refl c.put_column.ensures) (column-written _ c.args.rows.now.few_nodes 1 _ _ refl refl c.put_column-2.ensures)
    c.loop-k.invariant _ _ _ _ _ c.written-6.ensures c.written-7.ensures c.written-8.ensures c.written-9.ensures c.written-10.ensures))
