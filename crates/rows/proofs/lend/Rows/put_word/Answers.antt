-- `rows::lend::Rows::put_word` meets its contract.
use native.Mathlib.Omega.{arith}
use Rattle.rows.specs.Inner.{table_in}
use Rattle.rows.proofs.Lending.{list-small, lent-more}
use Rattle.rows.proofs.lend.Rows.put_word.Goals as goal

pub overflow_cast-occurrences : goal.overflow_cast-occurrences
overflow_cast-occurrences c =
    omega (arith, list-small (table_in c.args.self.now.shape c.args.self.now.cells.now) c.args.self.now.few_words c.args.self.now.few_nodes _ c.requires.word _ _ _ _ c.requires.before c.put_list.ensures)

pub returns : goal.returns
returns c =
    lent-more (table_in c.args.self.now.shape c.args.self.now.cells.now) c.args.self.now.few_words c.args.self.now.few_nodes _ c.requires.word _ _ _ _ c.requires.before c.put_list.ensures _ _
    c.put.ensures c.put_column.ensures
