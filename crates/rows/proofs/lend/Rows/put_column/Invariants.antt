-- `rows::lend::Rows::put_column` meets its contract.
use Rattle.seq.specs.Below.{tabulate}
use Rattle.text.specs.Buffers.{Added}
use Rattle.sheet.specs.Table.{field_of}
use Rattle.rows.specs.Inner.{table_in}
use Rattle.rows.proofs.lend.Rows.put_column.Given as goal

abbrev pub invariant-loop-v : goal.invariant-loop-v
invariant-loop-v l = Added (tabulate l.v (λ u. field_of (table_in l.self.shape l.self.cells.now) u l.i)) l.initial.out l.out
