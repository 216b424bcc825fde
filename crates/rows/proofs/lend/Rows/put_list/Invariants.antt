-- `rows::lend::Rows::put_list` meets its contract.
use lib.Dec.{eqb}
use Rattle.seq.specs.Below.{listed}
use Rattle.text.specs.Buffers.{Added}
use Rattle.sheet.specs.Table.{field_of}
use Rattle.rows.specs.Inner.{table_in}
use Rattle.rows.proofs.lend.Rows.put_list.Given as goal

abbrev pub invariant-loop-v : goal.invariant-loop-v
invariant-loop-v l = Added (listed l.v (λ u. eqb (field_of (table_in l.self.shape l.self.cells.now) u l.i) 1)) l.initial.out l.out
