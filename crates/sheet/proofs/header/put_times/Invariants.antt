-- `sheet::header::put_times` meets its contract.
use Rattle.text.specs.Buffers.{Added}
use Rattle.sheet.specs.Table.{times}
use Rattle.sheet.proofs.header.put_times.Given as goal

abbrev pub invariant-loop : goal.invariant-loop
invariant-loop l = Added (times l.counter l.text) l.initial.out l.out
