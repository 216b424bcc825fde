-- `text::Writer::put_all` meets its contract.
use lib.ListN.{take}
use Rattle.text.specs.Buffers.{Added}
use Rattle.text.proofs.Writer.put_all.Given as goal

abbrev pub invariant-loop-x : goal.invariant-loop-x
invariant-loop-x g l = Added (take l.x-index l.xs) l.initial.self l.self
