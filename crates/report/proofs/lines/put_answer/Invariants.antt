-- `report::lines::put_answer` meets its contract.
use lib.ListN.{take}
use mathlib.Core.List.{◌++◌}
use Rattle.report.specs.Lines.{node_lines}
use Rattle.report.proofs.Laws.Lines.{alone}
use Rattle.text.specs.Buffers.{Added}
use Rattle.report.proofs.lines.put_answer.Given as goal

abbrev pub invariant-loop-v : goal.invariant-loop-v
invariant-loop-v l = Added (alone l.name l.reply l.listed ++ node_lines l.name l.reply (take l.v-index l.listed)) l.fn.out l.out
