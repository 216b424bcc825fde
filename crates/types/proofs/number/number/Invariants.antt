-- `types::number::number` meets its contract: glue over Taking, Turns and Ending.
use Rattle.types.proofs.Taking.{Taking}
use Rattle.types.proofs.number.number.Given as goal

abbrev pub invariant-loop-i : goal.invariant-loop-i
invariant-loop-i l = Taking l.parents l.tags l.m l.at l.last l.initial.rows l.rows l.i
