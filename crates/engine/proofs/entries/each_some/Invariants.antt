-- `engine::entries::each_some` meets its contract: glue over Rows. Assumes nothing.
use Rattle.engine.proofs.Rows.{Testing}
use Rattle.engine.proofs.entries.each_some.Given as goal

abbrev pub invariant-loop-j : goal.invariant-loop-j
invariant-loop-j l = Testing l.k l.a l.j
