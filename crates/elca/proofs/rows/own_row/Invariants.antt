-- `elca::rows::own_row` meets its contract: glue over Writing.
use Rattle.seq.proofs.Laws.Loops.{Filling}
use Rattle.elca.specs.Inner.Rows.{own_diff}
use Rattle.elca.proofs.rows.own_row.Given as goal

abbrev pub invariant-loop-j : goal.invariant-loop-j
invariant-loop-j l = Filling (own_diff l.counts l.n l.k l.work l.v) l.initial.row l.row l.j
