-- `rows::search::put_answers` meets its contract.
use Rattle.rows.specs.Inner.{table_in, Lent}
use Rattle.rows.proofs.search.put_answers.Given as goal

abbrev pub invariant-loop-j : goal.invariant-loop-j
invariant-loop-j l = Lent (table_in l.rows.shape l.rows.cells.now) l.j l.ends l.occurrences l.counts

abbrev pub invariant-loop-k : goal.invariant-loop-k
invariant-loop-k l = Lent (table_in l.rows.shape l.rows.cells.now) l.k l.ends l.occurrences l.counts
