-- `index::counts::mark_words` meets its contract: glue over Marking.
use lib.ListN.{length}
use Rattle.index.proofs.Marking.{Columns, Marking}
use Rattle.index.proofs.counts.mark_words.Given as goal

abbrev pub invariant-loop-j : goal.invariant-loop-j
invariant-loop-j l = Columns (length l.lent.parents.now) l.lent.ends.now l.lent.occurrences.now l.work l.j l.from

abbrev pub invariant-loop-v : goal.invariant-loop-v
invariant-loop-v l = Marking (length l.lent.parents.now) l.k l.j l.list l.initial.work l.work l.v-index
