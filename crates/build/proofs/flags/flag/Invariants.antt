-- `build::flags::flag` meets its contract: glue over Rows. Assumes nothing.
use Rattle.query.specs.Query.{query}
use Rattle.build.proofs.Rows.{RowFlags}
use Rattle.build.proofs.flags.flag.Given as goal

abbrev pub invariant-loop-j : goal.invariant-loop-j
invariant-loop-j l = RowFlags l.text l.fn.mention (query l.q.words.now l.q.ends.now) l.n l.initial.counts l.counts l.j
