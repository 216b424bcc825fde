-- `plan::gather::tally` meets its contract: glue over Gathering. Assumes nothing.
use Rattle.query.specs.Query.{query}
use Rattle.plan.proofs.Gathering.{Tallying}
use Rattle.plan.proofs.gather.tally.Given as goal

abbrev pub invariant-loop-j : goal.invariant-loop-j
invariant-loop-j l = Tallying l.text l.fn.mention (query l.q.words.now l.q.ends.now) l.initial.lasts l.lasts l.count l.j
