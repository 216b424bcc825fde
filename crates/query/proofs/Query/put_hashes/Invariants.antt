-- `query::Query::put_hashes` meets its contract: glue over Hashing. Assumes nothing.
use Rattle.query.specs.Query.{query}
use Rattle.query.proofs.Hashing.{Hashing}
use Rattle.query.proofs.Query.put_hashes.Given as goal

abbrev pub invariant-loop-j : goal.invariant-loop-j
invariant-loop-j l = Hashing (query l.self.words.now l.self.ends.now) l.initial.hashes l.hashes l.j
