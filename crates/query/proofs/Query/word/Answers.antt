-- `query::Query::word` meets its contract. Assumes nothing.
use Rattle.query.proofs.Kept.{word-none, word-cut}
use Rattle.query.proofs.Query.word.Goals as goal

pub returns-then-self-j : goal.returns-then-self-j
returns-then-self-j c = word-none _ _ _ c.if-self-j.true

pub returns : goal.returns
returns c = word-cut _ _ _ _ _ _ c.start.ensures c.min-from.ensures _ c.min.ensures c.max-to.ensures
