-- `query::Query::start` meets its contract. Assumes nothing.
use Rattle.query.proofs.Kept.{start-none, start-some}
use Rattle.query.proofs.Query.start.Goals as goal

pub returns-then-j-eq0 : goal.returns-then-j-eq0
returns-then-j-eq0 c = start-none c.args.self.now.ends.now c.args.j c.if-j-eq0.true

pub returns-else-j-eq0 : goal.returns-else-j-eq0
returns-else-j-eq0 c = start-some c.args.self.now.ends.now c.args.j c.if-j-eq0.false
