-- `query::Query::is_query` meets its contract: glue over Testing. Assumes nothing.
use Rattle.std.proofs.Common.{sym, ◌∙◌}
use Rattle.query.proofs.Testing.{size_none, size-many, size-falls, size-last, size-letters}
use Rattle.query.proofs.Query.is_query.Goals.{then-k-eq0-via-then-k-eq0, then-k-eq0-via-else-k-eq0+then-k-gt8, then-k-eq0-via-else-k-eq0+else-k-gt8+then-not-ends_rise, then-k-eq0-via-else-k-eq0+else-k-gt8+else-not-ends_rise+then-start-self}
use Rattle.query.proofs.Query.is_query.Goals as goal

pub returns-then-k-eq0 : goal.returns-then-k-eq0
returns-then-k-eq0 c =
    elim c.then-k-eq0.branch [
      | then-k-eq0-via-then-k-eq0 w ↦ size_none _ w.if-k-eq0.true
      | then-k-eq0-via-else-k-eq0+then-k-gt8 w ↦ size-many _ w.if-k-gt8.true
      | then-k-eq0-via-else-k-eq0+else-k-gt8+then-not-ends_rise w ↦ size-falls _ (sym w.if-not-ends_rise.ensures)
      | then-k-eq0-via-else-k-eq0+else-k-gt8+else-not-ends_rise+then-start-self w ↦ size-last _ w.if-k-eq0.false _ w.start.ensures w.if-start-self.true
    ]

pub returns : goal.returns
returns c = c.only_letters.ensures ∙ size-letters _ c.if-k-eq0.false _ c.start.ensures c.if-k-gt8.false (sym c.if-not-ends_rise.ensures) c.if-start-self.false
