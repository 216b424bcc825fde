-- `From<u32>` of `names::link::Link` meets its contract.
use borrow.Author.Tests.{eq-eqb, ne_eqb}
use Rattle.names.specs.Inner.Calls.{link_of}
use Rattle.names.proofs.link.LinkFromU32.from.Goals as goal

pub returns-then-k-eq0 : goal.returns-then-k-eq0
unfolding link_of
returns-then-k-eq0 c = rw (eq-eqb _ _ c.if-k-eq0.true)

pub returns-else-k-eq0 : goal.returns-else-k-eq0
unfolding link_of
returns-else-k-eq0 c = rw (ne_eqb _ _ c.if-k-eq0.false)
