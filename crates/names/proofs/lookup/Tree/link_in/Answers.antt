-- `names::lookup::link_in` meets its contract: it makes the four stores of `linked`.
use Rattle.names.specs.Inner.Calls.{linked}
use Rattle.names.proofs.lookup.Tree.link_in.Goals as goal

pub returns-clause-linked : goal.returns-clause-linked
unfolding linked
returns-clause-linked c = rw (c.number.ensures, c.number-2.ensures)
