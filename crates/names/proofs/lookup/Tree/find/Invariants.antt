-- `names::lookup::find` meets its contract: glue over Walking.
use lib.ListN.{get_or}
use Rattle.names.specs.Inner.Calls.{name_bit}
use Rattle.names.proofs.Walking.{ahead, Walks}
use Rattle.names.proofs.lookup.Tree.find.Given as goal

abbrev pub invariant-loop-v : goal.invariant-loop-v
invariant-loop-v l = Walks l.self.n l.self.rows.now (name_bit l.name) l.at

abbrev pub decreases-loop-v : goal.decreases-loop-v
decreases-loop-v l = ahead l.self.n l.self.rows.now (get_or l.self.rows.now l.at 0)
