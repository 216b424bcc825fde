-- `names::lookup::slot` meets its contract: glue over Walking.
use lib.ListN.{get_or}
use Rattle.names.specs.Inner.Calls.{name_bit}
use Rattle.names.proofs.Walking.{ahead, Downs}
use Rattle.names.proofs.lookup.Tree.slot.Given as goal

abbrev pub invariant-loop-u : goal.invariant-loop-u
invariant-loop-u l = Downs l.self.n l.self.rows.now (name_bit l.name) l.d l.at

abbrev pub decreases-loop-u : goal.decreases-loop-u
decreases-loop-u l = ahead l.self.n l.self.rows.now (get_or l.self.rows.now l.at 0)
