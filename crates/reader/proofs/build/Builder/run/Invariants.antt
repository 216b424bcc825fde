-- `reader::build::Builder::run` meets its contract: glue over Here. Assumes nothing.
use Prim.Native.Nat.{◌-◌}
use lib.ListN.{length}
use Rattle.reader.specs.Inner.{rows_of, store_of, SameRows}
use Rattle.reader.proofs.Here.{Here}
use Rattle.reader.proofs.build.Builder.run.Given as goal

abbrev pub invariant-loop-self : goal.invariant-loop-self
invariant-loop-self l = record { here : Here l.text (rows_of l.initial.self) l.at (store_of l.self); same : SameRows l.initial.self l.self }

abbrev pub decreases-loop-self : goal.decreases-loop-self
decreases-loop-self l = length l.text - l.at
