-- `engine::passes::clear` meets its contract: glue over Blanks. Assumes nothing.
use mathlib.Core.Path.{◌≡◌}
use lib.ListN.{take}
use Rattle.engine.specs.Search.{blanked}
use Rattle.engine.proofs.passes.clear.Given as goal

abbrev pub invariant-loop-entry : goal.invariant-loop-entry
invariant-loop-entry l = l.entry-items ≡ blanked l.entry-index (take 64 l.fn.stack)
