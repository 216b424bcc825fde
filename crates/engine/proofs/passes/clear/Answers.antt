-- `engine::passes::clear` meets its contract: glue over Blanks. Assumes nothing.
use mathlib.Core.Path.{sym}
use Rattle.engine.proofs.Blanks.{blanked-zero, blanking_step, blanking_end}
use Rattle.engine.proofs.passes.clear.Goals as goal

pub loop-entry-init : goal.loop-entry-init
loop-entry-init c = sym (blanked-zero _)

pub loop-entry-preserved : goal.loop-entry-preserved
loop-entry-preserved c = blanking_step _ _ c.requires _ _ _ c.new.ensures c.loop-entry-test.true c.loop-entry.invariant

pub returns : goal.returns
returns c = blanking_end _ _ c.requires _ _ c.loop-entry.invariant c.loop-entry.auto.entry-index-end c.loop-entry-test.false
