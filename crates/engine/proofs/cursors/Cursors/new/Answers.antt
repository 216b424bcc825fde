-- `engine::cursors::Cursors::new` meets its contract: glue over Walking. Assumes nothing.
use mathlib.Core.Path.{refl, ◌∙◌}
use Rattle.std.proofs.Common.{rules}
use lib.ListN.{length-set}
use Rattle.engine.proofs.Walking.{walking_start, set-pre, set-step, set-end}
use Rattle.engine.proofs.cursors.Cursors.new.Goals as goal

pub loop-j-init : goal.loop-j-init
loop-j-init c = record { heads = refl; stops = refl; walking = walking_start _ _ _ _ }

pub last_left-head-requires : goal.last_left-head-requires
last_left-head-requires c = set-pre _ _ _ _ _ _ c.requires c.loop-j.invariant.walking c.loop-j-test.true

pub loop-j-preserved : goal.loop-j-preserved
loop-j-preserved c = record {
  heads = length-set _ _ _ ∙ c.loop-j.invariant.heads;
  stops = length-set _ _ _ ∙ c.loop-j.invariant.stops;
  walking = set-step _ _ _ _ _ _ c.requires c.loop-j.invariant.walking c.loop-j-test.true _ c.last_left-head.ensures c.loop-j.invariant.heads c.loop-j.invariant.stops _ (search rules);
}

pub returns : goal.returns
returns c = set-end _ _ _ _ _ _ c.requires c.loop-j.invariant.walking c.loop-j-test.false
