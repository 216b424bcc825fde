-- `engine::cursors::Cursors::new` meets its contract: glue over Walking. Assumes nothing.
use mathlib.Core.Path.{◌≡◌}
use lib.ListN.{length, get_or}
use Rattle.engine.proofs.Walking.{Walking, last_of, unset}
use Rattle.engine.proofs.cursors.Cursors.new.Given as goal

abbrev pub invariant-loop-j : goal.invariant-loop-j
invariant-loop-j l =
    record {
      heads : length l.cursors.heads ≡ 8;
      stops : length l.cursors.stops ≡ 8;
      walking : Walking (last_of l.ends l.occurrences) (λ i. get_or l.ends i 0) l.ends unset l.cursors l.reach l.from l.j;
    }
