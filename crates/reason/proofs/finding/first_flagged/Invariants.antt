-- `reason::finding::first_flagged` meets its contract: what is found from the entry at hand on is what is found in the list.
use mathlib.Core.Path.{◌≡◌}
use lib.ListN.{drop}
use Rattle.std.specs.Prelude.{find}
use Rattle.reason.specs.Inner.{flagged, lowest_by}
use Rattle.reason.proofs.finding.first_flagged.Given as goal

abbrev pub invariant-loop-x : goal.invariant-loop-x
invariant-loop-x l = find (flagged l.row) (drop l.x-index l.list) ≡ lowest_by l.row l.list
