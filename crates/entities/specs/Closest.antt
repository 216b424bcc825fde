-- The closest entity of every node, as one row (01, "Which nodes are listed": closest entity).
--   closest_rows p t w   == w after the call: the closest entity of each node and then twice as many zeros over its front; as lent where the types' own test
--                          `fits_types` fails: more than 65,536 nodes, not a tag for each, no room for three rows, or a tree that breaks a rule
-- Letters: p parents, t tags, w rows. Assumes nothing.
use Rattle.std.specs.Prelude.{ℕ, ◌*◌, List, ◌++◌, cond, length, replicate}
use Rattle.seq.specs.Below.{tabulate}
use Rattle.seq.specs.Memory.{over}
use Rattle.answers.specs.Classes.{closest}
use Rattle.types.specs.Repeated.{fits_types}

unfoldable pub closest_rows : List ℕ → List ℕ → List ℕ → List ℕ
closest_rows p t w = cond (fits_types p t (length w)) (over (tabulate (length p) (closest p t) ++ replicate (length p * 2) 0) w) w
