-- Empty lists by their ends, as the loop of this crate finds them; no public contract cites it.
--   end_moves ends j    == word j's end is another than the one before it (0 for the first)
-- Letters: j word. Assumes nothing.
use Rattle.std.specs.Prelude.{ℕ, List, Bool, not, eqb, get_or}
use Rattle.index.specs.Index.{start}

unfoldable pub end_moves : List ℕ → ℕ → Bool
end_moves ends j = not (eqb (get_or ends j 0) (start ends j))
