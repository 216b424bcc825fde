-- The next word of a text.
--   next_of T i g b  == the pass at the first byte of the next word of the text T from the place i on, in a tag or not (g), where the data before it makes a node or not (b); its
--                      node is how many nodes on it is. None where there is no word. The pass is that of `words`, specs/Scan
-- Assumes nothing.
use Rattle.std.specs.Prelude.{ℕ, List, Bool, false, cond, Option, None, Some}
use Rattle.words.specs.Scan.{ahead, seek_in}
use Rattle.words.specs.Scan as words
use Rattle.mentions.specs.declared.Pass.{Pass}

abbrev pub as_pass : words.Seen → Option Pass
as_pass s = cond s.found (Some (record { at = s.place; tag = s.tag; solid = s.solid; node = s.node })) None

unfoldable pub next_of : List ℕ → ℕ → Bool → Bool → Option Pass
next_of T i g b = as_pass (seek_in T i (ahead g false b 0))
