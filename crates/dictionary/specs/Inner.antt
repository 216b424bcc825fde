-- What the functions of this crate promise each other; no public contract cites it.
--   Stops T q h w r   == a search for the word q in the table w of the words of the text T, from the hash h on, stops at the slot r; or at none, and r is none
-- Assumes nothing.
use Rattle.std.specs.Prelude.{ℕ, ◌<◌, ◌≡◌, List, Option, None, Some, length}
use Rattle.words.specs.Runs.{Word}
use Rattle.dictionary.specs.Slots.{stop_from}

abbrev pub Stops : List ℕ → Word → ℕ → List ℕ → Option ℕ → Type 0
Stops T q h w None = stop_from T q h w ≡ length w
Stops T q h w (Some s) = (s < length w) × (s ≡ stop_from T q h w)
