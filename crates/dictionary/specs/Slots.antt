-- A table of the words of a text T: `probing`'s, in which a number names the word that stands at this place of T, and words are hashed by 32-bit FNV-1a.
--   stop_from T q h w   == the slot of w at which a search for the word q stops that starts at the hash h, modulo the slots; their number where there is none
--   stop_of T q w       == the same from the hash of q on
--   enters T k h w     == the word at the place k of T can be put into w: a slot can name k, and the search for the word stops at a slot
--   entered T k h w    == w with k in it; as it was where the word is in it already, or cannot be put in
--   Entered            == a call replies and leaves this
--   table_of T m ks     == the table of m slots with the words at the places ks put in, in order; none where their distinct words outnumber the slots
-- Letters: q a word, k a place, h a hash, w a table. Assumes nothing.
use Rattle.std.specs.Prelude.{ℕ, suc, ◌%◌, ◌≡◌, List, Bool, cond, ◌&&◌, eqb, ltb, length, get_or, set}
use mathlib.Core.Option.{Option}
use Rattle.fnv.specs.Fnv.{hash_of}
use Rattle.probing.specs.Around.{around}
use Rattle.probing.specs.Table.{blank, passes, fill}
use Rattle.words.specs.Runs.{Word}
use Rattle.words.specs.Reading.{word_at}

unfoldable pub stop_from : List ℕ → Word → ℕ → List ℕ → ℕ
stop_from T q h w = around (length w) (h % length w) λ i. passes (word_at T) q (get_or w i 0)

unfoldable pub stop_of : List ℕ → Word → List ℕ → ℕ
stop_of T q w = stop_from T q (hash_of q) w

-- One more than the last place that a slot can name.
abbrev pub places : ℕ
places = 4294967295

unfoldable pub enters : List ℕ → ℕ → ℕ → List ℕ → Bool
enters T k h w = ltb k places && ltb (stop_from T (word_at T k) h w) (length w)

unfoldable pub entered : List ℕ → ℕ → ℕ → List ℕ → List ℕ
entered T k h w =
    let s = stop_from T (word_at T k) h w in
    cond (enters T k h w && eqb (get_or w s 0) 0) (set w s (suc k)) w

pub record Entered (T : List ℕ) (k h : ℕ) (w : List ℕ) (r : Bool) (w' : List ℕ) : Type 0 where
  pub reply : r ≡ enters T k h w
  pub table : w' ≡ entered T k h w

unfoldable pub table_of : List ℕ → ℕ → List ℕ → Option (List ℕ)
table_of T m ks = fill m hash_of (word_at T) ks (blank m)
