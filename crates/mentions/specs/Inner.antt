-- What the functions of this crate promise each other; no public contract cites it.
--   quiet y x       == the byte x does not matter to the pass: it is no letter or digit, no `<`, and not y
--   known s         == what the pass s knows, no word going on;  ahead T s: what is left of the text T where it is;  leads T s: the next word from there on
--   Reached T s r   == the pass s, having reached a byte that matters, is r
--   MarkupPre, PassPre   == the pass stands at a `<`, and at any byte that matters but a letter or digit
--   Passed T s r    == the pass s, having passed over that, is r
-- Letters: T text, s r passes. Assumes nothing.
use Rattle.std.specs.Prelude.{ℕ, ◌+◌, ◌≤◌, ◌<◌, ◌≡◌, List, Bool, false, not, cond, ◌||◌, eqb, length, get_or, drop}
use Rattle.profile.specs.Bytes.{'&', '<', '>'}
use Rattle.profile.specs.Tree.{place_in}
use Rattle.words.specs.Runs.{word_byte}
use Rattle.words.specs.Scan.{Ahead, ahead, seek}
use Rattle.words.specs.Scan as words
use Rattle.mentions.specs.declared.Pass.{Pass}

unfoldable pub quiet : ℕ → ℕ → Bool
quiet y x = not (word_byte x || eqb x '<' || eqb x y)

-- The third byte that matters, in a tag and in data.
abbrev pub third : Bool → ℕ
third g = cond g '>' '&'

abbrev pub known : Pass → Ahead
known s = ahead s.tag false s.solid s.node

abbrev pub leads : List ℕ → Pass → words.Seen
leads T s = seek (place_in T) 0 (known s) (drop s.at T)

pub record Reached (T : List ℕ) (s r : Pass) : Type 0 where
  pub same : leads T s ≡ leads T r
  pub on : s.at ≤ r.at
  pub node : r.node ≡ s.node
  pub stops : r.at < length T → quiet (third r.tag) (get_or T r.at 0) ≡ false

pub record MarkupPre (T : List ℕ) (s : Pass) : Type 0 where
  pub within : s.at < length T
  pub angle : get_or T s.at 0 ≡ '<'
  pub few : s.node ≤ s.at

pub record PassPre (T : List ℕ) (s : Pass) : Type 0 where
  pub within : s.at < length T
  pub stops : quiet (third s.tag) (get_or T s.at 0) ≡ false
  pub other : word_byte (get_or T s.at 0) ≡ false
  pub few : s.node ≤ s.at

pub record Passed (T : List ℕ) (s r : Pass) : Type 0 where
  pub same : leads T s ≡ leads T r
  pub on : s.at < r.at
  pub few : r.node + s.at ≤ s.node + r.at
