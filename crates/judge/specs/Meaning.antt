-- What a reply to a text says of it, by the grammar alone (`profile`, specs/Grammar, Markup, Tree and Limits).
--   Kept T n      == T is not too long, is a text of the profile that keeps the limits, and has n nodes
--   BrokenAt T i  == T is not too long, i is the first byte at which no text of the profile continues, and no node over a limit is met before it
--   OverAt T v    == T is not too long, v is the first node over a limit, and nothing before it, and not the byte at which it is met, breaks the markup
-- That the judge replies so exactly where it is true is in proofs/Meaning. Letters: T text, n nodes, i a place, v a node. Assumes nothing.
use Rattle.std.specs.Prelude.{ℕ, ◌≤◌, ◌≡◌, List, length}
use Rattle.profile.specs.Tree.{Node}
use Rattle.profile.specs.Limits.{Accepted, Broken, Overrun}
use Rattle.judge.specs.Judge.{longest, max_level, max_nodes}

pub record Kept (T : List ℕ) (n : ℕ) : Type 0 where
  pub short : length T ≤ longest
  pub nodes : List Node
  pub kept : Accepted max_level max_nodes T nodes
  pub total : n ≡ length nodes

pub record BrokenAt (T : List ℕ) (i : ℕ) : Type 0 where
  pub short : length T ≤ longest
  pub breaks : Broken max_level max_nodes T i

pub record OverAt (T : List ℕ) (v : ℕ) : Type 0 where
  pub short : length T ≤ longest
  pub over : Overrun max_level max_nodes T v
