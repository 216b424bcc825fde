-- What a call that reads a text promises, by the grammar alone (`profile`, specs/Grammar, Markup, Tree and Limits).
--   Taken T l n k   == T is a text of the profile that keeps the limits, its n nodes fit what is lent, l, and k holds the rows of its tree: of the syntax tree
--                      of each document that has this text
--   Cramped T l n   == the same of T, but its n nodes do not fit what is lent
-- What MARKUP and TREE say is in `judge`, specs/Meaning. Letters: T text, l k what is lent, before and after; n nodes. Assumes nothing.
use Rattle.std.specs.Prelude.{ℕ, ◌*◌, ◌≤◌, ◌≡◌, List, true, false, length}
use mathlib.Core.Option.{none}
use Rattle.seq.specs.Memory.{zeroed, over}
use Rattle.profile.specs.Grammar.{Document, text, IsText}
use Rattle.profile.specs.Tree.{tree}
use Rattle.profile.specs.Limits.{keys_of, first_over}
use Rattle.judge.specs.Judge.{longest, max_level, max_nodes}
use Rattle.judge.specs.Meaning.{Kept}
use Rattle.reader.specs.Read.{Lent, fits_in, parents_of, tags_in, firsts_of, lasts_of}

-- What one document with this text says of the rows.
pub record Rows (d : Document) (l k : Lent) (n : ℕ) : Type 0 where
  pub nodes : length (tree d) ≡ n
  pub clear : first_over max_level max_nodes 0 (keys_of (tree d)) ≡ none
  pub parents : k.parents ≡ over (parents_of (tree d)) l.parents
  pub tags : k.tags ≡ over (tags_in (tree d)) l.tags
  pub firsts : k.firsts ≡ over (firsts_of (tree d)) l.firsts
  pub lasts : k.lasts ≡ over (lasts_of (tree d)) l.lasts
  pub work : k.work ≡ zeroed (3 * n) l.work

pub record Taken (T : List ℕ) (l : Lent) (n : ℕ) (k : Lent) : Type 0 where
  pub short : length T ≤ longest
  pub fits : fits_in n l ≡ true
  pub whole : IsText T
  pub rows : (d : Document) → text d ≡ T → Rows d l k n

pub record Cramped (T : List ℕ) (l : Lent) (n : ℕ) : Type 0 where
  pub kept : Kept T n
  pub short : fits_in n l ≡ false
