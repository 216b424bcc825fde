-- Known words in plain statements: what the tests of Known mean. proofs/ shows that they mean it.
--   InTree I j           == word j is in the tree: some node is on its list
--   AllInTree I          == so is every positive word
--   HasUnknown I         == some positive word has an empty list
--   WordsAsked asks I    == what a search asks of its words: nothing where the empty answer is asked for, else that every positive one is in the tree
-- Letters: I index; asks whether the empty answer is asked for; j word. Assumes nothing.
use Rattle.std.specs.Prelude.{ℕ, ◌<◌, ◌≡◌, Bool, false, length, get_or}
use Rattle.index.specs.Index.{Index, nodes, wanted}

pub record InTree (I : Index) (j : ℕ) : Type 0 where
  pub place : ℕ
  pub within : place < length (wanted I j)
  pub node : get_or (wanted I j) place 0 < nodes I

abbrev pub AllInTree : Index → Type 0
AllInTree I = (j : ℕ) → j < I.positive → InTree I j

pub record HasUnknown (I : Index) : Type 0 where
  pub word : ℕ
  pub positive : word < I.positive
  pub empty : length (wanted I word) ≡ 0

abbrev pub WordsAsked : Bool → Index → Type 0
WordsAsked asks I = asks ≡ false → AllInTree I
