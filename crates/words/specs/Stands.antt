-- At which nodes of a text a word stands.
--   words_on T M v    == the words that are read in the text T at those of the mentions M that are of the node v
--   stands T q v     == q is one of the words of the node v in the text T
-- For a text of the profile these are the words that specs/Words gives the node: proofs/Stands, `words-on`. Letters: q a word, v a node. Assumes nothing.
use Rattle.std.specs.Prelude.{ℕ, List, [], ◌∷◌, Bool, cond, eqb}
use Rattle.profile.specs.Tags.{known}
use Rattle.words.specs.Runs.{Word}
use Rattle.words.specs.Places.{Mention}
use Rattle.words.specs.Reading.{word_at}
use Rattle.words.specs.Scan.{mentions_in}

unfoldable pub words_on : List ℕ → List Mention → ℕ → List Word
words_on T [] v = []
words_on T (m ∷ M) v = cond (eqb m.node v) (word_at T m.place ∷ words_on T M v) (words_on T M v)

unfoldable pub stands : List ℕ → Word → ℕ → Bool
stands T q v = known (words_on T (mentions_in T) v) q
