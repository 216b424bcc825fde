-- Which nodes are exclusive lowest common ancestors of words, by where the words stand. `at j u` says that word j stands at the node u.
--   WordUnder p at v j    == word j stands at v or at a descendant of v
--   FullOf p k at v       == every word does: v is full
--   OwnWord p k at v j    == word j stands at v or at a descendant of v, and no full node below v is at or above that place
--   WordsElca p k at v    == every word does: v is an exclusive lowest common ancestor of the k words (source document 001)
--   text_at T Q            == where the words of the query Q stand in the text T
--   document_at d Q        == where they stand in the document d: among the words that `words`, specs/Words, gives each node
-- Letters: p parents, k words; v u nodes, j word. Assumes nothing.
use Rattle.std.specs.Prelude.{ℕ, ◌<◌, ◌≡◌, List, [], Bool, true, length, get_or}
use Rattle.tree.specs.Plain.{Under}
use Rattle.answers.specs.Plain.{Ancestor}
use Rattle.profile.specs.Grammar.{Document}
use Rattle.profile.specs.Tags.{known}
use Rattle.words.specs.Words.{document_words}
use Rattle.words.specs.Stands.{stands}
use Rattle.query.specs.Query.{Query, asked}

pub record WordUnder (p : List ℕ) (at : ℕ → ℕ → Bool) (v j : ℕ) : Type 0 where
  pub node : ℕ
  pub below : node < length p
  pub stands : at j node ≡ true
  pub under : Under p v node

abbrev pub FullOf : List ℕ → ℕ → (ℕ → ℕ → Bool) → ℕ → Type 0
FullOf p k at v = (j : ℕ) → j < k → WordUnder p at v j

pub record OwnWord (p : List ℕ) (k : ℕ) (at : ℕ → ℕ → Bool) (v j : ℕ) : Type 0 where
  pub node : ℕ
  pub below : node < length p
  pub stands : at j node ≡ true
  pub under : Under p v node
  pub exclusive : (u : ℕ) → u < length p → Ancestor p v u → FullOf p k at u → Under p u node → ⊥

abbrev pub WordsElca : List ℕ → ℕ → (ℕ → ℕ → Bool) → ℕ → Type 0
WordsElca p k at v = (j : ℕ) → j < k → OwnWord p k at v j

-- ---- the words of a query
abbrev pub text_at : List ℕ → Query → ℕ → ℕ → Bool
text_at T Q j u = stands T (asked Q j) u

abbrev pub document_at : Document → Query → ℕ → ℕ → Bool
document_at d Q j u = known (get_or (document_words d) u []) (asked Q j)
