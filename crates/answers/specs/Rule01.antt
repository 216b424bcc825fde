-- Entities by 01's own rule, without 02's Q-1, and what the search with NOT would list by it: proofs/Types tells what types change (01, "Which nodes are listed").
--   entity01 p t v        == v is neither text nor attribute, and v itself has a twin
--   closest01 p t x       == the nearest such entity above a text node x, or the root where there is none
--   negator01 p t q N v   == v is that of a text node on some negative word's list
--   is_negator01 I, is_valid01 I    == the tests for negators and for listed nodes, as Searches has is_negator and is_valid
-- Letters: p parents, t tags; q negative words and N their lists; I index; v node, x text node, j word. No contract speaks of these. Assumes nothing.
use Rattle.std.specs.Prelude.{ℕ, List, Bool, not, ◌&&◌, eqb}
use Rattle.seq.specs.Below.{some_below}
use Rattle.seq.specs.Lists.{some_of, first_of}
use Rattle.tree.specs.Tree.{line}
use Rattle.tree.specs.Rules.{text}
use Rattle.index.specs.Index.{Index, wanted, unwanted}
use Rattle.answers.specs.Classes.{one_text, twin}
use Rattle.answers.specs.Not.{valid_slca}

unfoldable pub entity01 : List ℕ → List ℕ → ℕ → Bool
entity01 p t v = (not (text t v) && not (one_text p t v)) && twin p t v

-- A text node is no entity itself, so the first entity on its line is the nearest above it.
unfoldable pub closest01 : List ℕ → List ℕ → ℕ → ℕ
closest01 p t x = first_of (entity01 p t) 0 (line p x)

unfoldable pub negator01 : List ℕ → List ℕ → ℕ → (ℕ → List ℕ) → ℕ → Bool
negator01 p t q N v = some_below q λ j. some_of (λ x. text t x && eqb v (closest01 p t x)) (N j)

unfoldable pub is_negator01 : Index → ℕ → Bool
is_negator01 I v = negator01 I.parents I.tags I.negative (unwanted I) v

unfoldable pub is_valid01 : Index → ℕ → Bool
is_valid01 I v = valid_slca I.parents I.positive (wanted I) (is_negator01 I) v
