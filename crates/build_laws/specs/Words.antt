-- The words of a text as its table has them, and the words of a document, all nodes together.
--   in_text T q       == the word q is read at some mention of the text T
--   Somewhere at     == `at` holds of some node
--   first_place T q   == the place of the first mention at which q is read; 0 where there is none
--   new_places T      == the places of the mentions whose word none before them has: one for each distinct word
--   Ruled …          == the word at the place k went by the rule: ks are the places of the mentions before, and w is the whole table
--   in_one ls         == the words of the lists ls, one list after the other;  words_in d: the words of all nodes of the document d
--   distinct seen l  == of the words l, in order, those that are neither among `seen` nor before them in l
-- Letters: T text, q word, l words. Assumes nothing.
use Rattle.std.specs.Prelude.{ℕ, suc, ◌<◌, ◌≡◌, List, [], ◌∷◌, ◌++◌, Bool, true, cond, get_or}
use mathlib.Core.Option.{some}
use Rattle.seq.specs.Lists.{same_list, first_of}
use Rattle.profile.specs.Grammar.{Document}
use Rattle.profile.specs.Tags.{known}
use Rattle.probing.specs.Table.{names, firsts, free_of}
use Rattle.fnv.specs.Fnv.{hash_of}
use Rattle.words.specs.Runs.{Word}
use Rattle.words.specs.Reading.{word_at}
use Rattle.words.specs.Scan.{mentions_in}
use Rattle.words.specs.Words.{document_words}
use Rattle.dictionary.specs.Slots.{stop_of, table_of}
use Rattle.plan.specs.Lists.{places_of}

abbrev pub in_text : List ℕ → Word → Bool
in_text T q = names (word_at T) (places_of (mentions_in T)) q

pub record Somewhere (at : ℕ → Bool) : Type 0 where
  pub node : ℕ
  pub stands : at node ≡ true

abbrev pub first_place : List ℕ → Word → ℕ
first_place T q = first_of (λ i. same_list q (word_at T i)) 0 (places_of (mentions_in T))

abbrev pub new_places : List ℕ → List ℕ
new_places T = firsts (word_at T) [] (places_of (mentions_in T))

-- The table as it was before has a first free slot, cyclically from the word's hash modulo the slots; the word goes there, stays, and is found there.
pub record Ruled (T : List ℕ) (m : ℕ) (ks : List ℕ) (k : ℕ) (w : List ℕ) : Type 0 where
  pub before : List ℕ
  pub then : table_of T m ks ≡ some before
  pub there : free_of m hash_of (word_at T k) before < m
  pub stays : get_or w (free_of m hash_of (word_at T k) before) 0 ≡ suc k
  pub found : stop_of T (word_at T k) w ≡ free_of m hash_of (word_at T k) before

-- ---- by the grammar
unfoldable pub in_one : List (List Word) → List Word
in_one [] = []
in_one (l ∷ more) = l ++ in_one more

abbrev pub words_in : Document → List Word
words_in d = in_one (document_words d)

unfoldable pub distinct : List Word → List Word → List Word
distinct seen [] = []
distinct seen (q ∷ l) = cond (known seen q) (distinct (q ∷ seen) l) (q ∷ distinct (q ∷ seen) l)
