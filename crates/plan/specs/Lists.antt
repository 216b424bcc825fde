-- The table of a text's words, and the lists of a query's words (02, Q-5).
--   places_of M           == the places of the mentions M
--   word_table T m        == the table of the words of the text T in m slots; none where the distinct words outnumber the slots
--   made o, table_or w o  == whether there is a table o, and which slots are left: the table, or w where there is none
--   list_for T Q j        == the list of the query's word j: the nodes at which it stands, in increasing number
--   lists_to T Q k        == the lists of the first k words, one after the other
-- Letters: T text, Q query, m slots, j k words. Assumes nothing.
use Rattle.std.specs.Prelude.{ℕ, zero, suc, List, [], ◌++◌, map, Bool, true, false, length}
use mathlib.Core.Option.{Option, none, some}
use Rattle.seq.specs.Below.{listed}
use Rattle.profile.specs.Reader.{tree_of}
use Rattle.words.specs.Places.{Mention}
use Rattle.words.specs.Scan.{mentions_in}
use Rattle.words.specs.Stands.{stands}
use Rattle.dictionary.specs.Slots.{table_of}
use Rattle.query.specs.Query.{Query, asked}

abbrev pub places_of : List Mention → List ℕ
places_of M = map (λ (m : Mention). m.place) M

unfoldable pub word_table : List ℕ → ℕ → Option (List ℕ)
word_table T m = table_of T m (places_of (mentions_in T))

unfoldable pub list_for : List ℕ → Query → ℕ → List ℕ
list_for T Q j = listed (length (tree_of T)) (stands T (asked Q j))

unfoldable pub lists_to : List ℕ → Query → ℕ → List ℕ
lists_to T Q zero = []
lists_to T Q (suc j) = lists_to T Q j ++ list_for T Q j

abbrev pub made : Option (List ℕ) → Bool
made none = false
made (some w) = true

abbrev pub table_or : List ℕ → Option (List ℕ) → List ℕ
table_or w none = w
table_or w (some v) = v
