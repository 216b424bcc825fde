-- The tags of a tree: each name's number, from 1, in order of first appearance; 0 for a node of data, which has no name.
--   known seen n     == n is one of the names seen
--   place seen n     == how many of the names seen stand before n; all of them where n is new
--   with seen n      == the names seen once n is one of them
--   tags_after seen l == the tags of the names l, in order, after the names seen
--   tags_of l         == the tags of the names l
-- Two names are one only if they are the same bytes. Letters: n a name, l names. Assumes nothing.
use Rattle.std.specs.Prelude.{ℕ, suc, List, [], ◌∷◌, ◌++◌, Bool, false, cond, ◌||◌}
use Rattle.seq.specs.Lists.{same_list}

unfoldable pub known : List (List ℕ) → List ℕ → Bool
known [] n = false
known (m ∷ seen) n = same_list m n || known seen n

unfoldable pub place : List (List ℕ) → List ℕ → ℕ
place [] n = 0
place (m ∷ seen) n = cond (same_list m n) 0 (suc (place seen n))

unfoldable pub with : List (List ℕ) → List ℕ → List (List ℕ)
with seen n = cond (known seen n) seen (seen ++ (n ∷ []))

unfoldable pub tags_after : List (List ℕ) → List (List ℕ) → List ℕ
tags_after seen [] = []
tags_after seen ([] ∷ l) = 0 ∷ tags_after seen l
tags_after seen ((x ∷ n) ∷ l) = suc (place seen (x ∷ n)) ∷ tags_after (with seen (x ∷ n)) l

unfoldable pub tags_of : List (List ℕ) → List ℕ
tags_of l = tags_after [] l
