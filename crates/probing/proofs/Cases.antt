-- Rows of numbers with the table that each leaves, or none; and words with the slot at which a search for them stops, and the one that a lookup gives.
-- The values come from a program written apart from this one. A number names its last two digits, and the hash of a word is its first entry.
--   cases     17 rows of numbers; in the last four, words that differ have one hash, and all of them stay
--   lookups   16 words in such tables: some are found at their slot; for others the search stops at a free slot, or at none
--   of m ks o        == the words of ks, inserted into m free slots, leave o
--   seek m ks q s l  == in the table that they leave, the search for q stops at the slot s, and a lookup of q gives l
-- Assumes nothing.
use Prim.Native.Nat.{ℕ, ◌/◌, ◌%◌}
use mathlib.Core.Path.{◌≡◌, refl}
use mathlib.Core.List.{List, [], ◌∷◌, map}
use mathlib.Core.Option.{Option, none, some}
use lib.ListN.{get_or}
use Rattle.seq.specs.Below.{first_fail}
use Rattle.seq.specs.Lists.{same_list}
use Rattle.probing.specs.Around.{turn, reached, around}
use Rattle.probing.specs.Table.{blank, then_fill, holds, passes, home, slot_of, found, lookup, put, insert, fill}

abbrev named : ℕ → List ℕ
named k = k % 100 / 10 ∷ k % 10 ∷ []

abbrev hash : List ℕ → ℕ
hash q = get_or q 0 0

-- ---- tables
pub record Case : Type 0 where
  pub slots : ℕ
  pub numbers : List ℕ
  pub leaves : Option (List ℕ)

abbrev pub of : ℕ → List ℕ → Option (List ℕ) → Case
of m ks o = record { slots = m; numbers = ks; leaves = o }

unfoldable pub table : List Case
table =
    of 0 [] (some []) ∷
    of 0 (5 ∷ []) none ∷
    of 1 (7 ∷ []) (some (8 ∷ [])) ∷
    of 1 (7 ∷ 107 ∷ 7 ∷ []) (some (8 ∷ [])) ∷
    of 1 (7 ∷ 8 ∷ []) none ∷
    of 4 (31 ∷ 32 ∷ 131 ∷ 33 ∷ []) (some (33 ∷ 34 ∷ 0 ∷ 32 ∷ [])) ∷
    of 4 (31 ∷ 32 ∷ 33 ∷ 34 ∷ []) (some (33 ∷ 34 ∷ 35 ∷ 32 ∷ [])) ∷
    of 4 (31 ∷ 32 ∷ 33 ∷ 34 ∷ 134 ∷ []) (some (33 ∷ 34 ∷ 35 ∷ 32 ∷ [])) ∷
    of 4 (31 ∷ 32 ∷ 33 ∷ 34 ∷ 35 ∷ []) none ∷
    of 5 (12 ∷ 13 ∷ 14 ∷ 40 ∷ 41 ∷ 112 ∷ []) (some (42 ∷ 13 ∷ 14 ∷ 15 ∷ 41 ∷ [])) ∷
    of 7 (60 ∷ 61 ∷ 62 ∷ 0 ∷ 160 ∷ 1 ∷ []) (some (62 ∷ 63 ∷ 1 ∷ 2 ∷ 0 ∷ 0 ∷ 61 ∷ [])) ∷
    of 3 (20 ∷ 120 ∷ 220 ∷ 21 ∷ 22 ∷ []) (some (22 ∷ 23 ∷ 21 ∷ [])) ∷
    of 8 (11 ∷ 21 ∷ 12 ∷ 31 ∷ 13 ∷ 22 ∷ []) (some (0 ∷ 12 ∷ 22 ∷ 13 ∷ 32 ∷ 14 ∷ 23 ∷ 0 ∷ [])) ∷
    of 2 (15 ∷ 16 ∷ []) (some (17 ∷ 16 ∷ [])) ∷
    of 3 (28 ∷ 29 ∷ 128 ∷ 229 ∷ []) (some (30 ∷ 0 ∷ 29 ∷ [])) ∷
    of 5 (70 ∷ 79 ∷ 170 ∷ 271 ∷ 79 ∷ []) (some (0 ∷ 0 ∷ 71 ∷ 80 ∷ 272 ∷ [])) ∷
    of 6 (51 ∷ 15 ∷ 52 ∷ 115 ∷ 16 ∷ 59 ∷ 252 ∷ []) (some (53 ∷ 16 ∷ 17 ∷ 60 ∷ 0 ∷ 52 ∷ [])) ∷
    []

pub cases : map (λ c. fill c.slots hash named c.numbers (blank c.slots)) table ≡ map (λ c. c.leaves) table
unfolding table first_fail same_list turn reached around holds passes home slot_of found put insert fill
cases = refl

-- ---- lookups
pub record Lookup : Type 0 where
  pub slots : ℕ
  pub numbers : List ℕ
  pub word : List ℕ
  pub stops : ℕ
  pub gives : ℕ

abbrev pub seek : ℕ → List ℕ → List ℕ → ℕ → ℕ → Lookup
seek m ks q s l = record { slots = m; numbers = ks; word = q; stops = s; gives = l }

unfoldable pub words : List Lookup
words =
    seek 4 (31 ∷ 32 ∷ 131 ∷ 33 ∷ []) (3 ∷ 1 ∷ []) 3 3 ∷
    seek 4 (31 ∷ 32 ∷ 131 ∷ 33 ∷ []) (3 ∷ 2 ∷ []) 0 0 ∷
    seek 4 (31 ∷ 32 ∷ 131 ∷ 33 ∷ []) (3 ∷ 3 ∷ []) 1 1 ∷
    seek 4 (31 ∷ 32 ∷ 131 ∷ 33 ∷ []) (3 ∷ 4 ∷ []) 2 4 ∷
    seek 4 (31 ∷ 32 ∷ 131 ∷ 33 ∷ []) (2 ∷ 0 ∷ []) 2 4 ∷
    seek 4 (31 ∷ 32 ∷ 131 ∷ 33 ∷ []) [] 2 4 ∷
    seek 4 (31 ∷ 32 ∷ 131 ∷ 33 ∷ []) (3 ∷ []) 2 4 ∷
    seek 4 (31 ∷ 32 ∷ 131 ∷ 33 ∷ []) (3 ∷ 1 ∷ 0 ∷ []) 2 4 ∷
    seek 4 (31 ∷ 32 ∷ 33 ∷ 34 ∷ []) (3 ∷ 4 ∷ []) 2 2 ∷
    seek 4 (31 ∷ 32 ∷ 33 ∷ 34 ∷ []) (3 ∷ 5 ∷ []) 4 4 ∷
    seek 6 (51 ∷ 15 ∷ 52 ∷ 115 ∷ 16 ∷ 59 ∷ 252 ∷ []) (5 ∷ 9 ∷ []) 3 3 ∷
    seek 6 (51 ∷ 15 ∷ 52 ∷ 115 ∷ 16 ∷ 59 ∷ 252 ∷ []) (1 ∷ 6 ∷ []) 2 2 ∷
    seek 6 (51 ∷ 15 ∷ 52 ∷ 115 ∷ 16 ∷ 59 ∷ 252 ∷ []) (9 ∷ 5 ∷ []) 4 6 ∷
    seek 1 (7 ∷ []) (0 ∷ 7 ∷ []) 0 0 ∷
    seek 1 (7 ∷ []) (0 ∷ 8 ∷ []) 1 1 ∷
    seek 0 [] (1 ∷ 2 ∷ []) 0 0 ∷
    []

-- Where a table is left: the slot at which the search stops, and the one that a lookup gives.
abbrev searched : ℕ → List ℕ → List ℕ → Option (List ℕ)
searched m q w = some (slot_of m hash named q w ∷ lookup m hash named q w ∷ [])

pub lookups : map (λ c. then_fill (fill c.slots hash named c.numbers (blank c.slots)) (searched c.slots c.word)) words ≡
    map (λ c. some (c.stops ∷ c.gives ∷ [])) words
unfolding words first_fail same_list turn reached around holds passes home slot_of found lookup put insert fill
lookups = refl
