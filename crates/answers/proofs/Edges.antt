-- Cases at the edges: every refusal and its nearest neighbour that is accepted, two refusals at once, own counts above 1, classes, types, several negative words.
--   edges     == the lines, which Cases adds to 01's own in one table
-- Each is worked out by hand from document 01, with 02's Q-1 for entities. A line that a search accepts stands beside the refusal that it nearly is. Assumes nothing.
use Prim.Native.Nat.{ℕ, zero, suc}
use mathlib.Core.List.{List, [], ◌∷◌}
use lib.ListN.{replicate}
use Rattle.index.specs.Index.{Index}
use Rattle.index.specs.Promises.{lent}
use Rattle.answers.proofs.Claims.{Case, case, Word, word, ask, nines, zeros, reply_of, check_of, elca_of, slca_of, valid_of, every_call, negators_of, classes_of, closest_of, gives, are, refuse}

-- ---- the tree of 01's table: 0 has the child 1, which has the texts 2 and 3; one word at 2, one at 3
abbrev pair : List ℕ → List ℕ → List ℕ → List ℕ → List ℕ → Index
pair p t ends occ cs = lent p t 2 0 ends occ cs

-- Its parents, tags, ends, occurrences and counts, as they must be.
abbrev P : List ℕ
P = 0 ∷ 0 ∷ 1 ∷ 1 ∷ []

abbrev T : List ℕ
T = 1 ∷ 2 ∷ 0 ∷ 0 ∷ []

abbrev E : List ℕ
E = 1 ∷ 2 ∷ []

abbrev O : List ℕ
O = 2 ∷ 3 ∷ []

abbrev C : List ℕ
C = 1 ∷ 1 ∷ 1 ∷ 0 ∷ 1 ∷ 1 ∷ 0 ∷ 1 ∷ []

-- The first word, and not the second, with these ends, occurrences and counts.
abbrev pair_not : List ℕ → List ℕ → List ℕ → Index
pair_not ends occ cs = lent P T 1 1 ends occ cs

-- ---- one node, and words at it
abbrev here : Word
here = word (0 ∷ []) (1 ∷ [])

abbrev single : ℕ → ℕ → Index
single a b = ask (0 ∷ []) (1 ∷ []) (replicate a here) (replicate b here)

-- ---- a chain: one node at each level, a word at the root
-- m numbers, from a on.
unfoldable pub from : ℕ → ℕ → List ℕ
from a zero = []
from a (suc m) = a ∷ from (suc a) m

-- One root and m nodes more.
abbrev chain : ℕ → Index
chain m = ask (0 ∷ from 0 m) (replicate (suc m) 1) (word (0 ∷ []) (1 ∷ replicate m 0) ∷ []) []

-- One root and m children, the word at the root.
abbrev flat : ℕ → Index
flat m = ask (replicate (suc m) 0) (replicate (suc m) 1) (word (0 ∷ []) (1 ∷ replicate m 0) ∷ []) []

-- ---- own counts above 1: node 1 has the texts 2 to 5, and 0 has 1 and the texts 6 to 11
abbrev bunch : Index
bunch =
    ask (0 ∷ 0 ∷ 1 ∷ 1 ∷ 1 ∷ 1 ∷ 0 ∷ 0 ∷ 0 ∷ 0 ∷ 0 ∷ 0 ∷ []) (1 ∷ 2 ∷ 0 ∷ 0 ∷ 0 ∷ 0 ∷ 0 ∷ 0 ∷ 0 ∷ 0 ∷ 0 ∷ 0 ∷ [])
    (word (2 ∷ 6 ∷ 7 ∷ []) (3 ∷ 1 ∷ 1 ∷ 0 ∷ 0 ∷ 0 ∷ 1 ∷ 1 ∷ 0 ∷ 0 ∷ 0 ∷ 0 ∷ [])
    ∷ word (3 ∷ 4 ∷ 8 ∷ []) (3 ∷ 2 ∷ 0 ∷ 1 ∷ 1 ∷ 0 ∷ 0 ∷ 0 ∷ 1 ∷ 0 ∷ 0 ∷ 0 ∷ [])
    ∷ word (5 ∷ 9 ∷ 10 ∷ 11 ∷ []) (4 ∷ 1 ∷ 0 ∷ 0 ∷ 0 ∷ 1 ∷ 0 ∷ 0 ∷ 0 ∷ 1 ∷ 1 ∷ 1 ∷ [])
    ∷ [])
    []

-- ---- classes
-- 0 has the children 1, 4, 6, 9, 10, 11, 12 and 13. 1 and 4 have one tag: 1 has two texts, 4 has one. 6 has the root's tag. Below it is 7, and below that 8, with one tag,
-- which 9 has too. 10 and 11 are texts. 12 and 13 have one tag, and nothing below them. No count is asked here.
abbrev kinds : Index
kinds =
    lent (0 ∷ 0 ∷ 1 ∷ 1 ∷ 0 ∷ 4 ∷ 0 ∷ 6 ∷ 7 ∷ 0 ∷ 0 ∷ 0 ∷ 0 ∷ 0 ∷ []) (3 ∷ 2 ∷ 0 ∷ 0 ∷ 2 ∷ 0 ∷ 3 ∷ 4 ∷ 4 ∷ 4 ∷ 0 ∷ 0 ∷ 9 ∷ 9 ∷ []) 1 0 (1 ∷ []) (0 ∷ []) []

-- ---- types (02, Q-1)
-- A train with one leg. 0 is a timetable with the trains 1 and 8. Train 1 has one leg, 2, and a note, 5; train 8 has the legs 9 and 12, and a note, 15. Each leg and the
-- first note have two texts: a leg's are its station and its zone. The second note is empty.
abbrev timetable : List Word → List Word → Index
timetable W N =
    ask (0 ∷ 0 ∷ 1 ∷ 2 ∷ 2 ∷ 1 ∷ 5 ∷ 5 ∷ 0 ∷ 8 ∷ 9 ∷ 9 ∷ 8 ∷ 12 ∷ 12 ∷ 8 ∷ []) (1 ∷ 2 ∷ 3 ∷ 0 ∷ 0 ∷ 4 ∷ 0 ∷ 0 ∷ 2 ∷ 3 ∷ 0 ∷ 0 ∷ 3 ∷ 0 ∷ 0 ∷ 4 ∷ []) W N

-- A name that is in the note of train 1 and is a station of its leg and of train 8's first leg.
abbrev named : Word
named = word (3 ∷ 6 ∷ 10 ∷ []) (3 ∷ 2 ∷ 1 ∷ 1 ∷ 0 ∷ 1 ∷ 1 ∷ 0 ∷ 1 ∷ 1 ∷ 1 ∷ 0 ∷ 0 ∷ 0 ∷ 0 ∷ 0 ∷ [])

-- The trains.
abbrev train : Word
train = word (1 ∷ 8 ∷ []) (2 ∷ 1 ∷ 0 ∷ 0 ∷ 0 ∷ 0 ∷ 0 ∷ 0 ∷ 1 ∷ 0 ∷ 0 ∷ 0 ∷ 0 ∷ 0 ∷ 0 ∷ 0 ∷ [])

-- The zone of train 1's leg, and that with the zone of train 8's second leg.
abbrev zone : Word
zone = word (4 ∷ []) (1 ∷ 1 ∷ 1 ∷ 0 ∷ 1 ∷ 0 ∷ 0 ∷ 0 ∷ 0 ∷ 0 ∷ 0 ∷ 0 ∷ 0 ∷ 0 ∷ 0 ∷ 0 ∷ [])

abbrev zones : Word
zones = word (4 ∷ 14 ∷ []) (2 ∷ 1 ∷ 1 ∷ 0 ∷ 1 ∷ 0 ∷ 0 ∷ 0 ∷ 1 ∷ 0 ∷ 0 ∷ 0 ∷ 1 ∷ 0 ∷ 1 ∷ 0 ∷ [])

-- Rows of tags that are nearly the same; no node here is text or has one text alone. 3 and 4, with the row 1,2,3,4, are twins, and so are 10 and 11, with 1,3,4.
-- The others of tag 4 have none: 7 has 1,3,2,4, 9 has 1,3,3,4 and 15 has 1,7,2,3,4. No count is asked here.
abbrev rows : Index
rows =
    lent (0 ∷ 0 ∷ 1 ∷ 2 ∷ 2 ∷ 0 ∷ 5 ∷ 6 ∷ 5 ∷ 8 ∷ 5 ∷ 5 ∷ 0 ∷ 12 ∷ 13 ∷ 14 ∷ []) (1 ∷ 2 ∷ 3 ∷ 4 ∷ 4 ∷ 3 ∷ 2 ∷ 4 ∷ 3 ∷ 4 ∷ 4 ∷ 4 ∷ 7 ∷ 2 ∷ 3 ∷ 4 ∷ [])
    1 0 (1 ∷ []) (0 ∷ []) []

-- Attributes and texts of a type that repeats. 1 and 6 have one tag. 1 has 2 and 4, two of one tag with one text each, 3 and 5; 6 has 7 of their type, with the texts 8 and 9.
abbrev vias : List Word → List Word → Index
vias W N = ask (0 ∷ 0 ∷ 1 ∷ 2 ∷ 1 ∷ 4 ∷ 0 ∷ 6 ∷ 7 ∷ 7 ∷ []) (1 ∷ 2 ∷ 3 ∷ 0 ∷ 3 ∷ 0 ∷ 2 ∷ 3 ∷ 0 ∷ 0 ∷ []) W N

-- At the texts 3 and 9.
abbrev via_texts : Word
via_texts = word (3 ∷ 9 ∷ []) (2 ∷ 1 ∷ 1 ∷ 1 ∷ 0 ∷ 0 ∷ 1 ∷ 1 ∷ 0 ∷ 1 ∷ [])

-- At 2, 6 and 7.
abbrev via_nodes : Word
via_nodes = word (2 ∷ 6 ∷ 7 ∷ []) (3 ∷ 1 ∷ 1 ∷ 0 ∷ 0 ∷ 0 ∷ 2 ∷ 1 ∷ 0 ∷ 0 ∷ [])

-- At 6.
abbrev via_at6 : Word
via_at6 = word (6 ∷ []) (1 ∷ 0 ∷ 0 ∷ 0 ∷ 0 ∷ 0 ∷ 1 ∷ 0 ∷ 0 ∷ 0 ∷ [])

-- ---- several negative words: 1, 4 and 7 are entities below 0, with the texts 2 and 3, 5 and 6, 8 and 9
abbrev trains : List Word → List Word → Index
trains W N = ask (0 ∷ 0 ∷ 1 ∷ 1 ∷ 0 ∷ 4 ∷ 4 ∷ 0 ∷ 7 ∷ 7 ∷ []) (1 ∷ 2 ∷ 0 ∷ 0 ∷ 2 ∷ 0 ∷ 0 ∷ 2 ∷ 0 ∷ 0 ∷ []) W N

-- At the first text of each.
abbrev firsts : Word
firsts = word (2 ∷ 5 ∷ 8 ∷ []) (3 ∷ 1 ∷ 1 ∷ 0 ∷ 1 ∷ 1 ∷ 0 ∷ 1 ∷ 1 ∷ 0 ∷ [])

-- At the first text of 1 and of 4.
abbrev two : Word
two = word (2 ∷ 5 ∷ []) (2 ∷ 1 ∷ 1 ∷ 0 ∷ 1 ∷ 1 ∷ 0 ∷ 0 ∷ 0 ∷ 0 ∷ [])

-- At one text: 3, 6, 8 or 9.
abbrev at3 : Word
at3 = word (3 ∷ []) (1 ∷ 1 ∷ 0 ∷ 1 ∷ 0 ∷ 0 ∷ 0 ∷ 0 ∷ 0 ∷ 0 ∷ [])

abbrev at6 : Word
at6 = word (6 ∷ []) (1 ∷ 0 ∷ 0 ∷ 0 ∷ 1 ∷ 0 ∷ 1 ∷ 0 ∷ 0 ∷ 0 ∷ [])

abbrev at8 : Word
at8 = word (8 ∷ []) (1 ∷ 0 ∷ 0 ∷ 0 ∷ 0 ∷ 0 ∷ 0 ∷ 1 ∷ 1 ∷ 0 ∷ [])

abbrev at9 : Word
at9 = word (9 ∷ []) (1 ∷ 0 ∷ 0 ∷ 0 ∷ 0 ∷ 0 ∷ 0 ∷ 1 ∷ 0 ∷ 1 ∷ [])

abbrev nowhere : Word
nowhere = word [] (replicate 10 0)

-- ---- the lines
abbrev edge : List (List ℕ) → List (List ℕ) → Case
edge f s = case 0 f s

unfoldable pub edges : List Case
edges =
    -- ---- the tree of 01's table as it stands: work exact, then two entries more
    edge (elca_of (pair P T E O C) 16 1 2) (gives 0 0 1 ∷ zeros 16 0 ∷ (1 ∷ []) ∷ (1 ∷ 1 ∷ []) ∷ [])
    ∷ edge (slca_of (pair P T E O C) 18 2) (gives 0 0 1 ∷ zeros 16 2 ∷ (1 ∷ 99 ∷ []) ∷ [])
    ∷ edge (valid_of (pair P T E O C) 18 2) (gives 0 0 1 ∷ zeros 16 2 ∷ (1 ∷ 99 ∷ []) ∷ [])
    ∷ edge (check_of (pair P T E O C) 18) (gives 0 0 0 ∷ zeros 16 2 ∷ [])
    -- ---- SIZE: work, tags, ends, counts one too short, and one too long
    ∷ edge (every_call (pair P T E O C) 15 3) (refuse 1 0 0 (nines 15) 3)
    ∷ edge (every_call (pair P (1 ∷ 2 ∷ 0 ∷ []) E O C) 16 3) (refuse 1 0 0 (nines 16) 3)
    ∷ edge (every_call (pair P (1 ∷ 2 ∷ 0 ∷ 0 ∷ 0 ∷ []) E O C) 16 3) (refuse 1 0 0 (nines 16) 3)
    ∷ edge (every_call (pair P T (2 ∷ []) O C) 16 3) (refuse 1 0 0 (nines 16) 3)
    ∷ edge (every_call (pair P T (1 ∷ 2 ∷ 2 ∷ []) O C) 16 3) (refuse 1 0 0 (nines 16) 3)
    ∷ edge (every_call (pair P T E O (1 ∷ 1 ∷ 1 ∷ 0 ∷ 1 ∷ 1 ∷ 0 ∷ [])) 16 3) (refuse 1 0 0 (nines 16) 3)
    ∷ edge (every_call (pair P T E O (1 ∷ 1 ∷ 1 ∷ 0 ∷ 1 ∷ 1 ∷ 0 ∷ 1 ∷ 0 ∷ [])) 16 3) (refuse 1 0 0 (nines 16) 3)
    -- no node; no positive word, without a negative one and with one
    ∷ edge (every_call (lent [] [] 1 0 (0 ∷ []) [] []) 0 3) (refuse 1 0 0 [] 3)
    ∷ edge (every_call (lent P T 0 0 [] [] []) 8 3) (refuse 1 0 0 (nines 8) 3)
    ∷ edge (every_call (lent P T 0 1 (1 ∷ []) (2 ∷ []) (1 ∷ 1 ∷ 1 ∷ 0 ∷ [])) 12 3) (refuse 1 0 0 (nines 12) 3)
    -- p = 8 and p = 9; k = 8 and k = 9 with as many negative words as there may be, and with one
    ∷ edge (elca_of (single 8 0) 10 1 8) (gives 0 0 1 ∷ zeros 10 0 ∷ (0 ∷ []) ∷ (1 ∷ 1 ∷ 1 ∷ 1 ∷ 1 ∷ 1 ∷ 1 ∷ 1 ∷ []) ∷ [])
    ∷ edge (slca_of (single 8 0) 10 1) (gives 0 0 1 ∷ zeros 10 0 ∷ (0 ∷ []) ∷ [])
    ∷ edge (every_call (single 9 0) 11 3) (refuse 1 0 0 (nines 11) 3)
    ∷ edge (valid_of (single 1 7) 10 1) (gives 0 0 1 ∷ zeros 10 0 ∷ (0 ∷ []) ∷ [])
    ∷ edge (check_of (single 1 7) 10) (gives 0 0 0 ∷ zeros 10 0 ∷ [])
    ∷ edge (every_call (single 1 8) 11 3) (refuse 1 0 0 (nines 11) 3)
    ∷ edge (valid_of (single 7 1) 10 1) (gives 0 0 1 ∷ zeros 10 0 ∷ (0 ∷ []) ∷ [])
    ∷ edge (every_call (single 8 1) 11 3) (refuse 1 0 0 (nines 11) 3)
    -- a negative word, which the check and the search with NOT take
    ∷ edge (elca_of (single 1 1) 4 3 3) (gives 1 0 0 ∷ nines 4 ∷ nines 3 ∷ nines 3 ∷ [])
    ∷ edge (slca_of (single 1 1) 4 3) (gives 1 0 0 ∷ nines 4 ∷ nines 3 ∷ [])
    ∷ edge (valid_of (single 1 1) 4 3) (gives 0 0 1 ∷ zeros 4 0 ∷ (0 ∷ 99 ∷ 99 ∷ []) ∷ [])
    ∷ edge (check_of (single 1 1) 4) (gives 0 0 0 ∷ zeros 4 0 ∷ [])
    -- n = 65,537
    ∷ edge (reply_of (flat 65536) 196611) (are (gives 1 0 0))
    -- ---- TREE: the root's entry, the root's tag
    ∷ edge (every_call (pair (1 ∷ 0 ∷ 1 ∷ 1 ∷ []) T E O C) 17 3) (refuse 2 0 0 (zeros 16 1) 3)
    ∷ edge (every_call (pair P (0 ∷ 2 ∷ 0 ∷ 0 ∷ []) E O C) 17 3) (refuse 2 0 0 (zeros 16 1) 3)
    -- a parent that is the node itself, that comes later, that was left behind
    ∷ edge (every_call (pair (0 ∷ 1 ∷ 1 ∷ 1 ∷ []) T E O C) 17 3) (refuse 2 1 0 (zeros 16 1) 3)
    ∷ edge (every_call (pair (0 ∷ 0 ∷ 3 ∷ 1 ∷ []) T E O C) 17 3) (refuse 2 2 0 (zeros 16 1) 3)
    ∷ edge (every_call (pair (0 ∷ 0 ∷ 0 ∷ 1 ∷ []) T E O C) 17 3) (refuse 2 3 0 (zeros 16 1) 3)
    -- a text node's child; two bad nodes
    ∷ edge (every_call (pair (0 ∷ 0 ∷ 1 ∷ 2 ∷ []) T E O C) 17 3) (refuse 2 3 0 (zeros 16 1) 3)
    ∷ edge (every_call (pair (0 ∷ 0 ∷ 2 ∷ 3 ∷ []) T E O C) 17 3) (refuse 2 2 0 (zeros 16 1) 3)
    -- tags of any number but 0
    ∷ edge (check_of (pair P (4294967295 ∷ 4294967295 ∷ 0 ∷ 0 ∷ []) E O C) 16) (gives 0 0 0 ∷ zeros 16 0 ∷ [])
    -- level 64 and level 65
    ∷ edge (elca_of (chain 63) 192 1 1) (gives 0 0 1 ∷ zeros 192 0 ∷ (0 ∷ []) ∷ (1 ∷ []) ∷ [])
    ∷ edge (every_call (chain 64) 195 3) (refuse 2 64 0 (zeros 195 0) 3)
    -- ---- LIST: an entry n, a repeat, a fall; in the second list
    ∷ edge (every_call (pair P T E (4 ∷ 3 ∷ []) C) 17 3) (refuse 3 0 0 (zeros 16 1) 3)
    ∷ edge (every_call (pair P T (2 ∷ 3 ∷ []) (2 ∷ 2 ∷ 3 ∷ []) C) 17 3) (refuse 3 0 0 (zeros 16 1) 3)
    ∷ edge (every_call (pair P T (1 ∷ 3 ∷ []) (2 ∷ 3 ∷ 1 ∷ []) C) 17 3) (refuse 3 1 0 (zeros 16 1) 3)
    -- an end below the one before, also where the last end is right; one above the occurrences; a last end short of them, and past them
    ∷ edge (every_call (pair P T (2 ∷ 1 ∷ []) O C) 17 3) (refuse 3 1 0 (zeros 16 1) 3)
    ∷ edge (every_call (lent P T 3 0 (2 ∷ 1 ∷ 3 ∷ []) (0 ∷ 1 ∷ 3 ∷ []) (replicate 12 0)) 20 3) (refuse 3 1 0 (zeros 20 0) 3)
    ∷ edge (every_call (pair P T (3 ∷ 2 ∷ []) O C) 17 3) (refuse 3 0 0 (zeros 16 1) 3)
    ∷ edge (every_call (pair P T (1 ∷ 1 ∷ []) O C) 17 3) (refuse 3 1 0 (zeros 16 1) 3)
    ∷ edge (every_call (pair P T (1 ∷ 3 ∷ []) O C) 17 3) (refuse 3 1 0 (zeros 16 1) 3)
    -- two bad words; a negative word, numbered behind the positive ones
    ∷ edge (every_call (pair P T (2 ∷ 4 ∷ []) (3 ∷ 2 ∷ 3 ∷ 3 ∷ []) C) 17 3) (refuse 3 0 0 (zeros 16 1) 3)
    ∷ edge (valid_of (pair_not E (2 ∷ 4 ∷ []) C) 17 3) (gives 3 1 0 ∷ zeros 16 1 ∷ nines 3 ∷ [])
    -- an empty first list, and the last node on a list
    ∷ edge (check_of (pair P T (0 ∷ 1 ∷ []) (3 ∷ []) (0 ∷ 0 ∷ 0 ∷ 0 ∷ 1 ∷ 1 ∷ 0 ∷ 1 ∷ [])) 16) (gives 0 0 0 ∷ zeros 16 0 ∷ [])
    -- ---- COUNT: the root's entries right and one below them wrong: too high, too low, in the second row
    ∷ edge (every_call (pair P T E O (1 ∷ 1 ∷ 1 ∷ 1 ∷ 1 ∷ 1 ∷ 0 ∷ 1 ∷ [])) 17 3) (refuse 4 3 0 (zeros 16 1) 3)
    ∷ edge (every_call (pair P T E O (1 ∷ 1 ∷ 0 ∷ 0 ∷ 1 ∷ 1 ∷ 0 ∷ 1 ∷ [])) 17 3) (refuse 4 2 0 (zeros 16 1) 3)
    ∷ edge (every_call (pair P T E O (1 ∷ 1 ∷ 1 ∷ 0 ∷ 1 ∷ 2 ∷ 0 ∷ 1 ∷ [])) 17 3) (refuse 4 5 0 (zeros 16 1) 3)
    -- two wrong entries, word by word; the last entry; a negative word's
    ∷ edge (every_call (pair P T E O (1 ∷ 1 ∷ 2 ∷ 0 ∷ 2 ∷ 1 ∷ 0 ∷ 1 ∷ [])) 17 3) (refuse 4 2 0 (zeros 16 1) 3)
    ∷ edge (every_call (pair P T E O (1 ∷ 1 ∷ 1 ∷ 0 ∷ 1 ∷ 1 ∷ 0 ∷ 0 ∷ [])) 17 3) (refuse 4 7 0 (zeros 16 1) 3)
    ∷ edge (valid_of (pair_not E O (1 ∷ 1 ∷ 1 ∷ 0 ∷ 0 ∷ 1 ∷ 0 ∷ 1 ∷ [])) 17 3) (gives 4 4 0 ∷ zeros 16 1 ∷ nines 3 ∷ [])
    -- ---- two refusals at once: SIZE with TREE, TREE with LIST, LIST with COUNT, COUNT with ROOM
    ∷ edge (every_call (pair (1 ∷ 0 ∷ 1 ∷ 1 ∷ []) (1 ∷ 2 ∷ 0 ∷ []) E O C) 17 3) (refuse 1 0 0 (nines 17) 3)
    ∷ edge (every_call (pair (0 ∷ 0 ∷ 1 ∷ 2 ∷ []) T E (4 ∷ 3 ∷ []) C) 17 3) (refuse 2 3 0 (zeros 16 1) 3)
    ∷ edge (every_call (pair P T E (2 ∷ 4 ∷ []) (2 ∷ 1 ∷ 1 ∷ 0 ∷ 1 ∷ 1 ∷ 0 ∷ 1 ∷ [])) 17 3) (refuse 3 1 0 (zeros 16 1) 3)
    ∷ edge (every_call (pair P T E O (1 ∷ 1 ∷ 1 ∷ 0 ∷ 1 ∷ 1 ∷ 0 ∷ 2 ∷ [])) 17 0) (refuse 4 7 0 (zeros 16 1) 0)
    -- ---- own counts: 0 has 2, 1 and 3 of its own, 1 has 1, 2 and 1; own exact, and one short
    ∷ edge (elca_of bunch 60 2 6) (gives 0 0 2 ∷ zeros 60 0 ∷ (0 ∷ 1 ∷ []) ∷ (2 ∷ 1 ∷ 3 ∷ 1 ∷ 2 ∷ 1 ∷ []) ∷ [])
    ∷ edge (elca_of bunch 60 2 5) (gives 5 0 2 ∷ zeros 60 0 ∷ nines 2 ∷ nines 5 ∷ [])
    -- ---- n = 1
    ∷ edge (elca_of (single 1 0) 3 2 2) (gives 0 0 1 ∷ zeros 3 0 ∷ (0 ∷ 99 ∷ []) ∷ (1 ∷ 99 ∷ []) ∷ [])
    ∷ edge (slca_of (single 1 0) 3 2) (gives 0 0 1 ∷ zeros 3 0 ∷ (0 ∷ 99 ∷ []) ∷ [])
    ∷ edge (valid_of (single 1 0) 3 2) (gives 0 0 1 ∷ zeros 3 0 ∷ (0 ∷ 99 ∷ []) ∷ [])
    -- ---- classes: 1 text, 2 attribute, 3 entity, 4 dummy; the closest entities of the texts 2, 3, 5, 10 and 11
    ∷ edge (classes_of kinds) (are (4 ∷ 3 ∷ 1 ∷ 1 ∷ 2 ∷ 1 ∷ 4 ∷ 4 ∷ 4 ∷ 4 ∷ 1 ∷ 1 ∷ 3 ∷ 3 ∷ []))
    ∷ edge (closest_of kinds (2 ∷ 3 ∷ 5 ∷ 10 ∷ 11 ∷ [])) (are (1 ∷ 1 ∷ 0 ∷ 0 ∷ 0 ∷ []))
    -- ---- a train with one leg, NOT the leg's zone: the leg 2 alone is shut out, so that the note's text 6 and the train 1 are listed still. The leg is an entity, for
    -- other legs have twins, though it is the first of its type and has none. A note is no entity: it stands beside legs that are, and two trains have one, but no train two
    ∷ edge (classes_of (timetable (named ∷ []) (zone ∷ []))) (are (4 ∷ 3 ∷ 3 ∷ 1 ∷ 1 ∷ 4 ∷ 1 ∷ 1 ∷ 3 ∷ 3 ∷ 1 ∷ 1 ∷ 3 ∷ 1 ∷ 1 ∷ 4 ∷ []))
    ∷ edge (closest_of (timetable (named ∷ []) (zone ∷ [])) (3 ∷ 4 ∷ 6 ∷ 7 ∷ 10 ∷ 14 ∷ [])) (are (2 ∷ 2 ∷ 1 ∷ 1 ∷ 9 ∷ 12 ∷ []))
    ∷ edge (negators_of (timetable (named ∷ []) (zone ∷ []))) (are (2 ∷ []))
    ∷ edge (valid_of (timetable (named ∷ []) (zone ∷ [])) 66 4) (gives 0 0 2 ∷ zeros 64 2 ∷ (6 ∷ 10 ∷ 99 ∷ 99 ∷ []) ∷ [])
    ∷ edge (valid_of (timetable (train ∷ []) (zone ∷ [])) 64 4) (gives 0 0 2 ∷ zeros 64 0 ∷ (1 ∷ 8 ∷ 99 ∷ 99 ∷ []) ∷ [])
    -- NOT the zone of a leg in each train; out too short for both answers; and without NOT
    ∷ edge (negators_of (timetable (train ∷ []) (zones ∷ []))) (are (2 ∷ 12 ∷ []))
    ∷ edge (valid_of (timetable (named ∷ []) (zones ∷ [])) 64 2) (gives 0 0 2 ∷ zeros 64 0 ∷ (6 ∷ 10 ∷ []) ∷ [])
    ∷ edge (valid_of (timetable (named ∷ []) (zones ∷ [])) 64 1) (gives 5 0 2 ∷ zeros 64 0 ∷ nines 1 ∷ [])
    ∷ edge (valid_of (timetable (named ∷ []) []) 48 3) (gives 0 0 3 ∷ zeros 48 0 ∷ (3 ∷ 6 ∷ 10 ∷ []) ∷ [])
    -- ---- rows of tags: the order counts, and how often a tag stands in them, and each tag up to the root
    ∷ edge (classes_of rows) (are (4 ∷ 4 ∷ 4 ∷ 3 ∷ 3 ∷ 4 ∷ 4 ∷ 4 ∷ 4 ∷ 4 ∷ 3 ∷ 3 ∷ 4 ∷ 4 ∷ 4 ∷ 4 ∷ []))
    -- ---- 7 is an entity, for attributes of its type have twins; attributes and texts with twins stay what they are
    ∷ edge (classes_of (vias (via_nodes ∷ []) (via_texts ∷ []))) (are (4 ∷ 3 ∷ 2 ∷ 1 ∷ 2 ∷ 1 ∷ 3 ∷ 3 ∷ 1 ∷ 1 ∷ []))
    ∷ edge (closest_of (vias (via_nodes ∷ []) (via_texts ∷ [])) (3 ∷ 5 ∷ 8 ∷ 9 ∷ [])) (are (1 ∷ 1 ∷ 7 ∷ 7 ∷ []))
    ∷ edge (negators_of (vias (via_nodes ∷ []) (via_texts ∷ []))) (are (1 ∷ 7 ∷ []))
    ∷ edge (valid_of (vias (via_nodes ∷ []) (via_texts ∷ [])) 40 2) (gives 0 0 0 ∷ zeros 40 0 ∷ nines 2 ∷ [])
    ∷ edge (valid_of (vias (via_at6 ∷ []) (via_texts ∷ [])) 40 2) (gives 0 0 1 ∷ zeros 40 0 ∷ (6 ∷ 99 ∷ []) ∷ [])
    -- ---- negative words, each of which matters: one, two, three, and two with one between them that occurs nowhere
    ∷ edge (valid_of (trains (firsts ∷ []) (at3 ∷ [])) 40 3) (gives 0 0 2 ∷ zeros 40 0 ∷ (5 ∷ 8 ∷ 99 ∷ []) ∷ [])
    ∷ edge (valid_of (trains (firsts ∷ []) (at3 ∷ at6 ∷ [])) 50 3) (gives 0 0 1 ∷ zeros 50 0 ∷ (8 ∷ 99 ∷ 99 ∷ []) ∷ [])
    ∷ edge (valid_of (trains (firsts ∷ []) (at9 ∷ at3 ∷ [])) 50 3) (gives 0 0 1 ∷ zeros 50 0 ∷ (5 ∷ 99 ∷ 99 ∷ []) ∷ [])
    ∷ edge (negators_of (trains (firsts ∷ []) (at9 ∷ at3 ∷ at6 ∷ []))) (are (1 ∷ 4 ∷ 7 ∷ []))
    ∷ edge (valid_of (trains (firsts ∷ []) (at9 ∷ at3 ∷ at6 ∷ [])) 60 3) (gives 0 0 0 ∷ zeros 60 0 ∷ nines 3 ∷ [])
    ∷ edge (valid_of (trains (firsts ∷ []) (at6 ∷ nowhere ∷ at9 ∷ [])) 60 3) (gives 0 0 1 ∷ zeros 60 0 ∷ (2 ∷ 99 ∷ 99 ∷ []) ∷ [])
    -- one valid occurrence of each word is enough, and each word needs one: 0 is the SLCA
    ∷ edge (valid_of (trains (two ∷ at8 ∷ []) (at3 ∷ [])) 50 3) (gives 0 0 1 ∷ zeros 50 0 ∷ (0 ∷ 99 ∷ 99 ∷ []) ∷ [])
    ∷ edge (valid_of (trains (two ∷ at8 ∷ []) (at3 ∷ at6 ∷ [])) 60 3) (gives 0 0 0 ∷ zeros 60 0 ∷ nines 3 ∷ [])
    ∷ edge (valid_of (trains (two ∷ at8 ∷ []) (at9 ∷ [])) 50 3) (gives 0 0 0 ∷ zeros 50 0 ∷ nines 3 ∷ [])
    ∷ []
