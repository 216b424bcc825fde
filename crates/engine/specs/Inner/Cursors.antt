-- What is left of the lists, which are merged from their ends. The cursors are two rows of 8 numbers, one for each word there may be:
--   head c j   == one more than the last occurrence that is left of word j, or 0 where none is
--   up_to c j   == where what is left of word j's list ends among the occurrences
-- and
--   last_left occ f e    == one more than the last of the occurrences from f up to e, or 0 where there is none
--   coming c r j        == how often word j occurs at the node that comes next, which is 0 or 1
--   coming_row c r       == the same for each word there may be
--   Taken …             == the cursors once the node that comes next has been taken
--   Set …               == the cursors before anything is taken
--   CursorsPre …        == what is asked of them
-- "reach" is one more than the node that comes next, or 0 where none is left: the highest of the heads.
-- Letters: c cursors; ends, occ as lent; r reach, j word. Assumes nothing.
use Rattle.std.specs.Prelude.{ℕ, suc, ◌-◌, ◌≤◌, ◌<◌, ◌≡◌, List, Bool, cond, eqb, ltb, length, get_or}
use Rattle.seq.specs.Below.{tabulate}
use Rattle.index.specs.Index.{start}
use Rattle.engine.specs.declared.cursors.Cursors.{Cursors}

abbrev pub head : Cursors → ℕ → ℕ
head c j = get_or c.heads j 0

abbrev pub up_to : Cursors → ℕ → ℕ
up_to c j = get_or c.stops j 0

unfoldable pub last_left : List ℕ → ℕ → ℕ → ℕ
last_left occ f e = cond (ltb f e) (suc (get_or occ (e - 1) 0)) 0

-- Word j stands at the node that comes next.
abbrev pub stands : Cursors → ℕ → ℕ → Bool
stands c r j = eqb (head c j) r

abbrev pub coming : Cursors → ℕ → ℕ → ℕ
coming c r j = cond (stands c r j) 1 0

unfoldable pub coming_row : Cursors → ℕ → List ℕ
coming_row c r = tabulate 8 (coming c r)

abbrev pub up_to_after : Cursors → ℕ → ℕ → ℕ
up_to_after c r j = cond (stands c r j) (up_to c j - 1) (up_to c j)

abbrev pub head_after : List ℕ → List ℕ → Cursors → ℕ → ℕ → ℕ
head_after ends occ c r j = cond (stands c r j) (last_left occ (start ends j) (up_to c j - 1)) (head c j)

-- r is one of f's first n numbers.
pub record Reached (n : ℕ) (f : ℕ → ℕ) (r : ℕ) : Type 0 where
  pub at : ℕ
  pub below : at < n
  pub is : f at ≡ r

-- r is the highest of them, or 0 where n is 0.
pub record Highest (n : ℕ) (f : ℕ → ℕ) (r : ℕ) : Type 0 where
  pub above : (j : ℕ) → j < n → f j ≤ r
  pub among : (r ≡ 0 → ⊥) → Reached n f r

-- What is asked: there are at most 8 words, places are among the occurrences, and numbers fit.
pub record CursorsPre (ends occ : List ℕ) (c : Cursors) (r : ℕ) : Type 0 where
  pub words : length ends ≤ 8
  -- the node that comes next is one
  pub some : 0 < r
  pub left : (j : ℕ) → j < length ends → head c j ≡ r → 0 < up_to c j
  pub within : (j : ℕ) → j < length ends → up_to c j ≤ length occ
  -- occurrences are nodes, of which there are at most 65,536
  pub small : (j i : ℕ) → j < length ends → start ends j ≤ i → i < up_to c j → get_or occ i 0 < 65536

-- The cursors were c and are c', and r' is their reach.
pub record Taken (ends occ : List ℕ) (c : Cursors) (r r' : ℕ) (c' : Cursors) : Type 0 where
  pub heads : (j : ℕ) → j < length ends → head c' j ≡ head_after ends occ c r j
  pub up_tos : (j : ℕ) → j < length ends → up_to c' j ≡ up_to_after c r j
  pub reach : Highest (length ends) (head c') r'
  -- the words that there are not
  pub others : (j : ℕ) → length ends ≤ j → j < 8 → head c' j ≡ head c j

pub record SetPre (ends occ : List ℕ) : Type 0 where
  pub words : length ends ≤ 8
  pub within : (j : ℕ) → j < length ends → get_or ends j 0 ≤ length occ
  pub small : (j i : ℕ) → j < length ends → start ends j ≤ i → i < get_or ends j 0 → get_or occ i 0 < 65536

-- Nothing has been taken: what is left of each list is all of it.
pub record Set (ends occ : List ℕ) (r' : ℕ) (c' : Cursors) : Type 0 where
  pub heads : (j : ℕ) → j < length ends → head c' j ≡ last_left occ (start ends j) (get_or ends j 0)
  pub up_tos : (j : ℕ) → j < length ends → up_to c' j ≡ get_or ends j 0
  pub reach : Highest (length ends) (head c') r'
  -- the words that there are not
  pub others : (j : ℕ) → length ends ≤ j → j < 8 → head c' j ≡ 0
