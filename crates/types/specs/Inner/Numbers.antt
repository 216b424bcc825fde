-- Numbers of types, and what the functions that make them promise. The elements are taken up in order; a row keeps for each type, at its number, the last child of its
-- nodes that was taken up.
--   type_number p t v   == the number of v's type: the lowest node of that type
--   number_in w v       == the number that the first row holds at v
--   flag_in w v         == 1 where the first row has a flag at v, else 0
--   TakenUp …           == what taking up one node does to the rows
-- Letters: p parents, t tags, n nodes, m elements, w rows, w' as they are afterwards; v u nodes; at, where the order begins; last, where the row of last children begins.
-- Assumes nothing.
use Rattle.std.specs.Prelude.{ℕ, ◌+◌, ◌*◌, ◌/◌, ◌%◌, ◌≤◌, ◌<◌, ◌≡◌, ◌⊎◌, List, not, cond, length, get_or, set}
use Rattle.seq.specs.Below.{first_fail}
use Rattle.tree.specs.Tree.{parent}
use Rattle.tree.specs.Rules.{text}
use Rattle.tree.specs.Plain.{Lawful}
use Rattle.answers.specs.Classes.{same_type, repeats}
use Rattle.types.specs.Inner.Order.{tag, Order, Before}

unfoldable pub type_number : List ℕ → List ℕ → ℕ → ℕ
type_number p t v = first_fail (length p) λ u. not (same_type p t u v)

abbrev pub number_in : List ℕ → ℕ → ℕ
number_in w v = get_or w v 0 % 65536

abbrev pub flag_in : List ℕ → ℕ → ℕ
flag_in w v = get_or w v 0 / 65536

-- ---- taking up a node
-- Where the last child taken up of the parent's type is noted, and that child, 0 for none.
abbrev pub cell_of : List ℕ → ℕ → ℕ → List ℕ → ℕ
cell_of p last v w = last + number_in w (parent p v)

abbrev pub taken_before : List ℕ → ℕ → ℕ → List ℕ → ℕ
taken_before p last v w = get_or w (cell_of p last v w) 0

-- v is now the last one, and of a type of its own.
abbrev pub noted : List ℕ → ℕ → ℕ → List ℕ → List ℕ
noted p last v w = set (set w (cell_of p last v w) v) v v

pub data TakenUp (p t : List ℕ) (last v : ℕ) (w w' : List ℕ) : Type 0 where
  -- no child of a node of the parent's type came before it, or the last one has another tag
  first : (taken_before p last v w ≡ 0) ⊎ (tag t (taken_before p last v w) ≡ tag t v → ⊥) → w' ≡ noted p last v w → TakenUp p t last v w w'
  -- the one before it has its tag, and another parent
  further : (taken_before p last v w ≡ 0 → ⊥) → tag t (taken_before p last v w) ≡ tag t v → (parent p (taken_before p last v w) ≡ parent p v → ⊥) →
      w' ≡ set (noted p last v w) v (number_in (noted p last v w) (taken_before p last v w)) → TakenUp p t last v w w'
  -- the one before it has its tag and its parent: the type is flagged
  twins : (taken_before p last v w ≡ 0 → ⊥) → tag t (taken_before p last v w) ≡ tag t v → parent p (taken_before p last v w) ≡ parent p v →
      w' ≡ set (set (noted p last v w) v (number_in (noted p last v w) (taken_before p last v w))) (number_in (noted p last v w) (taken_before p last v w))
      (number_in (noted p last v w) (taken_before p last v w) + 65536) → TakenUp p t last v w w'

pub record TakeUpPre (p t : List ℕ) (last v : ℕ) (w : List ℕ) : Type 0 where
  pub few : length p ≤ 65536
  pub node : v < length p
  pub tagged : length t ≡ length p
  pub size : length w ≤ 196608
  pub behind : length p ≤ last
  pub lasts : last + length p ≤ length w
  pub above : parent p v < length p
  pub typed : number_in w (parent p v) < length p
  pub known : taken_before p last v w < length p
  -- what was taken up before is another node, and its type has a number
  pub other : taken_before p last v w ≡ v → ⊥
  pub numbered : (taken_before p last v w ≡ 0 → ⊥) → number_in w (taken_before p last v w) < length p

-- ---- all elements
pub record NumberPre (p t : List ℕ) (m at last : ℕ) (w : List ℕ) : Type 0 where
  pub some : 1 ≤ length p
  pub few : length p ≤ 65536
  pub tagged : length t ≡ length p
  pub tree : Lawful p t
  pub fewer : m ≤ length p
  pub size : length w ≤ 196608
  pub after : length p ≤ at
  pub behind : length p ≤ last
  pub here : at + length p ≤ length w
  pub there : last + length p ≤ length w
  pub apart : (at + length p ≤ last) ⊎ (last + length p ≤ at)
  pub order : Order t (Before p t) m at w
  -- the root's number is 0, a text's too, and nothing is noted
  pub root : get_or w 0 0 ≡ 0
  pub texts : (v : ℕ) → v < length p → tag t v ≡ 0 → get_or w v 0 ≡ 0
  pub untaken : (v : ℕ) → v < length p → get_or w (last + v) 0 ≡ 0

pub record Numbered (p t w w' : List ℕ) : Type 0 where
  pub long : length w' ≡ length w
  pub numbers : (v : ℕ) → v < length p → number_in w' v ≡ cond (text t v) 0 (type_number p t v)
  -- the flag at a type's number says whether it repeats
  pub flags : (v : ℕ) → v < length p → (tag t v ≡ 0 → ⊥) → flag_in w' (type_number p t v) ≡ cond (repeats p t v) 1 0

-- ---- from numbers to flags
pub record SpreadPre (w : List ℕ) : Type 0 where
  pub few : length w ≤ 65536
  pub lower : (v : ℕ) → v < length w → number_in w v ≤ v

pub record Spread (w w' : List ℕ) : Type 0 where
  pub long : length w' ≡ length w
  pub holds : (v : ℕ) → v < length w → get_or w' v 0 ≡ flag_in w (number_in w v)

-- ---- the three rows
pub record MakePre (p t w : List ℕ) : Type 0 where
  pub some : 1 ≤ length p
  pub few : length p ≤ 65536
  pub tagged : length t ≡ length p
  pub tree : Lawful p t
  pub long : length w ≡ length p * 3
