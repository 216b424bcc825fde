-- What the functions of this crate ask of and promise each other.
--   name_bit x i              == bit i of a name: the bits of its bytes in order, and 0 past its end
--   name_here t fs y          == the name of node y
--   Name x                   == every byte of x goes on with a name
--   byte_here t o             == the first byte of the name at the place o: 0 where there is none
--   Compared x t p r         == r is the first bit in which the name x and that at the place p differ, or None where they are the same
--   link_of k, number_of l   == the link that a number stands for, and the number of a link
--   way_of n β w u            == the place of the link that bits β take at the inner node u
--   linked n v q d a b w     == the rows w with a new inner node v over what is at the place q: its bit is d, the link to the leaf v at a, and what was at q at b
--   Index t fs n v seen ts w == the rows w hold a tree of the names seen at the nodes before v; its leaves have a number in ts
--   Given t fs seen ts y     == the node y has the number of its name in ts
--   State t fs ms w₀ v ts w c == the nodes before v are numbered: ts and w are what the marks ms and the work w₀ have become, and c names were seen
--   Ready b w v, TurnedHere b w b' w' v, Fresh b w, AllHere b w b' w' == the same of a numberer b and its tree w: before and after the turn at v, before the first, and after all
--   SameRows w w', SameLent b b' == what the tree and the numberer borrow is the same
-- Letters: t text, fs places of the nodes, o p places; x y bytes or names; l link, k its number; n nodes, u v nodes, q place of a link, d bit; seen names seen. Assumes nothing.
use Rattle.std.specs.Prelude.{ℕ, suc, ◌+◌, ◌*◌, ◌/◌, ◌%◌, ◌≤◌, ◌<◌, ◌≡◌, List, ◌++◌, Bool, true, cond, eqb, length, get_or, set, take, drop, Option, None, Some}
use Rattle.seq.specs.Lists.{EachBelow}
use Rattle.profile.specs.Bytes.{name_char}
use Rattle.profile.specs.Spans.{name_at}
use Rattle.profile.specs.Tags.{known, place, tags_after, tags_of}
use Rattle.names.specs.Inner.Bits.{bit_of}
use Rattle.names.specs.declared.link.Link.{Link}
use Rattle.names.specs.declared.link.Link.TheVariants.{Leaf, Inner}
use Rattle.names.specs.declared.Numberer.{Numberer}
use Rattle.names.specs.declared.lookup.Tree as lookup
use Rattle.names.specs.Names.{names}
use Rattle.names.specs.Inner.Tree.{Tree, In, Has, Apart, bits, Rep, Told, find, Grow}

-- ---- bits
unfoldable pub name_bit : List ℕ → ℕ → Bool
name_bit x i = bit_of (get_or x (i / 8) 0) (i % 8)

-- Two bytes first differ in bit r.
pub record FirstBit (x y r : ℕ) : Type 0 where
  pub small : r < 8
  pub alike : (i : ℕ) → i < r → bit_of x i ≡ bit_of y i
  pub differs : bit_of x r ≡ bit_of y r → ⊥

-- Two names first differ in bit r.
pub record NamesDiffer (x y : List ℕ) (r : ℕ) : Type 0 where
  pub few : r < bits
  pub alike : (i : ℕ) → i < r → name_bit x i ≡ name_bit y i
  pub differs : name_bit x r ≡ name_bit y r → ⊥

-- ---- names in a text
abbrev pub name_here : List ℕ → List ℕ → ℕ → List ℕ
name_here t fs y = name_at t (get_or fs y 0 + 1)

unfoldable pub byte_here : List ℕ → ℕ → ℕ
byte_here t o = get_or (name_at t o) 0 0

pub record Name (x : List ℕ) : Type 0 where
  pub letters : (i : ℕ) → i < length x → name_char (get_or x i 0) ≡ true
  pub short : length x ≤ 16777216

-- The name x is compared with that at the place p, which is a number of 32 bits or one more.
pub record DifferPre (x : List ℕ) (p : ℕ) : Type 0 where
  pub name : Name x
  pub near : p ≤ 4294967296

pub record Compared (x t : List ℕ) (p : ℕ) (r : Option ℕ) : Type 0 where
  pub same : r ≡ None → x ≡ name_at t p
  pub other : (d : ℕ) → r ≡ Some d → NamesDiffer x (name_at t p) d

-- Where r says so, two names are the same.
pub record Alike (x t : List ℕ) (p : ℕ) (r : Bool) : Type 0 where
  pub same : r ≡ true → x ≡ name_at t p

-- ---- the names met lately
-- A name has bytes.
pub record KeyPre (x : List ℕ) : Type 0 where
  pub name : Name x
  pub some : 0 < length x

-- The node v, whose name is x, is one of the nodes.
pub record RecallPre (x : List ℕ) (b : Numberer) (v : ℕ) : Type 0 where
  pub name : Name x
  pub node : v < length b.tags.now
  pub few : length b.tags.now ≤ 65536
  pub placed : length b.tags.now ≤ length b.firsts.now

-- A node before v that has the name x, and r as its number.
pub record Twin (x t fs ts : List ℕ) (v r : ℕ) : Type 0 where
  pub some : r ≡ 0 → ⊥
  pub node : ℕ
  pub before : node < v
  pub number : r ≡ get_or ts node 0
  pub name : x ≡ name_here t fs node

-- What r has, if anything, is the number of such a node.
pub record Recalled (x : List ℕ) (b : Numberer) (v : ℕ) (r : Option ℕ) : Type 0 where
  pub twin : (m : ℕ) → r ≡ Some m → Twin x b.text.now b.firsts.now b.tags.now v m

-- ---- links
unfoldable pub link_of : ℕ → Link
link_of k = cond (eqb (k % 2) 0) (Leaf (k / 2)) (Inner (k / 2))

abbrev pub node_of : Link → ℕ
node_of (Leaf v) = v
node_of (Inner u) = u

abbrev pub number_of : Link → ℕ
number_of (Leaf v) = 2 * v
number_of (Inner u) = 2 * u + 1

-- ---- the tree
pub record SameRows (b b' : lookup.Tree) : Type 0 where
  pub rows : b'.rows.ghost_name ≡ b.rows.ghost_name
  pub n : b'.n ≡ b.n

pub record PlantPre (w : List ℕ) (n v : ℕ) : Type 0 where
  pub few : n ≤ 65536
  pub long : 3 * n ≤ length w
  pub node : v < n

unfoldable pub way_of : ℕ → (ℕ → Bool) → List ℕ → ℕ → ℕ
way_of n β w u = cond (β (get_or w (2 * n + u) 0)) (n + u) u

pub record WayPre (w : List ℕ) (n u : ℕ) : Type 0 where
  pub few : n ≤ 65536
  pub long : 3 * n ≤ length w
  pub node : u < n

-- The rows hold some tree.
pub record WalkPre (w : List ℕ) (n : ℕ) : Type 0 where
  pub few : n ≤ 65536
  pub long : 3 * n ≤ length w
  pub tree : Tree
  pub holds : Rep n w 0 (get_or w 0 0) tree

-- Whichever tree they hold, r is the leaf that the name leads to.
pub record Found (x w : List ℕ) (n r : ℕ) : Type 0 where
  pub leads : (T : Tree) → Rep n w 0 (get_or w 0 0) T → r ≡ find (name_bit x) T

-- The tree T, whose link is at the place p, grows at the place q.
pub record Grown (n : ℕ) (β : ℕ → Bool) (d v p : ℕ) (T : Tree) (q : ℕ) : Type 0 where
  pub tree : Tree
  pub grows : Grow n β d v p T q tree

-- Whichever tree the rows hold, it grows at the place r by any leaf that has the name's bits and first differs from it in bit d.
pub record Slotted (x w : List ℕ) (n d r : ℕ) : Type 0 where
  pub small : r < 2 * n
  pub grown : (v : ℕ) (T : Tree) → Rep n w 0 (get_or w 0 0) T → Grown n (name_bit x) d v 0 T r

unfoldable pub linked : ℕ → ℕ → ℕ → ℕ → ℕ → ℕ → List ℕ → List ℕ
linked n v q d near far w = set (set (set (set w (2 * n + v) d) near (2 * v)) far (get_or w q 0)) q (2 * v + 1)

pub record LinkPre (n v q d near far : ℕ) (w : List ℕ) : Type 0 where
  pub few : n ≤ 65536
  pub long : 3 * n ≤ length w
  pub node : v < n
  pub bit : d < bits
  pub link : q < 2 * n
  pub here : near < 2 * n
  pub there : far < 2 * n

pub record PutPre (w : List ℕ) (n v d : ℕ) : Type 0 where
  pub walk : WalkPre w n
  pub node : v < n
  pub bit : d < bits

-- Whichever tree the rows held, it grows by the leaf v.
pub record Put (x w : List ℕ) (n v d : ℕ) (w' : List ℕ) : Type 0 where
  pub place : ℕ
  pub link : place < 2 * n
  pub grown : (T : Tree) → Rep n w 0 (get_or w 0 0) T → Grown n (name_bit x) d v 0 T place
  pub rows : w' ≡ cond (name_bit x d) (linked n v place d (n + v) v w) (linked n v place d v (n + v) w)

-- ---- the names seen
-- A leaf y is a node before v that has a number.
pub record Leader (v : ℕ) (ts : List ℕ) (y : ℕ) : Type 0 where
  pub before : y < v
  pub numbered : get_or ts y 0 ≡ 0 → ⊥

pub record Given (t fs : List ℕ) (seen : List (List ℕ)) (ts : List ℕ) (y : ℕ) : Type 0 where
  pub knows : known seen (name_here t fs y) ≡ true
  pub number : get_or ts y 0 ≡ suc (place seen (name_here t fs y))

pub record LeafOf (t fs : List ℕ) (T : Tree) (x : List ℕ) : Type 0 where
  pub node : ℕ
  pub leaf : In node T
  pub name : name_here t fs node ≡ x

pub record Index (t fs : List ℕ) (n v : ℕ) (seen : List (List ℕ)) (ts w : List ℕ) : Type 0 where
  pub tree : Tree
  pub holds : Rep n w 0 (get_or w 0 0) tree
  pub apart : Apart tree
  pub told : Told (λ y. name_bit (name_here t fs y)) tree
  pub old : (u : ℕ) → Has u tree → u < v
  pub leader : (y : ℕ) → In y tree → Leader v ts y
  pub every : (x : List ℕ) → known seen x ≡ true → LeafOf t fs tree x

pub record State (t fs ms w₀ : List ℕ) (v : ℕ) (ts w : List ℕ) (c : ℕ) : Type 0 where
  pub long : length ts ≡ length ms
  pub rows : length w ≡ length w₀
  -- later marks and what is behind the rows are as they were
  pub ahead : (i : ℕ) → v ≤ i → get_or ts i 0 ≡ get_or ms i 0
  pub rest : (i : ℕ) → 3 * length ms ≤ i → get_or w i 0 ≡ get_or w₀ i 0
  pub seen : List (List ℕ)
  pub counted : c ≡ length seen
  pub few : c ≤ v
  -- the numbers given, and those that the later names are to have
  pub done : take v ts ++ tags_after seen (drop v (names t ms fs)) ≡ tags_of (names t ms fs)
  -- a number that is not 0 is that of the node's name
  pub given : (y : ℕ) → y < v → (get_or ts y 0 ≡ 0 → ⊥) → Given t fs seen ts y
  pub index : (c ≡ 0 → ⊥) → Index t fs (length ms) v seen ts w

-- All fits.
pub record Fit (t fs ms w : List ℕ) : Type 0 where
  pub few : length ms ≤ 65536
  pub placed : length ms ≤ length fs
  pub long : 3 * length ms ≤ length w
  pub short : length t ≤ 16777216

-- The nodes before v are numbered.
pub record TurnPre (t fs : List ℕ) (v c : ℕ) (ts w : List ℕ) : Type 0 where
  pub fit : Fit t fs ts w
  pub node : v < length ts
  pub marks : List ℕ
  pub work : List ℕ
  pub state : State t fs marks work v ts w c

-- Then v is numbered too.
pub record Turned (t fs : List ℕ) (v c : ℕ) (ts w ts' w' : List ℕ) (c' : ℕ) : Type 0 where
  pub moves : (ms w₀ : List ℕ) → State t fs ms w₀ v ts w c → State t fs ms w₀ (v + 1) ts' w' c'

-- The same of a numbering: the nodes before v are numbered; and v, which has a mark, has the name x; then v is numbered too, and what is lent is the same.
pub record Ready (b : Numberer) (w : lookup.Tree) (v : ℕ) : Type 0 where
  pub turn : TurnPre b.text.now b.firsts.now v b.count b.tags.now w.rows.now
  pub n : w.n ≡ length b.tags.now
  pub bytes : EachBelow 256 b.text.now

pub record NamedPre (x : List ℕ) (b : Numberer) (w : lookup.Tree) (v : ℕ) : Type 0 where
  pub ready : Ready b w v
  pub marked : get_or b.tags.now v 0 ≡ 0 → ⊥
  pub name : Name x
  pub here : x ≡ name_here b.text.now b.firsts.now v
  pub some : length x ≡ 0 → ⊥

abbrev pub TurnedHere : Numberer → lookup.Tree → Numberer → lookup.Tree → ℕ → Type 0
TurnedHere b w b' w' v = Turned b.text.now b.firsts.now v b.count b.tags.now w.rows.now b'.tags.now w'.rows.now b'.count

pub record SameLent (b b' : Numberer) : Type 0 where
  pub text : b'.text.now ≡ b.text.now
  pub firsts : b'.firsts.now ≡ b.firsts.now
  pub tags : b'.tags.ghost_name ≡ b.tags.ghost_name

-- Nothing is numbered yet.
pub record Fresh (b : Numberer) (w : lookup.Tree) : Type 0 where
  pub fit : Fit b.text.now b.firsts.now b.tags.now w.rows.now
  pub n : w.n ≡ length b.tags.now
  pub bytes : EachBelow 256 b.text.now
  pub count : b.count ≡ 0

-- All nodes are numbered.
pub record All (t fs ms w₀ ts w : List ℕ) : Type 0 where
  pub tags : ts ≡ tags_of (names t ms fs)
  pub rows : length w ≡ length w₀
  pub rest : (i : ℕ) → 3 * length ms ≤ i → get_or w i 0 ≡ get_or w₀ i 0

abbrev pub AllHere : Numberer → lookup.Tree → Numberer → lookup.Tree → Type 0
AllHere b w b' w' = All b.text.now b.firsts.now b.tags.now w.rows.now b'.tags.now w'.rows.now
