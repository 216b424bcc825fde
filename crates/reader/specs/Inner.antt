-- What the functions of this crate ask of and promise each other; no public contract cites it.
--   Rows              == the four rows of a tree: parents, marks, first and last places; Even: they are equally long
--   put_node, end_node  == the rows with the entries of a node, with another last place
--   State             == between two pieces: how many elements are open, the nodes written, and the data held
--   Store             == such a state, with the numbers of the open elements and the rows; rows_of b, store_of b: what a builder holds
--   SameRows b b'     == two builders borrow the same rows
--   path_in O d        == the first d numbers of O, the last one first: the open elements, the innermost first
--   first_in, last_in, solid_in   == of the data held: its first and its last place, and whether it makes a node; 0 and no where there is none
--   add_node          == the store with one node more, a child of the innermost open element
--   flushed_met, flushed_rows, flushed_store   == the nodes written, the rows, and the store, with the node of the data held, if it makes one
--   data_state, node_store, close_store   == what data, the tag of an element's beginning and an end tag do; tag_store, turn_store: what a tag and a piece do, by kind
--   mark a            == 1 for an element, 0 for data
--   RunPre            == such a text, and a store in which nothing is done yet
--   BuildPre, Built   == what `build` asks: an accepted text, with rows as long as it has nodes; and what it leaves in the rows: its tree
-- Letters: T text; R rows, O a row of open elements, S store, s state, d data held; p piece, at a place; v node, par its parent, f l its first and last places. Assumes nothing.
use Rattle.std.specs.Prelude.{ℕ, zero, suc, ◌+◌, ◌-◌, ◌*◌, ◌≤◌, ◌<◌, ◌≡◌, List, [], ◌∷◌, map, Bool, false, cond, ◌||◌, eqb, ltb, length, get_or, set, Option, None, Some}
use Rattle.seq.specs.Memory.{zeroed}
use Rattle.profile.specs.Tree.{Node}
use Rattle.profile.specs.Reader.{top, tree_of}
use Rattle.profile.specs.Check.{whole, reply_to}
use Rattle.markup.specs.declared.Kind.{Kind}
use Rattle.markup.specs.declared.Kind.TheVariants.{Data, Comment, Start, Close}
use Rattle.markup.specs.declared.Piece.{Piece}
use Rattle.names.specs.Names.{names}
use Rattle.reader.specs.Read.{Lent, parents_of, tags_in, firsts_of, lasts_of}
use Rattle.reader.specs.declared.build.Held.{Held}
use Rattle.reader.specs.declared.build.Builder.{Builder}

-- The length of the longest text that is read.
abbrev pub longest : ℕ
longest = 16777216

-- ---- rows
pub record Rows : Type 0 where
  pub parents : List ℕ
  pub marks : List ℕ
  pub firsts : List ℕ
  pub lasts : List ℕ

abbrev pub rows : List ℕ → List ℕ → List ℕ → List ℕ → Rows
rows P M F L = record { parents = P; marks = M; firsts = F; lasts = L }

pub record Even (R : Rows) : Type 0 where
  pub few : length R.parents ≤ 65536
  pub marks : length R.marks ≡ length R.parents
  pub firsts : length R.firsts ≡ length R.parents
  pub lasts : length R.lasts ≡ length R.parents

abbrev pub put_node : ℕ → ℕ → ℕ → ℕ → ℕ → Rows → Rows
put_node v par k f l R = rows (set R.parents v par) (set R.marks v k) (set R.firsts v f) (set R.lasts v l)

abbrev pub end_node : ℕ → ℕ → Rows → Rows
end_node v l R = rows R.parents R.marks R.firsts (set R.lasts v l)

-- ---- the state
pub record State : Type 0 where
  pub depth : ℕ
  pub met : ℕ
  pub held : Option Held

pub record Store : Type 0 where
  pub state : State
  pub opens : List ℕ
  pub rows : Rows

abbrev pub rows_of : Builder → Rows
rows_of b = rows b.parents.now b.marks.now b.firsts.now b.lasts.now

abbrev pub store_of : Builder → Store
store_of b = record { state = record { depth = b.depth; met = b.met; held = b.held }; opens = b.opens; rows = rows_of b }

pub record SameRows (b b' : Builder) : Type 0 where
  pub parents : b'.parents.ghost_name ≡ b.parents.ghost_name
  pub marks : b'.marks.ghost_name ≡ b.marks.ghost_name
  pub firsts : b'.firsts.ghost_name ≡ b.firsts.ghost_name
  pub lasts : b'.lasts.ghost_name ≡ b.lasts.ghost_name

unfoldable pub path_in : List ℕ → ℕ → List ℕ
path_in O zero = []
path_in O (suc d) = get_or O d 0 ∷ path_in O d

pub record TopPre (d : ℕ) (O : List ℕ) : Type 0 where
  pub deep : d ≤ length O

-- No data is held.
abbrev pub blank : ℕ → ℕ → State
blank d v = record { depth = d; met = v; held = None }

abbrev pub first_in : Option Held → ℕ
first_in None = 0
first_in (Some h) = h.first

abbrev pub last_in : Option Held → ℕ
last_in None = 0
last_in (Some h) = h.last

abbrev pub solid_in : Option Held → Bool
solid_in None = false
solid_in (Some h) = h.solid

-- The parent of the next node.
abbrev pub above : Store → ℕ
above S = top (path_in S.opens S.state.depth)

abbrev pub add_node : ℕ → ℕ → ℕ → Store → Store
add_node k f l S =
    record {
      state = record { depth = S.state.depth; met = S.state.met + 1; held = S.state.held };
      opens = S.opens;
      rows = put_node S.state.met (above S) k f l S.rows;
    }

pub record NodePre (f l : ℕ) (S : Store) : Type 0 where
  pub even : Even S.rows
  pub deep : S.state.depth ≤ length S.opens
  pub node : S.state.met < length S.rows.parents
  pub above : above S ≤ longest
  pub first : f ≤ longest
  pub last : l ≤ longest

unfoldable pub flushed_met : State → ℕ
flushed_met s = cond (solid_in s.held) (s.met + 1) s.met

unfoldable pub flushed_rows : State → ℕ → Rows → Rows
flushed_rows s par R = cond (solid_in s.held) (put_node s.met par 0 (first_in s.held) (last_in s.held) R) R

abbrev pub flushed_store : Store → Store
flushed_store S =
    record { state = blank S.state.depth (flushed_met S.state); opens = S.opens; rows = flushed_rows S.state (above S) S.rows }

-- ---- what one piece does
-- The data held, with more that goes on from the place `at` to the end of p.
abbrev pub longer : ℕ → Piece → Option Held → Held
longer at p None = record { first = at; last = p.end - 1; solid = ltb p.middle p.end }
longer at p (Some h) = record { first = h.first; last = p.end - 1; solid = h.solid || ltb p.middle p.end }

unfoldable pub data_state : ℕ → Piece → State → State
data_state at p s = cond (eqb s.depth 0) s (record { depth = s.depth; met = s.met; held = Some (longer at p s.held) })

abbrev pub data_store : ℕ → Piece → Store → Store
data_store at p S = record { state = data_state at p S.state; opens = S.opens; rows = S.rows }

-- A start tag or an empty-element tag: then d elements are open, those of O.
abbrev pub node_store : ℕ → List ℕ → ℕ → Piece → Store → Store
node_store d O at p S =
    record {
      state = blank d (flushed_met S.state + 1);
      opens = O;
      rows = put_node (flushed_met S.state) (above S) 1 at (p.end - 1) (flushed_rows S.state (above S) S.rows);
    }

-- An end tag.
abbrev pub close_store : Piece → Store → Store
close_store p S =
    record {
      state = blank (S.state.depth - 1) (flushed_met S.state);
      opens = S.opens;
      rows = end_node (above S) (p.end - 1) (flushed_rows S.state (above S) S.rows);
    }

unfoldable pub tag_of : Kind → ℕ → Piece → Store → Store
tag_of Close at p S = close_store p S
tag_of Start at p S = node_store (S.state.depth + 1) (set S.opens S.state.depth (flushed_met S.state)) at p S
tag_of k at p S = node_store S.state.depth S.opens at p S

abbrev pub tag_store : ℕ → Piece → Store → Store
tag_store at p S = tag_of p.kind at p S

unfoldable pub turn_of : Kind → ℕ → Piece → Store → Store
turn_of Data at p S = data_store at p S
turn_of Comment at p S = S
turn_of k at p S = tag_store at p S

abbrev pub turn_store : ℕ → Piece → Store → Store
turn_store at p S = turn_of p.kind at p S

-- ---- what it needs
-- The rows have room for the data held, and the numbers of the open elements fit.
pub record Room (S : Store) : Type 0 where
  pub even : Even S.rows
  pub deep : S.state.depth ≤ length S.opens
  pub room : flushed_met S.state ≤ length S.rows.parents
  pub above : above S ≤ longest
  pub first : first_in S.state.held ≤ longest
  pub last : last_in S.state.held ≤ longest

pub record TagPre (at : ℕ) (p : Piece) (S : Store) : Type 0 where
  pub ready : Room S
  pub moves : at < p.end
  pub fits : p.end ≤ longest
  -- an end tag's element is open
  pub inside : p.kind ≡ Close → 1 ≤ S.state.depth
  pub closes : p.kind ≡ Close → above S < length S.rows.parents
  -- another tag has room for its node, and for its element
  pub node : (p.kind ≡ Close → ⊥) → flushed_met S.state < length S.rows.parents
  pub opens : p.kind ≡ Start → S.state.depth < length S.opens

pub record TurnPre (at : ℕ) (p : Piece) (S : Store) : Type 0 where
  pub moves : at < p.end
  pub tag : (p.kind ≡ Data → ⊥) → (p.kind ≡ Comment → ⊥) → TagPre at p S

-- ---- the tree in rows
abbrev pub mark_of : List ℕ → ℕ
mark_of [] = 0
mark_of (x ∷ n) = 1

abbrev pub mark : Node → ℕ
mark a = mark_of a.name

pub record BuildPre (T : List ℕ) (R : Rows) : Type 0 where
  pub short : length T ≤ longest
  -- it is accepted, with as many nodes as the rows are long
  pub nodes : reply_to 64 65536 T ≡ whole (length R.parents)
  pub marks : length R.marks ≡ length R.parents
  pub firsts : length R.firsts ≡ length R.parents
  pub lasts : length R.lasts ≡ length R.parents

-- Nothing is done yet.
pub record RunPre (T : List ℕ) (S : Store) : Type 0 where
  pub build : BuildPre T S.rows
  pub state : S.state ≡ blank 0 0
  pub opens : length S.opens ≡ 64

pub record Built (T : List ℕ) (R' : Rows) : Type 0 where
  pub parents : R'.parents ≡ map (λ a. a.parent) (tree_of T)
  pub marks : R'.marks ≡ map mark (tree_of T)
  pub firsts : R'.firsts ≡ map (λ a. a.first) (tree_of T)
  pub lasts : R'.lasts ≡ map (λ a. a.last) (tree_of T)
  pub names : map (λ a. a.name) (tree_of T) ≡ names T R'.marks R'.firsts

-- ---- the rows as a whole
pub record FillPre (T : List ℕ) (l : Lent) : Type 0 where
  pub short : length T ≤ longest
  pub nodes : reply_to 64 65536 T ≡ whole (length l.parents)
  pub few : length l.parents ≤ 65536
  pub tags : length l.tags ≡ length l.parents
  pub firsts : length l.firsts ≡ length l.parents
  pub lasts : length l.lasts ≡ length l.parents
  pub work : 3 * length l.parents ≤ length l.work

pub record Filled (T w : List ℕ) (k : Lent) : Type 0 where
  pub parents : k.parents ≡ parents_of (tree_of T)
  pub tags : k.tags ≡ tags_in (tree_of T)
  pub firsts : k.firsts ≡ firsts_of (tree_of T)
  pub lasts : k.lasts ≡ lasts_of (tree_of T)
  pub work : k.work ≡ zeroed (3 * length (tree_of T)) w
