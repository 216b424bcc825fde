-- What the functions of this crate promise each other; no public contract cites it.
--   name_in T N d         == the name of the open element d, as the row N has it
--   open_place T N d      == inside d open elements;  place_of: where the judge stands, with the root met or not
--   broken_at, over_at, goes_on   == the kinds of a turn that refuses or goes on
--   behind s d           == the state behind a tag
--   data_turn, tag_turn, close_turn          == the turns of the kinds of pieces, in numbers
--   Holds T s N          == the row and the state are in order: within their bounds, the names within the text
--   Bare T at d N r      == r is nothing, or the place behind an end tag which stands at the place `at`; Closes: the bytes of such a tag
--   Told q T r N         == the turn r, with the row then, is `profile`'s turn q
-- Letters: T text, N row of names, s state, p piece, at a place, d how many elements are open, e what the judge ends with. Assumes nothing.
use Rattle.std.specs.Prelude.{ℕ, zero, suc, ◌+◌, ◌-◌, ◌≤◌, ◌<◌, ◌≡◌, List, Bool, true, false, not, cond, ◌&&◌, ◌||◌, eqb, ltb, leb, length, get_or, take, drop, Result, Err, Option, Some, None}
use Rattle.std.specs.declared.ops.ControlFlow.{ControlFlow}
use Rattle.std.specs.declared.ops.ControlFlow.TheVariants.{Continue, Break}
use Rattle.index.specs.Replies.{reply_of}
use Rattle.profile.specs.Bytes.{'/', '<', '>'}
use Rattle.profile.specs.Spans.{common}
use Rattle.profile.specs.Machine.{Place, before, after, inside}
use Rattle.profile.specs.Check.{Tally}
use Rattle.profile.specs.Turns.{halt, go, tally, turn}
use Rattle.profile.specs.Turns as turns
use Rattle.markup.specs.declared.Piece.{Piece}
use Rattle.markup.specs.Pieces.{piece_at}
use Rattle.judge.specs.Judge.{longest, max_level, max_nodes, in_numbers}
use Rattle.judge.specs.declared.turns.Name.{Name}
use Rattle.judge.specs.declared.turns.State.{State}
use Rattle.index.specs.declared.replies.Refusal.{Refusal}
use Rattle.index.specs.declared.replies.Refusal.TheVariants.{Markup, Tree}

abbrev pub Turn : Type 0
Turn = ControlFlow (Result ℕ Refusal) State

-- ---- where the judge stands
abbrev pub no_name : Name
no_name = record { start = 0; size = 0 }

module _ (T : List ℕ) (N : List Name) where
  abbrev pub name_in : ℕ → List ℕ
  name_in d = take (get_or N d no_name).size (drop (get_or N d no_name).start T)

  unfoldable pub open_place : ℕ → Place
  open_place zero = before
  open_place (suc d) = inside (name_in d) (open_place d)

  unfoldable pub place_of : Bool → ℕ → Place
  place_of rooted zero = cond rooted after before
  place_of rooted (suc d) = open_place (suc d)

abbrev pub tally_in : State → Tally
tally_in s = tally s.met s.depth s.solid

-- The turn that the piece at a place gives, by `profile`.
abbrev pub turn_of : List ℕ → ℕ → State → List Name → turns.Turn
turn_of T at s N = turn max_level max_nodes (place_of T N s.rooted s.depth) (tally_in s) at (drop at T)

-- ---- turns in numbers
abbrev pub broken_at : ℕ → Turn
broken_at i = Break (Err (Markup i))

abbrev pub over_at : ℕ → Turn
over_at v = Break (Err (Tree v))

abbrev pub goes_on : ℕ → ℕ → Bool → Bool → Turn
goes_on d m b r = Continue (record { depth = d; met = m; solid = b; rooted = r })

-- The state s behind a tag, with d elements open.
abbrev pub behind : State → ℕ → State
behind s d = record { depth = d; met = s.met; solid = false; rooted = s.rooted }

unfoldable pub is_full : ℕ → ℕ → Bool
is_full d m = leb 64 d || leb 65536 m

unfoldable pub is_closed : ℕ → Bool → Bool
is_closed d r = eqb d 0 && r

unfoldable pub passed : Piece → State → Turn
passed p s = cond p.whole (goes_on s.depth s.met s.solid s.rooted) (broken_at p.end)

unfoldable pub space_turn : Piece → State → Turn
space_turn p s = cond (p.whole && eqb p.middle p.end) (goes_on 0 s.met s.solid s.rooted) (broken_at p.middle)

unfoldable pub data_turn : Piece → State → Turn
data_turn p s =
    cond (eqb s.depth 0) (space_turn p s)
    (cond (ltb p.middle p.end && not s.solid)
    (cond (is_full s.depth s.met) (over_at s.met)
    (cond p.whole (goes_on s.depth (suc s.met) true s.rooted) (broken_at p.end)))
    (passed p s))

unfoldable pub tag_turn : ℕ → Piece → State → ℕ → Turn
tag_turn at p s d =
    cond (is_closed s.depth s.rooted) (broken_at (at + 1))
    (cond p.whole
    (cond (is_full s.depth s.met) (over_at s.met) (goes_on d (suc s.met) false true))
    (broken_at p.end))

-- How many bytes of the name of the element that was opened last stand in the end tag.
abbrev pub matched : List ℕ → ℕ → State → List Name → ℕ
matched T at s N = common (name_in T N (s.depth - 1)) (drop (at + 2) T)

unfoldable pub close_turn : List ℕ → ℕ → Piece → State → List Name → Turn
close_turn T at p s N =
    cond (eqb s.depth 0) (broken_at (at + 1))
    (cond (eqb (matched T at s N) (get_or N (s.depth - 1) no_name).size && eqb p.middle (at + 2 + (get_or N (s.depth - 1) no_name).size))
    (cond p.whole (goes_on (s.depth - 1) s.met false s.rooted) (broken_at p.end))
    (broken_at (at + 2 + matched T at s N)))

-- ---- what holds between two pieces
pub record Holds (T : List ℕ) (s : State) (N : List Name) : Type 0 where
  pub short : length T ≤ longest
  pub names : length N ≡ 64
  pub deep : s.depth ≤ 64
  pub many : s.met ≤ 65536
  pub rooted : 1 ≤ s.depth → s.rooted ≡ true
  pub within : (d : ℕ) → d < s.depth → (get_or N d no_name).start + (get_or N d no_name).size ≤ length T

pub record DataPre (p : Piece) (s : State) : Type 0 where
  pub many : s.met ≤ 65536
  pub middle : p.middle ≤ longest
  pub fits : p.end ≤ longest

pub record TagPre (at : ℕ) (p : Piece) (s : State) : Type 0 where
  pub many : s.met ≤ 65536
  pub place : at ≤ longest
  pub fits : p.end ≤ longest

pub record ClosePre (T : List ℕ) (at : ℕ) (p : Piece) (s : State) (N : List Name) : Type 0 where
  pub holds : Holds T s N
  pub place : at + 2 ≤ length T
  pub fits : p.end ≤ longest

pub record BarePre (T : List ℕ) (at d : ℕ) (N : List Name) : Type 0 where
  pub short : length T ≤ longest
  pub deep : d ≤ 64
  pub within : (k : ℕ) → k < d → (get_or N k no_name).start + (get_or N k no_name).size ≤ length T

-- The bytes of an end tag, without white space, of the element that was opened last; e is the place behind it.
pub record Closes (T : List ℕ) (at d : ℕ) (N : List Name) (e : ℕ) : Type 0 where
  pub some : d ≡ 0 → ⊥
  pub less : get_or T at 0 ≡ '<'
  pub slash : get_or T (at + 1) 0 ≡ '/'
  pub name : common (name_in T N (d - 1)) (drop (at + 2) T) ≡ (get_or N (d - 1) no_name).size
  pub greater : get_or T (at + 2 + (get_or N (d - 1) no_name).size) 0 ≡ '>'
  pub fits : at + 2 + (get_or N (d - 1) no_name).size < length T
  pub end : e ≡ at + 2 + (get_or N (d - 1) no_name).size + 1

abbrev pub Bare : List ℕ → ℕ → ℕ → List Name → Option ℕ → Type 0
Bare T at d N None = Unit {0}
Bare T at d N (Some e) = Closes T at d N e

pub record TurnPre (T : List ℕ) (at : ℕ) (p : Piece) (s : State) (N : List Name) : Type 0 where
  pub holds : Holds T s N
  pub place : at ≤ length T
  pub piece : p ≡ piece_at T at

-- ---- what a turn tells
pub record Gone (p : Place) (c : Tally) (T : List ℕ) (s : State) (N : List Name) : Type 0 where
  pub tally : tally_in s ≡ c
  pub place : place_of T N s.rooted s.depth ≡ p
  pub holds : Holds T s N

abbrev pub Told : turns.Turn → List ℕ → Turn → List Name → Type 0
Told (halt q) T (Break e) N = reply_of e ≡ in_numbers q
Told (halt q) T (Continue s) N = ⊥
Told (go p c) T (Break e) N = ⊥
Told (go p c) T (Continue s) N = Gone p c T s N
