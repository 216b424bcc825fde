-- One step of the engine, on the top of the stack, the entry below it, and numbers: the node that comes next is put on the top, or the top is closed.
--   Now, now             == what a step goes by of the state: whether the pass goes on, the place of the top, the reach, and the answers; that of a state
--   Move, moved_to         == the same with the top, as a step leaves them
--   left_after k s e       == the answers counted, or left to write, once e is closed
--   out_after, own_after    == out and own once e is closed: where answers are written and e is one, its row stands before the rows written so far
--   climbed p l r f v     == from v up, the first node that is not past l, or stands before r; at most f steps
--   closed_step p k s e b  == the state and the top once e is closed over b
--   arrived_step s t c r'  == the state and the top once the node that comes next has been put on t
--   Advanced …            == what one step promises
-- Letters: p parents, k words, ends and occ as lent; s state; t, e the top, b the entry below it; c, o, w cursors, out and own. Assumes nothing.
use Rattle.std.specs.Prelude.{ℕ, zero, suc, ◌+◌, ◌-◌, ◌*◌, ◌≤◌, ◌<◌, ◌≡◌, List, ◌++◌, Bool, true, false, not, cond, ◌&&◌, eqb, leb, ltb, length, set, take, drop, replicate}
use Rattle.tree.specs.Tree.{parent}
use Rattle.tree.specs.Plain.{Down}
use Rattle.engine.specs.declared.Entry.{Entry}
use Rattle.engine.specs.declared.cursors.Cursors.{Cursors}
use Rattle.engine.specs.declared.steps.State.{State}
use Rattle.engine.specs.declared.steps.Step.{Step}
use Rattle.engine.specs.declared.steps.Tally.{Tally}
use Rattle.engine.specs.declared.steps.Tally.TheVariants.{Counted, Left}
use Rattle.engine.specs.Inner.Entries.{fresh, sums, held, full_entry, answering, closed_into, SumsPre, ClosedIntoPre}
use Rattle.engine.specs.Inner.Cursors.{coming_row, CursorsPre, Taken}

-- ---- the state
abbrev pub number : Tally → ℕ
number (Counted m) = m
number (Left m) = m

-- Whether answers are written.
abbrev pub fills : Tally → Bool
fills (Counted m) = false
fills (Left m) = true

pub record Now : Type 0 where
  -- whether a node is open
  pub on : Bool
  pub at : ℕ
  pub reach : ℕ
  -- the answers counted or, where they are written, those left to write
  pub left : ℕ
  pub smallest : Bool
  pub fill : Bool

abbrev pub now : State → Now
now s = record { on = ltb 0 s.depth; at = s.depth - 1; reach = s.reach; left = number s.tally; smallest = s.smallest; fill = fills s.tally }

pub record Move : Type 0 where
  pub state : Now
  pub top : Entry

abbrev pub moved_to : Step → Move
moved_to n = record { state = now n.state; top = n.top }

-- ---- answers
unfoldable pub left_after : ℕ → Now → Entry → ℕ
left_after k s e = cond (answering s.smallest k e) (cond s.fill (s.left - 1) (s.left + 1)) s.left

-- Answers are written, and e is one.
abbrev pub writing : ℕ → Now → Entry → Bool
writing k s e = answering s.smallest k e && s.fill

unfoldable pub out_after : ℕ → Now → Entry → List ℕ → List ℕ
out_after k s e o = cond (writing k s e) (set o (s.left - 1) e.node) o

-- Row m of own, where rows are k long.
abbrev pub row_put : ℕ → ℕ → List ℕ → List ℕ → List ℕ
row_put k m a w = take (m * k) w ++ (take k a ++ drop (m * k + k) w)

unfoldable pub own_after : ℕ → Now → Entry → List ℕ → List ℕ
own_after k s e w = cond (writing k s e && not s.smallest) (row_put k (s.left - 1) e.own w) w

-- ---- closing
unfoldable pub climbed : List ℕ → ℕ → ℕ → ℕ → ℕ → ℕ
climbed p l r zero v = v
climbed p l r (suc f) v = cond (ltb l v && leb r v) (climbed p l r f (parent p v)) v

-- From v's parent up; v steps are enough.
abbrev pub risen : List ℕ → ℕ → ℕ → ℕ → ℕ
risen p l r v = climbed p l r v (parent p v)

-- A state at another place, with another reach, and with other answers.
abbrev pub moved : Now → Bool → ℕ → ℕ → ℕ → Now
moved s on at r m = record { on = on; at = at; reach = r; left = m; smallest = s.smallest; fill = s.fill }

abbrev pub step : Now → Entry → Move
step s e = record { state = s; top = e }

-- The root is closed last. Any other node is closed into the entry below where the climb ends there, else into a new one in its place.
unfoldable pub closed_over : List ℕ → ℕ → Now → Entry → Entry → ℕ → Move
closed_over p k s e b q =
    cond (eqb q b.node)
    (step (moved s s.on (s.at - 1) s.reach (left_after k s e)) (closed_into b (full_entry k e) (held e)))
    (step (moved s s.on s.at s.reach (left_after k s e)) (closed_into (fresh q) (full_entry k e) (held e)))

unfoldable pub closed_step : List ℕ → ℕ → Now → Entry → Entry → Move
closed_step p k s e b =
    cond (eqb s.at 0)
    (step (moved s false s.at s.reach (left_after k s e)) (fresh 0))
    (closed_over p k s e b (risen p b.node s.reach e.node))

-- ---- what comes next
unfoldable pub arrived_step : Now → Entry → Cursors → ℕ → Move
arrived_step s t c r' =
    cond (eqb t.node (s.reach - 1))
    (step (moved s s.on s.at r' s.left) (record { node = s.reach - 1; own = sums t.own (coming_row c s.reach); covered = t.covered }))
    (step (moved s s.on (s.at + 1) r' s.left) (record { node = s.reach - 1; own = coming_row c s.reach; covered = replicate 8 0 }))

-- ---- one step
-- What is asked where the top is closed.
pub record ClosePre (p : List ℕ) (k : ℕ) (o w : List ℕ) (s : Now) (e b : Entry) : Type 0 where
  pub on : s.on ≡ true
  pub words : k ≤ 8
  pub few : length p ≤ 65536
  pub down : Down p (length p)
  pub node : e.node < length p
  -- a node that is not at place 0 is not the root
  pub not_root : 0 < s.at → 0 < e.node
  pub holds : SumsPre e.own e.covered
  pub into : ClosedIntoPre b (held e)
  pub more : s.left ≤ 65536
  -- there is room for each answer that is left to write
  pub left : writing k s e ≡ true → 0 < s.left
  pub out : s.fill ≡ true → s.left ≤ length o
  pub own : s.fill ≡ true → s.smallest ≡ false → s.left * k ≤ length w

-- What is asked where a node comes.
pub record ArrivePre (ends occ : List ℕ) (c : Cursors) (s : Now) (t : Entry) : Type 0 where
  pub on : s.on ≡ true
  pub cursors : CursorsPre ends occ c s.reach
  pub counts : SumsPre t.own (coming_row c s.reach)
  pub place : s.at < 64

pub record AdvancePre (p ends occ : List ℕ) (c : Cursors) (o w : List ℕ) (s : Now) (t b : Entry) : Type 0 where
  pub close : s.reach ≤ t.node → ClosePre p (length ends) o w s t b
  pub arrive : t.node < s.reach → ArrivePre ends occ c s t

pub record Closed (p : List ℕ) (k : ℕ) (o w : List ℕ) (s : Now) (e b : Entry) (n : Move) (o' w' : List ℕ) : Type 0 where
  pub step : n ≡ closed_step p k s e b
  pub out : o' ≡ out_after k s e o
  pub own : w' ≡ own_after k s e w

pub record Arrived (ends occ : List ℕ) (c : Cursors) (s : Now) (t : Entry) (n : Move) (c' : Cursors) : Type 0 where
  pub step : n ≡ arrived_step s t c n.state.reach
  pub cursors : Taken ends occ c s.reach n.state.reach c'

-- The cursors, out and own were c, o and w and are c', o' and w'.
pub record Advanced (p ends occ : List ℕ) (c : Cursors) (o w : List ℕ) (s : Now) (t b : Entry) (n : Move) (c' : Cursors) (o' w' : List ℕ) : Type 0 where
  pub closed : s.reach ≤ t.node → Closed p (length ends) o w s t b n o' w' × (c' ≡ c)
  pub arrived : t.node < s.reach → Arrived ends occ c s t n c' × (o' ≡ o) × (w' ≡ w)
