-- What holds between two steps of a pass over the lists: of the stack, of the cursors, and of the answers counted or written so far.
--   Job                   == what the engine reads: parents, ends, occurrences
--   World                 == all that a step may change: the stack, the cursors, out, own, and the state
--   is_answer J b v        == v is to be listed: an SLCA where b is true, else an ELCA
--   total J b             == how many such nodes there are
--   past_of J b s v        == how many of them are past v, from s on
--   Sound J               == the checks have been passed
--   Reaching J r c        == the cursors stand where the occurrences from r on have been taken
--   Going J u             == the whole
--   measure J u           == a number that falls at each step
--   Kept u u'             == what a pass leaves of out and own: all of them where it counts, what is past the answers left where it writes
-- Letters: J job, u world; p parents, W lists; b whether the smallest are listed; s, r first node met; v node, j word, i, e entries. Assumes nothing.
use Rattle.std.specs.Prelude.{ℕ, suc, ◌+◌, ◌*◌, ◌≤◌, ◌<◌, ◌≡◌, List, Bool, true, false, cond, ◌&&◌, leb, ltb, length, get_or, set}
use Rattle.seq.specs.Below.{sum_below, tabulate, gather, listed}
use Rattle.seq.specs.Plain.{StaysFrom}
use Rattle.tree.specs.Tree.{level}
use Rattle.tree.specs.Plain.{Preorder}
use Rattle.index.specs.Index.{start, word_list}
use Rattle.index.specs.Plain.{WordKept}
use Rattle.answers.specs.Answers.{slca, elca, own_count}
use Rattle.engine.specs.declared.Entry.{Entry}
use Rattle.engine.specs.declared.cursors.Cursors.{Cursors}
use Rattle.engine.specs.Inner.Entries.{fresh}
use Rattle.engine.specs.Inner.Cursors.{head, up_to, last_left, Highest}
use Rattle.engine.specs.Inner.Meaning.{node_at, Standing}
use Rattle.engine.specs.Inner.Steps.{Now, Move}

pub record Job : Type 0 where
  pub parents : List ℕ
  pub ends : List ℕ
  pub occurrences : List ℕ

pub record World : Type 0 where
  pub stack : List Entry
  pub cursors : Cursors
  pub out : List ℕ
  pub own : List ℕ
  pub state : Now

abbrev pub nodes_of : Job → ℕ
nodes_of J = length J.parents

abbrev pub words_of : Job → ℕ
words_of J = length J.ends

abbrev pub list_of : Job → ℕ → List ℕ
list_of J j = word_list J.ends J.occurrences j

-- ---- answers
unfoldable pub is_answer : Job → Bool → ℕ → Bool
is_answer J b v = cond b (slca J.parents (words_of J) (list_of J) v) (elca J.parents (words_of J) (list_of J) v)

abbrev pub answers_of : Job → Bool → List ℕ
answers_of J b = listed (nodes_of J) (is_answer J b)

abbrev pub total : Job → Bool → ℕ
total J b = length (answers_of J b)

-- The own counts of the answers, in word order.
unfoldable pub own_rows : Job → Bool → List ℕ
own_rows J b = gather (nodes_of J) (is_answer J b) λ v. tabulate (words_of J) (own_count J.parents (words_of J) (list_of J) v)

unfoldable pub past_of : Job → Bool → ℕ → ℕ → ℕ
past_of J b s v = sum_below (nodes_of J) λ w. cond ((ltb v w && leb s w) && is_answer J b w) 1 0

-- ---- what the checks have shown
pub record Sound (J : Job) : Type 0 where
  pub some : 1 ≤ nodes_of J
  pub few : nodes_of J ≤ 65536
  pub some_words : 1 ≤ words_of J
  pub few_words : words_of J ≤ 8
  pub preorder : Preorder J.parents (nodes_of J)
  pub levels : (i : ℕ) → i < nodes_of J → level J.parents i ≤ 64
  pub lists : (j : ℕ) → j < words_of J → WordKept (nodes_of J) J.ends J.occurrences j

-- ---- the cursors
pub record Reaching (J : Job) (r : ℕ) (c : Cursors) : Type 0 where
  pub begins : (j : ℕ) → j < words_of J → start J.ends j ≤ up_to c j
  pub within : (j : ℕ) → j < words_of J → up_to c j ≤ get_or J.ends j 0
  pub heads : (j : ℕ) → j < words_of J → head c j ≡ last_left J.occurrences (start J.ends j) (up_to c j)
  pub highest : Highest (words_of J) (head c) r
  -- what has been taken stands from r on
  pub met : (j i : ℕ) → j < words_of J → up_to c j ≤ i → i < get_or J.ends j 0 → r ≤ get_or J.occurrences i 0
  pub others : (j : ℕ) → words_of J ≤ j → j < 8 → head c j ≡ 0

-- ---- a pass
-- How many answers have been met: where the pass is over, all.
unfoldable pub met_of : Job → World → ℕ
met_of J u = cond u.state.on (past_of J u.state.smallest u.state.reach (node_at u.stack u.state.at)) (total J u.state.smallest)

-- The last answers have been written, from row `left` on.
pub record Written (J : Job) (u : World) : Type 0 where
  pub left : u.state.left + met_of J u ≡ total J u.state.smallest
  pub room : total J u.state.smallest ≤ length u.out
  pub nodes : (i : ℕ) → u.state.left ≤ i → i < total J u.state.smallest → get_or u.out i 0 ≡ get_or (answers_of J u.state.smallest) i 0
  pub own_room : u.state.smallest ≡ false → total J u.state.smallest * words_of J ≤ length u.own
  pub owns : u.state.smallest ≡ false → (e : ℕ) → u.state.left * words_of J ≤ e → e < total J u.state.smallest * words_of J →
      get_or u.own e 0 ≡ get_or (own_rows J u.state.smallest) e 0

pub record Going (J : Job) (u : World) : Type 0 where
  pub sound : Sound J
  pub wide : 64 ≤ length u.stack
  pub standing : u.state.on ≡ true → Standing J.parents (words_of J) (list_of J) u.state.reach u.stack u.state.at
  pub reaching : u.state.on ≡ true → Reaching J u.state.reach u.cursors
  pub counts : u.state.fill ≡ false → u.state.left ≡ met_of J u
  pub writes : u.state.fill ≡ true → Written J u

-- The reach falls where a node comes, the top where it is closed, and at last the pass is over.
unfoldable pub measure : Job → World → ℕ
measure J u = cond u.state.on (suc (u.state.reach * suc (nodes_of J) + node_at u.stack u.state.at)) 0

pub record Kept (J : Job) (u u' : World) : Type 0 where
  pub smallest : u'.state.smallest ≡ u.state.smallest
  pub fill : u'.state.fill ≡ u.state.fill
  pub long : length u'.stack ≡ length u.stack
  -- what is past the first 64 entries of the stack is as it was
  pub rest : (i : ℕ) → 64 ≤ i → get_or u'.stack i (fresh 0) ≡ get_or u.stack i (fresh 0)
  pub counted : u.state.fill ≡ false → (u'.out ≡ u.out) × (u'.own ≡ u.own)
  pub out : StaysFrom u.state.left u.out u'.out
  pub own : StaysFrom (u.state.left * words_of J) u.own u'.own
  pub no_own : u.state.smallest ≡ true → u'.own ≡ u.own

-- The world once the top t stands in its place.
abbrev pub opened : World → Entry → World
opened v t = record { stack = set v.stack v.state.at t; cursors = v.cursors; out = v.out; own = v.own; state = v.state }

-- The world after a step that gave n, with cursors, out and own as they are then: the new top stands in its place.
abbrev pub stepped : World → Move → Cursors → List ℕ → List ℕ → World
stepped u n c o w = record { stack = set u.stack n.state.at n.top; cursors = c; out = o; own = w; state = n.state }
