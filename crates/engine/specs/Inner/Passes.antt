-- A pass over the lists, and the listing of the answers in two of them.
--   job, world           == what a call's arguments lend, as one
--   PassPre, Passed      == a pass: answers are counted, or written
--   fitting b m k o w     == there is room for m answers of k words in buffers of these lengths
--   ListPre, Listed      == the answers are counted, and listed where there is room
--   Answering            == a whole search, but for the zeroing of the stack at its end
-- Letters: J job; b whether the smallest are listed, t tally; ys, c, o, w stack, cursors, out and own; r number or reply, m answers, k words. Assumes nothing.
use Rattle.std.specs.Prelude.{ℕ, ◌*◌, ◌≤◌, ◌≡◌, List, Bool, true, false, cond, ◌&&◌, ◌||◌, leb, length, get_or}
use Rattle.seq.specs.Memory.{over}
use Rattle.index.specs.declared.Reply.{Reply}
use Rattle.index.specs.Index.{Index}
use Rattle.index.specs.Replies.{accepted, SIZE, ROOM, totalled, kept_or}
use Rattle.depot.specs.Depot.{depot_checked}
use Rattle.answers.specs.Searches.{out_of, own_of, roomed, out_fits, own_fits}
use Rattle.engine.specs.Search.{is_listed}
use Rattle.engine.specs.declared.Entry.{Entry}
use Rattle.engine.specs.declared.cursors.Cursors.{Cursors}
use Rattle.engine.specs.declared.steps.Tally.{Tally}
use Rattle.engine.specs.Inner.Entries.{fresh}
use Rattle.engine.specs.Inner.Steps.{number, fills, Now}
use Rattle.engine.specs.Inner.Going.{Job, World, words_of, answers_of, total, own_rows, Sound}

abbrev pub job : List ℕ → List ℕ → List ℕ → Job
job p ends occ = record { parents = p; ends = ends; occurrences = occ }

abbrev pub world : List Entry → Cursors → List ℕ → List ℕ → Now → World
world ys c o w s = record { stack = ys; cursors = c; out = o; own = w; state = s }

-- ---- a pass
-- Counting begins with none, and where answers are written all are left, and there is room for them.
pub record PassPre (J : Job) (ys : List Entry) (o w : List ℕ) (b : Bool) (t : Tally) : Type 0 where
  pub sound : Sound J
  pub wide : 64 ≤ length ys
  pub counts : fills t ≡ false → number t ≡ 0
  pub left : fills t ≡ true → number t ≡ total J b
  pub out : fills t ≡ true → total J b ≤ length o
  pub own : fills t ≡ true → b ≡ false → total J b * words_of J ≤ length w

pub record Passed (J : Job) (ys : List Entry) (o w : List ℕ) (b : Bool) (t : Tally) (r : ℕ) (ys' : List Entry) (o' w' : List ℕ) : Type 0 where
  pub long : length ys' ≡ length ys
  pub rest : (i : ℕ) → 64 ≤ i → get_or ys' i (fresh 0) ≡ get_or ys i (fresh 0)
  pub counts : fills t ≡ false → (r ≡ total J b) × (o' ≡ o) × (w' ≡ w)
  pub out : fills t ≡ true → o' ≡ over (answers_of J b) o
  pub own : fills t ≡ true → b ≡ false → w' ≡ over (own_rows J b) w
  pub no_own : fills t ≡ true → b ≡ true → w' ≡ w

-- ---- the listing
-- Room for m answers of k words.
abbrev pub fitting : Bool → ℕ → ℕ → ℕ → ℕ → Bool
fitting b m k o w = leb m o && (b || leb (m * k) w)

pub record FitsPre (m k : ℕ) : Type 0 where
  pub answers : m ≤ 65536
  pub words : k ≤ 8

pub record ListPre (J : Job) (ys : List Entry) : Type 0 where
  pub sound : Sound J
  pub wide : 64 ≤ length ys

-- Own takes no part where the smallest are listed.
pub record Listed (J : Job) (b : Bool) (ys : List Entry) (o w : List ℕ) (r : Reply) (ys' : List Entry) (o' w' : List ℕ) : Type 0 where
  pub reply : r ≡ totalled (cond (fitting b (total J b) (words_of J) (length o) (length w)) accepted ROOM) (total J b)
  pub long : length ys' ≡ length ys
  pub rest : (i : ℕ) → 64 ≤ i → get_or ys' i (fresh 0) ≡ get_or ys i (fresh 0)
  pub out : o' ≡ kept_or r (answers_of J b) o
  pub own : w' ≡ cond b w (kept_or r (own_rows J b) w)

-- As Searched, but for the zeroing of the stack: it keeps its length and what stands behind its first 64 entries, and under SIZE all of it.
pub record Answering (I : Index) (b : Bool) (ys : List Entry) (o w : List ℕ) (r : Reply) (ys' : List Entry) (o' w' : List ℕ) : Type 0 where
  pub reply : r ≡ depot_checked I (length ys) (roomed I (is_listed I b) (out_fits I (is_listed I b) o && (b || own_fits I (is_listed I b) w)))
  pub long : length ys' ≡ length ys
  pub rest : (i : ℕ) → 64 ≤ i → get_or ys' i (fresh 0) ≡ get_or ys i (fresh 0)
  pub kept : r.refusal ≡ SIZE → ys' ≡ ys
  pub out : o' ≡ kept_or r (out_of I (is_listed I b)) o
  pub own : w' ≡ cond b w (kept_or r (own_of I (is_listed I b)) w)
