-- The three demands, told of a call: of its reply and of what stands in its buffers afterwards.
--   Replied …    == demand 1: which reply is given exactly when, with which place and total
--   WorkLeft …   == what a reply leaves in work
--   BufferLeft … == what a reply leaves in out or own, of which acceptance writes the first m entries
--   Number n P m == P holds of m numbers below n
--   CheckDemands, ElcaDemands, SlcaDemands, ValidDemands   == all that is demanded of a call of each function
-- proofs/Calls shows that each is the same as the contract of the function. Letters: I index; w, o, s what was lent as work, out and own, w', o', s' what
-- they are at the end; r reply, m answers; v node, j word, i answer, e entry. Assumes nothing.
use Rattle.std.specs.Prelude.{ℕ, ◌+◌, ◌*◌, ◌≤◌, ◌<◌, ◌≡◌, ◌↔◌, ◌⊎◌, List, Bool, true, cond, length, get_or}
use Rattle.seq.specs.Below.{sum_below}
use Rattle.seq.specs.Plain.{LowestBad, Among, FirstAre, StaysFrom}
use Rattle.tree.specs.Plain.{NodeKept, Lawful}
use Rattle.index.specs.declared.Reply.{Reply}
use Rattle.index.specs.Index.{Index, nodes, words, wanted, unwanted}
use Rattle.index.specs.Replies.{accepted, SIZE, TREE, LIST, COUNT, ROOM, room}
use Rattle.index.specs.Plain.{Sized, WordKept, ListsKept, CountKept, CountsKept, Right}
use Rattle.answers.specs.Answers.{full, credited, credits}
use Rattle.answers.specs.Plain.{Slca, Elca, ValidSlca}
use Rattle.answers.specs.Demand3.{LosesNothing, CreditedTo}
use Rattle.answers.specs.Searches.{is_elca, is_slca, is_valid}

-- ---- demand 1: a reply for every call, by number and place, and never otherwise
-- The call takes at most `most` negative words, work has w entries, Fits says that there is room for the m answers.
pub record Replied (most : ℕ) (I : Index) (w : ℕ) (Fits : Type 0) (m : ℕ) (r : Reply) : Type 0 where
  -- accepted exactly if nothing is wrong with the sizes, the index is right and there is room
  pub accepts : (r.refusal ≡ accepted) ↔ (Sized most I w × Right I × Fits)
  -- each refusal exactly if what it names is wrong and nothing before it is
  pub size : (r.refusal ≡ SIZE) ↔ (Sized most I w → ⊥)
  pub tree : (r.refusal ≡ TREE) ↔ (Sized most I w × (Lawful I.parents I.tags → ⊥))
  pub list : (r.refusal ≡ LIST) ↔ (Sized most I w × Lawful I.parents I.tags × (ListsKept I → ⊥))
  pub count : (r.refusal ≡ COUNT) ↔ (Sized most I w × Lawful I.parents I.tags × ListsKept I × (CountsKept I → ⊥))
  pub room : (r.refusal ≡ ROOM) ↔ (Sized most I w × Right I × (Fits → ⊥))
  -- the place is that of the lowest node, word or entry that is wrong, else 0
  pub tree_place : r.refusal ≡ TREE → LowestBad (nodes I) (NodeKept I.parents I.tags) r.place
  pub list_place : r.refusal ≡ LIST → LowestBad (words I) (WordKept (nodes I) I.ends I.occurrences) r.place
  pub count_place : r.refusal ≡ COUNT → LowestBad (words I * nodes I) (CountKept I) r.place
  pub no_place : (r.refusal ≡ TREE → ⊥) → (r.refusal ≡ LIST → ⊥) → (r.refusal ≡ COUNT → ⊥) → r.place ≡ 0
  -- the total is the number of answers under acceptance and ROOM, else 0
  pub total : (r.refusal ≡ accepted) ⊎ (r.refusal ≡ ROOM) → r.total ≡ m
  pub no_total : (r.refusal ≡ accepted → ⊥) → (r.refusal ≡ ROOM → ⊥) → r.total ≡ 0

-- SIZE touches nothing. Under every other reply the first (k + 2) * n entries of work are 0, and the rest is untouched.
pub record WorkLeft (I : Index) (r : Reply) (w w' : List ℕ) : Type 0 where
  pub untouched : r.refusal ≡ SIZE → w' ≡ w
  pub zeros : (r.refusal ≡ SIZE → ⊥) → (e : ℕ) → e < room I → get_or w' e 0 ≡ 0
  pub rest : (r.refusal ≡ SIZE → ⊥) → StaysFrom (room I) w w'

-- Any refusal keeps the buffer as lent. Acceptance writes its first m entries; later entries stay.
pub record BufferLeft (r : Reply) (m : ℕ) (o o' : List ℕ) : Type 0 where
  pub kept : (r.refusal ≡ accepted → ⊥) → o' ≡ o
  pub rest : r.refusal ≡ accepted → StaysFrom m o o'

-- ---- the index check
-- It has no answers, and so it always has room for them.
pub record CheckDemands (I : Index) (w : List ℕ) (r : Reply) (w' : List ℕ) : Type 0 where
  pub reply : Replied 8 I (length w) (Unit {0}) 0 r
  pub work : WorkLeft I r w w'

-- ---- the searches
-- How many nodes of I pass a test.
abbrev pub how_many : Index → (ℕ → Bool) → ℕ
how_many I f = sum_below (nodes I) λ v. cond (f v) 1 0

-- P holds of m numbers below n: there is a list of them.
pub record Number (n : ℕ) (P : ℕ → Type 0) (m : ℕ) : Type 0 where
  pub list : List ℕ
  pub long : length list ≡ m
  pub are : FirstAre n P m list

-- Demand 2 for any search: out's first m entries are the nodes of which P holds, each once, in document order, and no other; m is their number. They are counted
-- by a test f, which of a right index gives the number of nodes of which P holds.
pub record ListDemands (most : ℕ) (f : ℕ → Bool) (P : ℕ → Type 0) (Fits : Type 0) (I : Index) (w o : List ℕ) (r : Reply) (w' o' : List ℕ) : Type 0 where
  pub reply : Replied most I (length w) Fits (how_many I f) r
  pub number : Sized most I (length w) → Right I → Number (nodes I) P (how_many I f)
  pub work : WorkLeft I r w w'
  pub out : BufferLeft r r.total o o'
  pub lists : r.refusal ≡ accepted → FirstAre (nodes I) P r.total o'

-- Valid SLCA: with NOT.
pub record ValidDemands (I : Index) (w o : List ℕ) (r : Reply) (w' o' : List ℕ) : Type 0 where
  pub search : ListDemands 8 (is_valid I) (ValidSlca I.parents I.tags I.positive (wanted I) I.negative (unwanted I)) (how_many I (is_valid I) ≤ length o) I w o r w' o'

-- SLCA. Demand 3: the nodes listed lose nothing, and every set of full nodes that loses nothing contains them. A contract speaks of sets that have a test;
-- `shortest_any` in proofs/Calls says it of any set.
pub record SlcaDemands (I : Index) (w o : List ℕ) (r : Reply) (w' o' : List ℕ) : Type 0 where
  pub search : ListDemands 0 (is_slca I) (Slca I.parents I.positive (wanted I)) (how_many I (is_slca I) ≤ length o) I w o r w' o'
  pub loses_nothing : r.refusal ≡ accepted → LosesNothing I.parents I.positive (wanted I) (Among r.total o')
  pub shortest : r.refusal ≡ accepted → (S : ℕ → Bool) → LosesNothing I.parents I.positive (wanted I) (λ v. S v ≡ true) →
      (v : ℕ) → Among r.total o' v → S v ≡ true

-- ELCA. Demand 3: each occurrence is credited to the lowest full node at or above it; own holds the credits of the nodes listed, in word order; and over
-- all full nodes the credits of a word add up to the length of its list, if any node is full.
pub record ElcaDemands (I : Index) (w o s : List ℕ) (r : Reply) (w' o' s' : List ℕ) : Type 0 where
  pub search : ListDemands 0 (is_elca I) (Elca I.parents I.positive (wanted I)) ((how_many I (is_elca I) ≤ length o) × (how_many I (is_elca I) * I.positive ≤ length s)) I w o r w' o'
  pub own : BufferLeft r (r.total * I.positive) s s'
  pub owns : r.refusal ≡ accepted → (i j : ℕ) → i < r.total → j < I.positive →
      get_or s' (i * I.positive + j) 0 ≡ credits I.parents I.positive (wanted I) (get_or o' i 0) j
  pub credit : r.refusal ≡ accepted → (v : ℕ) → v < nodes I → full I.parents I.positive (wanted I) v ≡ true → (x : ℕ) → x < nodes I →
      CreditedTo I.parents I.positive (wanted I) x (credited I.parents I.positive (wanted I) x)
  pub add_up : r.refusal ≡ accepted → (v : ℕ) → v < nodes I → full I.parents I.positive (wanted I) v ≡ true → (j : ℕ) → j < I.positive →
      sum_below (nodes I) (λ u. cond (full I.parents I.positive (wanted I) u) (credits I.parents I.positive (wanted I) u j) 0) ≡ length (wanted I j)
