-- The demands, told of a call of a search without counts: of its reply and of what stands in its buffers afterwards.
--   StackLeft r ys ys'  == what a reply leaves in the stack
--   MergeReplied …      == what is the same for both searches: when SIZE is given, that COUNT never is, and the stack
--   MergeElcaDemands, MergeSlcaDemands   == all that is demanded of a call of each search
-- SIZE in plain words is `DepotSized` (`depot`, specs/Plain). All else is demanded in the words of the searches with counts (`demands`, specs/Calls), of the same index with right counts.
-- proofs/Calls shows that each is the same as the contract of the search.
-- Letters: I index; ys, o, s what was lent as stack, out and own, ys', o', s' what they are at the end; r reply; w work; i entry. Assumes nothing.
use Rattle.std.specs.Prelude.{ℕ, ◌≤◌, ◌<◌, ◌≡◌, ◌↔◌, List, length, get_or}
use Rattle.index.specs.declared.Reply.{Reply}
use Rattle.index.specs.Index.{Index}
use Rattle.index.specs.Replies.{SIZE, COUNT, refused, room, work_after}
use Rattle.engine.specs.declared.Entry.{Entry}
use Rattle.engine.specs.Search.{blank}
use Rattle.depot.specs.Plain.{DepotSized}
use Rattle.demands.specs.Calls.{SlcaDemands, ElcaDemands}
use Rattle.merge_laws.specs.Agree.{righted}

-- ---- the stack
-- SIZE touches nothing. Under every other reply the first 64 entries of the stack are blank, and the rest is untouched.
pub record StackLeft (r : Reply) (ys ys' : List Entry) : Type 0 where
  pub untouched : r.refusal ≡ SIZE → ys' ≡ ys
  pub long : (r.refusal ≡ SIZE → ⊥) → length ys' ≡ length ys
  pub blanks : (r.refusal ≡ SIZE → ⊥) → (i : ℕ) → i < 64 → get_or ys' i blank ≡ blank
  pub rest : (r.refusal ≡ SIZE → ⊥) → (i : ℕ) → 64 ≤ i → get_or ys' i blank ≡ get_or ys i blank

-- ---- both searches
pub record MergeReplied (I : Index) (ys : List Entry) (r : Reply) (ys' : List Entry) : Type 0 where
  -- SIZE exactly if a length or a number of words is wrong; its place and total are 0
  pub size : (r.refusal ≡ SIZE) ↔ (DepotSized I (length ys) → ⊥)
  pub size_zero : r.refusal ≡ SIZE → r ≡ refused SIZE 0
  pub no_count : r.refusal ≡ COUNT → ⊥
  pub stack : StackLeft r ys ys'

-- ---- each search
-- ELCA. SIZE keeps out and own as lent. Under every other reply they are, with the reply, all that is demanded of the search with counts on the same index with
-- the counts that it must have, whatever work is lent to that search, if it is long enough.
pub record MergeElcaDemands (I : Index) (ys : List Entry) (o s : List ℕ) (r : Reply) (ys' : List Entry) (o' s' : List ℕ) : Type 0 where
  pub reply : MergeReplied I ys r ys'
  pub kept : r.refusal ≡ SIZE → (o' ≡ o) × (s' ≡ s)
  pub search : (r.refusal ≡ SIZE → ⊥) → (w : List ℕ) → room I ≤ length w → ElcaDemands (righted I) w o s r (work_after 0 (righted I) w) o' s'

-- SLCA: the same without own.
pub record MergeSlcaDemands (I : Index) (ys : List Entry) (o : List ℕ) (r : Reply) (ys' : List Entry) (o' : List ℕ) : Type 0 where
  pub reply : MergeReplied I ys r ys'
  pub kept : r.refusal ≡ SIZE → o' ≡ o
  pub search : (r.refusal ≡ SIZE → ⊥) → (w : List ℕ) → room I ≤ length w → SlcaDemands (righted I) w o r (work_after 0 (righted I) w) o'
