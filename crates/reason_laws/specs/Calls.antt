-- What is demanded of a call that asks for a reason: of its reply, of what it tells, and of what stands in work afterwards.
--   ReasonReplied …   == which reply is given: that of the index check, then NODE
--   ReasonDemands …   == all that is demanded of a call
-- The index check's reply and what is left in work are demanded in the words of `demands` (specs/Calls); what a reason says of a node is told in `reason` (specs/Plain).
-- proofs/Calls shows that this is the same as the contract. Letters: I index, v node; w what was lent as work, w' what it is at the end; r reply, e what the call gives. Assumes nothing.
use Rattle.std.specs.Prelude.{ℕ, ◌≤◌, ◌<◌, ◌≡◌, List, length, replicate}
use Rattle.index.specs.declared.Reply.{Reply}
use Rattle.index.specs.Index.{Index, nodes, wanted}
use Rattle.index.specs.Replies.{accepted, refused, totalled}
use Rattle.reason.specs.declared.Numbers.{Numbers}
use Rattle.reason.specs.Reasons.{LISTED, naming}
use Rattle.reason.specs.Promises.{NODE}
use Rattle.reason.specs.Plain.{Lowest, OneReason}
use Rattle.demands.specs.Calls.{Replied, WorkLeft}

-- The index check, which takes no negative word here, gives a reply of its own. Where it refuses, that is the reply.
pub record ReasonReplied (I : Index) (v w : ℕ) (r : Reply) : Type 0 where
  pub check : Reply
  pub checks : Replied 0 I w (Unit {0}) 0 check
  pub refuses : (check.refusal ≡ accepted → ⊥) → r ≡ check
  pub node : check.refusal ≡ accepted → nodes I ≤ v → r ≡ refused NODE 0
  pub accepts : check.refusal ≡ accepted → v < nodes I → r ≡ totalled accepted 0

pub record ReasonDemands (I : Index) (v : ℕ) (w : List ℕ) (e : Numbers) (w' : List ℕ) : Type 0 where
  pub reply : ReasonReplied I v (length w) e.reply
  pub work : WorkLeft I e.reply w w'
  -- the reason is true, and no other is
  pub reason : e.reply.refusal ≡ accepted → OneReason I.parents I.positive (wanted I) v (naming e.reason e.word)
  -- a listed node comes with the lowest own occurrence of each word
  pub lowest : e.reply.refusal ≡ accepted → e.reason ≡ LISTED → Lowest I.parents I.positive (wanted I) v e.occurrences
  pub no_lowest : (e.reason ≡ LISTED → ⊥) → e.occurrences ≡ replicate 8 0
  -- a refused call tells nothing
  pub nothing : (e.reply.refusal ≡ accepted → ⊥) → (e.reason ≡ 0) × (e.word ≡ 0)
