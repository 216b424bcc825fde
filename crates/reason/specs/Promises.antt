-- What the search for a reason promises.
--   NODE                == the number of the refusal of a node that there is not
--   reason_reply I v w   == the reply: that of the index check; then NODE where v is n or more, else accepted
--   told_after t I v w   == what is told: the reason where the call is accepted, t where it is refused
--   lowest_after I v w   == the 8 occurrences: those of the reason where the call is accepted, zeros where it is refused
--   numbers_of e         == an explanation in numbers
--   Explained, ExplainedInNumbers   == the promises of `explain`, and of `in_numbers` after it
-- Letters: I index; v node; w work as lent, w' at the end; e explanation, t what is told. Work after the call is `work_after` of the index check. Assumes nothing.
use Rattle.std.specs.Prelude.{ℕ, ◌≡◌, List, Bool, cond, eqb, ltb, length, replicate}
use Rattle.index.specs.declared.Reply.{Reply}
use Rattle.index.specs.Index.{Index, nodes, wanted}
use Rattle.index.specs.Replies.{accepted, refused, totalled, checked, work_after}
use Rattle.reason.specs.declared.Explanation.{Explanation}
use Rattle.reason.specs.declared.Numbers.{Numbers}
use Rattle.reason.specs.declared.Reason.TheVariants.{NotFull}
use Rattle.reason.specs.Reasons.{Naming, naming, told, reason_of, lowest_owns}

abbrev pub NODE : ℕ
NODE = 10

unfoldable pub reason_reply : Index → ℕ → List ℕ → Reply
reason_reply I v w = checked 0 I (length w) (cond (ltb v (nodes I)) (totalled accepted 0) (refused NODE 0))

-- Whether the call is accepted.
unfoldable pub explains : Index → ℕ → List ℕ → Bool
explains I v w = eqb (reason_reply I v w).refusal accepted

unfoldable pub told_after : Naming → Index → ℕ → List ℕ → Naming
told_after t I v w = cond (explains I v w) (reason_of I.parents I.positive (wanted I) v) t

unfoldable pub lowest_after : Index → ℕ → List ℕ → List ℕ
lowest_after I v w = cond (explains I v w) (lowest_owns I.parents I.positive (wanted I) v) (replicate 8 0)

-- ---- the promises
-- The code's reason has a value under a refusal too: word 0 missing, which then says nothing.
pub record Explained (I : Index) (v : ℕ) (w : List ℕ) (e : Explanation) (w' : List ℕ) : Type 0 where
  pub reply : e.reply ≡ reason_reply I v w
  pub reason : told e.reason ≡ told_after (told (NotFull 0)) I v w
  pub occurrences : e.occurrences ≡ lowest_after I v w
  pub work : w' ≡ work_after 0 I w

-- In numbers a refusal has 0, which is the number of no case.
abbrev pub with_numbers : Reply → Naming → List ℕ → Numbers
with_numbers r t l = record { reply = r; reason = t.number; word = t.word; occurrences = l }

unfoldable pub numbers_of : Explanation → Numbers
numbers_of e = with_numbers e.reply (cond (eqb e.reply.refusal accepted) (told e.reason) (naming 0 0)) e.occurrences

pub record ExplainedInNumbers (I : Index) (v : ℕ) (w : List ℕ) (e : Numbers) (w' : List ℕ) : Type 0 where
  pub reply : e.reply ≡ reason_reply I v w
  pub reason : naming e.reason e.word ≡ told_after (naming 0 0) I v w
  pub occurrences : e.occurrences ≡ lowest_after I v w
  pub work : w' ≡ work_after 0 I w
