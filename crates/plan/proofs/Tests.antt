-- The reply by its three tests: of the query, of the text, and of the room.
--   replied x y z     == the reply where the tests gave x, y and z
--   Tests x y z       == they gave so;  reply-by: then this is the reply
--   by_tests          what holds of the reply of each outcome of the tests holds of the reply
--   passed-of         where a call is accepted, all three were passed
-- Letters: T text, Q query, m how many slots there are, s sizes. Assumes nothing.
use mathlib.Core.Path.{◌≡◌, refl, sym, ap, ap₂, subst, ◌∙◌}
use mathlib.Core.List.{List}
use mathlib.Core.Bool.{Bool, true, false, cond}
use Prim.Native.Nat.{ℕ}
use lib.Dec.{eqb}
use borrow.Author.Tests.{eqb-false}
use Rattle.index.specs.declared.Reply.{Reply}
use Rattle.index.specs.Replies.{accepted, SIZE, ROOM, refused}
use Rattle.judge.specs.Judge.{judge_reply}
use Rattle.query.specs.Query.{Query, query_ok}
use Rattle.plan.specs.declared.Sizes.{Sizes}
use Rattle.plan.specs.Plan.{enough, plan_reply}

module _ (T : List ℕ) (Q : Query) (m : ℕ) (s : Sizes) where
  abbrev pub judge : Reply
  judge = judge_reply T

  abbrev pub replied : Bool → Bool → Bool → Reply
  replied x y z = cond x (cond y (cond z judge (refused ROOM 0)) judge) (refused SIZE 0)

  pub record Tests (x y z : Bool) : Type 0 where
    pub query : query_ok Q ≡ x
    pub text : eqb judge.refusal accepted ≡ y
    pub room : enough T Q m s ≡ z

  pub reply-by : (x y z : Bool) → Tests x y z → plan_reply T Q m s ≡ replied x y z
  unfolding plan_reply
  reply-by x y z t =
      ap (λ x. replied x (eqb judge.refusal accepted) (enough T Q m s)) t.query ∙ ap₂ (replied x) t.text t.room

  -- What holds of the reply of each outcome of the tests holds of the reply.
  pub by_tests : (P : Reply → Type 0) → ((x y z : Bool) → Tests x y z → P (replied x y z)) → P (plan_reply T Q m s)
  by_tests P f = subst P (sym (reply-by _ _ _ all)) (f (query_ok Q) (eqb judge.refusal accepted) (enough T Q m s) all)
    where
      all : Tests (query_ok Q) (eqb judge.refusal accepted) (enough T Q m s)
      all = record { query = refl; text = refl; room = refl }

-- ---- acceptance
-- The query is one, the judge accepts the text, there is room, and the reply is the judge's.
pub record Passed (T : List ℕ) (Q : Query) (m : ℕ) (s : Sizes) : Type 0 where
  pub query : query_ok Q ≡ true
  pub judge : (judge_reply T).refusal ≡ accepted
  pub room : enough T Q m s ≡ true
  pub reply : plan_reply T Q m s ≡ judge_reply T

pub passed-of : (T : List ℕ) (Q : Query) (m : ℕ) (s : Sizes) → (plan_reply T Q m s).refusal ≡ accepted → Passed T Q m s
passed-of T Q m s e = by_tests T Q m s (λ r. r.refusal ≡ accepted → r ≡ plan_reply T Q m s → Passed T Q m s) to e refl
  where
    to : (x y z : Bool) → Tests T Q m s x y z → (replied T Q m s x y z).refusal ≡ accepted → replied T Q m s x y z ≡ plan_reply T Q m s → Passed T Q m s
    to true true true t e q = record { query = t.query; judge = e; room = t.room; reply = sym q }
    to true true false t e q = absurd (eqb-false 5 0 refl e)
    to true false z t e q = absurd (eqb-false _ _ t.text e)
    to false y z t e q = absurd (eqb-false 1 0 refl e)
