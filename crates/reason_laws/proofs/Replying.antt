-- The reply of a call that asks for a reason: the index check's, then NODE. Assumes nothing.
--   reason-replied   the reply of the definitions is as demanded
--   replied-one      and no other is
--   size_is          SIZE is given exactly where the sizes are wrong
--   right, some_words_lem, few, node-below   what is known of an index and a node that are accepted
-- Letters: I index, v node, w work as lent; r reply.
use Prim.Native.Nat.{ℕ, ◌≤◌, ◌<◌}
use mathlib.Core.Path.{◌≡◌, refl, sym, ap, ◌∙◌}
use mathlib.Core.Logic.{◌↔◌, ⊎_elim}
use mathlib.Core.List.{List}
use mathlib.Core.Bool.{true, cond}
use native.Mathlib.Omega.{arith}
use lib.Dec.{ltb}
use borrow.Author.Tests.{lt-ltb, le-ltb}
use lib.ListN.{length}
use Rattle.seq.proofs.Laws.Bools.{equal_or, cond-true, cond-false}
use Rattle.seq.proofs.Laws.Numbers.{less_or}
use Rattle.index.specs.declared.Reply.{Reply}
use Rattle.index.specs.Index.{Index, nodes}
use Rattle.index.specs.Replies.{accepted, SIZE, refused, totalled, checked}
use Rattle.index.specs.Plain.{Sized, Right}
use Rattle.index.proofs.Laws.Sizes.{sized_of}
use Rattle.index.proofs.Laws.Replies.{Clean, clean-reply, clean_or_stopped}
use Rattle.index.proofs.Acceptance.{clean-right}
use Rattle.reason.specs.Promises.{NODE, reason_reply}
use Rattle.demands.specs.Calls.{Replied}
use Rattle.demands.proofs.Replying.{replied, replied_unique}
use Rattle.reason_laws.specs.Calls.{ReasonReplied}

module _ (I : Index) (v : ℕ) (w : List ℕ) where
  -- ---- the reply
  -- The index check's own reply, where it takes no negative word.
  abbrev check : Reply
  check = checked 0 I (length w) (totalled accepted 0)

  abbrev after : Reply
  after = cond (ltb v (nodes I)) (totalled accepted 0) (refused NODE 0)

  checks : Replied 0 I (length w) (Unit {0}) 0 check
  checks = replied 0 I (length w) (Unit {0}) true 0 (λ q. tt) (λ h. refl)

  accepts-clean : check.refusal ≡ accepted → Clean 0 I (length w)
  accepts-clean e =
      ⊎_elim (λ c. c) (λ s. absurd (s.refuses (sym (ap (λ (r : Reply). r.refusal) (s.reply (totalled accepted 0))) ∙ e))) (clean_or_stopped 0 I (length w))

  reply-refused : (check.refusal ≡ accepted → ⊥) → reason_reply I v w ≡ check
  unfolding reason_reply
  reply-refused ne =
      ⊎_elim (λ c. absurd (ne (ap (λ (r : Reply). r.refusal) (clean-reply 0 I (length w) (totalled accepted 0) c))))
      (λ s. s.reply after ∙ sym (s.reply (totalled accepted 0))) (clean_or_stopped 0 I (length w))

  reply-after : check.refusal ≡ accepted → reason_reply I v w ≡ after
  unfolding reason_reply
  reply-after e = clean-reply 0 I (length w) after (accepts-clean e)

  reply-node : check.refusal ≡ accepted → nodes I ≤ v → reason_reply I v w ≡ refused NODE 0
  reply-node e l = reply-after e ∙ cond-false _ (le-ltb v (nodes I) l) _ _

  reply-accepts : check.refusal ≡ accepted → v < nodes I → reason_reply I v w ≡ totalled accepted 0
  reply-accepts e l = reply-after e ∙ cond-true _ (lt-ltb v (nodes I) l) _ _

  pub reason-replied : ReasonReplied I v (length w) (reason_reply I v w)
  reason-replied = record { check = check; checks = checks; refuses = reply-refused; node = reply-node; accepts = reply-accepts }

  pub replied-one : (r : Reply) → ReasonReplied I v (length w) r → r ≡ reason_reply I v w
  replied-one r a =
      ⊎_elim
      (λ e. ⊎_elim (λ l. a.accepts (same e) l ∙ sym (reply-accepts e l)) (λ l. a.node (same e) l ∙ sym (reply-node e l)) (less_or v (nodes I)))
      (λ ne. a.refuses (λ z. ne (ap (λ (x : Reply). x.refusal) (sym one) ∙ z)) ∙ one ∙ sym (reply-refused ne))
      (equal_or check.refusal accepted)
    where
      one : a.check ≡ check
      one = replied_unique 0 I (length w) (Unit {0}) true 0 (λ q. tt) (λ h. refl) a.check a.checks

      same : check.refusal ≡ accepted → a.check.refusal ≡ accepted
      same e = ap (λ (x : Reply). x.refusal) one ∙ e

  -- SIZE is given exactly where the index check gives it.
  pub size_is : ((reason_reply I v w).refusal ≡ SIZE) ↔ (Sized 0 I (length w) → ⊥)
  size_is = (
    λ q. ⊎_elim
        (λ e. absurd (⊎_elim (λ l. accepted-size (number_of (reply-accepts e l) ∙ q)) (λ l. node-size (number_of (reply-node e l) ∙ q)) (less_or v (nodes I))))
        (λ ne. checks.size.0 (number_of (reply-refused ne) ∙ q))
        (equal_or check.refusal accepted),
    λ h. let e : check.refusal ≡ SIZE = checks.size.1 h in
        ap (λ (x : Reply). x.refusal) (reply-refused (λ z. omega (arith, e, z))) ∙ e,
  )
    where
      number_of : {r : Reply} → reason_reply I v w ≡ r → r.refusal ≡ (reason_reply I v w).refusal
      number_of e = sym (ap (λ (x : Reply). x.refusal) e)

      accepted-size : (totalled accepted 0).refusal ≡ SIZE → ⊥
      accepted-size z = omega arith

      node-size : (refused NODE 0).refusal ≡ SIZE → ⊥
      node-size z = omega arith

  -- ---- an accepted call
  module _ (e : (reason_reply I v w).refusal ≡ accepted) where
    clean : Clean 0 I (length w)
    clean = ⊎_elim accepts-clean (λ ne. absurd (ne (ap (λ (x : Reply). x.refusal) (sym (reply-refused ne)) ∙ e))) (equal_or check.refusal accepted)

    pub right : Right I
    right = clean-right 0 I (length w) clean

    sized : Sized 0 I (length w)
    sized = sized_of 0 I (length w) clean.size

    pub some_words_lem : I.positive ≤ length I.ends
    some_words_lem = omega (arith, sized.ended)

    pub node-below : v < nodes I
    node-below =
        ⊎_elim (λ l. l)
        (λ l. absurd (not-node (ap (λ (x : Reply). x.refusal) (sym (reply-node check-accepts l)) ∙ e)))
        (less_or v (nodes I))
      where
        check-accepts : check.refusal ≡ accepted
        check-accepts = ap (λ (x : Reply). x.refusal) (clean-reply 0 I (length w) (totalled accepted 0) clean)

        not-node : (refused NODE 0).refusal ≡ accepted → ⊥
        not-node z = omega arith

    pub few : I.positive ≤ 8
    few = sized.few_positive
