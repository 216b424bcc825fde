-- From the index check to the search for a reason and back: the outcome of a call in each case. Assumes nothing.
-- Letters: I index, v node, w what is lent as work; r the check's reply, w₁ work after it; e explanation.
use Prim.Native.Nat.{ℕ, ◌*◌, ◌≤◌, ◌<◌}
use mathlib.Core.Path.{◌≡◌, sym, ap, ◌∙◌}
use mathlib.Core.List.{List, ◌++◌}
use mathlib.Core.Bool.{true, false, cond}
use native.Mathlib.Nat.{add-mul}
use native.Mathlib.Omega.{arith}
use lib.Dec.{ltb}
use borrow.Author.Tests.{lt-ltb, le-ltb, eq-eqb, ne_eqb}
use lib.ListN.{length, get_or, take, drop, replicate, length-replicate, take-append-drop, get_or-replicate}
use lib.Seq.{length-take-le, get_or-take, ext_get_or}
use Rattle.seq.proofs.Laws.Bools.{cond-true, cond-false}
use Rattle.index.specs.declared.Reply.{Reply}
use Rattle.index.specs.Index.{Index, nodes, words, wanted}
use Rattle.index.specs.Replies.{accepted, SIZE, refused, totalled, room, work_after}
use Rattle.index.specs.Plain.{Sized, Right}
use Rattle.index.specs.Promises.{Checked}
use Rattle.index.proofs.Laws.Sizes.{sized-yes}
use Rattle.index.proofs.Laws.Replies.{checked-size, checked_refused, checked-accepted, negative-size, none-checked, none-work, work-front, work-kept, work-length}
use Rattle.index.proofs.Acceptance.{checked-right, right-accepted}
use Rattle.reason.specs.declared.Reason.TheVariants.{NotFull}
use Rattle.reason.specs.declared.Explanation.{Explanation}
use Rattle.reason.specs.declared.finding.Why.{Why}
use Rattle.reason.specs.Reasons.{told, reason_of, lowest_owns}
use Rattle.reason.specs.Promises.{NODE, reason_reply, explains, told_after, lowest_after, Explained}
use Rattle.reason.specs.Inner.{LookPre, Looked, with_reply, with_why}

module _ (I : Index) (v : ℕ) (w : List ℕ) where
  -- A refused call tells what is fixed.
  refuses : (r : Reply) → reason_reply I v w ≡ r → (r.refusal ≡ accepted → ⊥) → (w' : List ℕ) → w' ≡ work_after 0 I w → (e : Explanation) → e ≡ with_reply r (NotFull 0) → Explained I v w e w'
  unfolding explains told_after lowest_after
  refuses r q ne w' ew e ee = record {
    reply = ap (λ (x : Explanation). x.reply) ee ∙ sym q;
    reason = ap (λ (x : Explanation). told x.reason) ee ∙ sym (cond-false (explains I v w) no _ _);
    occurrences = ap (λ (x : Explanation). x.occurrences) ee ∙ sym (cond-false (explains I v w) no _ _);
    work = ew;
  }
    where
      no : explains I v w ≡ false
      no = ne_eqb (reason_reply I v w).refusal accepted (λ z. ne (sym (ap (λ (x : Reply). x.refusal) q) ∙ z))

  pub explain-negative : (I.negative ≡ 0 → ⊥) → (e : Explanation) → e ≡ with_reply (refused SIZE 0) (NotFull 0) → Explained I v w e w
  unfolding reason_reply
  explain-negative ne =
      refuses (refused SIZE 0) (checked-size 0 I (length w) _ (negative-size I (length w) ne)) (λ z. omega arith) w (sym (work-kept 0 I w (negative-size I (length w) ne)))

  module _ (z : I.negative ≡ 0) (r : Reply) (w₁ : List ℕ) (c : Checked I w r w₁) where
    pub check-length : length w₁ ≡ length w
    check-length = ap length c.work ∙ work-length 8 I w

    work-is : w₁ ≡ work_after 0 I w
    work-is = c.work ∙ sym (none-work I z w)

    pub explain-refused : (r.refusal ≡ accepted → ⊥) → (e : Explanation) → e ≡ with_reply r (NotFull 0) → Explained I v w e w₁
    unfolding reason_reply
    explain-refused ne =
        refuses r (none-checked I z (length w) _ ∙ checked_refused I w _ (λ q. ne (ap (λ (x : Reply). x.refusal) c.reply ∙ q)) ∙ sym c.reply) ne w₁ work-is

    module _ (a : r.refusal ≡ accepted) where
      size : Sized 8 I (length w)
      size = (checked-right I w r w₁ c a).0

      right : Right I
      right = (checked-right I w r w₁ c a).1

      -- What follows the check.
      after_check : reason_reply I v w ≡ cond (ltb v (nodes I)) (totalled accepted 0) (refused NODE 0)
      unfolding reason_reply
      after_check = none-checked I z (length w) _ ∙ checked-accepted I w _ (ap (λ (x : Reply). x.refusal) (sym c.reply) ∙ a)

      pub explain-node : nodes I ≤ v → (e : Explanation) → e ≡ with_reply (refused NODE 0) (NotFull 0) → Explained I v w e w₁
      explain-node l = refuses (refused NODE 0) (after_check ∙ cond-false _ (le-ltb v (nodes I) (omega arith)) _ _) (λ q. omega arith) w₁ work-is

      module _ (l : v < nodes I) where
        row_room : nodes I ≤ room I
        row_room = omega (arith, add-mul (words I) 2 (nodes I))

        pub row_in : nodes I ≤ length w₁
        row_in = omega (arith, row_room, size.roomy, check-length)

        zeros : take (nodes I) w₁ ≡ replicate (nodes I) 0
        zeros =
            ext_get_or 0 (take (nodes I) w₁) (replicate (nodes I) 0) (long ∙ sym (length-replicate (nodes I) 0))
            (λ i h. get_or-take (nodes I) w₁ i 0 (omega (arith, long)) ∙ ap (λ (t : List ℕ). get_or t i 0) c.work
            ∙ work-front 8 I w (sized-yes 8 I (length w) size) i (omega (arith, long, row_room)) ∙ sym (get_or-replicate (nodes I) i 0 0 (omega (arith, long))))
          where
            long : length (take (nodes I) w₁) ≡ nodes I
            long = length-take-le (nodes I) w₁ row_in

        words_are : length I.ends ≡ I.positive
        words_are = omega (arith, size.ended)

        pub look-pre : LookPre I.parents I.ends I.occurrences I.counts v (take (nodes I) w₁)
        look-pre = record {
          preorder = right.tree.preorder;
          node = l;
          few_nodes = size.few_nodes;
          few_words = omega (arith, words_are, size.few_positive);
          words = right.lists;
          counted = size.counted ∙ ap (λ (x : ℕ). x * nodes I) (sym size.ended);
          counts = right.counts;
          zeros = zeros;
        }

        module _ (f : Why) (row : List ℕ) (g : Looked I.parents I.ends I.occurrences v (take (nodes I) w₁) f row) where
          whole-work : row ++ drop (nodes I) w₁ ≡ work_after 0 I w
          whole-work = ap (λ (t : List ℕ). t ++ drop (nodes I) w₁) g.row ∙ take-append-drop (nodes I) w₁ ∙ work-is

          accepts : reason_reply I v w ≡ totalled accepted 0
          accepts = after_check ∙ cond-true _ (lt-ltb v (nodes I) (omega arith)) _ _

          yes : explains I v w ≡ true
          unfolding explains
          yes = eq-eqb (reason_reply I v w).refusal accepted (ap (λ (x : Reply). x.refusal) accepts)

          pub explained : (e : Explanation) → e ≡ with_why r f → Explained I v w e (row ++ drop (nodes I) w₁)
          unfolding told_after lowest_after
          explained e ee = record {
            reply = ap (λ (x : Explanation). x.reply) ee ∙ c.reply ∙ right-accepted I w size right ∙ sym accepts;
            reason =
                ap (λ (x : Explanation). told x.reason) ee ∙ g.reason ∙ ap (λ (k : ℕ). reason_of I.parents k (wanted I) v) words_are
                ∙ sym (cond-true (explains I v w) yes _ _);
            occurrences =
                ap (λ (x : Explanation). x.occurrences) ee ∙ g.occurrences ∙ ap (λ (k : ℕ). lowest_owns I.parents k (wanted I) v) words_are
                ∙ sym (cond-true (explains I v w) yes _ _);
            work = whole-work;
          }
