-- The ways in which `plan` returns.
--   size-plans, judge-plans, all-plans   SIZE, the judge's refusals, and acceptance
--   no_rows, no_table, no_lists          ROOM: what did not fit
--   room_in n Q s     == all but the table and the lists fits for n nodes
--   plan_unique      no second outcome fits
-- Letters: T text, Q query, s sizes, w slots as they were lent, r the judge's reply, n nodes. Assumes nothing.
use Prim.Native.Nat.{ℕ, ◌≤◌, ◌<◌}
use mathlib.Core.Path.{◌≡◌, refl, sym, ap, ap₂, ◌∙◌}
use mathlib.Core.List.{List}
use mathlib.Core.Bool.{Bool, true, false, cond}
use mathlib.Core.Option.{none, some}
use lib.Dec.{eqb, leb}
use lib.ListN.{length}
use borrow.Author.Tests.{eq-eqb, ne_eqb, eqb-false, le-leb, lt-leb}
use Rattle.seq.proofs.Laws.Bools.{and_both, and_false-left, and_false-right, cond-true, cond-false}
use Rattle.index.specs.declared.Reply.{Reply}
use Rattle.index.specs.Replies.{accepted, SIZE, ROOM, refused}
use Rattle.profile.specs.Reader.{tree_of}
use Rattle.judge.specs.Judge.{judge_reply}
use Rattle.judge.proofs.Meaning as judged
use Rattle.reader.proofs.Reading.{counted}
use Rattle.probing.specs.Table.{blank}
use Rattle.query.specs.Query.{Query, query_ok, word_count}
use Rattle.plan.specs.Lists.{word_table, lists_to, made, table_or}
use Rattle.plan.specs.Plan.{enough, plan_reply, slots_after, Plans}
use Rattle.plan.specs.Inner.{roomy, NoRoom}
use Rattle.plan.specs.declared.Sizes.{Sizes}
use Rattle.plan.specs.declared.Planned.{Planned}

-- ---- the slots after a reply
slots_kept : (T w : List ℕ) (r : Reply) → (r.refusal ≡ accepted → ⊥) → (r.refusal ≡ ROOM → ⊥) → w ≡ slots_after T w r
unfolding slots_after
slots_kept T w r a b = sym (cond-false (eqb r.refusal accepted) (ne_eqb r.refusal accepted a) _ _ ∙ cond-false (eqb r.refusal ROOM) (ne_eqb r.refusal ROOM b) _ _)

slots_filled : (T w : List ℕ) (r : Reply) → r.refusal ≡ accepted → table_or w (word_table T (length w)) ≡ slots_after T w r
unfolding slots_after
slots_filled T w r z = sym (cond-true (eqb r.refusal accepted) (eq-eqb r.refusal accepted z) _ _)

slots-blank : (T w : List ℕ) → blank (length w) ≡ slots_after T w (refused ROOM 0)
unfolding slots_after
slots-blank T w = refl

-- ---- what fits, but for the table and the lists
abbrev pub room_in : ℕ → Query → Sizes → Bool
room_in n Q s = roomy n (word_count Q) s

-- How many entries the lists have together, where the reply is accepted.
total-none : (r : Reply) (x : ℕ) → (r.refusal ≡ accepted → ⊥) → 0 ≡ cond (eqb r.refusal accepted) x 0
total-none r x n = sym (cond-false (eqb r.refusal accepted) (ne_eqb r.refusal accepted n) _ _)

pub total-all : (r : Reply) (x : ℕ) → r.refusal ≡ accepted → cond (eqb r.refusal accepted) x 0 ≡ x
total-all r x z = cond-true (eqb r.refusal accepted) (eq-eqb r.refusal accepted z) _ _

abbrev plan : Reply → ℕ → Planned
plan r m = record { reply = r; total = m }

-- ---- the reply
module _ (T : List ℕ) (Q : Query) (s : Sizes) (w : List ℕ) where
  pub size-plans : query_ok Q ≡ false → Plans T Q s w (plan (refused SIZE 0) 0) w
  size-plans h =
      record {
        reply = unfold plan_reply in sym (cond-false (query_ok Q) h _ _);
        slots = slots_kept T w (refused SIZE 0) (eqb-false 1 0 refl) (eqb-false 1 5 refl);
        total = refl;
      }

  module _ (ok : query_ok Q ≡ true) (r : Reply) (e : r ≡ judge_reply T) where
    pub judge-plans : (r.refusal ≡ accepted → ⊥) → Plans T Q s w (plan r 0) w
    judge-plans n =
        record {
          reply =
              unfold plan_reply in
              e ∙ sym (cond-true (query_ok Q) ok _ _ ∙ cond-false (eqb (judge_reply T).refusal accepted) (ne_eqb (judge_reply T).refusal accepted λ z. n (ap (λ (r : Reply). r.refusal) e ∙ z)) _ _);
          slots = slots_kept T w r n λ z. judged.no_room_lem T (sym (ap (λ (r : Reply). r.refusal) e) ∙ z);
          total = total-none r _ n;
        }

    module _ (z : r.refusal ≡ accepted) where
      taken : (x : Reply) → cond (enough T Q (length w) s) (judge_reply T) (refused ROOM 0) ≡ x → plan_reply T Q (length w) s ≡ x
      taken x h =
          unfold plan_reply in
          cond-true (query_ok Q) ok _ _ ∙ cond-true (eqb (judge_reply T).refusal accepted) (eq-eqb (judge_reply T).refusal accepted (sym (ap (λ (r : Reply). r.refusal) e) ∙ z)) _ _ ∙ h

      module _ (n : ℕ) (q : n ≡ r.total) where
        count : length (tree_of T) ≡ n
        count = (counted T r e z).nodes ∙ sym q

        -- ---- ROOM. The slots are cleared, whatever the pass has left in them.
        module _ (v : List ℕ) (same : length v ≡ length w) (p : Planned) (w' : List ℕ) (x : NoRoom v p w') where
          room-plans : enough T Q (length w) s ≡ false → Plans T Q s w p w'
          room-plans h =
              record {
                reply = x.reply ∙ sym (taken (refused ROOM 0) (cond-false (enough T Q (length w) s) h _ _));
                slots = x.slots ∙ ap blank same ∙ slots-blank T w ∙ ap (slots_after T w) (sym x.reply);
                total = x.total ∙ ap (λ (r : Reply). cond (eqb r.refusal accepted) (length (lists_to T Q (word_count Q))) 0) (sym x.reply);
              }

          pub no_rows : room_in n Q s ≡ false → Plans T Q s w p w'
          unfolding enough roomy
          no_rows h = room-plans (and_false-left _ _ (ap (λ n. room_in n Q s) count ∙ h))

          pub no_table : word_table T (length w) ≡ none → Plans T Q s w p w'
          unfolding enough roomy
          no_table h = room-plans (and_false-right (room_in (length (tree_of T)) Q s) _ (and_false-left _ _ (ap made h)))

          pub no_lists : s.occurrences < length (lists_to T Q (word_count Q)) → Plans T Q s w p w'
          unfolding enough roomy
          no_lists h =
              room-plans
              (and_false-right (room_in (length (tree_of T)) Q s) _
              (and_false-right (made (word_table T (length w))) _ (lt-leb (length (lists_to T Q (word_count Q))) s.occurrences h)))

        -- ---- acceptance: the table is w', and the lists have m entries.
        module _ (roomed : room_in n Q s ≡ true) (w' : List ℕ) (table : word_table T (length w) ≡ some w') (m : ℕ) (h : m ≡ length (lists_to T Q (word_count Q))) where
          all-fits : m ≤ s.occurrences → enough T Q (length w) s ≡ true
          unfolding enough roomy
          all-fits few =
              and_both (room_in (length (tree_of T)) Q s) _ (ap (λ n. room_in n Q s) count ∙ roomed)
              (and_both (made (word_table T (length w))) _ (ap made table) (ap (λ (k : ℕ). leb k s.occurrences) (sym h) ∙ le-leb m s.occurrences few))

          pub all-plans : m ≤ s.occurrences → Plans T Q s w (plan r m) w'
          all-plans few =
              record {
                reply = e ∙ sym (taken (judge_reply T) (cond-true (enough T Q (length w) s) (all-fits few) _ _));
                slots = sym (ap (table_or w) table) ∙ slots_filled T w r z;
                total = h ∙ sym (total-all r _ z);
              }

-- ---- the contract
pub plan_unique : (T : List ℕ) (Q : Query) (s : Sizes) (w : List ℕ) (p p' : Planned) (v v' : List ℕ) → Plans T Q s w p v → Plans T Q s w p' v' → (p ≡ p') × (v ≡ v')
plan_unique T Q s w p p' v v' x y =
    let same : p.reply ≡ p'.reply = x.reply ∙ sym y.reply in
    (ap₂ plan same (x.total ∙ ap (λ (r : Reply). cond (eqb r.refusal accepted) (length (lists_to T Q (word_count Q))) 0) same ∙ sym y.total), x.slots ∙ ap (slots_after T w) same ∙ sym y.slots)
