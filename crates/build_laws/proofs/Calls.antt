-- The replies of a call that builds, by the grammar alone: each is given exactly where it is true.
--   query-plain     the test of a query says that it is one
--   passed-of       where a call is accepted, the query is one, the judge accepts the text, there is room, and the reply is the judge's
--   size-first      SIZE exactly for a query that is not one and for a text that is too long
--   markup-first    MARKUP's place is the first byte at which no text of the profile continues, where no node over a limit is met before
--   tree-first      TREE's place is the first node over a limit, where nothing up to the byte at which it is met breaks the markup
--   room-last       ROOM, with total 0, exactly for a text of the profile that keeps the limits where what is lent is not enough
--   query-accepted  accepted exactly the texts of the profile that keep the limits, where it is; m is the number of nodes
--   refused-keeps   under a refusal but ROOM everything is as it was
--   room-keeps      under ROOM the slots are zero, and everything else is as it was
-- Letters: T text, Q query, l b what is lent, before and after, r reply; n nodes, i a place, v a node. Assumes nothing.
use Prim.Native.Nat.{ℕ, ◌*◌, ◌<◌}
use mathlib.Core.Path.{◌≡◌, refl, sym, ap, ◌∙◌}
use mathlib.Core.Logic.{◌⊎◌, inl, inr, ◌↔◌}
use mathlib.Core.List.{List}
use mathlib.Core.Bool.{Bool, true, false, cond, false≢true}
use lib.Dec.{eqb}
use lib.ListN.{length}
use borrow.Author.Tests.{eq-eqb, ne_eqb, eqb-true, eqb-false}
use Rattle.seq.specs.Memory.{zeroed}
use Rattle.index.specs.Replies.{accepted, SIZE, TREE, ROOM, refused, totalled, kept_or}
use Rattle.index.specs.declared.Reply.{Reply}
use Rattle.index.proofs.Laws.Replies.{kept-refused}
use Rattle.profile.specs.Reader.{tree_of}
use Rattle.judge.specs.Judge.{MARKUP, longest, judge_reply}
use Rattle.judge.specs.Meaning.{BrokenAt, OverAt}
use Rattle.judge.proofs.Meaning.{size_means, size-given, no_room_lem, accepted-total, accepted_means, accepted-given, markup_means, markup-given, tree_means, tree-given}
use Rattle.reader.specs.Read.{parents_of, tags_in, firsts_of, lasts_of}
use Rattle.probing.specs.Table.{blank}
use Rattle.query.specs.Query.{Query, word_count}
use Rattle.plan.specs.Lists.{word_table, lists_to, table_or}
use Rattle.plan.specs.Plan.{slots_after}
use Rattle.build.specs.Build.{Lent, sizes, lent, ends_for, counts_for, build_reply, Builds}
use Rattle.query.specs.Plain.{IsQuery}
use Rattle.query.proofs.Kept.{query-plain}
use Rattle.plan.proofs.Tests.{replied, Tests, by_tests}
use Rattle.build_laws.specs.Calls.{Taken, Cramped}
use Rattle.build_laws.proofs.Room.{enough-plain}

-- ---- SIZE
pub size-first : (T : List ℕ) (Q : Query) (l : Lent) → (build_reply T Q l ≡ refused SIZE 0) ↔ ((IsQuery Q → ⊥) ⊎ (longest < length T))
size-first T Q l = (by_tests T Q (length l.slots) (sizes l) (λ r. r ≡ refused SIZE 0 → (IsQuery Q → ⊥) ⊎ (longest < length T)) to, by_tests T Q (length l.slots) (sizes l) (λ r. (IsQuery Q → ⊥) ⊎ (longest < length T) → r ≡ refused SIZE 0) back)
  where
    to : (x y z : Bool) → Tests T Q (length l.slots) (sizes l) x y z → replied T Q (length l.slots) (sizes l) x y z ≡ refused SIZE 0 → (IsQuery Q → ⊥) ⊎ (longest < length T)
    to true true true t e = inr (size_means T e)
    to true true false t e = absurd (eqb-false 5 1 refl (ap (λ (r : Reply). r.refusal) e))
    to true false z t e = inr (size_means T e)
    to false y z t e = inl (λ q. false≢true (sym t.query ∙ (query-plain Q).1 q))

    back : (x y z : Bool) → Tests T Q (length l.slots) (sizes l) x y z → (IsQuery Q → ⊥) ⊎ (longest < length T) → replied T Q (length l.slots) (sizes l) x y z ≡ refused SIZE 0
    back true y z t (inl n) = absurd (n ((query-plain Q).0 t.query))
    back true true z t (inr h) = absurd (eqb-false 1 0 refl (sym (ap (λ (r : Reply). r.refusal) (size-given T h)) ∙ eqb-true _ _ t.text))
    back true false z t (inr h) = size-given T h
    back false y z t h = refl

-- ---- MARKUP and TREE
-- A refusal but SIZE and ROOM is the judge's.
judged : (T : List ℕ) (Q : Query) (l : Lent) (r : Reply) → (r.refusal ≡ accepted → ⊥) → (r.refusal ≡ SIZE → ⊥) → (r.refusal ≡ ROOM → ⊥) →
    (build_reply T Q l ≡ r) ↔ (IsQuery Q × (judge_reply T ≡ r))
judged T Q l r a b c = (by_tests T Q (length l.slots) (sizes l) (λ o. o ≡ r → IsQuery Q × (judge_reply T ≡ r)) to, by_tests T Q (length l.slots) (sizes l) (λ o. IsQuery Q × (judge_reply T ≡ r) → o ≡ r) back)
  where
    to : (x y z : Bool) → Tests T Q (length l.slots) (sizes l) x y z → replied T Q (length l.slots) (sizes l) x y z ≡ r → IsQuery Q × (judge_reply T ≡ r)
    to true true true t e = ((query-plain Q).0 t.query, e)
    to true true false t e = absurd (c (sym (ap (λ (r : Reply). r.refusal) e)))
    to true false z t e = ((query-plain Q).0 t.query, e)
    to false y z t e = absurd (b (sym (ap (λ (r : Reply). r.refusal) e)))

    back : (x y z : Bool) → Tests T Q (length l.slots) (sizes l) x y z → IsQuery Q × (judge_reply T ≡ r) → replied T Q (length l.slots) (sizes l) x y z ≡ r
    back true true z t e = absurd (a (sym (ap (λ (r : Reply). r.refusal) e.1) ∙ eqb-true _ _ t.text))
    back true false z t e = e.1
    back false y z t e = absurd (false≢true (sym t.query ∙ (query-plain Q).1 e.0))

pub markup-first : (T : List ℕ) (Q : Query) (l : Lent) (i : ℕ) → (build_reply T Q l ≡ refused MARKUP i) ↔ (IsQuery Q × BrokenAt T i)
markup-first T Q l i =
    let j = judged T Q l (refused MARKUP i) (eqb-false 7 0 refl) (eqb-false 7 1 refl) (eqb-false 7 5 refl) in
    (λ e. ((j.0 e).0, markup_means T i (j.0 e).1), λ h. j.1 (h.0, markup-given T i h.1))

pub tree-first : (T : List ℕ) (Q : Query) (l : Lent) (v : ℕ) → (build_reply T Q l ≡ refused TREE v) ↔ (IsQuery Q × OverAt T v)
tree-first T Q l v =
    let j = judged T Q l (refused TREE v) (eqb-false 2 0 refl) (eqb-false 2 1 refl) (eqb-false 2 5 refl) in
    (λ e. ((j.0 e).0, tree_means T v (j.0 e).1), λ h. j.1 (h.0, tree-given T v h.1))

-- ---- ROOM and acceptance
pub room-last : (T : List ℕ) (Q : Query) (l : Lent) → (build_reply T Q l ≡ refused ROOM 0) ↔ Cramped T Q l
room-last T Q l = (by_tests T Q (length l.slots) (sizes l) (λ r. r ≡ refused ROOM 0 → Cramped T Q l) to, by_tests T Q (length l.slots) (sizes l) (λ r. Cramped T Q l → r ≡ refused ROOM 0) back)
  where
    to : (x y z : Bool) → Tests T Q (length l.slots) (sizes l) x y z → replied T Q (length l.slots) (sizes l) x y z ≡ refused ROOM 0 → Cramped T Q l
    to true true true t e = absurd (no_room_lem T (ap (λ (r : Reply). r.refusal) e))
    to true true false t e =
        record {
          query = (query-plain Q).0 t.query;
          nodes = (judge_reply T).total;
          kept = accepted_means T (judge_reply T).total (accepted-total T (judge_reply T).total (eqb-true _ _ t.text) refl);
          short = λ q. false≢true (sym t.room ∙ (enough-plain T Q l).1 q);
        }
    to true false z t e = absurd (no_room_lem T (ap (λ (r : Reply). r.refusal) e))
    to false y z t e = absurd (eqb-false 1 5 refl (ap (λ (r : Reply). r.refusal) e))

    back : (x y z : Bool) → Tests T Q (length l.slots) (sizes l) x y z → Cramped T Q l → replied T Q (length l.slots) (sizes l) x y z ≡ refused ROOM 0
    back true true true t c = absurd (c.short ((enough-plain T Q l).0 t.room))
    back true true false t c = refl
    back true false z t c = absurd (eqb-false _ _ t.text (ap (λ (r : Reply). r.refusal) (accepted-given T c.nodes c.kept)))
    back false y z t c = absurd (false≢true (sym t.query ∙ (query-plain Q).1 c.query))

pub query-accepted : (T : List ℕ) (Q : Query) (l : Lent) (n : ℕ) → (build_reply T Q l ≡ totalled accepted n) ↔ Taken T Q l n
query-accepted T Q l n = (by_tests T Q (length l.slots) (sizes l) (λ r. r ≡ totalled accepted n → Taken T Q l n) to, by_tests T Q (length l.slots) (sizes l) (λ r. Taken T Q l n → r ≡ totalled accepted n) back)
  where
    to : (x y z : Bool) → Tests T Q (length l.slots) (sizes l) x y z → replied T Q (length l.slots) (sizes l) x y z ≡ totalled accepted n → Taken T Q l n
    to true true true t e = record { query = (query-plain Q).0 t.query; kept = accepted_means T n e; room = (enough-plain T Q l).0 t.room }
    to true true false t e = absurd (eqb-false 5 0 refl (ap (λ (r : Reply). r.refusal) e))
    to true false z t e = absurd (eqb-false _ _ t.text (ap (λ (r : Reply). r.refusal) e))
    to false y z t e = absurd (eqb-false 1 0 refl (ap (λ (r : Reply). r.refusal) e))

    back : (x y z : Bool) → Tests T Q (length l.slots) (sizes l) x y z → Taken T Q l n → replied T Q (length l.slots) (sizes l) x y z ≡ totalled accepted n
    back true true true t c = accepted-given T n c.kept
    back true true false t c = absurd (false≢true (sym t.room ∙ (enough-plain T Q l).1 c.room))
    back true false z t c = absurd (eqb-false _ _ t.text (ap (λ (r : Reply). r.refusal) (accepted-given T n c.kept)))
    back false y z t c = absurd (false≢true (sym t.query ∙ (query-plain Q).1 c.query))

-- ---- what a refusal leaves
module _ (T : List ℕ) (Q : Query) (l : Lent) (r : Reply) (b : Lent) (s : Builds T Q l r b) (n : r.refusal ≡ accepted → ⊥) where
  kept : (new old left : List ℕ) → left ≡ kept_or r new old → left ≡ old
  kept new old left e = e ∙ kept-refused r new old n

  work-kept : b.work ≡ l.work
  work-kept = s.work ∙ ap (λ z. cond z (zeroed (3 * length (tree_of T)) l.work) l.work) (ne_eqb _ _ n)

  slots-left : b.slots ≡ cond (eqb r.refusal ROOM) (blank (length l.slots)) l.slots
  unfolding slots_after
  slots-left = s.slots ∙ ap (λ z. cond z (table_or l.slots (word_table T (length l.slots))) (cond (eqb r.refusal ROOM) (blank (length l.slots)) l.slots)) (ne_eqb _ _ n)

  -- Whatever the slots are, the other slices are as they were.
  others-kept : (w : List ℕ) → b.slots ≡ w → b ≡ lent w l.parents l.tags l.firsts l.lasts l.ends l.occurrences l.counts l.work
  others-kept w e =
      rw (
        e,
        kept (parents_of (tree_of T)) l.parents b.parents s.parents,
        kept (tags_in (tree_of T)) l.tags b.tags s.tags,
        kept (firsts_of (tree_of T)) l.firsts b.firsts s.firsts,
        kept (lasts_of (tree_of T)) l.lasts b.lasts s.lasts,
        kept (ends_for T Q (word_count Q)) l.ends b.ends s.ends,
        kept (lists_to T Q (word_count Q)) l.occurrences b.occurrences s.occurrences,
        kept (counts_for T Q (word_count Q)) l.counts b.counts s.counts,
        work-kept,
      )

  pub refused-keeps : (r.refusal ≡ ROOM → ⊥) → b ≡ l
  refused-keeps m = others-kept l.slots (slots-left ∙ ap (λ z. cond z (blank (length l.slots)) l.slots) (ne_eqb _ _ m))

pub room-keeps : (T : List ℕ) (Q : Query) (l : Lent) (r : Reply) (b : Lent) → Builds T Q l r b → r.refusal ≡ ROOM →
    b ≡ lent (blank (length l.slots)) l.parents l.tags l.firsts l.lasts l.ends l.occurrences l.counts l.work
room-keeps T Q l r b s e =
    others-kept T Q l r b s n (blank (length l.slots)) (slots-left T Q l r b s n ∙ ap (λ z. cond z (blank (length l.slots)) l.slots) (eq-eqb _ _ e))
  where
    n : r.refusal ≡ accepted → ⊥
    n a = eqb-false 5 0 refl (sym e ∙ a)
