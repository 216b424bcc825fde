-- The replies of a call that reads, by the grammar alone: each is given exactly where it is true.
--   size-first         SIZE exactly for a text that is too long
--   room-last          ROOM, with the nodes needed, exactly for the texts of the profile that keep the limits and do not fit
--   profile_accepted   accepted exactly the texts of the profile that keep the limits and fit; what is written is the tree of the text
--   markup-first       MARKUP's place is the first byte at which no text of the profile continues, where no node over a limit is met before
--   tree-first         TREE's place is the first node over a limit, where nothing up to the byte at which it is met breaks the markup
-- Letters as in specs/Calls; r the reply. Assumes nothing.
use Prim.Native.Nat.{ℕ, ◌*◌, ◌<◌}
use mathlib.Core.Path.{◌≡◌, refl, sym, ap, ◌∙◌}
use mathlib.Core.Logic.{◌↔◌}
use mathlib.Core.List.{List}
use mathlib.Core.Bool.{Bool, true, false, cond}
use lib.Dec.{eqb}
use lib.ListN.{length}
use borrow.Author.Tests.{eqb-true, eqb-false}
use Rattle.seq.specs.Memory.{zeroed, over}
use Rattle.index.specs.Replies.{accepted, SIZE, TREE, ROOM, refused, totalled, kept_or}
use Rattle.index.specs.declared.Reply.{Reply}
use Rattle.profile.specs.Grammar.{Document, text}
use Rattle.profile.specs.Tree.{tree}
use Rattle.profile.specs.Limits.{keys_of, first_over}
use Rattle.profile.specs.Reader.{tree_of}
use Rattle.profile.proofs.Complete.{tree-read}
use Rattle.judge.specs.Judge.{MARKUP, longest, max_level, max_nodes, judge_reply}
use Rattle.judge.proofs.Meaning.{size_means, size-given, no_room_lem, accepted-total, accepted_means, accepted-given, markup_means, markup-given, tree_means, tree-given}
use Rattle.reader.specs.Read.{Lent, fits_in, read_reply, parents_of, tags_in, firsts_of, lasts_of, Reads}
use Rattle.judge.specs.Meaning.{Kept, BrokenAt, OverAt}
use Rattle.reader_laws.specs.Calls.{Rows, Taken, Cramped}

-- ---- the reply of the call and the judge's
-- A refusal but ROOM is the judge's.
judged : (T : List ℕ) (l : Lent) (r : Reply) → (r.refusal ≡ accepted → ⊥) → (r.refusal ≡ ROOM → ⊥) → (read_reply T l ≡ r) ↔ (judge_reply T ≡ r)
unfolding read_reply
judged T l r a b = (λ e. by_tests (eqb (judge_reply T).refusal accepted) (fits_in (judge_reply T).total l) refl e, λ e. ap (λ x. back x) e ∙ given)
  where
    by_tests : (x y : Bool) → eqb (judge_reply T).refusal accepted ≡ x →
        cond x (cond y (judge_reply T) (totalled ROOM (judge_reply T).total)) (judge_reply T) ≡ r → judge_reply T ≡ r
    by_tests true true q e = e
    by_tests true false q e = absurd (b (sym (ap (λ (r : Reply). r.refusal) e)))
    by_tests false y q e = e

    back : Reply → Reply
    back x = cond (eqb x.refusal accepted) (cond (fits_in x.total l) x (totalled ROOM x.total)) x

    given : back r ≡ r
    given = by_test (eqb r.refusal accepted) refl
      where
        by_test : (x : Bool) → eqb r.refusal accepted ≡ x → cond x (cond (fits_in r.total l) r (totalled ROOM r.total)) r ≡ r
        by_test true q = absurd (a (eqb-true r.refusal accepted q))
        by_test false q = refl

-- ---- MARKUP and TREE
pub markup-first : (T : List ℕ) (l : Lent) (i : ℕ) → (read_reply T l ≡ refused MARKUP i) ↔ BrokenAt T i
markup-first T l i =
    let j = judged T l (refused MARKUP i) (eqb-false 7 0 refl) (eqb-false 7 5 refl) in (λ e. markup_means T i (j.0 e), λ b. j.1 (markup-given T i b))

pub tree-first : (T : List ℕ) (l : Lent) (v : ℕ) → (read_reply T l ≡ refused TREE v) ↔ OverAt T v
tree-first T l v =
    let j = judged T l (refused TREE v) (eqb-false 2 0 refl) (eqb-false 2 5 refl) in (λ e. tree_means T v (j.0 e), λ b. j.1 (tree-given T v b))

-- ---- acceptance
-- The judge accepts too, and there is room.
record Both (T : List ℕ) (l : Lent) (n : ℕ) : Type 0 where
  judge : judge_reply T ≡ totalled accepted n
  room : fits_in n l ≡ true

both_of : (T : List ℕ) (l : Lent) (n : ℕ) → read_reply T l ≡ totalled accepted n → Both T l n
unfolding read_reply
both_of T l n e = by_tests (eqb (judge_reply T).refusal accepted) (fits_in (judge_reply T).total l) refl refl e
  where
    by_tests : (x y : Bool) → eqb (judge_reply T).refusal accepted ≡ x → fits_in (judge_reply T).total l ≡ y →
        cond x (cond y (judge_reply T) (totalled ROOM (judge_reply T).total)) (judge_reply T) ≡ totalled accepted n → Both T l n
    by_tests true true q f e = record { judge = e; room = sym (ap (λ (r : Reply). fits_in r.total l) e) ∙ f }
    by_tests true false q f e = absurd (eqb-false 5 0 refl (ap (λ (r : Reply). r.refusal) e))
    by_tests false y q f e = absurd (eqb-false (judge_reply T).refusal accepted q (ap (λ (r : Reply). r.refusal) e))

of_both : (T : List ℕ) (l : Lent) (n : ℕ) → Both T l n → read_reply T l ≡ totalled accepted n
unfolding read_reply
of_both T l n b = ap (λ x. cond (eqb x.refusal accepted) (cond (fits_in x.total l) x (totalled ROOM x.total)) x) b.judge ∙ ap (λ y. cond y (totalled accepted n) (totalled ROOM n)) b.room

-- ---- SIZE and ROOM
pub size-first : (T : List ℕ) (l : Lent) → (read_reply T l ≡ refused SIZE 0) ↔ (longest < length T)
size-first T l = let j = judged T l (refused SIZE 0) (eqb-false 1 0 refl) (eqb-false 1 5 refl) in (λ e. size_means T (j.0 e), λ b. j.1 (size-given T b))

pub room-last : (T : List ℕ) (l : Lent) (n : ℕ) → (read_reply T l ≡ totalled ROOM n) ↔ Cramped T l n
unfolding read_reply
room-last T l n = (λ e. by_tests (eqb (judge_reply T).refusal accepted) (fits_in (judge_reply T).total l) refl refl e, given)
  where
    by_tests : (x y : Bool) → eqb (judge_reply T).refusal accepted ≡ x → fits_in (judge_reply T).total l ≡ y →
        cond x (cond y (judge_reply T) (totalled ROOM (judge_reply T).total)) (judge_reply T) ≡ totalled ROOM n → Cramped T l n
    by_tests true true q f e = absurd (eqb-false 5 0 refl (sym (ap (λ (r : Reply). r.refusal) e) ∙ eqb-true (judge_reply T).refusal accepted q))
    by_tests true false q f e = record { kept = accepted_means T n (accepted-total T n (eqb-true (judge_reply T).refusal accepted q) total); short = sym (ap (λ i. fits_in i l) total) ∙ f }
      where
        total : (judge_reply T).total ≡ n
        total = ap (λ (r : Reply). r.total) e
    by_tests false y q f e = absurd (no_room_lem T (ap (λ (r : Reply). r.refusal) e))

    given : Cramped T l n → cond (eqb (judge_reply T).refusal accepted) (cond (fits_in (judge_reply T).total l) (judge_reply T) (totalled ROOM (judge_reply T).total)) (judge_reply T) ≡ totalled ROOM n
    given b =
        ap (λ x. cond (eqb x.refusal accepted) (cond (fits_in x.total l) x (totalled ROOM x.total)) x) (accepted-given T n b.kept) ∙
        ap (λ y. cond y (totalled accepted n) (totalled ROOM n)) b.short

kept-over : (r : Reply) (n : ℕ) (new old : List ℕ) → r ≡ totalled accepted n → kept_or r new old ≡ over new old
unfolding kept_or
kept-over r n new old e = ap (λ (r : Reply). cond (eqb r.refusal accepted) (over new old) old) e

-- Whatever fits the contract and says that it is accepted.
pub profile_accepted : (T : List ℕ) (l : Lent) (r : Reply) (k : Lent) → Reads T l r k → (n : ℕ) → (r ≡ totalled accepted n) ↔ Taken T l n k
profile_accepted T l r k w n = (taken, given)
  where
    taken : r ≡ totalled accepted n → Taken T l n k
    taken e =
        record {
          short = kept.short;
          fits = b.room;
          whole = kept.kept.whole;
          rows = rows;
        }
      where
        b : Both T l n
        b = both_of T l n (sym w.reply ∙ e)

        kept : Kept T n
        kept = accepted_means T n b.judge

        rows : (d : Document) → text d ≡ T → Rows d l k n
        rows d q =
            record {
              nodes = ap length (kept.kept.nodes d q) ∙ sym kept.total;
              clear = ap (λ ns. first_over max_level max_nodes 0 (keys_of ns)) (kept.kept.nodes d q) ∙ kept.kept.clear;
              parents = w.parents ∙ kept-over r n (parents_of (tree_of T)) l.parents e ∙ ap (λ ns. over (parents_of ns) l.parents) tree_is;
              tags = w.tags ∙ kept-over r n (tags_in (tree_of T)) l.tags e ∙ ap (λ ns. over (tags_in ns) l.tags) tree_is;
              firsts = w.firsts ∙ kept-over r n (firsts_of (tree_of T)) l.firsts e ∙ ap (λ ns. over (firsts_of ns) l.firsts) tree_is;
              lasts = w.lasts ∙ kept-over r n (lasts_of (tree_of T)) l.lasts e ∙ ap (λ ns. over (lasts_of ns) l.lasts) tree_is;
              work =
                  w.work ∙ ap (λ (r : Reply). cond (eqb r.refusal accepted) (zeroed (3 * length (tree_of T)) l.work) l.work) e ∙
                  ap (λ i. zeroed (3 * i) l.work) (ap length (tree_is ∙ kept.kept.nodes d q) ∙ sym kept.total);
            }
          where
            tree_is : tree_of T ≡ tree d
            tree_is = ap tree_of (sym q) ∙ tree-read d

    given : Taken T l n k → r ≡ totalled accepted n
    given t =
        let d = t.whole.document in
        let m = t.rows d t.whole.is in
        w.reply ∙
        of_both T l n
        (record {
          judge = accepted-given T n (record {
            short = t.short;
            nodes = tree d;
            kept = record {
              whole = t.whole;
              nodes = λ d' q. sym (tree-read d') ∙ ap tree_of (q ∙ sym t.whole.is) ∙ tree-read d;
              clear = m.clear;
            };
            total = sym m.nodes;
          });
          room = t.fits;
        })
