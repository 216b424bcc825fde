-- What was built is always accepted by the index check.
--   handed-is        what a caller hands over is the index of the text and the query
--   built-right      its tree, its lists and its counts keep every rule;  built-sized: and its sizes
--   built-accepted   so the index check accepts it, for any work that is long enough
--   built-checked    the same of whatever fits the contract of the check
--   built-table      the slots hold the table of the words of the text
-- Letters: T text, Q query, l b what is lent, before and after, r reply; w work; n nodes, k words, j word, v node. Assumes nothing.
use Prim.Native.Nat.{ℕ, zero, suc, pred, ◌+◌, ◌*◌, ◌/◌, ◌%◌, ◌≤◌, ◌<◌}
use mathlib.Core.Path.{◌≡◌, refl, sym, ap, ap₂, subst, ◌∙◌}
use mathlib.Core.List.{List, []}
use mathlib.Core.Bool.{true, cond, false≢true}
use mathlib.Core.Option.{Option, none, some}
use native.Mathlib.Nat.{not-suc-le-zero}
use native.Mathlib.Omega.{arith}
use lib.Dec.{eqb}
use lib.ListN.{length, length-map, get_or, take, drop}
use lib.Seq.{take_at}
use borrow.Author.Tests.{eq-eqb}
use Rattle.seq.specs.Memory.{over}
use Rattle.seq.proofs.Laws.Numbers.{row_le}
use Rattle.seq.proofs.Laws.Gather.{length-tabulate, get_d_tabulate}
use Rattle.seq.proofs.Laws.Members.{listed_below, listed-rising}
use Rattle.seq.proofs.Laws.Memory.{over-front}
use Rattle.tree.specs.Plain.{Lawful}
use Rattle.tree.proofs.Laws.Rules.{lawful-of}
use Rattle.index.specs.Index.{word_list, count_under}
use Rattle.index.specs.Replies.{accepted, ROOM, totalled, kept_or, check_reply}
use Rattle.index.specs.Plain.{Sized, ListKept, WordKept, Right}
use Rattle.index.specs.Promises.{lent, Checked}
use Rattle.index.specs.declared.Reply.{Reply}
use Rattle.index.proofs.Laws.Counts.{entry-word, entry-node}
use Rattle.index.proofs.Laws.Replies.{kept-accepted}
use Rattle.index.proofs.Acceptance.{right-accepted}
use Rattle.profile.specs.Grammar.{Element, empty_tag, tags, Document, miscs_then, text}
use Rattle.profile.specs.Tree.{Node, element_nodes, place_in, tree}
use Rattle.profile.specs.Reader.{tree_of}
use Rattle.profile.proofs.Complete.{tree-read}
use Rattle.judge.specs.Judge.{judge_reply}
use Rattle.judge.specs.Meaning.{Kept}
use Rattle.judge.proofs.Meaning.{accepted-total, accepted_means}
use Rattle.reader.specs.Read.{parents_of, tags_in}
use Rattle.reader.proofs.Reading.{tags-count}
use Rattle.reader_laws.proofs.Reading.{read-lawful}
use Rattle.words.specs.Stands.{stands}
use Rattle.probing.specs.Table.{blank}
use Rattle.query.specs.Query.{Query, asked, query_ok, word_count}
use Rattle.plan.specs.Lists.{word_table, list_for, lists_to, made, table_or}
use Rattle.plan.specs.Plan.{slots_after}
use Rattle.build.specs.Build.{Lent, sizes, ends_for, counts_for, Builds}
use Rattle.query.specs.Plain.{IsQuery}
use Rattle.query.proofs.Kept.{query-kept}
use Rattle.plan.proofs.Texts.{text-kept}
use Rattle.build.proofs.Whole.{parents-long}
use Rattle.build_laws.specs.Calls.{handed, built}
use Rattle.build_laws.proofs.Room.{table-made, enough-plain}
use Rattle.plan.proofs.Tests.{Passed, passed-of}
use Rattle.build_laws.proofs.Ends.{lists_le, end_is, start_is, list-is}

-- ---- the tree
-- A document has a root.
root-some : (place : List ℕ → ℕ) (e : Element) (t : List ℕ) → 1 ≤ length (element_nodes place e 0 1 0 t)
unfolding element_nodes
root-some place (empty_tag n s) t = omega arith
root-some place (tags n s r i s') t = omega arith

tree-some : (d : Document) → 1 ≤ length (tree d)
unfolding tree
tree-some d = root-some (place_in (text d)) d.root (miscs_then d.epilog [])

tags-long : (T : List ℕ) → length (tags_in (tree_of T)) ≡ length (tree_of T)
tags-long T = tags-count _ ∙ length-map (tree_of T) (λ (a : Node). a.name)

module _ (T : List ℕ) (e : (judge_reply T).refusal ≡ accepted) where
  total-is : judge_reply T ≡ totalled accepted (judge_reply T).total
  total-is = accepted-total T (judge_reply T).total e refl

  pub nodes-some : 1 ≤ length (tree_of T)
  nodes-some = subst (λ (z : ℕ). 1 ≤ z) (sym (ap length tree_is)) (tree-some kept.kept.whole.document)
    where
      kept : Kept T (judge_reply T).total
      kept = accepted_means T (judge_reply T).total total-is

      tree_is : tree_of T ≡ tree kept.kept.whole.document
      tree_is = ap tree_of (sym kept.kept.whole.is) ∙ tree-read kept.kept.whole.document

  pub built-lawful : Lawful (parents_of (tree_of T)) (tags_in (tree_of T))
  built-lawful =
      lawful-of (parents_of (tree_of T)) (tags_in (tree_of T)) (omega (arith, read-lawful T (judge_reply T).total total-is, (text-kept T e).total, parents-long T))

-- ---- the index
module _ (T : List ℕ) (Q : Query) where
  ends-long : length (ends_for T Q (word_count Q)) ≡ word_count Q
  unfolding ends_for
  ends-long = length-tabulate (word_count Q) _

  counts-long : length (counts_for T Q (word_count Q)) ≡ word_count Q * length (tree_of T)
  unfolding counts_for
  counts-long = length-tabulate (word_count Q * length (tree_of T)) _

  list-kept : (j : ℕ) → ListKept (length (tree_of T)) (list_for T Q j)
  unfolding list_for
  list-kept j = record { increasing = listed-rising (length (tree_of T)) (stands T (asked Q j)); below = listed_below (length (tree_of T)) (stands T (asked Q j)) }

  word_kept : (j : ℕ) → j < word_count Q → WordKept (length (tree_of T)) (ends_for T Q (word_count Q)) (lists_to T Q (word_count Q)) j
  word_kept j l =
      record {
        rising = omega (arith, start_is T Q (word_count Q) j l, end_is T Q (word_count Q) j l, lists_le T Q j (suc j) (omega arith));
        within = omega (arith, end_is T Q (word_count Q) j l, lists_le T Q (suc j) (word_count Q) l);
        last = λ e. end_is T Q (word_count Q) j l ∙ ap (λ (z : ℕ). length (lists_to T Q z)) (e ∙ ends-long);
        list = subst (ListKept (length (tree_of T))) (sym (list-is T Q (word_count Q) j l)) (list-kept j);
      }

  count_kept : (j v : ℕ) → j < word_count Q → v < length (tree_of T) →
      get_or (counts_for T Q (word_count Q)) (j * length (tree_of T) + v) 0 ≡ count_under (parents_of (tree_of T)) (word_list (ends_for T Q (word_count Q)) (lists_to T Q (word_count Q)) j) v
  unfolding counts_for
  count_kept j v l h =
      let n : ℕ = length (tree_of T) in
      get_d_tabulate (word_count Q * n) (λ e. count_under (parents_of (tree_of T)) (list_for T Q (e / n)) (e % n)) (j * n + v) 0 (omega (arith, row_le j (word_count Q) n l)) ∙
      ap₂ (λ (x y : ℕ). count_under (parents_of (tree_of T)) (list_for T Q x) y) (entry-word n j v h) (entry-node n j v h) ∙
      ap (λ z. count_under (parents_of (tree_of T)) z v) (sym (list-is T Q (word_count Q) j l))

  pub built-right : (judge_reply T).refusal ≡ accepted → Right (built T Q)
  built-right e =
      record {
        tree = built-lawful T e;
        lists = λ j l. subst (λ (z : ℕ). WordKept z (ends_for T Q (word_count Q)) (lists_to T Q (word_count Q)) j) (sym (parents-long T)) (word_kept j (omega (arith, ends-long)));
        counts = λ j v l h. ap (λ (z : ℕ). get_or (counts_for T Q (word_count Q)) (j * z + v) 0) (parents-long T) ∙ count_kept j v (omega (arith, ends-long)) (omega (arith, parents-long T));
      }

  pub built-sized : (most : ℕ) → query_ok Q ≡ true → (judge_reply T).refusal ≡ accepted → (w : ℕ) → (word_count Q + 2) * length (tree_of T) ≤ w → Sized most (built T Q) w
  built-sized most o e w h =
      record {
        some_nodes = omega (arith, parents-long T, nodes-some T e);
        few_nodes = omega (arith, parents-long T, (text-kept T e).few);
        some_positive = q.some;
        few_positive = q.few;
        few_words = omega (arith, q.few);
        few_negative = omega arith;
        tagged = tags-long T ∙ sym (parents-long T);
        ended = ends-long ∙ one;
        counted = counts-long ∙ ap₂ ◌*◌ one (sym (parents-long T));
        roomy = omega (arith, h, ap₂ (λ (x y : ℕ). (x + 2) * y) one (sym (parents-long T)));
      }
    where
      q : IsQuery Q
      q = query-kept Q o

      one : word_count Q ≡ word_count Q + 0
      one = omega arith

-- ---- what is handed over
front : (n : ℕ) (new old : List ℕ) → length new ≡ n → take n (over new old) ≡ new
unfolding over
front n new old e = take_at new (drop (length new) old) n e

module _ (T : List ℕ) (Q : Query) (l : Lent) (r : Reply) (b : Lent) (s : Builds T Q l r b) (e : r.refusal ≡ accepted) where
  pub built-passed : Passed T Q (length l.slots) (sizes l)
  built-passed = passed-of T Q (length l.slots) (sizes l) (sym (ap (λ (r : Reply). r.refusal) s.reply) ∙ e)

  pub total-nodes : r.total ≡ length (tree_of T)
  total-nodes = ap (λ (r : Reply). r.total) (s.reply ∙ built-passed.reply) ∙ (text-kept T built-passed.judge).total

  pub built-table : word_table T (length l.slots) ≡ some b.slots
  unfolding slots_after
  built-table = by (word_table T (length l.slots)) ((table-made T (length l.slots)).1 ((enough-plain T Q l).0 built-passed.room).words)
      (s.slots ∙ ap (λ z. cond z (table_or l.slots (word_table T (length l.slots))) (cond (eqb r.refusal ROOM) (blank (length l.slots)) l.slots)) (eq-eqb _ _ e))
    where
      by : (o : Option (List ℕ)) → made o ≡ true → b.slots ≡ table_or l.slots o → o ≡ some b.slots
      by none y h = absurd (false≢true y)
      by (some w) y h = ap some (sym h)

  -- A slice that holds the new entries in front.
  cut : (n : ℕ) (new old left : List ℕ) → left ≡ kept_or r new old → length new ≡ n → take n left ≡ new
  cut n new old left p q = ap (take n) (p ∙ kept-accepted r new old e) ∙ front n new old q

  last_end : get_or b.ends (pred (word_count Q)) 0 ≡ length (lists_to T Q (word_count Q))
  last_end =
      ap (λ z. get_or z (pred (word_count Q)) 0) (s.ends ∙ kept-accepted r (ends_for T Q (word_count Q)) l.ends e) ∙
      over-front (ends_for T Q (word_count Q)) l.ends (pred (word_count Q)) (omega (arith, ends-long T Q, less)) ∙ end_is T Q (word_count Q) (pred (word_count Q)) less ∙
      ap (λ (z : ℕ). length (lists_to T Q z)) (same (word_count Q) some)
    where
      some : 1 ≤ word_count Q
      some = (query-kept Q built-passed.query).some

      same : (k : ℕ) → 1 ≤ k → suc (pred k) ≡ k
      same zero h = absurd (not-suc-le-zero h)
      same (suc k) h = refl

      less : pred (word_count Q) < word_count Q
      less = omega (arith, same (word_count Q) some)

  pub handed-is : handed Q r.total b ≡ built T Q
  handed-is =
      ap (λ (n : ℕ). handed Q n b) total-nodes ∙
      ap₂ (λ p t. lent p t k 0 (take k b.ends) (take (get_or b.ends (pred k) 0) b.occurrences) (take (k * n) b.counts))
      (cut n (parents_of (tree_of T)) l.parents b.parents s.parents (parents-long T)) (cut n (tags_in (tree_of T)) l.tags b.tags s.tags (tags-long T)) ∙
      ap₂ (λ f c. lent (parents_of (tree_of T)) (tags_in (tree_of T)) k 0 f (take (get_or b.ends (pred k) 0) b.occurrences) c)
      (cut k (ends_for T Q k) l.ends b.ends s.ends (ends-long T Q)) (cut (k * n) (counts_for T Q k) l.counts b.counts s.counts (counts-long T Q)) ∙
      ap (λ o. lent (parents_of (tree_of T)) (tags_in (tree_of T)) k 0 (ends_for T Q k) o (counts_for T Q k))
      (ap (λ (z : ℕ). take z b.occurrences) last_end ∙ cut (length (lists_to T Q k)) (lists_to T Q k) l.occurrences b.occurrences s.occurrences refl)
    where
      k : ℕ
      k = word_count Q

      n : ℕ
      n = length (tree_of T)

  pub built-accepted : (w : List ℕ) → (word_count Q + 2) * r.total ≤ length w → check_reply (handed Q r.total b) w ≡ totalled accepted 0
  built-accepted w h =
      ap (λ I. check_reply I w) handed-is ∙
      right-accepted (built T Q) w (built-sized T Q 8 built-passed.query built-passed.judge (length w) (omega (arith, h, ap (λ (z : ℕ). (word_count Q + 2) * z) total-nodes))) (built-right T Q built-passed.judge)

  pub built-checked : (w : List ℕ) → (word_count Q + 2) * r.total ≤ length w → (r' : Reply) (w' : List ℕ) → Checked (handed Q r.total b) w r' w' → r' ≡ totalled accepted 0
  built-checked w h r' w' c = c.reply ∙ built-accepted w h
