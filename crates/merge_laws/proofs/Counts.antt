-- What counts mean to the search without them, here the second: nothing. The first is the search with counts. Assumes nothing.
--   counts_unread, counts_unread_slca               indexes that differ in nothing but counts get one outcome from the second
--   accepts_wrong_counts, accepts_wrong_counts-slca where the first refuses by COUNT, the second gives what the first gives on the same
--                                                   index with right counts
--   counts-long, counts-right, count_rightable      there are such counts: wherever the tree and the lists keep their rules, and so wherever COUNT is given
--   righted-sized                                   with right counts, and work enough, sizes that are fine for the second are fine for the first
--   merge_elca-first, merge_slca-first              there the second's outcome is the first's on the same index with right counts: all that is shown of the
--                                                   first's reply, out and own holds of the second's
-- Letters: I index, cs other counts; w, o, s work, out and own as lent, ys stack; r, w₁, o₁, s₁ the first's reply and what it leaves on I, r', w', o', s' on
-- I with the counts cs; r₂, ys₂, o₂, s₂ the second's; j word, v node.
use Prim.Native.Nat.{ℕ, ◌+◌, ◌*◌, ◌≤◌, ◌<◌}
use mathlib.Core.Path.{◌≡◌, refl, sym, ap, ap₂, ◌∙◌}
use mathlib.Core.Logic.{⊎_elim}
use mathlib.Core.List.{List, []}
use mathlib.Core.Bool.{Bool, true, cond}
use native.Mathlib.Omega.{arith}
use lib.ListN.{length}
use Rattle.seq.proofs.Laws.Bools.{bool_cases}
use Rattle.seq.proofs.Laws.Gather.{length-tabulate, get_d_tabulate}
use Rattle.seq.proofs.Laws.Numbers.{less_or, row_le}
use Rattle.tree.specs.Rules.{tree_bad}
use Rattle.tree.specs.Plain.{Lawful}
use Rattle.tree.proofs.Laws.Rules.{lawful-of}
use Rattle.index.specs.declared.Reply.{Reply}
use Rattle.index.specs.Index.{Index, nodes, words, word_list, count_under, true_count}
use Rattle.index.specs.Replies.{accepted, SIZE, TREE, LIST, COUNT, ROOM, refused, room, nodes_ok, words_ok, size_ok, checked, work_after}
use Rattle.index.specs.Rules.{lists_bad}
use Rattle.index.specs.Plain.{Sized, ListsKept, Right}
use Rattle.index.proofs.Laws.Sizes.{sized_of, sized-yes}
use Rattle.index.proofs.Laws.Lists.{words-kept}
use Rattle.index.proofs.Laws.Counts.{entry-word, entry-node}
use Rattle.index.proofs.Laws.Replies.{checked-tree, checked-list, clean-reply}
use Rattle.index.proofs.Acceptance.{right-clean}
use Rattle.answers.specs.Searches.{is_elca, is_slca, out_of, own_of, answers, roomed, out_fits, own_fits, elca_reply, elca_out, elca_own, slca_reply, slca_out}
use Rattle.slca.specs.Promises.{SlcaSearched}
use Rattle.elca.specs.Promises.{ElcaSearched}
use Rattle.engine.specs.declared.Entry.{Entry}
use Rattle.depot.specs.Depot.{depot_lengths_ok, depot_size_ok, depot_checked}
use Rattle.engine.specs.Search.{stack_after}
use Rattle.merge.specs.Merge.{merge_elca_reply, merge_elca_out, merge_elca_own, merge_slca_reply, merge_slca_out, MergedElca, MergedSlca}
use Rattle.merge_laws.specs.Agree.{recounted, true_counts, righted, uncounted, AgreesElca, AgreesSlca}
use Rattle.depot.specs.Plain.{DepotSized}
use Rattle.merge_laws.proofs.Agree.{no_size-sized, elca-sized, engines_agree_always, slca-sized, engines_agree_slca_always}

-- ---- counts are not read
pub counts_unread : (I : Index) (cs : List ℕ) (ys : List Entry) (o s : List ℕ) (r : Reply) (ys₂ : List Entry) (o₂ s₂ : List ℕ) → MergedElca I ys o s r ys₂ o₂ s₂ →
    MergedElca (recounted I cs) ys o s r ys₂ o₂ s₂
unfolding merge_elca_reply merge_elca_out merge_elca_own stack_after depot_checked depot_size_ok depot_lengths_ok nodes_ok words_ok roomed answers is_elca out_fits own_fits out_of own_of
counts_unread I cs ys o s r ys₂ o₂ s₂ a = record { reply = a.reply; stack = a.stack; out = a.out; own = a.own }

pub counts_unread_slca : (I : Index) (cs : List ℕ) (ys : List Entry) (o : List ℕ) (r : Reply) (ys₂ : List Entry) (o₂ : List ℕ) → MergedSlca I ys o r ys₂ o₂ →
    MergedSlca (recounted I cs) ys o r ys₂ o₂
unfolding merge_slca_reply merge_slca_out stack_after depot_checked depot_size_ok depot_lengths_ok nodes_ok words_ok roomed answers is_slca out_fits out_of
counts_unread_slca I cs ys o r ys₂ o₂ a = record { reply = a.reply; stack = a.stack; out = a.out }

-- ---- right counts for wrong ones
-- What comes after the check is acceptance or ROOM.
roomed-other : (I : Index) (f : ℕ → Bool) (fits : Bool) → (roomed I f fits).refusal ≡ COUNT → ⊥
unfolding roomed
roomed-other I f fits q =
    ⊎_elim (λ (e : fits ≡ true). omega (arith, q, ap (λ (b : Bool). cond {A = ℕ} b accepted ROOM) e)) (λ e. omega (arith, q, ap (λ (b : Bool). cond {A = ℕ} b accepted ROOM) e))
    (bool_cases fits)

module _ (I : Index) (cs : List ℕ) (long : length cs ≡ length I.counts) (w : ℕ) where
  recounted-sized : size_ok 0 I w ≡ true → Sized 0 (recounted I cs) w
  recounted-sized e =
      let z : Sized 0 I w = sized_of 0 I w e in
      record {
        some_nodes = z.some_nodes;
        few_nodes = z.few_nodes;
        some_positive = z.some_positive;
        few_positive = z.few_positive;
        few_words = z.few_words;
        few_negative = z.few_negative;
        tagged = z.tagged;
        ended = z.ended;
        counted = long ∙ z.counted;
        roomy = z.roomy;
      }

  -- A right index is not refused by COUNT.
  right-other : Right (recounted I cs) → size_ok 0 I w ≡ true → (f : ℕ → Bool) (fits : Bool) →
      (checked 0 (recounted I cs) w (roomed (recounted I cs) f fits)).refusal ≡ COUNT → ⊥
  right-other right e f fits q =
      roomed-other (recounted I cs) f fits (ap (λ (z : Reply). z.refusal) (sym (clean-reply 0 (recounted I cs) w _ (right-clean 0 (recounted I cs) w (recounted-sized e) right))) ∙ q)

module _ (I : Index) (cs : List ℕ) (long : length cs ≡ length I.counts) (right : Right (recounted I cs)) (w o : List ℕ) (ys : List Entry) (enough : 64 ≤ length ys) where
  pub accepts_wrong_counts : (s : List ℕ) (r : Reply) (w₁ o₁ s₁ : List ℕ) → ElcaSearched I w o s r w₁ o₁ s₁ → r.refusal ≡ COUNT →
      (r' : Reply) (w' o' s' : List ℕ) → ElcaSearched (recounted I cs) w o s r' w' o' s' →
      (r₂ : Reply) (ys₂ : List Entry) (o₂ s₂ : List ℕ) → MergedElca (uncounted I) ys o s r₂ ys₂ o₂ s₂ → AgreesElca r' o' s' r₂ o₂ s₂
  unfolding elca_reply
  accepts_wrong_counts s r w₁ o₁ s₁ a q r' w' o' s' a' r₂ ys₂ o₂ s₂ b =
      engines_agree_always (recounted I cs) w o s r' w' o' s' a' ys enough r₂ ys₂ o₂ s₂ b (sized-yes 0 (recounted I cs) (length w) (recounted-sized I cs long (length w) fine))
      (λ z. right-other I cs long (length w) right fine _ _ (ap (λ (z : Reply). z.refusal) (sym a'.reply) ∙ z))
    where
      given : r.refusal ≡ (elca_reply I w o s).refusal
      given = ap (λ (z : Reply). z.refusal) a.reply

      fine : size_ok 0 I (length w) ≡ true
      fine = elca-sized I w o s (λ (z : (elca_reply I w o s).refusal ≡ SIZE). omega (arith, q, given, z))

  pub accepts_wrong_counts-slca : (r : Reply) (w₁ o₁ : List ℕ) → SlcaSearched I w o r w₁ o₁ → r.refusal ≡ COUNT →
      (r' : Reply) (w' o' : List ℕ) → SlcaSearched (recounted I cs) w o r' w' o' →
      (r₂ : Reply) (ys₂ : List Entry) (o₂ : List ℕ) → MergedSlca (uncounted I) ys o r₂ ys₂ o₂ → AgreesSlca r' o' r₂ o₂
  unfolding slca_reply
  accepts_wrong_counts-slca r w₁ o₁ a q r' w' o' a' r₂ ys₂ o₂ b =
      engines_agree_slca_always (recounted I cs) w o r' w' o' a' ys enough r₂ ys₂ o₂ b (sized-yes 0 (recounted I cs) (length w) (recounted-sized I cs long (length w) fine))
      (λ z. right-other I cs long (length w) right fine _ _ (ap (λ (z : Reply). z.refusal) (sym a'.reply) ∙ z))
    where
      given : r.refusal ≡ (slca_reply I w o).refusal
      given = ap (λ (z : Reply). z.refusal) a.reply

      fine : size_ok 0 I (length w) ≡ true
      fine = slca-sized I w o (λ (z : (slca_reply I w o).refusal ≡ SIZE). omega (arith, q, given, z))

-- ---- there are right counts
pub counts-long : (I : Index) → length (true_counts I) ≡ words I * nodes I
unfolding true_counts
counts-long I = length-tabulate (words I * nodes I) (true_count I.parents I.ends I.occurrences)

pub counts-right : (I : Index) → length I.ends ≡ words I → Lawful I.parents I.tags → ListsKept I → Right (righted I)
unfolding true_counts true_count
counts-right I ended tree lists = record {
  tree = tree;
  lists = lists;
  counts = λ j v a b.
      get_d_tabulate (words I * nodes I) (true_count I.parents I.ends I.occurrences) (j * nodes I + v) 0
      (omega (arith, row_le j (length I.ends) (nodes I) a, ap (λ (k : ℕ). k * nodes I) ended))
      ∙ ap₂ (λ (x y : ℕ). count_under I.parents (word_list I.ends I.occurrences x) y) (entry-word (nodes I) j v b) (entry-node (nodes I) j v b);
}

-- Where COUNT is given, the tree and the lists keep their rules: the true counts make the index right.
module _ (I : Index) (w : ℕ) (b : Reply) (q : (checked 0 I w b).refusal ≡ COUNT) where
  sized : size_ok 0 I w ≡ true
  sized = no_size-sized I w b (λ (z : (checked 0 I w b).refusal ≡ SIZE). omega (arith, q, z))

  count_kept : Lawful I.parents I.tags × ListsKept I
  count_kept =
      ⊎_elim (λ t. absurd (apart TREE _ (checked-tree 0 I w b sized t) (omega arith)))
      (λ t. ⊎_elim (λ l. absurd (apart LIST _ (checked-list 0 I w b sized t l) (omega arith)))
      (λ l. (lawful-of I.parents I.tags t, words-kept (nodes I) I.ends I.occurrences (omega (arith, l, (sized_of 0 I w sized).ended))))
      (less_or (lists_bad (nodes I) I.ends I.occurrences) (words I)))
      (less_or (tree_bad I.parents I.tags) (nodes I))
    where
      apart : (number at : ℕ) → checked 0 I w b ≡ refused number at → number < COUNT → ⊥
      apart number at h l = omega (arith, l, q, ap (λ (z : Reply). z.refusal) h)

  pub count_rightable : Right (righted I) × (length (true_counts I) ≡ length I.counts)
  count_rightable = (
    counts-right I (sized_of 0 I w sized).ended count_kept.0 count_kept.1,
    counts-long I ∙ sym (sized_of 0 I w sized).counted,
  )

-- ---- whatever the second replies, but SIZE
module _ (I : Index) (w s : ℕ) (z : DepotSized I s) (enough : room I ≤ w) where
  pub righted-sized : size_ok 0 (righted I) w ≡ true
  righted-sized =
      sized-yes 0 (righted I) w (record {
        some_nodes = z.some_nodes;
        few_nodes = z.few_nodes;
        some_positive = z.some_positive;
        few_positive = z.few_positive;
        few_words = omega (arith, z.few_positive, z.no_negative);
        few_negative = omega (arith, z.no_negative);
        tagged = z.tagged;
        ended = z.ended;
        counted = counts-long I;
        roomy = enough;
      })

  -- With its true counts an index is not refused by COUNT.
  righted-other : (f : ℕ → Bool) (fits : Bool) → (checked 0 (righted I) w (roomed (righted I) f fits)).refusal ≡ COUNT → ⊥
  unfolding true_counts
  righted-other f fits q = right-other (righted I) (true_counts I) refl w (count_rightable (righted I) w _ q).0 righted-sized f fits q

module _ (I : Index) (ys : List Entry) (o : List ℕ) (r : Reply) (ys₂ : List Entry) (o₂ : List ℕ) (z : DepotSized I (length ys)) (w : List ℕ)
    (enough : room I ≤ length w) where
  pub merge_elca-first : (s s₂ : List ℕ) → MergedElca I ys o s r ys₂ o₂ s₂ → ElcaSearched (righted I) w o s r (work_after 0 (righted I) w) o₂ s₂
  unfolding merge_elca_reply elca_reply
  merge_elca-first s s₂ c =
      let a : AgreesElca (elca_reply (righted I) w o s) (elca_out (righted I) w o s) (elca_own (righted I) w o s) r o₂ s₂ =
      engines_agree_always (righted I) w o s _ (work_after 0 (righted I) w) _ _ (record { reply = refl; work = refl; out = refl; own = refl }) ys z.stacked r ys₂ o₂ s₂
      (counts_unread I [] ys o s r ys₂ o₂ s₂ c) (righted-sized I (length w) (length ys) z enough) (righted-other I (length w) (length ys) z enough _ _) in
      record { reply = a.reply; work = refl; out = a.out; own = a.own }

  pub merge_slca-first : MergedSlca I ys o r ys₂ o₂ → SlcaSearched (righted I) w o r (work_after 0 (righted I) w) o₂
  unfolding merge_slca_reply slca_reply
  merge_slca-first c =
      let a : AgreesSlca (slca_reply (righted I) w o) (slca_out (righted I) w o) r o₂ =
      engines_agree_slca_always (righted I) w o _ (work_after 0 (righted I) w) _ (record { reply = refl; work = refl; out = refl }) ys z.stacked r ys₂ o₂
      (counts_unread_slca I [] ys o r ys₂ o₂ c) (righted-sized I (length w) (length ys) z enough) (righted-other I (length w) (length ys) z enough _ _) in
      record { reply = a.reply; work = refl; out = a.out }
