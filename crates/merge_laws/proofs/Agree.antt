-- The search with counts, here the first, and the search without them, the second, give one outcome. Assumes nothing.
--   engines_agree_always, engines_agree_slca_always   wherever the first replies neither SIZE nor COUNT
--   engines_agree, engines_agree_slca                 wherever the first accepts
--   no_size-sized, elca-sized, slca-sized             any reply of the first but SIZE says that nothing is wrong with its sizes
-- Letters: I index; w, o, s work, out and own as lent, ys stack; r the first's reply, w', o', s' what it leaves; r₂, ys₂, o₂, s₂ the second's; b the reply
-- that comes after the check.
use Prim.Native.Nat.{ℕ, ◌*◌, ◌≤◌}
use mathlib.Core.Path.{◌≡◌, refl, sym, ap, ◌∙◌}
use mathlib.Core.Logic.{⊎_elim}
use mathlib.Core.List.{List}
use mathlib.Core.Bool.{true, ◌&&◌}
use native.Mathlib.Omega.{arith}
use lib.ListN.{length}
use Rattle.seq.proofs.Laws.Bools.{bool_cases}
use Rattle.seq.proofs.Laws.Numbers.{less_or}
use Rattle.tree.specs.Rules.{tree_bad}
use Rattle.index.specs.declared.Reply.{Reply}
use Rattle.index.specs.Index.{Index, nodes, words}
use Rattle.index.specs.Rules.{lists_bad, counts_bad}
use Rattle.index.specs.Replies.{accepted, SIZE, COUNT, size_ok, checked, kept_or}
use Rattle.index.specs.Plain.{Sized}
use Rattle.index.proofs.Laws.Sizes.{sized_of}
use Rattle.index.proofs.Laws.Replies.{checked-size, checked-tree, checked-list, checked-count, checked-all}
use Rattle.answers.specs.Searches.{is_elca, is_slca, out_of, own_of, answers, roomed, out_fits, own_fits, elca_reply, elca_out, elca_own, slca_reply, slca_out}
use Rattle.slca.specs.Promises.{SlcaSearched}
use Rattle.elca.specs.Promises.{ElcaSearched}
use Rattle.engine.specs.declared.Entry.{Entry}
use Rattle.depot.specs.Depot.{depot_size_ok, depot_checked}
use Rattle.merge.specs.Merge.{merge_elca_reply, merge_elca_out, merge_elca_own, merge_slca_reply, merge_slca_out, MergedElca, MergedSlca}
use Rattle.depot.specs.Plain.{DepotSized}
use Rattle.depot.proofs.Laws.Checks as Checks
use Rattle.merge_laws.specs.Agree.{uncounted, AgreesElca, AgreesSlca}

-- ---- the check
-- Sizes that are fine with counts and work are fine without them, where the stack has its 64 entries.
sized-less : (I : Index) (w s : ℕ) → Sized 0 I w → 64 ≤ s → DepotSized (uncounted I) s
sized-less I w s z enough = record {
  some_nodes = z.some_nodes;
  few_nodes = z.few_nodes;
  some_positive = z.some_positive;
  few_positive = z.few_positive;
  no_negative = omega (arith, z.few_negative);
  tagged = z.tagged;
  ended = z.ended;
  stacked = enough;
}

-- Where the first's reply is neither SIZE nor COUNT, and the stack has its 64 entries, the second's is the same.
checks_agree : (I : Index) (w s : ℕ) → size_ok 0 I w ≡ true → 64 ≤ s → (b : Reply) → ((checked 0 I w b).refusal ≡ COUNT → ⊥) →
    depot_checked (uncounted I) s b ≡ checked 0 I w b
checks_agree I w s e enough b other =
    let z : depot_size_ok (uncounted I) s ≡ true = Checks.sized-yes (uncounted I) s (sized-less I w s (sized_of 0 I w e) enough) in
    ⊎_elim
    (λ t. Checks.checked-tree (uncounted I) s b z t ∙ sym (checked-tree 0 I w b e t))
    (λ t. ⊎_elim
    (λ l. Checks.checked-list (uncounted I) s b z t l ∙ sym (checked-list 0 I w b e t l))
    (λ l. Checks.checked-all (uncounted I) s b z t l ∙ ⊎_elim
    (λ c. absurd (other (ap (λ (z : Reply). z.refusal) (checked-count 0 I w b e t l c))))
    (λ c. sym (checked-all 0 I w b e t l c))
    (less_or (counts_bad I.parents I.ends I.occurrences I.counts) (words I * nodes I)))
    (less_or (lists_bad (nodes I) I.ends I.occurrences) (words I)))
    (less_or (tree_bad I.parents I.tags) (nodes I))

-- Any reply but SIZE says that nothing is wrong with the sizes.
pub no_size-sized : (I : Index) (w : ℕ) (b : Reply) → ((checked 0 I w b).refusal ≡ SIZE → ⊥) → size_ok 0 I w ≡ true
no_size-sized I w b other = ⊎_elim (λ e. e) (λ e. absurd (other (ap (λ (z : Reply). z.refusal) (checked-size 0 I w b e)))) (bool_cases (size_ok 0 I w))

-- ---- ELCA
-- Which nodes are listed, and what is written for them, does not depend on counts.
elca_unread : (I : Index) (ys : List Entry) (o s : List ℕ) →
    merge_elca_reply (uncounted I) ys o s ≡ depot_checked (uncounted I) (length ys) (roomed I (is_elca I) (out_fits I (is_elca I) o && own_fits I (is_elca I) s))
unfolding merge_elca_reply roomed answers is_elca out_fits own_fits out_of own_of
elca_unread I ys o s = refl

pub elca-sized : (I : Index) (w o s : List ℕ) → ((elca_reply I w o s).refusal ≡ SIZE → ⊥) → size_ok 0 I (length w) ≡ true
unfolding elca_reply
elca-sized I w o s other = no_size-sized I (length w) _ other

module _ (I : Index) (w o s : List ℕ) (r : Reply) (w' o' s' : List ℕ) (a : ElcaSearched I w o s r w' o' s')
    (ys : List Entry) (enough : 64 ≤ length ys) (r₂ : Reply) (ys₂ : List Entry) (o₂ s₂ : List ℕ) (b : MergedElca (uncounted I) ys o s r₂ ys₂ o₂ s₂) where
  replies-elca : size_ok 0 I (length w) ≡ true → (r.refusal ≡ COUNT → ⊥) → r₂ ≡ r
  unfolding elca_reply
  replies-elca e other =
      b.reply ∙ elca_unread I ys o s ∙ checks_agree I (length w) (length ys) e enough _ (λ q. other (ap (λ (z : Reply). z.refusal) a.reply ∙ q)) ∙ sym a.reply

  pub engines_agree_always : size_ok 0 I (length w) ≡ true → (r.refusal ≡ COUNT → ⊥) → AgreesElca r o' s' r₂ o₂ s₂
  unfolding merge_elca_out merge_elca_own elca_out elca_own out_of own_of is_elca
  engines_agree_always e other =
      let same : merge_elca_reply (uncounted I) ys o s ≡ elca_reply I w o s = sym b.reply ∙ replies-elca e other ∙ a.reply in
      record {
        reply = replies-elca e other;
        out = b.out ∙ ap (λ (z : Reply). kept_or z (out_of I (is_elca I)) o) same ∙ sym a.out;
        own = b.own ∙ ap (λ (z : Reply). kept_or z (own_of I (is_elca I)) s) same ∙ sym a.own;
      }

  pub engines_agree : r.refusal ≡ accepted → AgreesElca r o' s' r₂ o₂ s₂
  engines_agree q = engines_agree_always (elca-sized I w o s (λ (z : (elca_reply I w o s).refusal ≡ SIZE). omega (arith, q, given, z))) (λ z. omega (arith, q, z))
    where
      given : r.refusal ≡ (elca_reply I w o s).refusal
      given = ap (λ (z : Reply). z.refusal) a.reply

-- ---- SLCA
slca_unread : (I : Index) (ys : List Entry) (o : List ℕ) →
    merge_slca_reply (uncounted I) ys o ≡ depot_checked (uncounted I) (length ys) (roomed I (is_slca I) (out_fits I (is_slca I) o))
unfolding merge_slca_reply roomed answers is_slca out_fits out_of
slca_unread I ys o = refl

pub slca-sized : (I : Index) (w o : List ℕ) → ((slca_reply I w o).refusal ≡ SIZE → ⊥) → size_ok 0 I (length w) ≡ true
unfolding slca_reply
slca-sized I w o other = no_size-sized I (length w) _ other

module _ (I : Index) (w o : List ℕ) (r : Reply) (w' o' : List ℕ) (a : SlcaSearched I w o r w' o') (ys : List Entry) (enough : 64 ≤ length ys) (r₂ : Reply)
    (ys₂ : List Entry) (o₂ : List ℕ) (b : MergedSlca (uncounted I) ys o r₂ ys₂ o₂) where
  replies-slca : size_ok 0 I (length w) ≡ true → (r.refusal ≡ COUNT → ⊥) → r₂ ≡ r
  unfolding slca_reply
  replies-slca e other =
      b.reply ∙ slca_unread I ys o ∙ checks_agree I (length w) (length ys) e enough _ (λ q. other (ap (λ (z : Reply). z.refusal) a.reply ∙ q)) ∙ sym a.reply

  pub engines_agree_slca_always : size_ok 0 I (length w) ≡ true → (r.refusal ≡ COUNT → ⊥) → AgreesSlca r o' r₂ o₂
  unfolding merge_slca_out slca_out out_of is_slca
  engines_agree_slca_always e other =
      let same : merge_slca_reply (uncounted I) ys o ≡ slca_reply I w o = sym b.reply ∙ replies-slca e other ∙ a.reply in
      record { reply = replies-slca e other; out = b.out ∙ ap (λ (z : Reply). kept_or z (out_of I (is_slca I)) o) same ∙ sym a.out }

  pub engines_agree_slca : r.refusal ≡ accepted → AgreesSlca r o' r₂ o₂
  engines_agree_slca q = engines_agree_slca_always (slca-sized I w o (λ (z : (slca_reply I w o).refusal ≡ SIZE). omega (arith, q, given, z))) (λ z. omega (arith, q, z))
    where
      given : r.refusal ≡ (slca_reply I w o).refusal
      given = ap (λ (z : Reply). z.refusal) a.reply
