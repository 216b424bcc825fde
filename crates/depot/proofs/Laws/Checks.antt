-- What is checked before a search without counts: the tests hold exactly where the plain statements do, and the order of refusals.
--   sized_of, sized-yes, sized_no, sized-last   the test for SIZE holds exactly where the plain statement does
--   sized-words                    there are as many ends as positive words
--   sized_any                      any reply but SIZE says that nothing is wrong with the sizes
--   checked-size, checked-tree, checked-list, checked-all   the reply where each line is the first that applies
--   refused-size                   the reply is SIZE exactly where the sizes are wrong
--   Clean I s, Stopped I s         == no refusal comes before the search; one does, whatever the search would reply
--   clean_or_stopped, clean-reply  one of them holds; the search's own reply stands where nothing comes before it
--   check_unique                   no second reply fits the contract of `check`
-- Letters: I index, s length of the stack, r reply. Assumes nothing.
use Prim.Native.Nat.{ℕ, ◌≤◌, ◌<◌}
use mathlib.Core.Path.{◌≡◌, sym, ap, ◌∙◌}
use mathlib.Core.Logic.{◌⊎◌, inl, inr, ⊎_elim}
use mathlib.Core.Bool.{true, false, not, ◌&&◌}
use native.Mathlib.Omega.{arith}
use lib.Dec.{eqb, leb}
use borrow.Author.Tests.{le-leb, leb-true, eq-eqb, ne_eqb, eqb-true}
use lib.ListN.{length}
use Rattle.seq.proofs.Laws.Bools.{bool_cases, bool_ext, bool_false, and_left, and_right, and_both}
use Rattle.seq.proofs.Laws.Numbers.{less_or}
use Rattle.seq.proofs.Laws.Outcomes.{outcome_unique}
use Rattle.tree.specs.Rules.{tree_bad}
use Rattle.index.specs.declared.Reply.{Reply}
use Rattle.index.specs.Index.{Index, nodes, words}
use Rattle.index.specs.Rules.{lists_bad}
use Rattle.index.specs.Replies.{accepted, SIZE, TREE, LIST, refused, totalled, nodes_ok, words_ok}
use Rattle.index.proofs.Laws.Replies.{refusing-yes, refusing_no}
use Rattle.depot.specs.Depot.{depot_lengths_ok, depot_size_ok, depot_checked}
use Rattle.depot.specs.Plain.{DepotSized}

-- ---- SIZE
module _ (I : Index) (s : ℕ) where
  module _ (e : depot_size_ok I s ≡ true) where
    bounds_good : (nodes_ok I && words_ok 0 I) ≡ true
    unfolding depot_size_ok
    bounds_good = and_left _ _ e

    rest-good : (depot_lengths_ok I && leb 64 s) ≡ true
    unfolding depot_size_ok
    rest-good = and_right (nodes_ok I && words_ok 0 I) _ e

    pub sized_of : DepotSized I s
    unfolding nodes_ok words_ok depot_lengths_ok
    sized_of =
        let many : (leb 1 (nodes I) && leb (nodes I) 65536) ≡ true = and_left _ _ bounds_good in
        let named : ((leb 1 I.positive && leb I.positive 8) && (leb (words I) 8 && leb I.negative 0)) ≡ true = and_right (nodes_ok I) _ bounds_good in
        let positive : (leb 1 I.positive && leb I.positive 8) ≡ true = and_left _ _ named in
        let lengths : (eqb (length I.tags) (nodes I) && eqb (length I.ends) (words I)) ≡ true = and_left _ _ rest-good in
        let none : I.negative ≤ 0 = leb-true I.negative 0 (and_right (leb (words I) 8) _ (and_right (leb 1 I.positive && leb I.positive 8) _ named)) in
        record {
          some_nodes = leb-true 1 (nodes I) (and_left _ _ many);
          few_nodes = leb-true (nodes I) 65536 (and_right (leb 1 (nodes I)) _ many);
          some_positive = leb-true 1 I.positive (and_left _ _ positive);
          few_positive = leb-true I.positive 8 (and_right (leb 1 I.positive) _ positive);
          no_negative = omega arith;
          tagged = eqb-true (length I.tags) (nodes I) (and_left _ _ lengths);
          ended = eqb-true (length I.ends) (words I) (and_right (eqb (length I.tags) (nodes I)) _ lengths);
          stacked = leb-true 64 s (and_right (depot_lengths_ok I) _ rest-good);
        }

  pub sized-yes : DepotSized I s → depot_size_ok I s ≡ true
  unfolding depot_size_ok nodes_ok words_ok depot_lengths_ok
  sized-yes z =
      and_both _ _
      (and_both _ _
      (and_both _ _ (le-leb 1 (nodes I) z.some_nodes) (le-leb (nodes I) 65536 z.few_nodes))
      (and_both _ _
      (and_both _ _ (le-leb 1 I.positive z.some_positive) (le-leb I.positive 8 z.few_positive))
      (and_both _ _ (le-leb (words I) 8 (omega (arith, z.no_negative, z.few_positive))) (le-leb I.negative 0 (omega (arith, z.no_negative))))))
      (and_both _ _
      (and_both _ _ (eq-eqb (length I.tags) (nodes I) z.tagged) (eq-eqb (length I.ends) (words I) z.ended))
      (le-leb 64 s z.stacked))

  pub sized-words : DepotSized I s → length I.ends ≡ I.positive
  sized-words z = omega (arith, z.ended, z.no_negative)

  pub sized_no : (DepotSized I s → ⊥) → depot_size_ok I s ≡ false
  sized_no h = bool_false (depot_size_ok I s) (λ e. h (sized_of e))

  -- Where all else holds, the stack decides.
  pub sized-last : (64 ≤ s → DepotSized I s) → leb 64 s ≡ depot_size_ok I s
  sized-last h = bool_ext (leb 64 s) (depot_size_ok I s) (λ q. sized-yes (h (leb-true 64 s q))) (λ q. le-leb 64 s (sized_of q).stacked)

-- ---- the reply where a line of the table is the first that applies
module _ (I : Index) (s : ℕ) (r : Reply) where
  pub checked-size : depot_size_ok I s ≡ false → depot_checked I s r ≡ refused SIZE 0
  unfolding depot_checked
  checked-size e = rw e

  pub sized_any : ((depot_checked I s r).refusal ≡ SIZE → ⊥) → DepotSized I s
  sized_any other = ⊎_elim (λ e. sized_of I s e) (λ e. absurd (other (ap (λ (x : Reply). x.refusal) (checked-size e)))) (bool_cases (depot_size_ok I s))

  module _ (z : depot_size_ok I s ≡ true) where
    pub checked-tree : tree_bad I.parents I.tags < nodes I → depot_checked I s r ≡ refused TREE (tree_bad I.parents I.tags)
    unfolding depot_checked
    checked-tree l = rw z (refusing-yes TREE _ (nodes I) _ l)

    module _ (t : nodes I ≤ tree_bad I.parents I.tags) where
      pub checked-list : lists_bad (nodes I) I.ends I.occurrences < words I → depot_checked I s r ≡ refused LIST (lists_bad (nodes I) I.ends I.occurrences)
      unfolding depot_checked
      checked-list l = rw z (refusing_no TREE _ (nodes I) _ t ∙ refusing-yes LIST _ (words I) _ l)

      pub checked-all : words I ≤ lists_bad (nodes I) I.ends I.occurrences → depot_checked I s r ≡ r
      unfolding depot_checked
      checked-all l = rw z (refusing_no TREE _ (nodes I) _ t ∙ refusing_no LIST _ (words I) _ l)

    -- Only the search itself could reply SIZE then.
    checked-other : (r.refusal ≡ SIZE → ⊥) → (depot_checked I s r).refusal ≡ SIZE → ⊥
    checked-other other q =
        ⊎_elim
        (λ t. omega (arith, q, ap (λ (x : Reply). x.refusal) (checked-tree t)))
        (λ t. ⊎_elim
        (λ b. omega (arith, q, ap (λ (x : Reply). x.refusal) (checked-list t b)))
        (λ b. other (sym (ap (λ (x : Reply). x.refusal) (checked-all t b)) ∙ q))
        (less_or (lists_bad (nodes I) I.ends I.occurrences) (words I)))
        (less_or (tree_bad I.parents I.tags) (nodes I))

  pub refused-size : (r.refusal ≡ SIZE → ⊥) → eqb (depot_checked I s r).refusal SIZE ≡ not (depot_size_ok I s)
  refused-size other =
      ⊎_elim (λ z. ne_eqb (depot_checked I s r).refusal SIZE (checked-other z other) ∙ sym (ap not z))
      (λ z. eq-eqb (depot_checked I s r).refusal SIZE (ap (λ (x : Reply). x.refusal) (checked-size z)) ∙ sym (ap not z)) (bool_cases (depot_size_ok I s))

-- ---- what the checks say of a search
pub record Clean (I : Index) (s : ℕ) : Type 0 where
  pub size : depot_size_ok I s ≡ true
  pub tree : nodes I ≤ tree_bad I.parents I.tags
  pub lists : words I ≤ lists_bad (nodes I) I.ends I.occurrences

pub clean-reply : (I : Index) (s : ℕ) (r : Reply) → Clean I s → depot_checked I s r ≡ r
clean-reply I s r c = checked-all I s r c.size c.tree c.lists

pub record Stopped (I : Index) (s : ℕ) : Type 0 where
  pub number : ℕ
  pub place : ℕ
  pub refuses : number ≡ accepted → ⊥
  pub reply : (r : Reply) → depot_checked I s r ≡ refused number place

pub clean_or_stopped : (I : Index) (s : ℕ) → Clean I s ⊎ Stopped I s
clean_or_stopped I s =
    ⊎_elim
    (λ z. ⊎_elim
    (λ t. inr (record { number = TREE; place = tree_bad I.parents I.tags; refuses = λ q. omega arith; reply = λ r. checked-tree I s r z t }))
    (λ t. ⊎_elim
    (λ b. inr (record { number = LIST; place = lists_bad (nodes I) I.ends I.occurrences; refuses = λ q. omega arith; reply = λ r. checked-list I s r z t b }))
    (λ b. inl (record { size = z; tree = t; lists = b }))
    (less_or (lists_bad (nodes I) I.ends I.occurrences) (words I)))
    (less_or (tree_bad I.parents I.tags) (nodes I)))
    (λ z. inr (record { number = SIZE; place = 0; refuses = λ q. omega arith; reply = λ r. checked-size I s r z }))
    (bool_cases (depot_size_ok I s))

-- ---- no second reply fits
pub check_unique : (I : Index) (s : ℕ) (r r' : Reply) → r ≡ depot_checked I s (totalled accepted 0) → r' ≡ depot_checked I s (totalled accepted 0) → r ≡ r'
check_unique I s r r' = outcome_unique
