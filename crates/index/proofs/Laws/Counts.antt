-- Entries of counts: the test of an entry passes exactly where it is right. Assumes nothing.
--   entry-word, entry-node      entry j * n + v is word j's at node v
--   count_kept, count_yes       one entry
--   counts_each, counts-entry   all entries
-- Letters: I index; n nodes; j word, v node, e entry.
use Prim.Native.Nat.{ℕ, ◌+◌, ◌*◌, ◌/◌, ◌%◌, ◌≤◌, ◌<◌}
use mathlib.Core.Path.{◌≡◌, refl, sym, ap, ap₂, ◌∙◌}
use mathlib.Core.Bool.{true}
use native.Mathlib.Nat.{mul-add-div_right, mul-add-mod_self_right, div-eq_of_lt, mod-eq_of_lt, add-zero, div-lt_iff_lt-mul, mod-lt, div-add-mod'}
use native.Mathlib.Omega.{arith}
use borrow.Author.Tests.{eq-eqb, eqb-true}
use lib.ListN.{length}
use Rattle.seq.proofs.Laws.Numbers.{row_le}
use Rattle.index.specs.Index.{Index, nodes, word_list, count_under, true_count}
use Rattle.index.specs.Rules.{count_ok}
use Rattle.index.specs.Plain.{CountKept, CountsKept}

pub entry-word : (n j v : ℕ) → v < n → (j * n + v) / n ≡ j
entry-word n j v l = mul-add-div_right (omega arith) j v ∙ ap (λ (z : ℕ). j + z) (div-eq_of_lt l) ∙ add-zero j

pub entry-node : (n j v : ℕ) → v < n → (j * n + v) % n ≡ v
entry-node n j v l = mul-add-mod_self_right j n v ∙ mod-eq_of_lt l

module _ (I : Index) where
  pub count_kept : (e : ℕ) → count_ok I.parents I.ends I.occurrences I.counts e ≡ true → CountKept I e
  unfolding count_ok true_count
  count_kept e q j v b h =
      eqb-true _ _ q
      ∙ ap₂ (λ (x y : ℕ). count_under I.parents (word_list I.ends I.occurrences x) y)
      (ap (λ (z : ℕ). z / nodes I) h ∙ entry-word (nodes I) j v b) (ap (λ (z : ℕ). z % nodes I) h ∙ entry-node (nodes I) j v b)

  pub counts_each : ((e : ℕ) → e < length I.ends * nodes I → CountKept I e) → CountsKept I
  counts_each each j v a b = each (j * nodes I + v) (omega (arith, row_le j (length I.ends) (nodes I) a)) j v b refl

  module _ (s : 1 ≤ nodes I) where
    pub count_yes : (e : ℕ) → CountKept I e → count_ok I.parents I.ends I.occurrences I.counts e ≡ true
    unfolding count_ok true_count
    count_yes e k = eq-eqb _ _ (k (e / nodes I) (e % nodes I) (mod-lt e s) (sym (div-add-mod' e (nodes I))))

    pub counts-entry : CountsKept I → (e : ℕ) → e < length I.ends * nodes I → CountKept I e
    counts-entry all e l j v b q =
        let word : e / nodes I < length I.ends = (div-lt_iff_lt-mul s).1 l in
        rw q (all j v (omega (arith, word, ap (λ (z : ℕ). z / nodes I) q, entry-word (nodes I) j v b)) b)
