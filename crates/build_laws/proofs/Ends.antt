-- Where the lists of a query's words stand, one after the other.
--   lists_le   the lists of the first words are no longer than those of more
--   end_is     word j's end is the length of the lists up to it, its own included;  start_is: it starts where those before it end
--   list-is    what stands between is word j's list
-- Letters: T text, Q query, k words, j word. Assumes nothing.
use Prim.Native.Nat.{ℕ, zero, suc, ◌+◌, ◌-◌, ◌≤◌, ◌<◌}
use mathlib.Core.Path.{◌≡◌, refl, sym, ap, ap₂, ◌∙◌}
use mathlib.Core.List.{List, [], ◌++◌, append_assoc, append-nil}
use native.Mathlib.Omega.{arith}
use lib.ListN.{length, get_or, take, drop, length-append}
use lib.Seq.{take-append_seam, drop-append_seam}
use Rattle.seq.proofs.Laws.Gather.{get_d_tabulate}
use Rattle.index.specs.Index.{start, word_list}
use Rattle.query.specs.Query.{Query}
use Rattle.plan.specs.Lists.{list_for, lists_to}
use Rattle.build.specs.Build.{ends_for}

module _ (T : List ℕ) (Q : Query) where
  lists-suc : (j : ℕ) → lists_to T Q (suc j) ≡ lists_to T Q j ++ list_for T Q j
  unfolding lists_to
  lists-suc j = refl

  -- The lists of d words from j on.
  after : ℕ → ℕ → List ℕ
  after j zero = []
  after j (suc d) = after j d ++ list_for T Q (j + d)

  lists-split : (j d : ℕ) → lists_to T Q (j + d) ≡ lists_to T Q j ++ after j d
  unfolding after
  lists-split j zero = let same : j + 0 ≡ j = omega arith in ap (lists_to T Q) same ∙ sym (append-nil (lists_to T Q j))
  lists-split j (suc d) =
      let next : j + suc d ≡ suc (j + d) = omega arith in
      ap (lists_to T Q) next ∙ lists-suc (j + d) ∙ ap (λ z. z ++ list_for T Q (j + d)) (lists-split j d) ∙ append_assoc (lists_to T Q j) (after j d) (list_for T Q (j + d))

  pub lists_le : (j k : ℕ) → j ≤ k → length (lists_to T Q j) ≤ length (lists_to T Q k)
  lists_le j k l =
      let all : j + (k - j) ≡ k = omega arith in
      omega (arith, ap length (sym (ap (lists_to T Q) all) ∙ lists-split j (k - j)), length-append (lists_to T Q j) (after j (k - j)))

  pub end_is : (k j : ℕ) → j < k → get_or (ends_for T Q k) j 0 ≡ length (lists_to T Q (suc j))
  unfolding ends_for
  end_is k j l = get_d_tabulate k (λ j. length (lists_to T Q (suc j))) j 0 l

  pub start_is : (k j : ℕ) → j < k → start (ends_for T Q k) j ≡ length (lists_to T Q j)
  unfolding start
  start_is k zero l = unfold lists_to in refl
  start_is k (suc j) l = end_is k j (omega arith)

  pub list-is : (k j : ℕ) → j < k → word_list (ends_for T Q k) (lists_to T Q k) j ≡ list_for T Q j
  unfolding word_list
  list-is k j l =
      ap₂ (λ (x y : ℕ). take (x - y) (drop y (lists_to T Q k))) (end_is k j l) (start_is k j l) ∙
      ap (λ z. take (length (lists_to T Q (suc j)) - length (lists_to T Q j)) (drop (length (lists_to T Q j)) z)) whole ∙
      ap (take (length (lists_to T Q (suc j)) - length (lists_to T Q j))) (drop-append_seam (lists_to T Q j) (list_for T Q j ++ more)) ∙
      ap (λ (z : ℕ). take z (list_for T Q j ++ more)) size ∙ take-append_seam (list_for T Q j) more
    where
      more : List ℕ
      more = after (suc j) (k - suc j)

      whole : lists_to T Q k ≡ lists_to T Q j ++ (list_for T Q j ++ more)
      whole =
          let all : suc j + (k - suc j) ≡ k = omega arith in
          sym (ap (lists_to T Q) all) ∙ lists-split (suc j) (k - suc j) ∙ ap (λ z. z ++ more) (lists-suc j) ∙ append_assoc (lists_to T Q j) (list_for T Q j) more

      size : length (lists_to T Q (suc j)) - length (lists_to T Q j) ≡ length (list_for T Q j)
      size = omega (arith, ap length (lists-suc j), length-append (lists_to T Q j) (list_for T Q j))
