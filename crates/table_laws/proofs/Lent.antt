-- Laws of the index that a table lends: its lists are the lists of the table, and they keep the rules. Assumes nothing.
--   word-lent      word j's list, as the index has it, is that of the table
--   lists-lent     so no word breaks a rule
-- Letters: T table, n its nodes; k words, j word.
use Prim.Native.Nat.{ℕ, zero, suc, ◌+◌, ◌-◌, ◌≤◌, ◌<◌}
use mathlib.Core.Path.{◌≡◌, refl, sym, ap, ap₂, ◌∙◌}
use mathlib.Core.Logic.{⊎_elim}
use mathlib.Core.List.{List, [], ◌∷◌}
use native.Mathlib.Nat.{eq-or-lt_of_le, le_of_suc-le-suc, not-le_of_lt}
use native.Mathlib.Omega.{arith}
use lib.ListN.{length, get_or, take, drop, length-append}
use lib.Seq.{take-nil, take-append-le, take-length, drop_at}
use Rattle.seq.specs.Below.{tabulate}
use Rattle.seq.proofs.Laws.Below.{first-is}
use Rattle.seq.proofs.Laws.Gather.{length-tabulate, get_d_tabulate}
use Rattle.seq.proofs.Laws.Members.{listed_below, listed-rising}
use Rattle.index.specs.Index.{start, word_list}
use Rattle.index.specs.Rules.{word_ok, lists_bad}
use Rattle.index.specs.Plain.{WordKept}
use Rattle.index.proofs.Laws.Lists.{word-yes}
use Rattle.sheet.specs.Table.{Table}
use Rattle.rows.specs.Lent.{list_of, lists_of, end_of}

-- The middle of a list, from the front.
middle : (n m : ℕ) (l : List ℕ) → take m (drop n l) ≡ drop n (take (n + m) l)
middle zero m l = ap (λ (k : ℕ). take k l) none
  where
    none : m ≡ 0 + m
    none = omega arith
middle (suc n) m [] = take-nil m ∙ sym (ap (drop (suc n)) (take-nil {A = ℕ} (suc n + m)))
middle (suc n) m (x ∷ l) = middle n m l ∙ ap (λ (k : ℕ). drop (suc n) (take k (x ∷ l))) next
  where
    next : suc (n + m) ≡ suc n + m
    next = omega arith

module _ (T : Table) where
  lists-grow : (j k : ℕ) → j ≤ k → length (lists_of T j) ≤ length (lists_of T k)
  unfolding lists_of
  lists-grow j zero h = rw (none h) (omega arith)
    where
      none : j ≤ 0 → j ≡ 0
      none q = omega arith
  lists-grow j (suc k) h =
      ⊎_elim (λ q. rw q (omega arith)) (λ q. omega (arith, length-append (lists_of T k) (list_of T k), lists-grow j k (le_of_suc-le-suc q))) (eq-or-lt_of_le h)

  lists-take : (j k : ℕ) → j ≤ k → take (length (lists_of T j)) (lists_of T k) ≡ lists_of T j
  unfolding lists_of
  lists-take j zero h = rw (none h)
    where
      none : j ≤ 0 → j ≡ 0
      none q = omega arith
  lists-take j (suc k) h =
      ⊎_elim (λ q. rw q (take-length (lists_of T (suc k))))
      (λ q. take-append-le (length (lists_of T j)) (lists_of T k) (list_of T k) (lists-grow j k (le_of_suc-le-suc q)) ∙ lists-take j k (le_of_suc-le-suc q))
      (eq-or-lt_of_le h)

  lists-step : (j : ℕ) → length (lists_of T (suc j)) ≡ length (lists_of T j) + length (list_of T j)
  unfolding lists_of
  lists-step j = length-append (lists_of T j) (list_of T j)

  start_is : (k j : ℕ) → j < k → start (tabulate k (end_of T)) j ≡ length (lists_of T j)
  unfolding start lists_of
  start_is k zero h = refl
  start_is k (suc j) h = get_d_tabulate k (end_of T) j 0 (omega arith)

  module _ (k j : ℕ) (h : j < k) where
    end-lent : get_or (tabulate k (end_of T)) j 0 ≡ length (lists_of T (suc j))
    end-lent = get_d_tabulate k (end_of T) j 0 h

    start-lent : start (tabulate k (end_of T)) j ≡ length (lists_of T j)
    start-lent = start_is k j h

    pub word-lent : word_list (tabulate k (end_of T)) (lists_of T k) j ≡ list_of T j
    unfolding word_list lists_of
    word-lent =
        ap₂ (λ (e b : ℕ). take (e - b) (drop b (lists_of T k))) end-lent start-lent
        ∙ middle (length (lists_of T j)) (length (lists_of T (suc j)) - length (lists_of T j)) (lists_of T k)
        ∙ ap (λ (m : ℕ). drop (length (lists_of T j)) (take m (lists_of T k))) whole
        ∙ ap (drop (length (lists_of T j))) (lists-take (suc j) k h)
        ∙ drop_at (lists_of T j) (list_of T j) (length (lists_of T j)) refl
      where
        whole : length (lists_of T j) + (length (lists_of T (suc j)) - length (lists_of T j)) ≡ length (lists_of T (suc j))
        whole = omega (arith, lists-step j)

    pub word_keeps : WordKept T.nodes (tabulate k (end_of T)) (lists_of T k) j
    word_keeps = record {
      rising = omega (arith, start-lent, end-lent, lists-step j);
      within = omega (arith, end-lent, lists-grow (suc j) k h);
      last = λ q. end-lent ∙ ap (λ (m : ℕ). length (lists_of T m)) (q ∙ length-tabulate k (end_of T));
      list = rw word-lent (record { increasing = listed-rising T.nodes _; below = listed_below T.nodes _ });
    }

  -- No word breaks a rule.
  pub lists-lent : (k : ℕ) → k ≤ lists_bad T.nodes (tabulate k (end_of T)) (lists_of T k)
  unfolding lists_bad
  lists-lent k =
      omega (
        arith,
        size,
        first-is (length (tabulate k (end_of T))) (word_ok T.nodes (tabulate k (end_of T)) (lists_of T k)) (length (tabulate k (end_of T))) (omega arith)
            (λ j l. word-yes T.nodes (tabulate k (end_of T)) (lists_of T k) j (word_keeps k j (omega (arith, size)))) (λ q. absurd (not-le_of_lt q (omega arith))),
      )
    where
      size : length (tabulate k (end_of T)) ≡ k
      size = length-tabulate k (end_of T)
