-- The search for the reason on a checked index: from counts and flags to the definitions. Assumes nothing.
--   missing-by, full_by_lem     the first word missing at a node, and whether the node is full, by the counts
--   look-missing            where a word is missing
--   own-by                  the flags are those of v's own occurrences
--   lowest_by_lem, unowned-by   the first flagged entry of a word's list; the first word that has none
--   looked                  where none is missing
-- Letters: p parents, occ occurrences, cs counts, fl the row of zeros, fl₁ the flags; v u nodes, x occurrence, j word.
use Prim.Native.Nat.{ℕ, ◌+◌, ◌-◌, ◌≤◌, ◌<◌}
use mathlib.Core.Path.{◌≡◌, refl, sym, ap, ◌∙◌, subst}
use mathlib.Core.Logic.{⊎_elim}
use mathlib.Core.List.{List}
use mathlib.Core.Bool.{Bool, true, false, not}
use native.Mathlib.Omega.{arith}
use borrow.Author.Tests.{lt-ltb, le-ltb}
use borrow.Rule.Slice.PartMut.{put_mid, mid_of}
use lib.Dec.{eqb, ltb, leb}
use lib.ListN.{length, get_or, drop, replicate, length-replicate, length-drop, get_or-replicate}
use lib.Seq.{ext_get_or, length-take-le}
use Rattle.std.specs.Prelude.{Option, Some, None}
use Rattle.seq.specs.Below.{tabulate}
use Rattle.seq.specs.Lists.{some_of, first_of, EachBelow}
use Rattle.seq.specs.Memory.{over}
use Rattle.seq.proofs.Laws.Bools.{flag-some, cond-true, cond-false}
use Rattle.seq.proofs.Laws.Below.{first_ext}
use Rattle.seq.proofs.Laws.Numbers.{less_or}
use Rattle.seq.proofs.Laws.Gather.{length-tabulate, get_d_tabulate, tabulate_ext}
use Rattle.seq.proofs.Laws.Lists.{some_of-tally, some_of_ext, first_of_ext}
use Rattle.seq.proofs.Laws.Memory.{over-nil}
use Rattle.seq.proofs.Laws.Parts.{put-long, put-before, put-inside, put-after}
use Rattle.tree.specs.Tree.{under}
use Rattle.tree.proofs.Laws.Under.{under-not, preorder-down}
use Rattle.tree.proofs.Laws.Spans.{last-below, span-start, past-span}
use Rattle.index.specs.Index.{word_list, count_under}
use Rattle.index.specs.Plain.{WordKept}
use Rattle.answers.specs.Answers.{full, own, own_count, elca}
use Rattle.reason.specs.declared.finding.Why.{Why}
use Rattle.reason.specs.declared.finding.Why.TheVariants.{NotFull}
use Rattle.reason.specs.Reasons.{NOT_FULL, NOT_LISTED, naming, missing, unowned, lowest_own}
use Rattle.reason.specs.Inner.{found_below, missing_by, none_missing, own_if, OwnFlagged, flagged, lowest_in, unowned_by, stops, FindPre, Finds, LookPre, Looked}
use Rattle.reason.proofs.Flagging.{bit}
use Rattle.reason.proofs.Laws.Counts.{test_none, test_some}
use Rattle.reason.proofs.Laws.Reasons.{full-missing, missing-elca, reason-missing, elca-unowned, reason-unowned, reason-elca, lowest-some, lowest-none}
use Rattle.reason.proofs.Laws.Own.{own_if-outside, own_if_ext}

module _ (p ends occ cs : List ℕ) (v : ℕ) (fl : List ℕ) (pre : LookPre p ends occ cs v fl) where
  abbrev n : ℕ
  n = length p

  abbrev k : ℕ
  k = length ends

  abbrev W : ℕ → List ℕ
  W = word_list ends occ

  missing-by : (u : ℕ) → u < n → missing_by cs n k u ≡ missing p k W u
  unfolding missing_by missing count_under
  missing-by u l = first_ext k _ _ (λ j h. ap (ltb 0) (pre.counts j u h l) ∙ sym (some_of-tally (under p u) (W j)))

  full_by_lem : (u : ℕ) → u < n → none_missing cs n k u ≡ full p k W u
  full_by_lem u l = ap (λ (z : ℕ). not (ltb z k)) (missing-by u l) ∙ sym (full-missing p k W u)

  -- ---- a word is missing, or none is
  module _ (r : Option ℕ) (e : r ≡ found_below k (missing_by cs n k v)) where
    module _ (j : ℕ) (s : r ≡ Some j) where
      found_one : (ltb (missing_by cs n k v) k ≡ true) × (j ≡ missing_by cs n k v)
      found_one = test_some (ltb (missing_by cs n k v) k) j (missing_by cs n k v) (sym s ∙ e)

      pub look-missing : Looked p ends occ v fl (NotFull j) fl
      look-missing = record {
        reason = ap (naming NOT_FULL) (found_one.1 ∙ missing-by v pre.node) ∙ sym (reason-missing p k W v none);
        occurrences = sym (lowest-none p k W v (missing-elca p k W v none));
        row = refl;
      }
        where
          none : full p k W v ≡ false
          none = sym (full_by_lem v pre.node) ∙ ap not found_one.0

    pub none-missing : r ≡ None → full p k W v ≡ true
    none-missing s = sym (full_by_lem v pre.node) ∙ ap not (test_none (ltb (missing_by cs n k v) k) (missing_by cs n k v) (sym s ∙ e))

  module _ (f : full p k W v ≡ true) (end : ℕ) (fl₁ : List ℕ) (g : OwnFlagged p cs k v end fl₁) where
    abbrev mine : ℕ → Bool
    mine = own p k W v

    own-by : (x : ℕ) → x < n → get_or fl₁ x 0 ≡ bit (mine x)
    unfolding own own_if
    own-by x l =
        ap (λ (t : List ℕ). get_or t x 0) g.flags ∙ get_d_tabulate n (λ x. bit (own_if p (none_missing cs n k) v x)) x 0 l
        ∙ ap bit (own_if_ext p (none_missing cs n k) (full p k W) full_by_lem v x)

    pub flags_long : length fl₁ ≡ n
    flags_long = ap length g.flags ∙ length-tabulate n _

    pub find-pre : FindPre ends occ fl₁
    find-pre = record {
      few_words = pre.few_words;
      words = λ j l. subst (λ (z : ℕ). WordKept z ends occ j) (sym flags_long) (pre.words j l);
    }

    below : (j : ℕ) → j < k → EachBelow n (W j)
    below j l = (pre.words j l).list.below

    flagged-by : (x : ℕ) → x < n → flagged fl₁ x ≡ mine x
    flagged-by x h = ap (λ (z : ℕ). not (eqb z 0)) (own-by x h) ∙ flag-some (mine x)

    lowest_by_lem : (j : ℕ) → j < k → lowest_in ends occ fl₁ j ≡ first_of mine 0 (W j)
    lowest_by_lem j l = first_of_ext (flagged fl₁) mine n 0 (W j) (below j l) flagged-by

    -- A word has an own occurrence where its own count is not 0.
    counted : (j : ℕ) → some_of mine (W j) ≡ leb 1 (own_count p k W v j)
    unfolding own_count
    counted j = some_of-tally mine (W j)

    unowned-by : unowned_by ends occ fl₁ ≡ unowned p k W v
    unfolding unowned_by unowned
    unowned-by = first_ext k _ _ (λ j l. some_of_ext (flagged fl₁) mine n (W j) (below j l) flagged-by ∙ counted j)

    stops-is : stops ends occ fl₁ ≡ ltb (unowned p k W v) k
    stops-is = ap (λ (z : ℕ). ltb z k) unowned-by

    -- What is found are the lowest.
    row_is : tabulate k (lowest_in ends occ fl₁) ≡ tabulate k (lowest_own p k W v)
    unfolding lowest_own
    row_is = tabulate_ext k _ _ lowest_by_lem

    -- ---- the row is cleared
    pub span_in : (v ≤ end) × (end ≤ length fl₁)
    span_in = (omega (arith, g.end, span-start p pre.preorder v pre.node), omega (arith, g.end, last-below p pre.preorder v pre.node, flags_long))

    abbrev wide : ℕ
    wide = end - v

    mid_long : length (mid_of v wide fl₁) ≡ wide
    mid_long = length-take-le wide (drop v fl₁) (omega (arith, length-drop v fl₁, span_in.1))

    module _ (z : List ℕ) (ez : z ≡ replicate (length (mid_of v wide fl₁)) 0) where
      z_long : length z ≡ wide
      z_long = ap length ez ∙ length-replicate (length (mid_of v wide fl₁)) 0 ∙ mid_long

      fits : v + wide ≤ length fl₁
      fits = omega (arith, span_in.0, span_in.1)

      zero_in : (i : ℕ) → i < wide → get_or z i 0 ≡ 0
      zero_in i l = ap (λ (t : List ℕ). get_or t i 0) ez ∙ get_or-replicate (length (mid_of v wide fl₁)) i 0 0 (omega (arith, mid_long))

      zero-out : (x : ℕ) → x < n → under p v x ≡ false → get_or fl₁ x 0 ≡ 0
      zero-out x l e =
          ap (λ (t : List ℕ). get_or t x 0) g.flags ∙ get_d_tabulate n (λ x. bit (own_if p (none_missing cs n k) v x)) x 0 l ∙ ap bit (own_if-outside p (none_missing cs n k) v x e)

      cleared_at : (x : ℕ) → x < n → get_or (put_mid v wide fl₁ z) x 0 ≡ 0
      cleared_at x l =
          ⊎_elim (λ h. put-before v wide fl₁ z fits z_long x h ∙ zero-out x l (under-not p n (preorder-down p n pre.preorder) v x l h))
          (λ h. ⊎_elim
          (λ a. ap (λ (y : ℕ). get_or (put_mid v wide fl₁ z) y 0) (at x h) ∙ put-inside v wide fl₁ z fits z_long (x - v) (omega (arith, span_in.0)) ∙ zero_in (x - v) (omega (arith, span_in.0)))
          (λ a. put-after v wide fl₁ z fits z_long x (omega (arith, span_in.0)) ∙ zero-out x l (past-span p pre.preorder v pre.node x l (omega (arith, g.end))))
          (less_or x end))
          (less_or x v)
        where
          at : (x : ℕ) → v ≤ x → x ≡ v + (x - v)
          at x h = omega arith

      zeros-long : length fl ≡ n
      zeros-long = ap length pre.zeros ∙ length-replicate n 0

      pub row-cleared : put_mid v wide fl₁ z ≡ fl
      row-cleared =
          ext_get_or 0 (put_mid v wide fl₁ z) fl (put-long v wide fl₁ z fits z_long ∙ flags_long ∙ sym zeros-long)
          (λ x h. let l : x < n = omega (arith, put-long v wide fl₁ z fits z_long, flags_long) in
          cleared_at x l ∙ sym (ap (λ (t : List ℕ). get_or t x 0) pre.zeros ∙ get_or-replicate n x 0 0 l))

      pub looked : (r : Why) → Finds ends occ fl₁ r → Looked p ends occ v fl r (put_mid v wide fl₁ z)
      looked r h = ⊎_elim unlisted listed (less_or (unowned p k W v) k)
        where
          unlisted : unowned p k W v < k → Looked p ends occ v fl r (put_mid v wide fl₁ z)
          unlisted a =
              let e : elca p k W v ≡ false = elca-unowned p k W v f ∙ ap not (lt-ltb (unowned p k W v) k a) in
              let t : stops ends occ fl₁ ≡ true = stops-is ∙ lt-ltb (unowned p k W v) k a in
              record {
                reason = h.reason ∙ cond-true (stops ends occ fl₁) t _ _ ∙ ap (naming NOT_LISTED) unowned-by ∙ sym (reason-unowned p k W v f e);
                occurrences =
                    h.occurrences ∙ ap (λ (x : List ℕ). over x (replicate 8 0)) (cond-true (stops ends occ fl₁) t _ _) ∙ over-nil (replicate 8 0)
                    ∙ sym (lowest-none p k W v e);
                row = row-cleared;
              }

          listed : k ≤ unowned p k W v → Looked p ends occ v fl r (put_mid v wide fl₁ z)
          listed a =
              let e : elca p k W v ≡ true = elca-unowned p k W v f ∙ ap not (le-ltb (unowned p k W v) k a) in
              let t : stops ends occ fl₁ ≡ false = stops-is ∙ le-ltb (unowned p k W v) k a in
              record {
                reason = h.reason ∙ cond-false (stops ends occ fl₁) t _ _ ∙ sym (reason-elca p k W v e);
                occurrences =
                    h.occurrences ∙ ap (λ (x : List ℕ). over x (replicate 8 0)) (cond-false (stops ends occ fl₁) t _ _ ∙ row_is) ∙ sym (lowest-some p k W v e);
                row = row-cleared;
              }
