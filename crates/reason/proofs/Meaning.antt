-- Reasons in plain words: what `reason_of` tells of a node is so, nothing else is, and the occurrences of a listed node are the lowest of its own. Assumes nothing.
--   reason-holds      the reason is true
--   reason-only       no other is: exactly one of the three cases holds, with one word
--   one-reason        both, of every node of a right index
--   reason-listed     its number is `LISTED` exactly at an ELCA
--   lowest-holds      the occurrences of a listed node; lowest-right of a right index
--   lowest_unique     and no other 8 numbers are these
-- Letters: p parents; k words, W their lists, which rise; v node, x y occurrences, j i words; t what is told, l the 8 occurrences; I index.
use Prim.Native.Nat.{ℕ, ◌≤◌, ◌<◌}
use mathlib.Core.Path.{◌≡◌, sym, ap, ◌∙◌, subst}
use mathlib.Core.Logic.{◌↔◌, ⊎_elim}
use mathlib.Core.List.{List}
use mathlib.Core.Bool.{true, false, not, ◌&&◌}
use native.Mathlib.Nat.{le_antisymm}
use native.Mathlib.Omega.{arith}
use lib.Dec.{eqb, ltb, leb}
use borrow.Author.Tests.{lt-ltb, leb-true, leb-false, le-leb, lt-leb, eq-eqb, eqb-true}
use lib.ListN.{length, get_or, replicate, length-replicate, get_or-replicate, get_or-eq_default}
use lib.Seq.{ext_get_or}
use Rattle.seq.specs.Below.{some_below, tabulate}
use Rattle.seq.specs.Lists.{some_of, EachBelow}
use Rattle.seq.specs.Plain.{Among}
use Rattle.seq.proofs.Laws.Bools.{bool_cases, bool_false, bool-not_both, and_left, and_right, and_both}
use Rattle.seq.proofs.Laws.Below.{Both, both_at, first-is, first-at, first_below}
use Rattle.seq.proofs.Laws.Numbers.{less_or}
use Rattle.seq.proofs.Laws.Gather.{length-tabulate, get_d_tabulate}
use Rattle.seq.proofs.Laws.Lists.{Entry, some_of-at, some_of-of, some_of-tally, first_of-passes}
use Rattle.seq.proofs.Laws.Members.{Rising, member_of, member_below, first_of_member, first_of-lowest}
use Rattle.seq.proofs.Laws.Memory.{length_over, over-front, over-rest}
use Rattle.tree.specs.Tree.{under, properly}
use Rattle.tree.specs.Plain.{Down, Preorder}
use Rattle.tree.proofs.Laws.Under.{under-plain, under-of-plain, preorder-down}
use Rattle.index.specs.Index.{Index, wanted}
use Rattle.index.specs.Plain.{Right}
use Rattle.answers.specs.Answers.{full, own, own_count, elca}
use Rattle.answers.specs.Plain.{Occurs, Elca}
use Rattle.answers.proofs.Laws.Meaning.{ancestor-plain, occurs-plain, full-plain, own-plain, elca-plain}
use Rattle.answers.proofs.Laws.Plain.{elca-own}
use Rattle.answers.proofs.Laws.Counts.{lists-below}
use Rattle.reason.specs.Reasons.{Naming, NOT_FULL, NOT_LISTED, LISTED, naming, missing, unowned, reason_of, lowest_own, lowest_owns}
use Rattle.reason.specs.Plain.{Missing, Covers, Unowned, LowestOwn, Lowest, TrueOf, true_not_full, true_not_listed, true_listed, OneReason}
use Rattle.reason.proofs.Laws.Reasons.{full-missing, missing-less, reason-missing, elca-unowned, unowned-less, reason-unowned, reason-elca, lowest-some, listed-elca}

-- ---- entries of a list
on_list : (l : List ℕ) (x : ℕ) → (some_of (eqb x) l ≡ true) ↔ Among (length l) l x
on_list l x = (
  λ e. let r : Entry (eqb x) l = some_of-at (eqb x) l e in
      record { at = r.at; within = r.below; is = sym (eqb-true x (get_or l r.at 0) r.passes) },
  λ r. some_of-of (eqb x) l r.at r.within (eq-eqb x (get_or l r.at 0) (sym r.is)),
)

module _ (p : List ℕ) (o : Preorder p (length p)) (k : ℕ) (W : ℕ → List ℕ) (b : (j : ℕ) → j < k → EachBelow (length p) (W j)) (v : ℕ) where
  d : Down p (length p)
  d = preorder-down p (length p) o

  occurs : (j : ℕ) → j < k → (some_of (under p v) (W j) ≡ true) ↔ Occurs p (W j) v
  occurs j l = (
    λ e. (occurs-plain p d (W j) (b j l) v).0 (some_of-at (under p v) (W j) e),
    λ h. let r : Entry (under p v) (W j) = (occurs-plain p d (W j) (b j l) v).1 h in
        some_of-of (under p v) (W j) r.at r.below r.passes,
  )

  -- ---- not full
  missing-holds : full p k W v ≡ false → Missing p k W v (missing p k W v)
  unfolding missing
  missing-holds f =
      let l : missing p k W v < k = missing-less p k W v f in
      record {
        word = l;
        none = λ h. bool-not_both (some_of (under p v) (W (missing p k W v))) ((occurs (missing p k W v) l).1 h) (first-at k (λ j. some_of (under p v) (W j)) l);
        earlier = λ i h. (occurs i (omega arith)).0 (first_below k (λ j. some_of (under p v) (W j)) i h);
      }

  missing-only : (j : ℕ) → Missing p k W v j → naming NOT_FULL j ≡ reason_of p k W v
  unfolding missing
  missing-only j m = ap (naming NOT_FULL) first ∙ sym (reason-missing p k W v none)
    where
      first : j ≡ missing p k W v
      first =
          first-is k (λ i. some_of (under p v) (W i)) j (omega (arith, m.word)) (λ i h. (occurs i (omega (arith, m.word))).1 (m.earlier i h))
          (λ h. bool_false (some_of (under p v) (W j)) (λ e. m.none ((occurs j h).0 e)))

      none : full p k W v ≡ false
      none = full-missing p k W v ∙ ap not (lt-ltb (missing p k W v) k (omega (arith, m.word, first)))

  -- ---- full, but not listed
  -- An occurrence under v that is not v's own is under a full proper descendant of v.
  covers : (x : ℕ) → x < length p → under p v x ≡ true → own p k W v x ≡ false → Covers p k W v x
  unfolding own
  covers x l u e =
      ⊎_elim found (λ q. absurd (bool-not_both (own p k W v x) (and_both (under p v x) _ u (ap not q)) e))
      (bool_cases (some_below (length p) (λ u. (properly p v u && full p k W u) && under p u x)))
    where
      found : some_below (length p) (λ u. (properly p v u && full p k W u) && under p u x) ≡ true → Covers p k W v x
      found q =
          let r : Both (length p) (λ u. properly p v u && full p k W u) (λ u. under p u x) = both_at (length p) (λ u. properly p v u && full p k W u) (λ u. under p u x) q in
          record {
            node = r.at;
            below = (ancestor-plain p d v r.at r.below).0 (and_left (properly p v r.at) (full p k W r.at) r.left);
            full = (full-plain p d k W b r.at).0 (and_right (properly p v r.at) (full p k W r.at) r.left);
            over = under-plain p (length p) d r.at x l r.right;
          }

  -- A word with the own count 0 has no own occurrence.
  none-own : (j : ℕ) → own_count p k W v j ≡ 0 → (x : ℕ) → some_of (eqb x) (W j) ≡ true → own p k W v x ≡ false
  unfolding own_count
  none-own j z x h =
      bool_false (own p k W v x)
      (λ e. bool-not_both (some_of (own p k W v) (W j)) (member_of (own p k W v) (W j) x h e) (some_of-tally (own p k W v) (W j) ∙ ap (ltb 0) z))

  unowned-holds : full p k W v ≡ true → elca p k W v ≡ false → Unowned p k W v (unowned p k W v)
  unfolding unowned
  unowned-holds f e =
      let l : unowned p k W v < k = unowned-less p k W v f e in
      let z : own_count p k W v (unowned p k W v) ≡ 0 =
      omega (arith, leb-false 1 (own_count p k W v (unowned p k W v)) (first-at k (λ j. leb 1 (own_count p k W v j)) l)) in
      record {
        full = (full-plain p d k W b v).0 f;
        word = l;
        none = z;
        covered = λ x h u.
            let m : some_of (eqb x) (W (unowned p k W v)) ≡ true = (on_list (W (unowned p k W v)) x).1 h in
            let lx : x < length p = member_below (length p) (W (unowned p k W v)) (b (unowned p k W v) l) x m in
            covers x lx (under-of-plain p (length p) d v x lx u) (none-own (unowned p k W v) z x m);
        earlier = λ i h. leb-true 1 (own_count p k W v i) (first_below k (λ j. leb 1 (own_count p k W v j)) i h);
      }

  unowned-only : (j : ℕ) → Unowned p k W v j → naming NOT_LISTED j ≡ reason_of p k W v
  unfolding unowned
  unowned-only j u = ap (naming NOT_LISTED) first ∙ sym (reason-unowned p k W v is-full none)
    where
      is-full : full p k W v ≡ true
      is-full = (full-plain p d k W b v).1 u.full

      first : j ≡ unowned p k W v
      first =
          first-is k (λ i. leb 1 (own_count p k W v i)) j (omega (arith, u.word)) (λ i h. le-leb 1 (own_count p k W v i) (u.earlier i h))
          (λ h. lt-leb 1 (own_count p k W v j) (omega (arith, u.none)))

      none : elca p k W v ≡ false
      none = elca-unowned p k W v is-full ∙ ap not (lt-ltb (unowned p k W v) k (omega (arith, u.word, first)))

  -- ---- which of them
  pub reason-holds : TrueOf p k W v (reason_of p k W v)
  reason-holds =
      ⊎_elim
      (λ f. ⊎_elim
      (λ e. subst (TrueOf p k W v) (sym (reason-elca p k W v e)) (true_listed ((elca-plain p d k W b v).0 e)))
      (λ e. subst (TrueOf p k W v) (sym (reason-unowned p k W v f e)) (true_not_listed (unowned-holds f e)))
      (bool_cases (elca p k W v)))
      (λ f. subst (TrueOf p k W v) (sym (reason-missing p k W v f)) (true_not_full (missing-holds f)))
      (bool_cases (full p k W v))

  pub reason-only : (t : Naming) → TrueOf p k W v t → t ≡ reason_of p k W v
  reason-only t (true_not_full {j} m) = missing-only j m
  reason-only t (true_not_listed {j} u) = unowned-only j u
  reason-only t (true_listed e) = sym (reason-elca p k W v ((elca-plain p d k W b v).1 e))

  -- The reason is `listed` exactly where v is an ELCA.
  pub reason-listed : ((reason_of p k W v).number ≡ LISTED) ↔ Elca p k W v
  reason-listed = (
    λ q. (elca-plain p d k W b v).0 (listed-elca p k W v q),
    λ h. ap (λ (t : Naming). t.number) (reason-elca p k W v ((elca-plain p d k W b v).1 h)),
  )

  -- ---- the occurrences of a listed node
  module _ (rises : (j : ℕ) → j < k → Rising (W j)) (e : elca p k W v ≡ true) where
    lowest-own : (j : ℕ) → j < k → LowestOwn p k W v j (lowest_own p k W v j)
    unfolding lowest_own
    lowest-own j l =
        let r : Entry (own p k W v) (W j) = elca-own p k W v e j l in
        let some : some_of (own p k W v) (W j) ≡ true = some_of-of (own p k W v) (W j) r.at r.below r.passes in
        let m : some_of (eqb (lowest_own p k W v j)) (W j) ≡ true = first_of_member (own p k W v) 0 (W j) some in
        record {
          occurs = (on_list (W j) (lowest_own p k W v j)).0 m;
          own = (own-plain p d k W b v (lowest_own p k W v j) (member_below (length p) (W j) (b j l) (lowest_own p k W v j) m)).0 (first_of-passes (own p k W v) 0 (W j) some);
          lowest = λ y h q.
              let my : some_of (eqb y) (W j) ≡ true = (on_list (W j) y).1 h in
              first_of-lowest (own p k W v) 0 (W j) (rises j l) y my ((own-plain p d k W b v y (member_below (length p) (W j) (b j l) y my)).1 q);
        }

    pub lowest-holds : k ≤ 8 → Lowest p k W v (lowest_owns p k W v)
    lowest-holds few = rw (lowest-some p k W v e) (record {
      long = length_over new old (omega (arith, length-tabulate k (lowest_own p k W v), length-replicate {A = ℕ} 8 0)) ∙ length-replicate {A = ℕ} 8 0;
      each = λ j l. rw (over-front new old j (omega (arith, length-tabulate k (lowest_own p k W v))), get_d_tabulate k (lowest_own p k W v) j 0 l) (lowest-own j l);
      rest = λ j l. over-rest new old j (omega (arith, length-tabulate k (lowest_own p k W v))) ∙ zero-at j;
    })
      where
        new : List ℕ
        new = tabulate k (lowest_own p k W v)

        old : List ℕ
        old = replicate 8 0

        zero-at : (j : ℕ) → get_or old j 0 ≡ 0
        zero-at j = ⊎_elim (λ l. get_or-replicate 8 j 0 0 l) (λ l. get_or-eq_default old 0 {n = j} (omega (arith, length-replicate {A = ℕ} 8 0))) (less_or j 8)

-- No other 8 numbers are the lowest own occurrences.
pub lowest_unique : (p : List ℕ) (k : ℕ) (W : ℕ → List ℕ) (v : ℕ) (l m : List ℕ) → Lowest p k W v l → Lowest p k W v m → l ≡ m
lowest_unique p k W v l m a c =
    ext_get_or 0 l m (a.long ∙ sym c.long) (λ j h. ⊎_elim (λ q. le_antisymm (half a c j q) (half c a j q)) (λ q. a.rest j q ∙ sym (c.rest j q)) (less_or j k))
  where
    half : {s t : List ℕ} → Lowest p k W v s → Lowest p k W v t → (j : ℕ) → j < k → get_or s j 0 ≤ get_or t j 0
    half {s} {t} x y j q = (x.each j q).lowest (get_or t j 0) (y.each j q).occurs (y.each j q).own

-- ---- of a right index
module _ (I : Index) (R : Right I) (some : I.positive ≤ length I.ends) (v : ℕ) where
  pub one-reason : OneReason I.parents I.positive (wanted I) v (reason_of I.parents I.positive (wanted I) v)
  one-reason = record {
    holds = reason-holds I.parents R.tree.preorder I.positive (wanted I) (lists-below I R some) v;
    only = reason-only I.parents R.tree.preorder I.positive (wanted I) (lists-below I R some) v;
  }

  pub lowest-right : I.positive ≤ 8 → elca I.parents I.positive (wanted I) v ≡ true →
      Lowest I.parents I.positive (wanted I) v (lowest_owns I.parents I.positive (wanted I) v)
  lowest-right few e =
      lowest-holds I.parents R.tree.preorder I.positive (wanted I) (lists-below I R some) v
      (λ j l. (R.lists j (omega arith)).list.increasing) e few
