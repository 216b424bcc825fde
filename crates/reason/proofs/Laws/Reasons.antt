-- The reason of a node by its cases, from the definitions alone. Assumes nothing.
--   full-missing, missing-less, reason-missing    a node is full where no word is missing; if it is not, that word is named
--   elca-unowned, unowned-less, reason-unowned    a full node is listed where no own count is 0; if it is not, that word is named
--   reason-elca, listed-elca                      the reason is `LISTED` exactly at an ELCA
--   lowest-some, lowest-none, unlisted_zeros      the occurrences of an ELCA, and of any other node
-- Letters: p parents; k words, W their lists; v node, j word.
use Prim.Native.Nat.{ℕ, ◌<◌}
use mathlib.Core.Path.{◌≡◌, sym, ap, ◌∙◌}
use mathlib.Core.Logic.{⊎_elim}
use mathlib.Core.List.{List}
use mathlib.Core.Bool.{Bool, true, false, not, ◌&&◌}
use native.Mathlib.Omega.{arith}
use borrow.Author.Tests.{ltb-true, not-false}
use lib.Dec.{ltb, leb}
use lib.ListN.{replicate}
use Rattle.seq.specs.Below.{every_below, tabulate}
use Rattle.seq.specs.Lists.{some_of}
use Rattle.seq.specs.Memory.{over}
use Rattle.seq.proofs.Laws.Bools.{bool_cases, cond-true, cond-false, and_false-left}
use Rattle.seq.proofs.Laws.Below.{every_first}
use Rattle.seq.proofs.Laws.Memory.{over-nil}
use Rattle.tree.specs.Tree.{under}
use Rattle.answers.specs.Answers.{full, own_count, elca}
use Rattle.answers.proofs.Laws.Plain.{elca-full}
use Rattle.reason.specs.Reasons.{Naming, NOT_FULL, NOT_LISTED, LISTED, naming, missing, unowned, reason_of, lowest_own, lowest_owns}

module _ (p : List ℕ) (k : ℕ) (W : ℕ → List ℕ) (v : ℕ) where
  -- ---- not full
  pub full-missing : full p k W v ≡ not (ltb (missing p k W v) k)
  unfolding full missing
  full-missing = every_first k (λ j. some_of (under p v) (W j))

  module _ (f : full p k W v ≡ false) where
    pub missing-less : missing p k W v < k
    missing-less = ltb-true (missing p k W v) k (not-false (ltb (missing p k W v) k) (sym full-missing ∙ f))

    pub reason-missing : reason_of p k W v ≡ naming NOT_FULL (missing p k W v)
    unfolding reason_of
    reason-missing = cond-false (full p k W v) f _ _

    pub missing-elca : elca p k W v ≡ false
    unfolding elca
    missing-elca = and_false-left (full p k W v) _ f

  -- ---- full
  module _ (f : full p k W v ≡ true) where
    pub elca-unowned : elca p k W v ≡ not (ltb (unowned p k W v) k)
    unfolding elca unowned
    elca-unowned = ap (λ (b : Bool). b && every_below k (λ j. leb 1 (own_count p k W v j))) f ∙ every_first k (λ j. leb 1 (own_count p k W v j))

    module _ (e : elca p k W v ≡ false) where
      pub unowned-less : unowned p k W v < k
      unowned-less = ltb-true (unowned p k W v) k (not-false (ltb (unowned p k W v) k) (sym elca-unowned ∙ e))

      pub reason-unowned : reason_of p k W v ≡ naming NOT_LISTED (unowned p k W v)
      unfolding reason_of
      reason-unowned = cond-true (full p k W v) f _ _ ∙ cond-false (elca p k W v) e _ _

  -- ---- listed
  module _ (e : elca p k W v ≡ true) where
    pub reason-elca : reason_of p k W v ≡ naming LISTED 0
    unfolding reason_of
    reason-elca = cond-true (full p k W v) (elca-full p k W v e) _ _ ∙ cond-true (elca p k W v) e _ _

    pub lowest-some : lowest_owns p k W v ≡ over (tabulate k (lowest_own p k W v)) (replicate 8 0)
    unfolding lowest_owns
    lowest-some = ap (λ (t : List ℕ). over t (replicate 8 0)) (cond-true (elca p k W v) e _ _)

  pub lowest-none : elca p k W v ≡ false → lowest_owns p k W v ≡ replicate 8 0
  unfolding lowest_owns
  lowest-none e = ap (λ (t : List ℕ). over t (replicate 8 0)) (cond-false (elca p k W v) e _ _) ∙ over-nil (replicate 8 0)

  -- ---- by the number
  -- The reason of a node that is no ELCA has another number.
  unlisted : elca p k W v ≡ false → (reason_of p k W v).number ≡ LISTED → ⊥
  unlisted e q =
      ⊎_elim
      (λ f. two-three (sym (ap (λ (t : Naming). t.number) (reason-unowned f e)) ∙ q))
      (λ f. one-three (sym (ap (λ (t : Naming). t.number) (reason-missing f)) ∙ q))
      (bool_cases (full p k W v))
    where
      two-three : NOT_LISTED ≡ LISTED → ⊥
      two-three z = omega arith

      one-three : NOT_FULL ≡ LISTED → ⊥
      one-three z = omega arith

  pub listed-elca : (reason_of p k W v).number ≡ LISTED → elca p k W v ≡ true
  listed-elca q = ⊎_elim (λ e. e) (λ e. absurd (unlisted e q)) (bool_cases (elca p k W v))

  pub unlisted_zeros : ((reason_of p k W v).number ≡ LISTED → ⊥) → lowest_owns p k W v ≡ replicate 8 0
  unlisted_zeros ne = ⊎_elim (λ e. absurd (ne (ap (λ (t : Naming). t.number) (reason-elca e)))) lowest-none (bool_cases (elca p k W v))
