-- What the flags mean: every word points to a node exactly where it is a valid SLCA. Assumes nothing.
--   slca-nearest   the SLCA above an occurrence is the nearest one: no SLCA is above another
--   flag-valid     the flag of a node says whether it is a valid SLCA
-- Letters: p parents; k words, W their lists; neg the test for negators; v w nodes, x occurrence, j word.
use Prim.Native.Nat.{ℕ, ◌≤◌, ◌<◌}
use mathlib.Core.Path.{◌≡◌, ap}
use mathlib.Core.Logic.{⊎_elim}
use mathlib.Core.List.{List}
use mathlib.Core.Bool.{Bool, true, cond, ◌&&◌}
use native.Mathlib.Nat.{ne_of_lt}
use native.Mathlib.Omega.{arith}
use lib.Dec.{eqb}
use borrow.Author.Tests.{eq-eqb, eqb-true}
use lib.ListN.{length, get_or}
use Rattle.seq.specs.Lists.{some_of, EachBelow}
use Rattle.seq.proofs.Laws.Bools.{bool_ext, and_left, and_right, and_both}
use Rattle.seq.proofs.Laws.Numbers.{less_or}
use Rattle.seq.proofs.Laws.Lists.{Entry, some_of-at, some_of-of}
use Rattle.tree.specs.Tree.{under}
use Rattle.tree.specs.Plain.{Preorder}
use Rattle.tree.proofs.Laws.Under.{parents-before, under_le, under-nested}
use Rattle.tree.proofs.Laws.Ways.{Nearest, properly-of}
use Rattle.answers.specs.Answers.{slca}
use Rattle.answers.specs.Not.{valid, valid_slca}
use Rattle.answers.proofs.Laws.Plain.{slca-full, slca-none}
use Rattle.answers.proofs.Laws.Not.{valid-slca-at, valid-slca-of, valid-slca-slca}
use Rattle.valid.specs.Inner.Tops.{top_of, reached, flag_here}
use Rattle.valid.proofs.Above.{TopAt, top-at, top-of}
use Rattle.valid.proofs.Reached.{reached-at, reached-of}

module _ (p : List ℕ) (o : Preorder p (length p)) (k : ℕ) (W : ℕ → List ℕ) (below : (j : ℕ) → j < k → EachBelow (length p) (W j)) where
  -- No SLCA is above another, so the one above an occurrence is the nearest.
  slca-nearest : (v x : ℕ) → x < length p → slca p k W v ≡ true → under p v x ≡ true → Nearest p (slca p k W) x v
  slca-nearest v x l e h = record { passes = e; above = h; lowest = λ w q a. ⊎_elim (λ b. absurd (over w q a b)) (λ b. under-nested p (length p) o w v x l a h b) (less_or v w) }
    where
      over : (w : ℕ) → slca p k W w ≡ true → under p w x ≡ true → v < w → ⊥
      over w q a b =
          let lw : w ≤ x = under_le p (length p) (parents-before p (length p) o) w x l a in
          slca-none p k W v e w (omega arith)
          (properly-of p v w (under-nested p (length p) o v w x l h a (omega arith)) (ne_of_lt b)) (slca-full p k W w q)

  module _ (neg : ℕ → Bool) where
    abbrev top : ℕ → ℕ
    top = top_of p neg (slca p k W)

    -- Word j points to v.
    abbrev pointed : ℕ → ℕ → Bool
    pointed v j = some_of (λ x. eqb (top x) v) (W j)

    -- What points to v is valid, and v is an SLCA above it.
    pointed-at : (v j : ℕ) → v < length p → j < k → (r : Entry (λ x. eqb (top x) v) (W j)) → TopAt p (parents-before p (length p) o) neg (slca p k W) (get_or (W j) r.at 0) v
    pointed-at v j l h r =
        top-at p (parents-before p (length p) o) neg (slca p k W) (get_or (W j) r.at 0) v (below j h r.at r.below) l (eqb-true _ v r.passes)

    seen-valid : (v : ℕ) → v < length p → 1 ≤ k → ((j : ℕ) → j < k → pointed v j ≡ true) → valid_slca p k W neg v ≡ true
    seen-valid v l some h =
        valid-slca-of p k W neg v (pointed-at v 0 l some (some_of-at _ (W 0) (h 0 some))).nearest.passes
        (λ j b. let r : Entry (λ x. eqb (top x) v) (W j) = some_of-at _ (W j) (h j b) in
        let a : TopAt p (parents-before p (length p) o) neg (slca p k W) (get_or (W j) r.at 0) v = pointed-at v j l b r in
        record { at = r.at; below = r.below; passes = and_both _ _ a.nearest.above a.valid })

    valid-seen : (v : ℕ) → valid_slca p k W neg v ≡ true → (j : ℕ) → j < k → pointed v j ≡ true
    valid-seen v e j b =
        let r : Entry (λ x. under p v x && valid p neg x) (W j) = valid-slca-at p k W neg v e j b in
        let x : ℕ = get_or (W j) r.at 0 in
        let lx : x < length p = below j b r.at r.below in
        some_of-of _ (W j) r.at r.below
        (eq-eqb (top x) v
        (top-of p (parents-before p (length p) o) neg (slca p k W) x v lx (and_right (under p v x) _ r.passes)
        (slca-nearest v x lx (valid-slca-slca p k W neg v e) (and_left (under p v x) _ r.passes))))

    pub flag-valid : (v : ℕ) → v < length p → 1 ≤ k → flag_here (reached (pointed v) k) k ≡ cond (valid_slca p k W neg v) 1 0
    unfolding flag_here
    flag-valid v l some =
        ap (λ (b : Bool). cond b 1 0)
        (bool_ext (eqb (reached (pointed v) k) k) (valid_slca p k W neg v)
        (λ e. seen-valid v l some (reached-at (pointed v) k (eqb-true _ k e))) (λ e. eq-eqb _ k (reached-of (pointed v) k (valid-seen v e))))
