-- What is a node's own, by any test f in place of full: an occurrence under v and under no proper descendant of v that passes f. Assumes nothing.
--   own_if-outside   nothing outside v is v's own
--   own_if_self      v itself is
--   own_if-step      below v: what is at u is v's own if what is at its parent is, and u does not pass
--   own_if_ext       two tests that agree on every node
-- Letters: p parents, f g tests; v node, u w nodes below it, x occurrence.
use Prim.Native.Nat.{ℕ, suc, ◌<◌}
use mathlib.Core.Path.{◌≡◌, sym, ap, ◌∙◌}
use mathlib.Core.Logic.{⊎_elim}
use mathlib.Core.List.{List}
use mathlib.Core.Bool.{Bool, true, false, not, ◌&&◌}
use lib.ListN.{length}
use Rattle.seq.proofs.Laws.Bools.{bool_ext, and_left, and_right, and_both, and_false-left, not-of, not_at}
use Rattle.seq.proofs.Laws.Below.{Both, both_at, both_of, some_ext}
use Rattle.tree.specs.Tree.{parent, under, properly}
use Rattle.tree.specs.Plain.{Preorder}
use Rattle.tree.proofs.Laws.Lines.{under_self, under_cases, under-above}
use Rattle.tree.proofs.Laws.Under.{under_antisym, preorder-down}
use Rattle.tree.proofs.Laws.Ways.{properly-under, properly_ne, properly-parent}
use Rattle.reason.specs.Inner.{own_if}

-- A proper descendant of v that passes f and has x under it.
abbrev Between : List ℕ → (ℕ → Bool) → ℕ → ℕ → Type 0
Between p f v x = Both (length p) (λ u. properly p v u && f u) (λ u. under p u x)

module _ (p : List ℕ) (f : ℕ → Bool) (v : ℕ) where
  none_between : (x : ℕ) → own_if p f v x ≡ true → Between p f v x → ⊥
  unfolding own_if
  none_between x e b =
      not_at _ (and_right (under p v x) _ e) (both_of (length p) (λ u. properly p v u && f u) (λ u. under p u x) b.at b.below b.left b.right)

  of_none : (x : ℕ) → under p v x ≡ true → (Between p f v x → ⊥) → own_if p f v x ≡ true
  unfolding own_if
  of_none x e h = and_both _ _ e (not-of _ (λ q. h (both_at (length p) (λ u. properly p v u && f u) (λ u. under p u x) q)))

  pub own_if-outside : (x : ℕ) → under p v x ≡ false → own_if p f v x ≡ false
  unfolding own_if
  own_if-outside x e = and_false-left (under p v x) _ e

  module _ (o : Preorder p (length p)) (l : v < length p) where
    pub own_if_self : own_if p f v v ≡ true
    own_if_self =
        of_none v (under_self p v)
        (λ b. let a : properly p v b.at ≡ true = and_left (properly p v b.at) (f b.at) b.left in
        properly_ne p v b.at a (under_antisym p (length p) (preorder-down p (length p) o) v b.at l b.below (properly-under p v b.at a) b.right))

    pub own_if-step : (u : ℕ) → suc u < length p → properly p v (suc u) ≡ true → own_if p f v (suc u) ≡ (own_if p f v (parent p (suc u)) && not (f (suc u)))
    own_if-step u h a = bool_ext _ _ onward back
      where
        onward : own_if p f v (suc u) ≡ true → (own_if p f v (parent p (suc u)) && not (f (suc u))) ≡ true
        onward e =
            and_both _ _
            (of_none (parent p (suc u)) (properly-parent p (length p) (preorder-down p (length p) o) v u h a)
            (λ b. none_between (suc u) e (record {
              at = b.at;
              below = b.below;
              left = b.left;
              right = under-above p (length p) (preorder-down p (length p) o) b.at u h b.right;
            })))
            (not-of _ (λ q. none_between (suc u) e (record { at = suc u; below = h; left = and_both _ _ a q; right = under_self p (suc u) })))

        back : (own_if p f v (parent p (suc u)) && not (f (suc u))) ≡ true → own_if p f v (suc u) ≡ true
        back e = of_none (suc u) (properly-under p v (suc u) a) none
          where
            none : Between p f v (suc u) → ⊥
            none b =
                ⊎_elim
                (λ q. not_at _ (and_right (own_if p f v (parent p (suc u))) _ e) (ap f (sym q) ∙ and_right (properly p v b.at) (f b.at) b.left))
                (λ q. none_between (parent p (suc u)) (and_left (own_if p f v (parent p (suc u))) _ e) (record { at = b.at; below = b.below; left = b.left; right = q }))
                (under_cases p (length p) (preorder-down p (length p) o) b.at u h b.right)

pub own_if_ext : (p : List ℕ) (f g : ℕ → Bool) → ((u : ℕ) → u < length p → f u ≡ g u) → (v x : ℕ) → own_if p f v x ≡ own_if p g v x
unfolding own_if
own_if_ext p f g e v x =
    ap (λ (b : Bool). under p v x && not b) (some_ext (length p) _ _ (λ u l. ap (λ (b : Bool). (properly p v u && b) && under p u x) (e u l)))
