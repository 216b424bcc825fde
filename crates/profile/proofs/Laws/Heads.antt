-- Spans and common beginnings at the head of a row. Those from a place on are in proofs/Laws/Spans.
--   span-fails, span-passing   the span of a row whose first byte fails, or passes
--   span-next                  the byte after a span fails
--   common-whole               where all of a row is the common beginning, the other row begins with it
-- Letters as in specs/Spans. Assumes nothing.
use Prim.Native.Nat.{ℕ, suc}
use mathlib.Core.Path.{◌≡◌, refl, sym, ap, ◌∙◌}
use mathlib.Core.List.{List, [], ◌∷◌, ◌++◌}
use mathlib.Core.Bool.{Bool, true, false, cond}
use native.Mathlib.Omega.{arith}
use lib.Dec.{eqb}
use lib.ListN.{length, drop}
use borrow.Author.Tests.{eqb-true}
use Rattle.profile.specs.Spans.{span, common}

pub span-fails : (f : ℕ → Bool) (x : ℕ) (t : List ℕ) → f x ≡ false → span f (x ∷ t) ≡ 0
unfolding span
span-fails f x t e = rw e

pub span-passing : (f : ℕ → Bool) (x : ℕ) (t : List ℕ) → f x ≡ true → span f (x ∷ t) ≡ suc (span f t)
unfolding span
span-passing f x t e = rw e

pub span-next : (f : ℕ → Bool) (t : List ℕ) (x : ℕ) (u : List ℕ) → drop (span f t) t ≡ x ∷ u → f x ≡ false
unfolding span
span-next f [] x u e = absurd (nil-cons x u e)
  where
    nil-cons : (x : ℕ) (u : List ℕ) → ◌≡◌ {A = List ℕ} [] (x ∷ u) → ⊥
    nil-cons x u e = let z : 0 ≡ suc (length u) = ap length e in omega arith
span-next f (y ∷ t) x u e = go (f y) refl (span-next f t x u) e
  where
    head : List ℕ → ℕ
    head [] = 0
    head (x ∷ t) = x

    go : (b : Bool) → f y ≡ b → (drop (span f t) t ≡ x ∷ u → f x ≡ false) → drop (cond b (suc (span f t)) 0) (y ∷ t) ≡ x ∷ u → f x ≡ false
    go true q r e = r e
    go false q r e = ap f (sym (ap head e)) ∙ q

pub common-whole : (w t : List ℕ) → common w t ≡ length w → w ++ drop (length w) t ≡ t
unfolding common
common-whole [] t h = refl
common-whole (y ∷ w) [] h = absurd (no h)
  where
    no : 0 ≡ suc (length w) → ⊥
    no h = omega arith
common-whole (y ∷ w) (x ∷ t) h = go (eqb x y) refl h (common-whole w t)
  where
    no : 0 ≡ suc (length w) → ⊥
    no h = omega arith

    go : (b : Bool) → eqb x y ≡ b → cond b (suc (common w t)) 0 ≡ suc (length w) → (common w t ≡ length w → w ++ drop (length w) t ≡ t) →
        y ∷ (w ++ drop (length w) t) ≡ x ∷ t
    go true e h r = ap (λ z. z ∷ (w ++ drop (length w) t)) (sym (eqb-true x y e)) ∙ ap (λ l. x ∷ l) (r (omega arith))
    go false e h r = absurd (no h)
