-- Laws of tops. Assumes nothing.
--   top_of-first, top_of-suc   the top passes down from parent to child, in the words of the code
--   top_of_ext                the top of a node asks the tests at nodes only
--   top-self, top-of         a valid node that passes is its own top; what has the top v is valid, and v is the nearest that passes at or above it
-- Letters: p parents, n nodes; neg f tests; v u x nodes.
use Prim.Native.Nat.{ℕ, suc, ◌≤◌, ◌<◌}
use mathlib.Core.Path.{◌≡◌, refl, sym, ap, ap₂, ◌∙◌}
use mathlib.Core.Logic.{◌⊎◌, inl, inr, ⊎_elim}
use mathlib.Core.List.{List}
use mathlib.Core.Bool.{Bool, true, false, not, cond, ◌&&◌, ◌||◌}
use native.Mathlib.Omega.{arith}
use lib.Dec.{ltb}
use borrow.Author.Tests.{lt-ltb, le-ltb}
use lib.ListN.{length}
use Rattle.seq.specs.Lists.{some_of, first_of}
use Rattle.seq.proofs.Laws.Bools.{bool_cases}
use Rattle.seq.proofs.Laws.Numbers.{rise}
use Rattle.seq.proofs.Laws.Lists.{first_of-none}
use Rattle.tree.specs.Tree.{parent, line}
use Rattle.tree.specs.Plain.{Down}
use Rattle.tree.proofs.Laws.Lines.{line-root, line-suc}
use Rattle.tree.proofs.Laws.Under.{under_le}
use Rattle.tree.proofs.Laws.Ways.{Nearest, line-some, nearest-at, nearest_unique}
use Rattle.answers.specs.Not.{valid}
use Rattle.answers.proofs.Laws.Not.{valid-first, valid-suc}
use Rattle.valid.specs.Inner.Tops.{top_of}

module _ (p : List ℕ) (d : Down p (length p)) (neg f : ℕ → Bool) where
  abbrev first : ℕ → ℕ
  first v = first_of f (length p) (line p v)

  -- Where some node at or above v passes, the first is the nearest.
  first_some : (v : ℕ) → v < length p → some_of f (line p v) ≡ true → Nearest p f v (first v)
  first_some v l e = nearest-at p (length p) d f (length p) v l e

  -- The first that passes is at or before v, or it is n.
  pub first_cases : (v : ℕ) → v < length p → Nearest p f v (first v) ⊎ (first v ≡ length p)
  first_cases v l =
      ⊎_elim (λ e. inl (first_some v l e)) (λ e. inr (first_of-none f (length p) (line p v) e)) (bool_cases (some_of f (line p v)))

  first_le : (v : ℕ) → v < length p → first v ≤ length p
  first_le v l = ⊎_elim (λ r. omega (arith, under_le p (length p) d (first v) v l r.above)) (λ e. omega (arith, e)) (first_cases v l)

  top-valid : (v : ℕ) → valid p neg v ≡ true → top_of p neg f v ≡ first v
  unfolding top_of
  top-valid v e = rw e

  top_invalid : (v : ℕ) → valid p neg v ≡ false → top_of p neg f v ≡ suc (length p)
  unfolding top_of
  top_invalid v e = rw e

  -- The top is past n exactly where the node is not valid.
  top-past : (v : ℕ) → v < length p → ltb (length p) (top_of p neg f v) ≡ not (valid p neg v)
  top-past v l =
      ⊎_elim (λ e. ap (ltb (length p)) (top-valid v e) ∙ le-ltb (length p) (first v) (first_le v l) ∙ sym (ap not e))
      (λ e. ap (ltb (length p)) (top_invalid v e) ∙ lt-ltb (length p) (suc (length p)) (omega arith) ∙ sym (ap not e))
      (bool_cases (valid p neg v))

  pub top_of-first : top_of p neg f 0 ≡ cond (neg 0 || ltb (length p) (length p)) (suc (length p)) (cond (f 0) 0 (length p))
  unfolding top_of first_of
  top_of-first = rw (valid-first p neg, line-root p, le-ltb (length p) (length p) (omega arith)) (turn (neg 0))
    where
      turn : (b : Bool) → cond (not b) (cond (f 0) 0 (length p)) (suc (length p)) ≡ cond (b || false) (suc (length p)) (cond (f 0) 0 (length p))
      turn true = refl
      turn false = refl

  top_of-step : (u : ℕ) → suc u < length p → top_of p neg f (suc u) ≡ cond (not (neg (suc u)) && valid p neg (parent p (suc u))) (cond (f (suc u)) (suc u) (first (parent p (suc u)))) (suc (length p))
  unfolding top_of first_of
  top_of-step u l = rw (valid-suc p (length p) d neg u l, line-suc p (length p) d u l)

  pub top_of-suc : (u : ℕ) → suc u < length p →
      top_of p neg f (suc u) ≡ cond (neg (suc u) || ltb (length p) (top_of p neg f (parent p (suc u)))) (suc (length p)) (cond (f (suc u)) (suc u) (top_of p neg f (parent p (suc u))))
  top_of-suc u l =
      let up : parent p (suc u) < length p = omega (arith, d u l) in
      top_of-step u l
      ∙ ⊎_elim (λ e. rw (top-past (parent p (suc u)) up, top-valid (parent p (suc u)) e, e) (turn (neg (suc u)) (cond (f (suc u)) (suc u) (first (parent p (suc u))))))
      (λ (e : valid p neg (parent p (suc u)) ≡ false). rw (top-past (parent p (suc u)) up, e) (none (neg (suc u)) (cond (f (suc u)) (suc u) (first (parent p (suc u)))) (cond (f (suc u)) (suc u) (top_of p neg f (parent p (suc u)))))) (bool_cases (valid p neg (parent p (suc u))))
    where
      turn : (b : Bool) (y : ℕ) → cond (not b && true) y (suc (length p)) ≡ cond (b || false) (suc (length p)) y
      turn true y = refl
      turn false y = refl

      none : (b : Bool) (y z : ℕ) → cond (not b && false) y (suc (length p)) ≡ cond (b || true) (suc (length p)) z
      none true y z = refl
      none false y z = refl

  -- ---- what a top says
  pub record TopAt (x v : ℕ) : Type 0 where
    pub valid : valid p neg x ≡ true
    pub nearest : Nearest p f x v

  -- What has a node for its top is valid, and that node is the nearest that passes at or above it.
  pub top-at : (x v : ℕ) → x < length p → v < length p → top_of p neg f x ≡ v → TopAt x v
  top-at x v lx lv e = ⊎_elim good (λ q. absurd (past (sym (top_invalid x q) ∙ e))) (bool_cases (valid p neg x))
    where
      past : suc (length p) ≡ v → ⊥
      past q = omega arith

      good : valid p neg x ≡ true → TopAt x v
      good q =
          ⊎_elim (λ r. record { valid = q; nearest = rw (sym (top-valid x q) ∙ e) at r })
          (λ r. absurd (none (sym r ∙ sym (top-valid x q) ∙ e))) (first_cases x lx)
        where
          none : length p ≡ v → ⊥
          none z = omega arith

  -- The nearest node that passes at or above a valid node is its top.
  pub top-of : (x v : ℕ) → x < length p → valid p neg x ≡ true → Nearest p f x v → top_of p neg f x ≡ v
  top-of x v l e r =
      top-valid x e ∙ nearest_unique p (length p) d f x (first x) v l (first_some x l (line-some p f v x r.passes r.above)) r

-- The top of a node asks the tests at nodes only.
pub top_of_ext : (p : List ℕ) → Down p (length p) → (neg neg' f f' : ℕ → Bool) →
    ((v : ℕ) → v < length p → neg v ≡ neg' v) → ((v : ℕ) → v < length p → f v ≡ f' v) → (v : ℕ) → v < length p → top_of p neg f v ≡ top_of p neg' f' v
top_of_ext p d neg neg' f f' a b =
    rise (λ (v : ℕ). v < length p → top_of p neg f v ≡ top_of p neg' f' v)
    (λ l. top_of-first p d neg f
    ∙ ap₂ (λ (x y : Bool). cond (x || ltb (length p) (length p)) (suc (length p)) (cond y 0 (length p))) (a 0 l) (b 0 l) ∙ sym (top_of-first p d neg' f'))
    (λ u ih l.
    let up : parent p (suc u) < length p = omega (arith, d u l) in
    top_of-suc p d neg f u l
    ∙ ap₂ (λ (x y : Bool). cond (x || ltb (length p) (top_of p neg f (parent p (suc u)))) (suc (length p)) (cond y (suc u) (top_of p neg f (parent p (suc u))))) (a (suc u) l) (b (suc u) l)
    ∙ ap (λ (z : ℕ). cond (neg' (suc u) || ltb (length p) z) (suc (length p)) (cond (f' (suc u)) (suc u) z)) (ih (parent p (suc u)) (d u l) up)
    ∙ sym (top_of-suc p d neg' f' u l))
