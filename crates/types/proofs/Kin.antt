-- Twins: two children of one parent that have one tag are kin, and a twin is a node with kin.
--   kin-at, kin-of, kin-back         the test of a sibling with the node's tag, against the plain statement; it holds both ways
--   twin-at, twin-of                 a twin is a node with kin
--   level-under                      what is under a node is that node, or has a higher level
--   parent_between                   a node between two children of one parent, on their level, is a child of that parent
-- Letters: p parents, t tags, n nodes; v u b nodes. Assumes nothing.
use Prim.Native.Nat.{ℕ, zero, suc, ◌≤◌, ◌<◌}
use mathlib.Core.Path.{◌≡◌, sym, ap, ◌∙◌}
use mathlib.Core.Logic.{◌⊎◌, inl, inr, ⊎_elim}
use mathlib.Core.List.{List}
use mathlib.Core.Bool.{Bool, true, not, ◌&&◌}
use native.Mathlib.Nat.{not-suc-le-zero}
use native.Mathlib.Omega.{arith}
use lib.Dec.{eqb, ltb}
use borrow.Author.Tests.{lt-ltb, ltb-true, eq-eqb, ne_eqb, eqb-true, eqb-false, not-true}
use lib.ListN.{length}
use Rattle.seq.proofs.Laws.Bools.{and_left, and_right, and_both}
use Rattle.seq.proofs.Laws.Numbers.{rise}
use Rattle.seq.proofs.Laws.Below.{Found, some_at, some_of_lem}
use Rattle.tree.specs.Tree.{parent, child, level, under}
use Rattle.tree.specs.Plain.{Down, Preorder}
use Rattle.tree.proofs.Laws.Lines.{level-suc, under-root, under_self, under_cases, under-above}
use Rattle.tree.proofs.Laws.Under.{preorder-down, under-within}
use Rattle.answers.specs.Classes.{sibling, twin}
use Rattle.types.specs.Inner.Order.{tag}

-- u is another child of v's parent, with v's tag.
pub record Kin (p t : List ℕ) (v u : ℕ) : Type 0 where
  pub one : 0 < v
  pub two : 0 < u
  pub other : u ≡ v → ⊥
  pub parents : parent p v ≡ parent p u
  pub tags : tag t u ≡ tag t v

-- The same as a test.
abbrev kin : List ℕ → List ℕ → ℕ → ℕ → Bool
kin p t v u = sibling p v u && eqb (tag t u) (tag t v)

module _ (p t : List ℕ) (v u : ℕ) where
  kin-of : Kin p t v u → kin p t v u ≡ true
  unfolding sibling child
  kin-of k =
      and_both _ _
      (and_both _ _ (and_both _ _ (lt-ltb 0 v k.one) (and_both _ _ (lt-ltb 0 u k.two) (eq-eqb (parent p v) (parent p u) k.parents)))
      (ap not (ne_eqb u v k.other)))
      (eq-eqb (tag t u) (tag t v) k.tags)

  module _ (e : kin p t v u ≡ true) where
    is-sibling : sibling p v u ≡ true
    is-sibling = and_left (sibling p v u) _ e

    same_tag_lem : eqb (tag t u) (tag t v) ≡ true
    same_tag_lem = and_right (sibling p v u) _ e

    is-child : (ltb 0 v && child p (parent p v) u) ≡ true
    unfolding sibling
    is-child = and_left (ltb 0 v && child p (parent p v) u) _ is-sibling

    apart : not (eqb u v) ≡ true
    unfolding sibling
    apart = and_right (ltb 0 v && child p (parent p v) u) _ is-sibling

    of-parent : (ltb 0 u && eqb (parent p v) (parent p u)) ≡ true
    unfolding child
    of-parent = and_right (ltb 0 v) _ is-child

    kin-at : Kin p t v u
    kin-at = record {
      one = ltb-true 0 v (and_left _ _ is-child);
      two = ltb-true 0 u (and_left _ _ of-parent);
      other = eqb-false u v (not-true _ apart);
      parents = eqb-true (parent p v) (parent p u) (and_right (ltb 0 u) _ of-parent);
      tags = eqb-true (tag t u) (tag t v) same_tag_lem;
    }

pub kin-back : (p t : List ℕ) (v u : ℕ) → Kin p t v u → Kin p t u v
kin-back p t v u k = record { one = k.two; two = k.one; other = λ e. k.other (sym e); parents = sym k.parents; tags = sym k.tags }

-- ---- twins
pub twin-of : (p t : List ℕ) (v u : ℕ) → u < length p → Kin p t v u → twin p t v ≡ true
unfolding twin
twin-of p t v u l k = some_of_lem (length p) (kin p t v) u l (kin-of p t v u k)

pub record TwinFound (p t : List ℕ) (v : ℕ) : Type 0 where
  pub other : ℕ
  pub below : other < length p
  pub akin : Kin p t v other

pub twin-at : (p t : List ℕ) (v : ℕ) → twin p t v ≡ true → TwinFound p t v
unfolding twin
twin-at p t v e =
    let r : Found (length p) (kin p t v) = some_at (length p) (kin p t v) e in
    record { other = r.at; below = r.below; akin = kin-at p t v r.at r.passes }

-- ---- between two children
-- What is under v is v, or has a higher level.
pub level-under : (p : List ℕ) (n : ℕ) → Down p n → (v u : ℕ) → u < n → under p v u ≡ true → (v ≡ u) ⊎ (level p v < level p u)
level-under p n d v =
    rise (λ (u : ℕ). u < n → under p v u ≡ true → (v ≡ u) ⊎ (level p v < level p u)) (λ l e. inl (eqb-true v 0 (sym (under-root p v) ∙ e)))
    (λ u ih l e.
    let h : parent p (suc u) ≤ u = d u l in
    ⊎_elim (λ q. inl q)
    (λ q. inr (⊎_elim (λ (z : v ≡ parent p (suc u)). omega (arith, level-suc p n d u l, ap (level p) z)) (λ z. omega (arith, level-suc p n d u l, z))
    (ih (parent p (suc u)) h (omega arith) q)))
    (under_cases p n d v u l e))

-- A node between two children of one parent that has their level is a child of that parent too.
pub parent_between : (p : List ℕ) (n : ℕ) → Preorder p n → (u b v : ℕ) → 0 < u → u < b → b < v → v < n → parent p u ≡ parent p v → level p b ≡ level p v →
    parent p b ≡ parent p v
parent_between p n o zero b v a lu lb lv e f = absurd (not-suc-le-zero a)
parent_between p n o (suc u) zero v a lu lb lv e f = absurd (not-suc-le-zero lu)
parent_between p n o (suc u) (suc b) zero a lu lb lv e f = absurd (not-suc-le-zero lb)
parent_between p n o (suc u) (suc b) (suc v) a lu lb lv e f =
    ⊎_elim (λ z. absurd (early z)) (λ z. sym (⊎_elim (λ y. y) (λ y. absurd (low y)) (level-under p n d P (parent p (suc b)) before z)))
    (under_cases p n d P b (omega arith) between)
  where
    d : Down p n
    d = preorder-down p n o

    P : ℕ
    P = parent p (suc v)

    first : P ≤ u
    first = omega (arith, e, d u (omega arith))

    before : parent p (suc b) < n
    before = omega (arith, d b (omega arith))

    between : under p P (suc b) ≡ true
    between = under-within p n o P (suc v) (suc b) lv (under-above p n d P v lv (under_self p P)) (omega (arith, first)) (omega arith)

    early : P ≡ suc b → ⊥
    early z = omega (arith, first)

    low : level p P < level p (parent p (suc b)) → ⊥
    low y = omega (arith, y, f, level-suc p n d v lv, level-suc p n d b (omega arith))
