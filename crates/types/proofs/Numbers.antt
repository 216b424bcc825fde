-- Numbers of types: the lowest node of a type stands for it. Nodes of one type have one number, and nodes of one number are of one type.
--   number_same, number_is            the number is the type's alone, and tells it from others
--   number_type, number-lowest        the number is a node of the type, and the lowest
--   number_le, number-node            so it is no higher than a node of the type
--   number_self, number-root, number-element    a type's number is its own number; the root's is 0; an element's is an element
--   group p t v                       == v's group: the number of its parent's type
--   group-same, group_type, group-level    nodes of one type have one group; those of one group and tag are of one type; those of one group have one level
--   parent-solid, parent-level        a parent is no text, and has a lower level
--   repeats-root                      the root's type does not repeat
-- Letters: p parents, t tags; v u nodes. Assumes nothing.
use Prim.Native.Nat.{ℕ, zero, suc, ◌≤◌, ◌<◌}
use mathlib.Core.Path.{◌≡◌, sym, ap, subst, ◌∙◌}
use mathlib.Core.Logic.{⊎_elim}
use mathlib.Core.List.{List}
use mathlib.Core.Bool.{Bool, true, false, not}
use native.Mathlib.Nat.{not-suc-le-zero}
use native.Mathlib.Omega.{arith}
use borrow.Author.Tests.{not-false}
use lib.ListN.{length}
use Rattle.seq.specs.Below.{first_fail}
use Rattle.seq.proofs.Laws.Bools.{bool_ext, bool_false, not_at}
use Rattle.seq.proofs.Laws.Numbers.{less_or}
use Rattle.seq.proofs.Laws.Below.{first_below, first-at, first_ext}
use Rattle.tree.specs.Tree.{parent, level}
use Rattle.tree.specs.Plain.{Down, Lawful}
use Rattle.tree.proofs.Laws.Lines.{level-suc}
use Rattle.tree.proofs.Laws.Children.{parent-less}
use Rattle.answers.specs.Classes.{same_type, repeats}
use Rattle.answers.proofs.Laws.Types.{same_type_self, same_type_sym, same_type_trans, same_type_tag, same_type_level, same_type_parents, same_type_children, same_type_root, Repeated, repeats-at}
use Rattle.types.specs.Inner.Order.{tag, Element}
use Rattle.types.specs.Inner.Numbers.{type_number}
use Rattle.types.proofs.Kin.{twin-at}

module _ (p t : List ℕ) where
  -- u is of another type than v.
  abbrev elsewhere : ℕ → ℕ → Bool
  elsewhere v u = not (same_type p t u v)

  pub number_same : (u v : ℕ) → same_type p t u v ≡ true → type_number p t u ≡ type_number p t v
  unfolding type_number
  number_same u v e = first_ext (length p) (elsewhere u) (elsewhere v) (λ k l. ap not (alike k))
    where
      alike : (k : ℕ) → same_type p t k u ≡ same_type p t k v
      alike k =
          bool_ext (same_type p t k u) (same_type p t k v) (λ h. same_type_trans p t k u v h e) (λ h. same_type_trans p t k v u h (same_type_sym p t u v e))

  -- No node of the type stands before its number.
  pub number-lowest : (v u : ℕ) → same_type p t u v ≡ true → type_number p t v ≤ u
  unfolding type_number
  number-lowest v u e =
      ⊎_elim (λ q. absurd (not_at (same_type p t u v) (first_below (length p) (elsewhere v) u q) e)) (λ q. q) (less_or u (first_fail (length p) (elsewhere v)))

  pub number_le : (v : ℕ) → type_number p t v ≤ v
  number_le v = number-lowest v v (same_type_self p t v)

  module _ (v : ℕ) (l : v < length p) where
    pub number-node : type_number p t v < length p
    number-node = omega (arith, number_le v)

    pub number_type : same_type p t (type_number p t v) v ≡ true
    unfolding type_number
    number_type = not-false _ (first-at (length p) (elsewhere v) number-node)

    pub number_self : type_number p t (type_number p t v) ≡ type_number p t v
    number_self = number_same (type_number p t v) v number_type

  pub number_is : (u v : ℕ) → u < length p → v < length p → type_number p t u ≡ type_number p t v → same_type p t u v ≡ true
  number_is u v lu lv e =
      same_type_trans p t u (type_number p t v) v
      (same_type_sym p t (type_number p t v) u (subst (λ (x : ℕ). same_type p t x u ≡ true) e (number_type u lu))) (number_type v lv)

  pub number-root : type_number p t 0 ≡ 0
  number-root = omega (arith, number_le 0)

-- v's group.
abbrev pub group : List ℕ → List ℕ → ℕ → ℕ
group p t v = type_number p t (parent p v)

-- A parent is no text.
pub parent-solid : (p t : List ℕ) → Lawful p t → (v : ℕ) → 0 < v → v < length p → tag t (parent p v) ≡ 0 → ⊥
parent-solid p t tree zero a l e = absurd (not-suc-le-zero a)
parent-solid p t tree (suc v) a l e = tree.no_text_parent v l e

module _ (p t : List ℕ) (d : Down p (length p)) where
  pub parent-level : (v : ℕ) → 0 < v → v < length p → level p (parent p v) < level p v
  parent-level zero a l = absurd (not-suc-le-zero a)
  parent-level (suc v) a l = omega (arith, level-suc p (length p) d v l)

  pub number-element : length t ≡ length p → (v : ℕ) → Element t v → Element t (type_number p t v)
  number-element same v e = record {
    not_root = ⊎_elim (λ z. z) (λ (z : type_number p t v ≤ 0). absurd (root (omega arith))) (less_or 0 (type_number p t v));
    node = omega (arith, number-node p t v here);
    solid = λ z. e.solid (sym (same_type_tag p t (type_number p t v) v (number_type p t v here)) ∙ z);
  }
    where
      here : v < length p
      here = omega (arith, e.node)

      root : type_number p t v ≡ 0 → ⊥
      root z = omega (arith, e.not_root, same_type_root p (length p) d t v here (subst (λ (x : ℕ). same_type p t x v ≡ true) z (number_type p t v here)))

  -- ---- groups
  pub group-same : (u v : ℕ) → 0 < u → 0 < v → u < length p → v < length p → same_type p t u v ≡ true → group p t u ≡ group p t v
  group-same zero v a b lu lv e = absurd (not-suc-le-zero a)
  group-same (suc u) zero a b lu lv e = absurd (not-suc-le-zero b)
  group-same (suc u) (suc v) a b lu lv e = number_same p t (parent p (suc u)) (parent p (suc v)) (same_type_parents p (length p) d t u v lu lv e)

  -- The parents of nodes of one group are of one type.
  parents_type : (u v : ℕ) → 0 < u → 0 < v → u < length p → v < length p → group p t u ≡ group p t v → same_type p t (parent p u) (parent p v) ≡ true
  parents_type u v a b lu lv e =
      number_is p t (parent p u) (parent p v) (omega (arith, parent-less p (length p) d u a lu)) (omega (arith, parent-less p (length p) d v b lv)) e

  pub group_type : (u v : ℕ) → 0 < u → 0 < v → u < length p → v < length p → group p t u ≡ group p t v → tag t u ≡ tag t v → same_type p t u v ≡ true
  group_type zero v a b lu lv e f = absurd (not-suc-le-zero a)
  group_type (suc u) zero a b lu lv e f = absurd (not-suc-le-zero b)
  group_type (suc u) (suc v) a b lu lv e f = same_type_children p (length p) d t u v lu lv f (parents_type (suc u) (suc v) a b lu lv e)

  pub group-level : (u v : ℕ) → 0 < u → 0 < v → u < length p → v < length p → group p t u ≡ group p t v → level p u ≡ level p v
  group-level zero v a b lu lv e = absurd (not-suc-le-zero a)
  group-level (suc u) zero a b lu lv e = absurd (not-suc-le-zero b)
  group-level (suc u) (suc v) a b lu lv e =
      level-suc p (length p) d u lu ∙ ap suc (same_type_level p t (parent p (suc u)) (parent p (suc v)) (parents_type (suc u) (suc v) a b lu lv e))
      ∙ sym (level-suc p (length p) d v lv)

  -- Only the root is of its type, and it has no twin.
  pub repeats-root : repeats p t 0 ≡ false
  repeats-root = bool_false (repeats p t 0) (λ e. lone (repeats-at p t 0 e))
    where
      lone : Repeated p t 0 → ⊥
      lone r =
          omega (arith, (twin-at p t r.node r.twin).akin.one, same_type_root p (length p) d t r.node r.below (same_type_sym p t r.node 0 r.same_type))
