-- Types (02, Q-1): a node's type is the row of tags from the root down to it, and it repeats where some node of the type has a twin. Assumes nothing.
--   type_root, type_suc                the type of the root is its tag; another node's is its parent's, with the node's tag behind it
--   same_type_is, same_type_of         two nodes are of one type exactly where their rows are equal
--   same_type_self, -sym, -trans       so being of one type is an equality
--   same_type_suc, same_type_children  two nodes other than the root are of one type exactly where they have one tag and their parents are of one type
--   same_type_tag, same_type_level     nodes of one type have one tag and one level
--   same_type_parents                  and their parents are of one type
--   same_type_root                     no other node is of the root's type
--   same_type_plain                    the test against the plain statement, by steps from a node to its parent
--   repeats-at, repeats-of             a type repeats exactly where a node of it has a twin
--   twin-repeats, repeats-same         the type of a node with a twin repeats; nodes of one type repeat alike
-- Letters: p parents, t tags, n nodes; u v w nodes.
use Prim.Native.Nat.{ℕ, zero, suc, ◌≤◌, ◌<◌}
use mathlib.Core.Path.{◌≡◌, refl, sym, ap, subst, ◌∙◌}
use mathlib.Core.Logic.{◌↔◌}
use mathlib.Core.List.{List, [], ◌∷◌, ◌++◌, map, reverse, reverse-cons, reverse-reverse, head-eq_of_cons-eq, tail-eq_of_cons-eq}
use mathlib.Core.Bool.{true}
use native.Mathlib.Nat.{suc-ne-zero}
use native.Mathlib.Omega.{arith}
use lib.ListN.{length, get_or, length-map}
use Rattle.seq.proofs.Laws.Bools.{bool_ext}
use Rattle.seq.proofs.Laws.Numbers.{rise}
use Rattle.seq.proofs.Laws.Below.{Both, both_at, both_of}
use Rattle.seq.proofs.Laws.Lists.{same_list-is, same_list_self}
use Rattle.tree.specs.Tree.{parent, climb, line, level}
use Rattle.tree.specs.Plain.{Down}
use Rattle.tree.proofs.Laws.Lines.{line-root, line-suc, level-root, level-suc}
use Rattle.answers.specs.Classes.{twin, type_of, same_type, repeats}
use Rattle.answers.specs.Plain.{SameType, roots, children}

module _ (p t : List ℕ) where
  -- The tags from u up to the root.
  abbrev upward : ℕ → List ℕ
  upward u = map (λ w. get_or t w 0) (line p u)

  -- ---- the row of tags
  pub type_root : type_of p t 0 ≡ get_or t 0 0 ∷ []
  unfolding type_of
  type_root = ap (λ (l : List ℕ). reverse (map (λ w. get_or t w 0) l)) (line-root p)

  pub type_suc : (n : ℕ) → Down p n → (u : ℕ) → suc u < n → type_of p t (suc u) ≡ type_of p t (parent p (suc u)) ++ (get_or t (suc u) 0 ∷ [])
  unfolding type_of
  type_suc n d u l =
      ap (λ (m : List ℕ). reverse (map (λ w. get_or t w 0) m)) (line-suc p n d u l) ∙ reverse-cons (get_or t (suc u) 0) (upward (parent p (suc u)))

  -- ---- of one type
  pub same_type_is : (u v : ℕ) → same_type p t u v ≡ true → type_of p t u ≡ type_of p t v
  unfolding same_type
  same_type_is u v e = same_list-is (type_of p t u) (type_of p t v) e

  pub same_type_of : (u v : ℕ) → type_of p t u ≡ type_of p t v → same_type p t u v ≡ true
  unfolding same_type
  same_type_of u v e = rw e (same_list_self (type_of p t v))

  pub same_type_self : (u : ℕ) → same_type p t u u ≡ true
  same_type_self u = same_type_of u u refl

  pub same_type_sym : (u v : ℕ) → same_type p t u v ≡ true → same_type p t v u ≡ true
  same_type_sym u v e = same_type_of v u (sym (same_type_is u v e))

  pub same_type_trans : (u v w : ℕ) → same_type p t u v ≡ true → same_type p t v w ≡ true → same_type p t u w ≡ true
  same_type_trans u v w e f = same_type_of u w (same_type_is u v e ∙ same_type_is v w f)

  -- Read from the node up to the root, the rows are equal too.
  upward-same : (u v : ℕ) → same_type p t u v ≡ true → upward u ≡ upward v
  unfolding type_of
  upward-same u v e = sym (reverse-reverse (upward u)) ∙ ap (λ (l : List ℕ). reverse l) (same_type_is u v e) ∙ reverse-reverse (upward v)

  upward-of : (u v : ℕ) → upward u ≡ upward v → same_type p t u v ≡ true
  unfolding type_of
  upward-of u v e = same_type_of u v (ap (λ (l : List ℕ). reverse l) e)

  -- A node's own tag is the first of them.
  upward-first : (u v : ℕ) → upward u ≡ upward v → get_or t u 0 ≡ get_or t v 0
  unfolding line climb
  upward-first zero zero e = refl
  upward-first zero (suc v) e = head-eq_of_cons-eq e
  upward-first (suc u) zero e = head-eq_of_cons-eq e
  upward-first (suc u) (suc v) e = head-eq_of_cons-eq e

  -- Nodes of one type have one tag.
  pub same_type_tag : (u v : ℕ) → same_type p t u v ≡ true → get_or t u 0 ≡ get_or t v 0
  same_type_tag u v e = upward-first u v (upward-same u v e)

  -- Nodes of one type have one level.
  pub same_type_level : (u v : ℕ) → same_type p t u v ≡ true → level p u ≡ level p v
  unfolding level
  same_type_level u v e =
      sym (length-map (line p u) (λ w. get_or t w 0)) ∙ ap (λ (l : List ℕ). length l) (upward-same u v e) ∙ length-map (line p v) (λ w. get_or t w 0)

-- A node has a level of 1 or more.
level-some : (p : List ℕ) (u : ℕ) → level p u ≡ 0 → ⊥
unfolding level line climb
level-some p zero e = suc-ne-zero _ e
level-some p (suc u) e = suc-ne-zero _ e

-- ---- one step up
module _ (p : List ℕ) (n : ℕ) (d : Down p n) (t : List ℕ) where
  upward-suc : (u : ℕ) → suc u < n → upward p t (suc u) ≡ get_or t (suc u) 0 ∷ upward p t (parent p (suc u))
  upward-suc u l = ap (λ (m : List ℕ). map (λ w. get_or t w 0) m) (line-suc p n d u l)

  -- The parents of nodes of one type are of one type.
  pub same_type_parents : (u v : ℕ) → suc u < n → suc v < n → same_type p t (suc u) (suc v) ≡ true → same_type p t (parent p (suc u)) (parent p (suc v)) ≡ true
  same_type_parents u v lu lv e =
      upward-of p t (parent p (suc u)) (parent p (suc v)) (tail-eq_of_cons-eq (sym (upward-suc u lu) ∙ upward-same p t (suc u) (suc v) e ∙ upward-suc v lv))

  pub same_type_suc : (u v : ℕ) → suc u < n → suc v < n → same_type p t (suc u) (suc v) ≡ true →
      (get_or t (suc u) 0 ≡ get_or t (suc v) 0) × (same_type p t (parent p (suc u)) (parent p (suc v)) ≡ true)
  same_type_suc u v lu lv e = (same_type_tag p t (suc u) (suc v) e, same_type_parents u v lu lv e)

  -- Nodes of one tag whose parents are of one type are of one type.
  pub same_type_children : (u v : ℕ) → suc u < n → suc v < n → get_or t (suc u) 0 ≡ get_or t (suc v) 0 →
      same_type p t (parent p (suc u)) (parent p (suc v)) ≡ true → same_type p t (suc u) (suc v) ≡ true
  same_type_children u v lu lv e f =
      same_type_of p t (suc u) (suc v)
      (type_suc p t n d u lu
      ∙ ap (λ (l : List ℕ). l ++ (get_or t (suc u) 0 ∷ [])) (same_type_is p t (parent p (suc u)) (parent p (suc v)) f)
      ∙ ap (λ (x : ℕ). type_of p t (parent p (suc v)) ++ (x ∷ [])) e
      ∙ sym (type_suc p t n d v lv))

  -- No other node is of the root's type: only the root has level 1.
  pub same_type_root : (v : ℕ) → v < n → same_type p t 0 v ≡ true → v ≡ 0
  same_type_root zero l e = refl
  same_type_root (suc v) l e =
      let one : level p (suc v) ≡ 1 = sym (same_type_level p t 0 (suc v) e) ∙ level-root p in
      absurd (level-some p (parent p (suc v)) (omega (arith, one, level-suc p n d v l)))

  -- ---- the plain statement
  pub same_type_plain : (u v : ℕ) → u < n → v < n → (same_type p t u v ≡ true) ↔ SameType p t u v
  same_type_plain u v lu lv = (to u v lu lv, back u v lu lv)
    where
      to : (u v : ℕ) → u < n → v < n → same_type p t u v ≡ true → SameType p t u v
      to =
          rise (λ (u : ℕ). (v : ℕ) → u < n → v < n → same_type p t u v ≡ true → SameType p t u v)
          (λ v lu lv e. subst (SameType p t 0) (sym (same_type_root v lv e)) roots)
          step
        where
          step : (u : ℕ) → ((w : ℕ) → w ≤ u → (v : ℕ) → w < n → v < n → same_type p t w v ≡ true → SameType p t w v) →
              (v : ℕ) → suc u < n → v < n → same_type p t (suc u) v ≡ true → SameType p t (suc u) v
          step u ih zero lu lv e = absurd (suc-ne-zero u (same_type_root (suc u) lu (same_type_sym p t (suc u) 0 e)))
          step u ih (suc v) lu lv e =
              let a : parent p (suc u) ≤ u = d u lu in
              let b : parent p (suc v) ≤ v = d v lv in
              children (same_type_tag p t (suc u) (suc v) e) (ih (parent p (suc u)) a (parent p (suc v)) (omega arith) (omega arith) (same_type_parents u v lu lv e))

      back : (u v : ℕ) → u < n → v < n → SameType p t u v → same_type p t u v ≡ true
      back u v lu lv roots = same_type_self p t 0
      back u v lu lv (children {u = a} {v = b} e r) =
          let f : parent p (suc a) ≤ a = d a lu in
          let g : parent p (suc b) ≤ b = d b lv in
          same_type_children a b lu lv e (back (parent p (suc a)) (parent p (suc b)) (omega arith) (omega arith) r)

-- ---- types that repeat
-- A node of v's type that has a twin.
pub record Repeated (p t : List ℕ) (v : ℕ) : Type 0 where
  pub node : ℕ
  pub below : node < length p
  pub same_type : same_type p t node v ≡ true
  pub twin : twin p t node ≡ true

module _ (p t : List ℕ) where
  pub repeats-at : (v : ℕ) → repeats p t v ≡ true → Repeated p t v
  unfolding repeats
  repeats-at v e =
      let r : Both (length p) (λ u. same_type p t u v) (twin p t) = both_at (length p) (λ u. same_type p t u v) (twin p t) e in
      record { node = r.at; below = r.below; same_type = r.left; twin = r.right }

  pub repeats-of : (u v : ℕ) → u < length p → same_type p t u v ≡ true → twin p t u ≡ true → repeats p t v ≡ true
  unfolding repeats
  repeats-of u v l e h = both_of (length p) (λ u. same_type p t u v) (twin p t) u l e h

  -- The type of a node with a twin repeats.
  pub twin-repeats : (v : ℕ) → v < length p → twin p t v ≡ true → repeats p t v ≡ true
  twin-repeats v l h = repeats-of v v l (same_type_self p t v) h

  -- Nodes of one type repeat alike.
  pub repeats-same : (u v : ℕ) → same_type p t u v ≡ true → repeats p t u ≡ repeats p t v
  repeats-same u v e = bool_ext (repeats p t u) (repeats p t v) (along u v e) (along v u (same_type_sym p t u v e))
    where
      along : (u v : ℕ) → same_type p t u v ≡ true → repeats p t u ≡ true → repeats p t v ≡ true
      along u v e h =
          let r : Repeated p t u = repeats-at u h in
          repeats-of r.node v r.below (same_type_trans p t r.node u v r.same_type e) r.twin
