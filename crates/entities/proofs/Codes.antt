-- Laws of codes. Assumes nothing.
--   code-start        before any child is passed the code is the flag of the type
--   code-child, code_other   how a node that is passed changes the code of its parent, and no other
--   code-few          a code is at most 5
--   entity-code       a node's tag and code tell whether it is an entity
-- Letters: p parents, t tags; v node, c child, i nodes passed; b flag of its type, k number of children.
use Prim.Native.Nat.{ℕ, zero, suc, ◌+◌, ◌*◌, ◌≤◌}
use mathlib.Core.Path.{◌≡◌, refl, ap, ap₂, ◌∙◌}
use mathlib.Core.Logic.{⊎_elim}
use mathlib.Core.List.{List}
use mathlib.Core.Bool.{Bool, true, false, not, cond, ◌&&◌, ◌||◌, or-false, false≢true}
use native.Mathlib.Nat.{add-zero}
use native.Mathlib.Omega.{arith}
use lib.Dec.{eqb}
use borrow.Author.Tests.{ne_eqb}
use lib.ListN.{length, get_or}
use Rattle.seq.specs.Below.{sum_below, some_below}
use Rattle.seq.proofs.Laws.Bools.{bool_cases, bool_false, and_left}
use Rattle.seq.proofs.Laws.Below.{Found, some_at}
use Rattle.seq.proofs.Laws.Sums.{sum-suc, sum-at_le}
use Rattle.tree.specs.Tree.{child}
use Rattle.tree.specs.Rules.{text}
use Rattle.tree.proofs.Laws.Children.{child-root}
use Rattle.answers.specs.Classes.{is_text, is_attribute, is_entity, is_dummy, is_entity_class, children, one_text, repeats, class_of, entity}
use Rattle.types.specs.Repeated.{repeat_flag}
use Rattle.entities.specs.Inner.{children_to, text_to, kid_code, code_to, grown, entity_by, codes}

-- What the flag says.
abbrev flagged : List ℕ → List ℕ → ℕ → Bool
flagged p t v = not (text t v) && repeats p t v

-- ---- by cases of the number of children so far
-- The code of a node, flagged or not, of which k children and maybe a text child are passed.
abbrev made : Bool → ℕ → Bool → ℕ
made b k s = cond b 1 0 + cond (eqb k 0) 0 (cond (eqb k 1 && s) 1 2) * 2

by-none : (b : Bool) (x : ℕ) → made b (0 + 1) (false || (true && eqb x 0)) ≡ grown (made b 0 false) x
unfolding grown
by-none true x = ⊎_elim (λ q. rw q) (λ q. rw q) (bool_cases (eqb x 0))
by-none false x = ⊎_elim (λ q. rw q) (λ q. rw q) (bool_cases (eqb x 0))

by_one : (b s : Bool) (x : ℕ) → made b (1 + 1) (s || (true && eqb x 0)) ≡ grown (made b 1 s) x
unfolding grown
by_one true true x = refl
by_one true false x = refl
by_one false true x = refl
by_one false false x = refl

by-many : (b s : Bool) (k x : ℕ) → made b (suc (suc k) + 1) (s || (true && eqb x 0)) ≡ grown (made b (suc (suc k)) s) x
unfolding grown
by-many b s k x =
    rw (
      ne_eqb (suc (suc k) + 1) 0 (λ (q : suc (suc k) + 1 ≡ 0). omega arith),
      ne_eqb (suc (suc k) + 1) 1 (λ (q : suc (suc k) + 1 ≡ 1). omega arith),
      ne_eqb (suc (suc k)) 0 (λ (q : suc (suc k) ≡ 0). omega arith),
      ne_eqb (suc (suc k)) 1 (λ (q : suc (suc k) ≡ 1). omega arith),
    ) (four b)
  where
    four : (b : Bool) → ◌≡◌ {A = ℕ} (cond b 1 0 + 4) (grown (cond b 1 0 + 4) x)
    four true = refl
    four false = refl

by_count : (b : Bool) (k : ℕ) (s : Bool) (x : ℕ) → (k ≡ 0 → s ≡ false) → made b (k + 1) (s || (true && eqb x 0)) ≡ grown (made b k s) x
by_count b zero s x h = rw (h refl) (by-none b x)
by_count b (suc zero) s x h = by_one b s x
by_count b (suc (suc k)) s x h = by-many b s k x

-- ---- one node more
module _ (p t : List ℕ) (v c : ℕ) where
  children-suc : children_to p (suc c) v ≡ children_to p c v + cond (child p v c) 1 0
  unfolding children_to
  children-suc = sum-suc c (λ c. cond (child p v c) 1 0)

  text-suc : text_to p t (suc c) v ≡ (text_to p t c v || (child p v c && text t c))
  unfolding text_to some_below
  text-suc = refl

  -- No child, no text child.
  text-none : children_to p c v ≡ 0 → text_to p t c v ≡ false
  unfolding children_to text_to
  text-none e = bool_false _ none
    where
      some-child : (b : Bool) → b ≡ true → cond b 1 0 ≤ sum_below c (λ a. cond (child p v a) 1 0) → ⊥
      some-child true z h = omega arith
      some-child false z h = false≢true z

      none : some_below c (λ a. child p v a && text t a) ≡ true → ⊥
      none q =
          let r : Found c (λ a. child p v a && text t a) = some_at c (λ a. child p v a && text t a) q in
          some-child (child p v r.at) (and_left (child p v r.at) _ r.passes) (sum-at_le c (λ a. cond (child p v a) 1 0) r.at r.below)

  pub code_other : child p v c ≡ false → code_to p t (suc c) v ≡ code_to p t c v
  unfolding code_to kid_code
  code_other e =
      ap₂ (λ (k : ℕ) (s : Bool). repeat_flag p t v + cond (eqb k 0) 0 (cond (eqb k 1 && s) 1 2) * 2)
      (children-suc ∙ ap (λ (b : Bool). children_to p c v + cond b 1 0) e ∙ add-zero _)
      (text-suc ∙ ap (λ (b : Bool). text_to p t c v || (b && text t c)) e ∙ or-false (text_to p t c v))

  pub code-child : child p v c ≡ true → code_to p t (suc c) v ≡ grown (code_to p t c v) (get_or t c 0)
  unfolding code_to kid_code text repeat_flag
  code-child e =
      ap₂ (λ (k : ℕ) (s : Bool). repeat_flag p t v + cond (eqb k 0) 0 (cond (eqb k 1 && s) 1 2) * 2)
      (children-suc ∙ ap (λ (b : Bool). children_to p c v + cond b 1 0) e)
      (text-suc ∙ ap (λ (b : Bool). text_to p t c v || (b && text t c)) e)
      ∙ by_count (flagged p t v) (children_to p c v) (text_to p t c v) (get_or t c 0) text-none

module _ (p t : List ℕ) (v : ℕ) where
  -- The root is nobody's child, so before node 1 no child is passed.
  pub code-start : code_to p t 1 v ≡ repeat_flag p t v
  unfolding code_to kid_code children_to sum_below
  code-start = code_other p t v 0 (child-root p v) ∙ add-zero (repeat_flag p t v)

  pub code-few : (i : ℕ) → code_to p t i v ≤ 5
  unfolding code_to kid_code repeat_flag
  code-few i = few (flagged p t v) (eqb (children_to p i v) 0) (eqb (children_to p i v) 1 && text_to p t i v)
    where
      few : (b a o : Bool) → cond b 1 0 + cond a 0 (cond o 1 2) * 2 ≤ 5
      few true true o = omega arith
      few true false true = omega arith
      few true false false = omega arith
      few false true o = omega arith
      few false false true = omega arith
      few false false false = omega arith

  -- The tag and the code tell whether the node is an entity.
  pub entity-code : entity_by (get_or t v 0) (codes p t v) ≡ entity p t v
  unfolding entity_by entity class_of text one_text children code_to kid_code children_to text_to repeat_flag
  entity-code =
      by_tests (eqb (get_or t v 0) 0) (repeats p t v) (sum_below (length p) (λ c. cond (child p v c) 1 0)) (some_below (length p) (λ c. child p v c && eqb (get_or t c 0) 0))
    where
      by_code : (b o : Bool) → ◌≡◌ {A = Bool} (eqb (cond b 1 0 + cond o 1 2 * 2) 1 || eqb (cond b 1 0 + cond o 1 2 * 2) 5) (is_entity_class (cond o is_attribute (cond b is_entity is_dummy)))
      by_code true true = refl
      by_code true false = refl
      by_code false true = refl
      by_code false false = refl

      by_tests : (x b : Bool) (k : ℕ) (s : Bool) →
          (not x && (eqb (made (not x && b) k s) 1 || eqb (made (not x && b) k s) 5)) ≡ is_entity_class (cond x is_text (cond (eqb k 1 && s) is_attribute (cond b is_entity is_dummy)))
      by_tests true b k s = refl
      by_tests false b (suc k) s = rw (ne_eqb (suc k) 0 (λ (q : suc k ≡ 0). omega arith)) (by_code b (eqb (suc k) 1 && s))
      by_tests false true zero s = refl
      by_tests false false zero s = refl
