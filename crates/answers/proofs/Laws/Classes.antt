-- The classes in plain words, both ways, and that every node has exactly one. Assumes nothing.
--   child-plain, one-text-plain, twin-plain, repeats-plain    a test passes exactly where the plain statement holds
--   class-one, class-fits, class-is                           a node's class is the first rule that fits, and no other class fits it
--   entity-plain                                              a node is an entity exactly where that rule is the third
--   closest-plain, closest-is                                 the closest entity of a text node is the nearest entity above it, or the root; and no other node is
-- Letters: p parents, t tags; v node, w another, c child, x text node.
use Prim.Native.Nat.{ℕ, ◌<◌, ◌≤◌}
use mathlib.Core.Path.{◌≡◌, refl, sym, ap, subst, ◌∙◌}
use mathlib.Core.Logic.{◌↔◌, ⊎_elim}
use mathlib.Core.List.{List, [], ◌∷◌}
use mathlib.Core.Bool.{Bool, true, false, not, cond, ◌&&◌, or-false, false≢true}
use native.Mathlib.Omega.{arith}
use lib.Dec.{eqb, ltb}
use borrow.Author.Tests.{eq-eqb, eqb-true, eqb-false, ne_eqb, lt-ltb, ltb-true, not-true}
use lib.ListN.{length, get_or}
use Rattle.seq.specs.Below.{sum_below, some_below, listed}
use Rattle.seq.specs.Lists.{some_of}
use Rattle.seq.proofs.Laws.Bools.{bool_cases, bool_ext, bool-not_both, and_left, and_right, and_both}
use Rattle.seq.proofs.Laws.Below.{Found, Both, some_at, some_of_lem, both_at, both_of}
use Rattle.seq.proofs.Laws.Sums.{sum_ext, sum-pick}
use Rattle.seq.proofs.Laws.Members.{length-listed, listed_member}
use Rattle.tree.specs.Tree.{parent, line, under, child}
use Rattle.tree.specs.Plain.{Down}
use Rattle.tree.specs.Rules.{text}
use Rattle.tree.proofs.Laws.Under.{under-plain, under-of-plain, under_le}
use Rattle.tree.proofs.Laws.Ways.{Nearest, line-some, nearest-at, nearest_unique}
use Rattle.answers.specs.Classes.{Class, is_text, is_attribute, is_entity, is_dummy, children, one_text, sibling, twin, repeats, class_of, is_entity_class, entity, closest}
use Rattle.answers.specs.Plain.{Text, Child, OneText, Twin, Repeats, Entity, Fits, Ancestor, Closest, nearest, root}
use Rattle.answers.proofs.Laws.Types.{same_type_plain, Repeated, repeats-at, repeats-of}
use Rattle.answers.proofs.Laws.Not.{text_no_entity, closest-nearest, closest-root}

-- ---- text, child
pub text-plain : (t : List ℕ) (v : ℕ) → (text t v ≡ true) ↔ Text t v
unfolding text
text-plain t v = (eqb-true (get_or t v 0) 0, eq-eqb (get_or t v 0) 0)

module _ (p : List ℕ) where
  pub child-plain : (v c : ℕ) → c < length p → (child p v c ≡ true) ↔ Child p v c
  unfolding child
  child-plain v c l = (to, back)
    where
      to : (ltb 0 c && eqb v (parent p c)) ≡ true → Child p v c
      to e = record {
        node = l;
        not_root = ltb-true 0 c (and_left (ltb 0 c) _ e);
        hangs = sym (eqb-true v (parent p c) (and_right (ltb 0 c) _ e));
      }

      back : Child p v c → (ltb 0 c && eqb v (parent p c)) ≡ true
      back r = and_both _ _ (lt-ltb 0 c r.not_root) (eq-eqb v (parent p c) (sym r.hangs))

-- ---- exactly one child, and that child is text
-- Of a list of one entry there is one member.
member_alone : (a b : ℕ) (l : List ℕ) → length l ≡ 1 → some_of (eqb a) l ≡ true → some_of (eqb b) l ≡ true → a ≡ b
unfolding some_of
member_alone a b [] e h k = absurd (false≢true h)
member_alone a b (x ∷ []) e h k = eqb-true a x (one a h) ∙ sym (eqb-true b x (one b k))
  where
    one : (z : ℕ) → some_of (eqb z) (x ∷ []) ≡ true → eqb z x ≡ true
    one z q = sym (or-false (eqb z x)) ∙ q
member_alone a b (x ∷ y ∷ l) e h k = absurd (omega arith)

-- What makes c a twin of v.
abbrev alike : List ℕ → List ℕ → ℕ → ℕ → Bool
alike p t v c = ((ltb 0 v && child p (parent p v) c) && not (eqb c v)) && eqb (get_or t c 0) (get_or t v 0)

module _ (p t : List ℕ) (v : ℕ) where
  pub one-text-plain : (one_text p t v ≡ true) ↔ OneText p t v
  unfolding one_text children
  one-text-plain = (to, back)
    where
      to : (eqb (sum_below (length p) (λ c. cond (child p v c) 1 0)) 1 && some_below (length p) (λ c. child p v c && text t c)) ≡ true → OneText p t v
      to e =
          let r : Both (length p) (child p v) (text t) = both_at (length p) (child p v) (text t) (and_right (eqb (sum_below (length p) (λ c. cond (child p v c) 1 0)) 1) _ e) in
          let long : length (listed (length p) (child p v)) ≡ 1 = length-listed (length p) (child p v) ∙ eqb-true _ 1 (and_left _ (some_below (length p) (λ c. child p v c && text t c)) e) in
          record {
            only = r.at;
            child = (child-plain p v r.at r.below).0 r.left;
            text = (text-plain t r.at).0 r.right;
            alone = λ c h. member_alone c r.at (listed (length p) (child p v)) long
                (listed_member (length p) (child p v) c h.node ∙ (child-plain p v c h.node).1 h)
                (listed_member (length p) (child p v) r.at r.below ∙ r.left);
          }

      back : OneText p t v → (eqb (sum_below (length p) (λ c. cond (child p v c) 1 0)) 1 && some_below (length p) (λ c. child p v c && text t c)) ≡ true
      back r =
          and_both _ _ (eq-eqb _ 1 (sum_ext (length p) _ (λ c. cond (eqb r.only c) 1 0) same ∙ sum-pick (length p) (λ c. 1) r.only r.child.node))
          (both_of (length p) (child p v) (text t) r.only r.child.node here ((text-plain t r.only).1 r.text))
        where
          here : child p v r.only ≡ true
          here = (child-plain p v r.only r.child.node).1 r.child

          same : (c : ℕ) → c < length p → ◌≡◌ {A = ℕ} (cond (child p v c) 1 0) (cond (eqb r.only c) 1 0)
          same c l =
              ap (λ (b : Bool). cond b 1 0)
              (bool_ext (child p v c) (eqb r.only c) (λ e. eq-eqb r.only c (sym (r.alone c ((child-plain p v c l).0 e))))
              (λ e. ap (child p v) (sym (eqb-true r.only c e)) ∙ here))

  -- ---- another child of the same parent has the same tag
  pub twin-plain : v < length p → (twin p t v ≡ true) ↔ Twin p t v
  unfolding twin sibling
  twin-plain l = (to, back)
    where
      to : some_below (length p) (alike p t v) ≡ true → Twin p t v
      to e =
          let r : Found (length p) (alike p t v) = some_at (length p) (alike p t v) e in
          let s : ((ltb 0 v && child p (parent p v) r.at) && not (eqb r.at v)) ≡ true = and_left _ (eqb (get_or t r.at 0) (get_or t v 0)) r.passes in
          let k : (ltb 0 v && child p (parent p v) r.at) ≡ true = and_left _ (not (eqb r.at v)) s in
          record {
            above = parent p v;
            child = record { node = l; not_root = ltb-true 0 v (and_left (ltb 0 v) _ k); hangs = refl };
            other = r.at;
            sibling = (child-plain p (parent p v) r.at r.below).0 (and_right (ltb 0 v) _ k);
            another = eqb-false r.at v (not-true (eqb r.at v) (and_right (ltb 0 v && child p (parent p v) r.at) _ s));
            same_tag = eqb-true _ _ (and_right ((ltb 0 v && child p (parent p v) r.at) && not (eqb r.at v)) _ r.passes);
          }

      back : Twin p t v → some_below (length p) (alike p t v) ≡ true
      back r =
          some_of_lem (length p) (alike p t v) r.other r.sibling.node
          (and_both _ _
          (and_both _ _ (and_both _ _ (lt-ltb 0 v r.child.not_root) ((child-plain p (parent p v) r.other r.sibling.node).1 beside)) (ap not (ne_eqb r.other v r.another)))
          (eq-eqb _ _ r.same_tag))
        where
          beside : Child p (parent p v) r.other
          beside = record { node = r.sibling.node; not_root = r.sibling.not_root; hangs = r.sibling.hangs ∙ sym r.child.hangs }

-- ---- some node of the same type has a twin
pub repeats-plain : (p : List ℕ) → Down p (length p) → (t : List ℕ) (v : ℕ) → v < length p → (repeats p t v ≡ true) ↔ Repeats p t v
repeats-plain p d t v l = (λ e. to (repeats-at p t v e), back)
  where
    to : Repeated p t v → Repeats p t v
    to r = record {
      node = r.node;
      below = r.below;
      same_type = (same_type_plain p (length p) d t r.node v r.below l).0 r.same_type;
      twin = (twin-plain p t r.node r.below).0 r.twin;
    }

    back : Repeats p t v → repeats p t v ≡ true
    back r =
        repeats-of p t r.node v r.below ((same_type_plain p (length p) d t r.node v r.below l).1 r.same_type)
        ((twin-plain p t r.node r.below).1 r.twin)

-- ---- the class of a node
-- Of two classes that fit a node, each is the first rule that does: they are one.
pub class-one : (p t : List ℕ) (v : ℕ) (a b : Class) → Fits p t v a → Fits p t v b → a ≡ b
class-one p t v is_text is_text f g = refl
class-one p t v is_text is_attribute f g = absurd (g.no_text f)
class-one p t v is_text is_entity f g = absurd (g.no_text f)
class-one p t v is_text is_dummy f g = absurd (g.no_text f)
class-one p t v is_attribute is_text f g = absurd (f.no_text g)
class-one p t v is_attribute is_attribute f g = refl
class-one p t v is_attribute is_entity f g = absurd (g.no_attribute f.one_text)
class-one p t v is_attribute is_dummy f g = absurd (g.no_attribute f.one_text)
class-one p t v is_entity is_text f g = absurd (f.no_text g)
class-one p t v is_entity is_attribute f g = absurd (f.no_attribute g.one_text)
class-one p t v is_entity is_entity f g = refl
class-one p t v is_entity is_dummy f g = absurd (g.no_entity f.repeats)
class-one p t v is_dummy is_text f g = absurd (f.no_text g)
class-one p t v is_dummy is_attribute f g = absurd (f.no_attribute g.one_text)
class-one p t v is_dummy is_entity f g = absurd (f.no_entity g.repeats)
class-one p t v is_dummy is_dummy f g = refl

module _ (p : List ℕ) (d : Down p (length p)) (t : List ℕ) (v : ℕ) (l : v < length p) where
  no_text_lem : text t v ≡ false → Text t v → ⊥
  no_text_lem e h = bool-not_both (text t v) ((text-plain t v).1 h) e

  no_attribute_lem : one_text p t v ≡ false → OneText p t v → ⊥
  no_attribute_lem e h = bool-not_both (one_text p t v) ((one-text-plain p t v).1 h) e

  no_repeats : repeats p t v ≡ false → Repeats p t v → ⊥
  no_repeats e h = bool-not_both (repeats p t v) ((repeats-plain p d t v l).1 h) e

  -- The class of a node is the first rule that fits.
  pub class-fits : Fits p t v (class_of p t v)
  unfolding class_of
  class-fits =
      ⊎_elim (λ (a : text t v ≡ true). rw a ((text-plain t v).0 a))
      (λ (a : text t v ≡ false). ⊎_elim (λ (b : one_text p t v ≡ true). rw (a, b) (record { no_text = no_text_lem a; one_text = (one-text-plain p t v).0 b }))
      (λ (b : one_text p t v ≡ false). ⊎_elim (λ (c : repeats p t v ≡ true). rw (a, b, c) (record { no_text = no_text_lem a; no_attribute = no_attribute_lem b; repeats = (repeats-plain p d t v l).0 c }))
      (λ (c : repeats p t v ≡ false). rw (a, b, c) (record { no_text = no_text_lem a; no_attribute = no_attribute_lem b; no_entity = no_repeats c }))
      (bool_cases (repeats p t v)))
      (bool_cases (one_text p t v)))
      (bool_cases (text t v))

  -- A class that fits a node is its class.
  pub class-is : (c : Class) → Fits p t v c → class_of p t v ≡ c
  class-is c f = class-one p t v (class_of p t v) c class-fits f

  pub entity-plain : (entity p t v ≡ true) ↔ Entity p t v
  unfolding entity
  entity-plain = (λ e. subst (Fits p t v) (by-class (class_of p t v) e) class-fits, λ r. ap is_entity_class (class-is is_entity r))
    where
      by-class : (c : Class) → is_entity_class c ≡ true → c ≡ is_entity
      by-class is_text e = absurd (false≢true e)
      by-class is_attribute e = absurd (false≢true e)
      by-class is_entity e = refl
      by-class is_dummy e = absurd (false≢true e)

-- ---- the closest entity
module _ (p : List ℕ) (d : Down p (length p)) (t : List ℕ) (x : ℕ) (l : x < length p) (s : text t x ≡ true) where
  -- An entity at or above a text node is above it.
  above-text : (w : ℕ) → entity p t w ≡ true → under p w x ≡ true → Ancestor p w x
  above-text w e h = record {
    above = under-plain p (length p) d w x l h;
    other = λ (q : w ≡ x). bool-not_both (entity p t x) (ap (entity p t) (sym q) ∙ e) (text_no_entity p t x s);
  }

  node-above : (w : ℕ) → under p w x ≡ true → w < length p
  node-above w h = let q : w ≤ x = under_le p (length p) d w x l h in omega arith

  plain-above : (w : ℕ) → Ancestor p w x → under p w x ≡ true
  plain-above w a = under-of-plain p (length p) d w x l a.above

  entity-above : (w : ℕ) → Entity p t w → Ancestor p w x → entity p t w ≡ true
  entity-above w e a = (entity-plain p d t w (node-above w (plain-above w a))).1 e

  -- The closest entity of a text node is the nearest entity above it, or the root where there is none.
  pub closest-plain : Closest p t x (closest p t x)
  unfolding closest
  closest-plain = ⊎_elim some none (bool_cases (some_of (entity p t) (line p x)))
    where
      some : some_of (entity p t) (line p x) ≡ true → Closest p t x (closest p t x)
      some q =
          let r : Nearest p (entity p t) x (closest p t x) = nearest-at p (length p) d (entity p t) 0 x l q in
          nearest ((entity-plain p d t (closest p t x) (node-above (closest p t x) r.above)).0 r.passes) (above-text (closest p t x) r.passes r.above)
          (λ w e a. under-plain p (length p) d w (closest p t x) (node-above (closest p t x) r.above) (r.lowest w (entity-above w e a) (plain-above w a)))

      none : some_of (entity p t) (line p x) ≡ false → Closest p t x (closest p t x)
      none q =
          let empty : (w : ℕ) → entity p t w ≡ true → under p w x ≡ true → ⊥ = λ w e h. bool-not_both (some_of (entity p t) (line p x)) (line-some p (entity p t) w x e h) q in
          root (λ w e a. empty w (entity-above w e a) (plain-above w a)) (closest-root p d t x l empty)

  -- No other node is.
  pub closest-is : (v : ℕ) → Closest p t x v → v ≡ closest p t x
  closest-is v (nearest e a low) =
      nearest_unique p (length p) d (entity p t) x v (closest p t x) l
      (record {
        passes = entity-above v e a;
        above = plain-above v a;
        lowest = λ w f h. under-of-plain p (length p) d w v (node-above v (plain-above v a)) (low w ((entity-plain p d t w (node-above w h)).0 f) (above-text w f h));
      })
      (closest-nearest p d t x l v (entity-above v e a) (plain-above v a))
  closest-is v (root none q) = q ∙ sym (closest-root p d t x l (λ w f h. none w ((entity-plain p d t w (node-above w h)).0 f) (above-text w f h)))
