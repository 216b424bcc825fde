-- What types change (02, Q-1): entities by type beside entities by 01's own rule, where only a node's own siblings count. Assumes nothing.
--   rule_01                            by 01's own rule cases 7 and 9 are as 01 writes them: negators 2 and 12, and the answer 1
--   entity-stays                       (a) what is an entity by 01's own rule is one by type
--   closest-lower                      (b) a node's closest entity by type is at or below the one by 01's own rule
--   valid-stays                        (b) so an occurrence that is valid by 01's own rule is valid by type: less is shut out
--   valid-slca-stays                   (b) and so is a valid SLCA
--   types_lose_nothing                 (b) no answer is lost: on an index that keeps its rules, what 01's own rule lists is listed
--   types_list_no_fewer                (b) so there are at least as many answers
--   types_find-more                    (b) an answer may be won: T, NOT Z of case 9, at node 12
--   without_not-same                   (c) without negative words both list the SLCAs
--   same-type-level, same-type-parents (d) nodes of one type have one level, and their parents are of one type: in Laws/Types
-- Letters: p parents, t tags; k words and W their lists; q negative words and N theirs; I index; v node, x occurrence or text node, j word.
use Prim.Native.Nat.{ℕ, ◌+◌, ◌≤◌, ◌<◌}
use mathlib.Core.Path.{◌≡◌, refl, sym, ap, ◌∙◌}
use mathlib.Core.Logic.{◌⊎◌, inl, inr, ⊎_elim}
use mathlib.Core.List.{List, [], ◌∷◌}
use mathlib.Core.Bool.{Bool, true, false, not, ◌&&◌}
use native.Mathlib.Omega.{arith}
use lib.Dec.{eqb}
use borrow.Author.Tests.{eq-eqb, eqb-true, not-true}
use lib.ListN.{length, get_or}
use Rattle.seq.specs.Below.{every_below, some_below, sum_below, gather, listed}
use Rattle.seq.specs.Lists.{some_of, first_of, same_list, EachBelow}
use Rattle.seq.proofs.Laws.Bools.{bool_cases, and_left, and_right, and_both}
use Rattle.seq.proofs.Laws.Below.{some_of_lem}
use Rattle.seq.proofs.Laws.Lists.{Entry, some_of-of, first_of-none}
use Rattle.seq.proofs.Laws.Members.{listed_mono}
use Rattle.tree.specs.Tree.{climb, line, under, properly, child}
use Rattle.tree.specs.Rules.{text}
use Rattle.tree.specs.Plain.{Down, Preorder, Lawful}
use Rattle.tree.proofs.Laws.Under.{under_le, under_all, under_trans, preorder-down}
use Rattle.tree.proofs.Laws.Ways.{Nearest, nearest-at}
use Rattle.index.specs.Index.{Index, nodes, words, wanted, unwanted, start, word_list}
use Rattle.index.specs.Plain.{ListsKept}
use Rattle.answers.specs.Answers.{full, slca}
use Rattle.answers.specs.Classes.{children, one_text, sibling, twin, type_of, same_type, repeats, class_of, entity, closest}
use Rattle.answers.specs.Not.{negator, valid, valid_slca}
use Rattle.answers.specs.Searches.{is_slca, is_negator, is_valid, answers}
use Rattle.answers.specs.Rule01.{entity01, closest01, negator01, is_negator01, is_valid01}
use Rattle.answers.proofs.Laws.Types.{twin-repeats}
use Rattle.answers.proofs.Laws.Not.{Negated, negator-at, valid-none, valid-of, valid-slca-slca, valid-slca-at, valid-slca-of, valid_without_not, closest-nearest, closest_cases}
use Rattle.answers.proofs.Claims.{size, ends_from, all_lists, all_counts, ask}
use Rattle.answers.proofs.Cases.{A¬Z, T¬Z}

-- ---- 01's own rule, on its own cases 7 and 9
pub rule_01 : (listed 18 (is_negator01 A¬Z) ≡ 2 ∷ 12 ∷ []) × (listed 18 (is_valid01 T¬Z) ≡ 1 ∷ [])
unfolding every_below some_below sum_below gather listed some_of first_of climb line under properly child text start word_list full slca children one_text sibling twin valid valid_slca entity01 closest01 negator01 is_negator01 is_valid01 size ends_from all_lists all_counts ask
rule_01 = (refl, refl)

-- ---- (a) entities
pub entity-stays : (p t : List ℕ) (v : ℕ) → v < length p → entity01 p t v ≡ true → entity p t v ≡ true
unfolding entity01 entity class_of
entity-stays p t v l e =
    let first : (not (text t v) && not (one_text p t v)) ≡ true = and_left _ (twin p t v) e in
    let a : text t v ≡ false = not-true (text t v) (and_left (not (text t v)) _ first) in
    let b : one_text p t v ≡ false = not-true (one_text p t v) (and_right (not (text t v)) _ first) in
    let c : repeats p t v ≡ true = twin-repeats p t v l (and_right (not (text t v) && not (one_text p t v)) _ e) in
    rw (a, b, c) refl

-- ---- (b) closest entities, valid occurrences, answers
module _ (p : List ℕ) (o : Preorder p (length p)) (t : List ℕ) where
  downs : Down p (length p)
  downs = preorder-down p (length p) o

  -- By 01's own rule too the closest entity is the nearest at or above x, or the root.
  closest01_cases : (x : ℕ) → x < length p → Nearest p (entity01 p t) x (closest01 p t x) ⊎ (closest01 p t x ≡ 0)
  unfolding closest01
  closest01_cases x l =
      ⊎_elim (λ q. inl (nearest-at p (length p) downs (entity01 p t) 0 x l q)) (λ q. inr (first_of-none (entity01 p t) 0 (line p x) q))
      (bool_cases (some_of (entity01 p t) (line p x)))

  -- The closest entity is a node.
  closest-node : (x : ℕ) → x < length p → closest p t x < length p
  closest-node x l =
      ⊎_elim (λ (r : Nearest p (entity p t) x (closest p t x)). let q : closest p t x ≤ x = under_le p (length p) downs (closest p t x) x l r.above in omega (arith, q, l))
      (λ (q : closest p t x ≡ 0). omega (arith, q, l)) (closest_cases p downs t x l)

  pub closest-lower : (x : ℕ) → x < length p → under p (closest01 p t x) (closest p t x) ≡ true
  closest-lower x l = ⊎_elim near far (closest01_cases x l)
    where
      near : Nearest p (entity01 p t) x (closest01 p t x) → under p (closest01 p t x) (closest p t x) ≡ true
      near r =
          let q : closest01 p t x ≤ x = under_le p (length p) downs (closest01 p t x) x l r.above in
          let e : entity p t (closest01 p t x) ≡ true = entity-stays p t (closest01 p t x) (omega (arith, q, l)) r.passes in
          (closest-nearest p downs t x l (closest01 p t x) e r.above).lowest (closest01 p t x) e r.above

      far : closest01 p t x ≡ 0 → under p (closest01 p t x) (closest p t x) ≡ true
      far q = rw q (under_all p (length p) downs (closest p t x) (closest-node x l))

  module _ (q : ℕ) (N : ℕ → List ℕ) (c : (j : ℕ) → j < q → EachBelow (length p) (N j)) where
    -- The closest entity by 01's own rule of a text node on some negative word's list is a negator by it.
    negator01-of : (j i : ℕ) → j < q → i < length (N j) → text t (get_or (N j) i 0) ≡ true → negator01 p t q N (closest01 p t (get_or (N j) i 0)) ≡ true
    unfolding negator01
    negator01-of j i lj li s =
        let v : ℕ = closest01 p t (get_or (N j) i 0) in
        let f : ℕ → Bool = λ x. text t x && eqb v (closest01 p t x) in
        some_of_lem q (λ j. some_of f (N j)) j lj (some_of-of f (N j) i li (and_both _ _ s (eq-eqb v v refl)))

    pub valid-stays : (x : ℕ) → x < length p → valid p (negator01 p t q N) x ≡ true → valid p (negator p t q N) x ≡ true
    valid-stays x l e = valid-of p (negator p t q N) x (λ v n h. shut v (negator-at p t q N v n) h)
      where
        shut : (v : ℕ) → Negated p t q N v → under p v x ≡ true → ⊥
        shut v r h =
            let y : ℕ = get_or (N r.word) r.entry.at 0 in
            let s : text t y ≡ true = and_left (text t y) (eqb v (closest p t y)) r.entry.passes in
            let is : v ≡ closest p t y = eqb-true v (closest p t y) (and_right (text t y) (eqb v (closest p t y)) r.entry.passes) in
            let low : under p (closest01 p t y) (closest p t y) ≡ true = closest-lower y (c r.word r.below r.entry.at r.entry.below) in
            valid-none p (negator01 p t q N) x e (closest01 p t y) (negator01-of r.word r.entry.at r.below r.entry.below s)
            (under_trans p (length p) o (closest01 p t y) v x l (ap (under p (closest01 p t y)) is ∙ low) h)

    pub valid-slca-stays : (k : ℕ) (W : ℕ → List ℕ) → ((j : ℕ) → j < k → EachBelow (length p) (W j)) →
        (v : ℕ) → valid_slca p k W (negator01 p t q N) v ≡ true → valid_slca p k W (negator p t q N) v ≡ true
    valid-slca-stays k W b v e =
        valid-slca-of p k W (negator p t q N) v (valid-slca-slca p k W (negator01 p t q N) v e)
        (λ j l. still j l (valid-slca-at p k W (negator01 p t q N) v e j l))
      where
        still : (j : ℕ) → j < k → Entry (λ x. under p v x && valid p (negator01 p t q N) x) (W j) → Entry (λ x. under p v x && valid p (negator p t q N) x) (W j)
        still j l r =
            let x : ℕ = get_or (W j) r.at 0 in
            record {
              at = r.at;
              below = r.below;
              passes = and_both _ _ (and_left (under p v x) (valid p (negator01 p t q N) x) r.passes)
                  (valid-stays x (b j l r.at r.below) (and_right (under p v x) (valid p (negator01 p t q N) x) r.passes));
            }

-- An index whose tree and lists keep their rules, with an end for each word.
module _ (I : Index) (a : Lawful I.parents I.tags) (h : ListsKept I) (k : length I.ends ≡ words I) where
  -- What 01's own rule lists is listed.
  pub types_lose_nothing : (v : ℕ) → is_valid01 I v ≡ true → is_valid I v ≡ true
  unfolding is_valid is_valid01 is_negator is_negator01
  types_lose_nothing v e =
      valid-slca-stays I.parents a.preorder I.tags I.negative (unwanted I) (λ j l. (h (I.positive + j) (omega (arith, k, l))).list.below) I.positive
      (wanted I) (λ j l. (h j (omega (arith, k, l))).list.below) v e

  -- So there are at least as many answers.
  pub types_list_no_fewer : answers I (is_valid01 I) ≤ answers I (is_valid I)
  unfolding answers
  types_list_no_fewer = listed_mono (nodes I) (is_valid01 I) (is_valid I) (λ v l e. types_lose_nothing v e)

-- T, NOT Z of case 9: by 01's own rule the train 12 is a negator, for its only part has no twin; by type that part is an entity, and the train is listed.
pub types_find-more : (is_valid01 T¬Z 12 ≡ false) × (is_valid T¬Z 12 ≡ true)
unfolding every_below some_below sum_below some_of first_of same_list climb line under properly child text start word_list full slca children one_text sibling twin type_of same_type repeats class_of entity closest negator valid valid_slca is_negator is_valid entity01 closest01 negator01 is_negator01 is_valid01 size ends_from all_lists all_counts ask
types_find-more = (refl, refl)

-- ---- (c) without NOT
-- With no negative word there is no negator by either rule.
no_negators : (p t : List ℕ) (N : ℕ → List ℕ) → negator01 p t 0 N ≡ negator p t 0 N
unfolding negator negator01 some_below
no_negators p t N = refl

pub without_not-same : (I : Index) → I.negative ≡ 0 → (v : ℕ) → (is_valid I v ≡ is_valid01 I v) × (is_valid I v ≡ is_slca I v)
unfolding is_valid is_valid01 is_negator is_negator01 is_slca
without_not-same I z v = (by_type ∙ sym by_01, by_type)
  where
    p : List ℕ
    p = I.parents

    by_type : valid_slca p I.positive (wanted I) (negator p I.tags I.negative (unwanted I)) v ≡ slca p I.positive (wanted I) v
    by_type =
        ap (λ (q : ℕ). valid_slca p I.positive (wanted I) (negator p I.tags q (unwanted I)) v) z
        ∙ valid_without_not p I.tags I.positive (wanted I) (unwanted I) v

    by_01 : valid_slca p I.positive (wanted I) (negator01 p I.tags I.negative (unwanted I)) v ≡ slca p I.positive (wanted I) v
    by_01 =
        ap (λ (q : ℕ). valid_slca p I.positive (wanted I) (negator01 p I.tags q (unwanted I)) v) z
        ∙ ap (λ (neg : ℕ → Bool). valid_slca p I.positive (wanted I) neg v) (no_negators p I.tags (unwanted I))
        ∙ valid_without_not p I.tags I.positive (wanted I) (unwanted I) v
