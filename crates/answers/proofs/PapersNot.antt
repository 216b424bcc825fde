-- Source document 002's own definitions of negator, valid match and valid SLCA (section 3), beside 01's: where they are equal, and all that differs. Assumes nothing.
--   Closest002 p t x v        == v is the closest entity of x: the lowest entity that is an ancestor of x
--   Negator002 p t q N v      == v is a negator by Definition 1
--   Valid002 p neg x          == a match at x is valid by Definition 2: no ancestor of x is a negator
--   Candidate002 p k W R v    == v is a candidate VSLCA by Definition 3, with R for "is a valid match"
--   ValidSlca002 p m C i v    == v is a valid SLCA by Definition 4, of clause i of m clauses, with C for "is a candidate VSLCA of the clause"
--   negator_002               01's negators are Definition 1's, and the root where a text node has no closest entity
--   valid-slca_002            over 01's valid occurrences Definition 4's valid SLCAs, of one clause, are 01's
--   valid_002                 a match is valid by 01 exactly where it is valid by Definition 2 and is itself no negator
--   valid-differs             so what is valid by Definition 2 alone is itself a negator and has none above it
--   valid-slca-more           every valid SLCA of 01 is one by Definitions 2 to 4
--   differs-at_13             and not the other way round: a word at node 13, NOT Z, on the schedule
-- Entities are those of 02's Q-1 throughout. The paper says: "A node denotes an entity if its tag name is identical to its siblings, such as a *-node in the XML DTD."
-- Q-1 takes this by type, as a DTD's star is declared for all such nodes at once: where one node of a type has such a sibling, all of them are entities.
-- Letters: p parents, t tags; k words and W their lists, q negative words and N theirs; neg the test for negators; v node, u another, x match, j word, i clause.
use Prim.Native.Nat.{ℕ, zero, suc, ◌<◌}
use mathlib.Core.Path.{◌≡◌, refl, sym, ap, ◌∙◌}
use mathlib.Core.Logic.{◌↔◌, ◌⊎◌, inl, inr, ⊎_elim}
use mathlib.Core.List.{List, [], ◌∷◌}
use mathlib.Core.Bool.{Bool, true, false, not, ◌&&◌}
use native.Mathlib.Omega.{arith}
use lib.Dec.{eqb, ltb}
use borrow.Author.Tests.{ne_eqb, ltb-true}
use lib.ListN.{length, get_or}
use Rattle.seq.specs.Below.{every_below, some_below, sum_below}
use Rattle.seq.specs.Lists.{some_of, first_of, same_list, EachBelow}
use Rattle.seq.proofs.Laws.Bools.{bool_cases, bool_false, bool-not_both, and_left, and_right, and_both}
use Rattle.seq.proofs.Laws.Below.{every-at}
use Rattle.seq.proofs.Laws.Lists.{Entry}
use Rattle.tree.specs.Tree.{parent, climb, line, under, properly, child}
use Rattle.tree.specs.Rules.{text}
use Rattle.tree.specs.Plain.{Under, Down, Preorder}
use Rattle.tree.proofs.Laws.Lines.{under_self}
use Rattle.tree.proofs.Laws.Ways.{properly-under, properly_ne, under_or}
use Rattle.index.specs.Index.{Index, wanted, start, word_list}
use Rattle.answers.specs.Answers.{full, slca}
use Rattle.answers.specs.Classes.{children, one_text, sibling, twin, type_of, same_type, repeats, class_of, entity, closest}
use Rattle.answers.specs.Not.{negator, valid, valid_slca}
use Rattle.answers.specs.Searches.{is_negator, is_valid}
use Rattle.answers.specs.Plain.{Text, Entity, Ancestor, Closest, nearest, root, Negator}
use Rattle.answers.proofs.Laws.Not.{valid-none, valid-of, valid-slca-slca, valid-slca-at, valid-slca-of}
use Rattle.answers.proofs.Laws.Meaning.{negator-plain}
use Rattle.answers.proofs.Papers.{Slca002, slca_002}
use Rattle.answers.proofs.Claims.{Word, word, size, ends_from, all_lists, all_counts, ask}
use Rattle.answers.proofs.Cases.{Z, schedule}

-- ---- the paper's definitions
-- "The closest entity of node n refers to the lowest entity node that are the ancestor of n." With the entities of 02's Q-1.
pub record Closest002 (p t : List ℕ) (x v : ℕ) : Type 0 where
  pub entity : Entity p t v
  pub ancestor : Ancestor p v x
  pub lowest : (w : ℕ) → Entity p t w → Ancestor p w x → Under p w v

-- Definition 1: the closest entity of a text node that corresponds to a given negative keyword.
pub record Negator002 (p t : List ℕ) (q : ℕ) (N : ℕ → List ℕ) (v : ℕ) : Type 0 where
  pub word : ℕ
  pub below : word < q
  pub place : ℕ
  pub within : place < length (N word)
  pub text : Text t (get_or (N word) place 0)
  pub closest : Closest002 p t (get_or (N word) place 0) v

-- A text node of a negative keyword that has no entity above it: the paper does not say what its closest entity is.
pub record Unclosed002 (p t : List ℕ) (q : ℕ) (N : ℕ → List ℕ) : Type 0 where
  pub word : ℕ
  pub below : word < q
  pub place : ℕ
  pub within : place < length (N word)
  pub text : Text t (get_or (N word) place 0)
  pub none : (w : ℕ) → Entity p t w → Ancestor p w (get_or (N word) place 0) → ⊥

-- Definition 2: a match is valid if it has no ancestors that are negators.
abbrev pub Valid002 : List ℕ → (ℕ → Bool) → ℕ → Type 0
Valid002 p neg x = (v : ℕ) → neg v ≡ true → properly p v x ≡ true → ⊥

-- A valid match of the list l under v.
pub record ValidMatch (p : List ℕ) (l : List ℕ) (R : ℕ → Type 0) (v : ℕ) : Type 0 where
  pub place : ℕ
  pub within : place < length l
  pub below : under p v (get_or l place 0) ≡ true
  pub valid : R (get_or l place 0)

-- Definition 3: an SLCA that contains at least one valid match for every positive keyword.
pub record Candidate002 (p : List ℕ) (k : ℕ) (W : ℕ → List ℕ) (R : ℕ → Type 0) (v : ℕ) : Type 0 where
  pub slca : Slca002 p k W v
  pub valid : (j : ℕ) → j < k → ValidMatch p (W j) R v

-- Definition 4: a candidate that has no descendants that are candidates formed by other clauses.
pub record ValidSlca002 (p : List ℕ) (m : ℕ) (C : ℕ → ℕ → Type 0) (i v : ℕ) : Type 0 where
  pub candidate : C i v
  pub lowest : (j : ℕ) → j < m → (j ≡ i → ⊥) → (u : ℕ) → properly p v u ≡ true → C j u → ⊥

-- "With only one clause, all the candidate VSLCAs are valid SLCAs."
pub one_clause : (p : List ℕ) (C : ℕ → ℕ → Type 0) (v : ℕ) → C 0 v ↔ ValidSlca002 p 1 C 0 v
one_clause p C v = (λ c. record { candidate = c; lowest = λ j l ne u a d. ne (omega arith) }, λ r. r.candidate)

-- ---- negators
-- 01's negators are Definition 1's, and besides the root where some text node has no entity above it: there the paper is silent and 01 decides.
module _ (p : List ℕ) (d : Down p (length p)) (t : List ℕ) (q : ℕ) (N : ℕ → List ℕ) (c : (j : ℕ) → j < q → EachBelow (length p) (N j)) where
  pub negator_002 : (v : ℕ) → (negator p t q N v ≡ true) ↔ (Negator002 p t q N v ⊎ ((v ≡ 0) × Unclosed002 p t q N))
  negator_002 v = (λ e. to ((negator-plain p d t q N c v).0 e), λ r. (negator-plain p d t q N c v).1 (⊎_elim named unnamed r))
    where
      to : Negator p t q N v → Negator002 p t q N v ⊎ ((v ≡ 0) × Unclosed002 p t q N)
      to r = by r.closest
        where
          by : Closest p t (get_or (N r.word) r.place 0) v → Negator002 p t q N v ⊎ ((v ≡ 0) × Unclosed002 p t q N)
          by (nearest e a low) = inl (record {
            word = r.word;
            below = r.below;
            place = r.place;
            within = r.within;
            text = r.text;
            closest = record { entity = e; ancestor = a; lowest = low };
          })
          by (root none e) = inr (e, record { word = r.word; below = r.below; place = r.place; within = r.within; text = r.text; none = none })

      named : Negator002 p t q N v → Negator p t q N v
      named r = record {
        word = r.word;
        below = r.below;
        place = r.place;
        within = r.within;
        text = r.text;
        closest = nearest r.closest.entity r.closest.ancestor r.closest.lowest;
      }

      unnamed : (v ≡ 0) × Unclosed002 p t q N → Negator p t q N v
      unnamed (e, r) = record { word = r.word; below = r.below; place = r.place; within = r.within; text = r.text; closest = root r.none e }

-- ---- valid matches
module _ (p : List ℕ) (neg : ℕ → Bool) (x : ℕ) where
  pub valid_002 : (valid p neg x ≡ true) ↔ ((neg x ≡ false) × Valid002 p neg x)
  valid_002 = (
    λ e. (bool_false (neg x) (λ n. valid-none p neg x e x n (under_self p x)), λ v n a. valid-none p neg x e v n (properly-under p v x a)),
    λ r. valid-of p neg x (λ v n h. ⊎_elim (λ (s : v ≡ x). bool-not_both (neg x) (ap neg (sym s) ∙ n) r.0) (λ a. r.1 v n a) (under_or p v x h)),
  )

  -- A match that is valid by Definition 2 and not by 01 is itself a negator, and no negator is above it.
  pub valid-differs : (Valid002 p neg x × (valid p neg x ≡ false)) ↔ ((neg x ≡ true) × Valid002 p neg x)
  valid-differs = (
    λ r. (not-false-true (λ n. bool-not_both (valid p neg x) (valid_002.1 (n, r.0)) r.1), r.0),
    λ r. (r.1, bool_false (valid p neg x) (λ e. bool-not_both (neg x) r.0 (valid_002.0 e).0)),
  )
    where
      not-false-true : (neg x ≡ false → ⊥) → neg x ≡ true
      not-false-true h = ⊎_elim (λ e. e) (λ e. absurd (h e)) (bool_cases (neg x))

  -- Definition 2 as a test: negators other than x itself.
  valid_002_test : valid p (λ v. neg v && not (eqb v x)) x ≡ true → Valid002 p neg x
  valid_002_test e v n a =
      valid-none p (λ v. neg v && not (eqb v x)) x e v (and_both _ _ n (ap not (ne_eqb v x (properly_ne p v x a)))) (properly-under p v x a)

-- ---- valid SLCAs
module _ (p : List ℕ) (o : Preorder p (length p)) (k : ℕ) (W : ℕ → List ℕ) (b : (j : ℕ) → j < k → EachBelow (length p) (W j)) (neg : ℕ → Bool) where
  -- Candidates over 01's valid occurrences are 01's valid SLCAs.
  candidate_002 : (v : ℕ) → Candidate002 p k W (λ x. valid p neg x ≡ true) v ↔ (valid_slca p k W neg v ≡ true)
  candidate_002 v = (
    λ r. valid-slca-of p k W neg v ((slca_002 p o k W b v).0 r.slca) (λ j l. to j (r.valid j l)),
    λ e. record { slca = (slca_002 p o k W b v).1 (valid-slca-slca p k W neg v e); valid = λ j l. back j (valid-slca-at p k W neg v e j l) },
  )
    where
      to : (j : ℕ) → ValidMatch p (W j) (λ x. valid p neg x ≡ true) v → Entry (λ x. under p v x && valid p neg x) (W j)
      to j r = record { at = r.place; below = r.within; passes = and_both _ _ r.below r.valid }

      back : (j : ℕ) → Entry (λ x. under p v x && valid p neg x) (W j) → ValidMatch p (W j) (λ x. valid p neg x ≡ true) v
      back j r =
          let x : ℕ = get_or (W j) r.at 0 in
          record {
            place = r.at;
            within = r.below;
            below = and_left (under p v x) (valid p neg x) r.passes;
            valid = and_right (under p v x) (valid p neg x) r.passes;
          }

  -- With one clause, over 01's valid occurrences, Definition 4's valid SLCAs are 01's.
  pub valid-slca_002 : (v : ℕ) → ValidSlca002 p 1 (λ i u. Candidate002 p k W (λ x. valid p neg x ≡ true) u) 0 v ↔ (valid_slca p k W neg v ≡ true)
  valid-slca_002 v = (
    λ r. (candidate_002 v).0 r.candidate,
    λ e. (one_clause p (λ i u. Candidate002 p k W (λ x. valid p neg x ≡ true) u) v).0 ((candidate_002 v).1 e),
  )

  -- With one clause, every valid SLCA of 01 is one by Definition 2's valid matches.
  pub valid-slca-more : (v : ℕ) → valid_slca p k W neg v ≡ true → ValidSlca002 p 1 (λ i u. Candidate002 p k W (Valid002 p neg) u) 0 v
  valid-slca-more v e = (one_clause p (λ i u. Candidate002 p k W (Valid002 p neg) u) v).0 (weaker ((candidate_002 v).1 e))
    where
      weaker : Candidate002 p k W (λ x. valid p neg x ≡ true) v → Candidate002 p k W (Valid002 p neg) v
      weaker r = record { slca = r.slca; valid = λ j l. still j (r.valid j l) }
        where
          still : (j : ℕ) → ValidMatch p (W j) (λ x. valid p neg x ≡ true) v → ValidMatch p (W j) (Valid002 p neg) v
          still j m = record { place = m.place; within = m.within; below = m.below; valid = ((valid_002 p neg (get_or (W j) m.place 0)).0 m.valid).1 }

-- ---- a case
-- A word at node 13 alone, NOT Z, on the schedule: 13 is a negator, the word occurs there, and no negator is above it.
abbrev at13 : Word
at13 = word (13 ∷ []) (1 ∷ 0 ∷ 0 ∷ 0 ∷ 0 ∷ 0 ∷ 0 ∷ 0 ∷ 0 ∷ 0 ∷ 0 ∷ 0 ∷ 1 ∷ 1 ∷ 0 ∷ 0 ∷ 0 ∷ 0 ∷ [])

abbrev pub at13¬z : Index
at13¬z = schedule (at13 ∷ []) (Z ∷ [])

preorder-at13¬z : Preorder at13¬z.parents (length at13¬z.parents)
unfolding every_below some_of climb line under ask
preorder-at13¬z i l = every-at 17 (λ i. under at13¬z.parents (parent at13¬z.parents (suc i)) i) refl i (omega arith)

lists-at13¬z : (j : ℕ) → j < at13¬z.positive → EachBelow (length at13¬z.parents) (wanted at13¬z j)
unfolding every_below start word_list size ends_from all_lists all_counts ask
lists-at13¬z zero l i h = ltb-true _ 18 (every-at 1 (λ i. ltb (get_or (wanted at13¬z 0) i 0) 18) refl i h)
lists-at13¬z (suc j) l i h = absurd (omega arith)

-- By Definition 2 the match at 13 is valid and 13 is a valid SLCA; by 01 it is none.
pub differs-at_13 :
    ValidSlca002 at13¬z.parents 1 (λ i u. Candidate002 at13¬z.parents at13¬z.positive (wanted at13¬z) (Valid002 at13¬z.parents (is_negator at13¬z)) u) 0 13
    × (is_valid at13¬z 13 ≡ false)
unfolding every_below some_below sum_below some_of first_of same_list climb line under properly child text start word_list full slca children one_text sibling twin type_of same_type repeats class_of entity closest negator valid valid_slca is_negator is_valid size ends_from all_lists all_counts ask
differs-at_13 = (
  (one_clause at13¬z.parents (λ i u. Candidate002 at13¬z.parents at13¬z.positive (wanted at13¬z) (Valid002 at13¬z.parents (is_negator at13¬z)) u) 13).0
      (record {
        slca = (slca_002 at13¬z.parents preorder-at13¬z at13¬z.positive (wanted at13¬z) lists-at13¬z 13).1 refl;
        valid = at;
      }),
  refl,
)
  where
    at : (j : ℕ) → j < at13¬z.positive → ValidMatch at13¬z.parents (wanted at13¬z j) (Valid002 at13¬z.parents (is_negator at13¬z)) 13
    at zero l = record { place = 0; within = omega arith; below = refl; valid = valid_002_test at13¬z.parents (is_negator at13¬z) 13 refl }
    at (suc j) l = absurd (omega arith)
