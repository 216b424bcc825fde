-- ELCA of lists that are where words stand is that of the words.
--   each_below   no entry of such a list is past the last node
--   elca-words   ELCA's nodes are the exclusive lowest common ancestors of the words
-- Letters: p parents, k words, W lists; `at j u` says that word j stands at the node u; v node, j word. Assumes nothing.
use Prim.Native.Nat.{ℕ, ◌<◌}
use mathlib.Core.Path.{◌≡◌, sym, ap, subst, ◌∙◌}
use mathlib.Core.Logic.{◌↔◌}
use mathlib.Core.List.{List}
use mathlib.Core.Bool.{Bool, true}
use lib.Dec.{eqb}
use lib.ListN.{length, get_or}
use borrow.Author.Tests.{eqb-true}
use Rattle.seq.specs.Below.{listed}
use Rattle.seq.specs.Lists.{some_of, EachBelow}
use Rattle.seq.proofs.Laws.Lists.{Entry, some_of-at}
use Rattle.seq.proofs.Laws.Members.{member_self, listed_below, listed_member}
use Rattle.tree.specs.Plain.{Under}
use Rattle.answers.specs.Plain.{Occurs, Full, Own, OwnOccurs, Elca}
use Rattle.build_laws.specs.Search.{WordUnder, FullOf, OwnWord, WordsElca}

-- ---- lists that are where the words stand
module _ (p : List ℕ) (k : ℕ) (at : ℕ → ℕ → Bool) (W : ℕ → List ℕ) (lists : (j : ℕ) → j < k → W j ≡ listed (length p) (at j)) where
  pub each_below : (j : ℕ) → j < k → EachBelow (length p) (W j)
  each_below j l = subst (EachBelow (length p)) (sym (lists j l)) (listed_below (length p) (at j))

  -- Word j stands at each entry of its list.
  entry-stands : (j : ℕ) → j < k → (i : ℕ) → i < length (W j) → at j (get_or (W j) i 0) ≡ true
  entry-stands j l i h =
      sym (listed_member (length p) (at j) (get_or (W j) i 0) (each_below j l i h)) ∙ sym (ap (some_of (eqb (get_or (W j) i 0))) (lists j l)) ∙ member_self (W j) i h

  -- Each node at which word j stands is an entry of its list.
  stands-entry : (j : ℕ) → j < k → (u : ℕ) → u < length p → at j u ≡ true → Entry (eqb u) (W j)
  stands-entry j l u h e = some_of-at (eqb u) (W j) (ap (some_of (eqb u)) (lists j l) ∙ listed_member (length p) (at j) u h ∙ e)

  entry-is : (j u : ℕ) (r : Entry (eqb u) (W j)) → u ≡ get_or (W j) r.at 0
  entry-is j u r = eqb-true u (get_or (W j) r.at 0) r.passes

  occurs-word : (v j : ℕ) → j < k → Occurs p (W j) v ↔ WordUnder p at v j
  occurs-word v j l = (
    λ r. record { node = get_or (W j) r.place 0; below = each_below j l r.place r.within; stands = entry-stands j l r.place r.within; under = r.under },
    λ r. back r (stands-entry j l r.node r.below r.stands),
  )
    where
      back : (r : WordUnder p at v j) → Entry (eqb r.node) (W j) → Occurs p (W j) v
      back r e = record { place = e.at; within = e.below; under = subst (Under p v) (entry-is j r.node e) r.under }

  full-words : (v : ℕ) → Full p k W v ↔ FullOf p k at v
  full-words v = (λ f j l. (occurs-word v j l).0 (f j l), λ f j l. (occurs-word v j l).1 (f j l))

  own-word : (v j : ℕ) → j < k → OwnOccurs p k W v j ↔ OwnWord p k at v j
  own-word v j l = (
    λ r. record {
      node = get_or (W j) r.place 0;
      below = each_below j l r.place r.within;
      stands = entry-stands j l r.place r.within;
      under = r.own.under;
      exclusive = λ u h a f. r.own.exclusive u h a ((full-words u).1 f);
    },
    λ r. back r (stands-entry j l r.node r.below r.stands),
  )
    where
      back : (r : OwnWord p k at v j) → Entry (eqb r.node) (W j) → OwnOccurs p k W v j
      back r e =
          record {
            place = e.at;
            within = e.below;
            own = subst (Own p k W v) (entry-is j r.node e) (record { under = r.under; exclusive = λ u h a f. r.exclusive u h a ((full-words u).0 f) });
          }

  pub elca-words : (v : ℕ) → Elca p k W v ↔ WordsElca p k at v
  elca-words v = (
    λ e j l. (own-word v j l).0 (e.own j l),
    λ e. record { full = λ j l. (occurs-word v j l).1 (under_of (e j l)); own = λ j l. (own-word v j l).1 (e j l) },
  )
    where
      under_of : {j : ℕ} → OwnWord p k at v j → WordUnder p at v j
      under_of r = record { node = r.node; below = r.below; stands = r.stands; under = r.under }
