-- Which nodes are listed, in plain words: each test passes exactly where its plain statement holds. Assumes nothing.
--   ancestor-plain, occurs-plain, full-plain, slca-plain, own-plain, elca-plain     the answers of ELCA and SLCA
--   negator-plain, valid-plain, valid-slca-plain                      the answers of the search with NOT
-- Letters: p parents, t tags; k words and W their lists, q negative words and N theirs; v node, u another, x occurrence, j word, l list. Lists may hold a node more than once.
use Prim.Native.Nat.{ℕ, ◌<◌}
use mathlib.Core.Path.{◌≡◌}
use mathlib.Core.Logic.{◌↔◌}
use mathlib.Core.List.{List}
use mathlib.Core.Bool.{true, ◌&&◌}
use lib.Dec.{eqb}
use borrow.Author.Tests.{eq-eqb, eqb-true}
use lib.ListN.{length, get_or}
use Rattle.seq.specs.Lists.{EachBelow}
use Rattle.seq.proofs.Laws.Bools.{and_left, and_right, and_both}
use Rattle.seq.proofs.Laws.Lists.{Entry}
use Rattle.tree.specs.Tree.{under, properly}
use Rattle.tree.specs.Rules.{text}
use Rattle.tree.specs.Plain.{Down}
use Rattle.tree.proofs.Laws.Under.{under-plain, under-of-plain}
use Rattle.tree.proofs.Laws.Ways.{properly-of, properly-under, properly_ne}
use Rattle.answers.specs.Answers.{full, slca, own, elca}
use Rattle.answers.specs.Classes.{closest}
use Rattle.answers.specs.Not.{negator, valid, valid_slca}
use Rattle.answers.specs.Plain.{Ancestor, Occurs, Full, Slca, Own, OwnOccurs, Elca, Negator, Valid, ValidOccurs, ValidSlca}
use Rattle.answers.proofs.Laws.Full.{full_at, full-of}
use Rattle.answers.proofs.Laws.Own.{own-under, own-none, own_of}
use Rattle.answers.proofs.Laws.Plain.{slca-full, slca-none, slca-of, elca-full, elca-own, elca-of}
use Rattle.answers.proofs.Laws.Not.{Negated, negator-at, negator-of, valid-none, valid-of, valid-slca-slca, valid-slca-at, valid-slca-of}
use Rattle.answers.proofs.Laws.Classes.{text-plain, closest-plain, closest-is}

module _ (p : List ℕ) (d : Down p (length p)) where
  pub ancestor-plain : (v u : ℕ) → u < length p → (properly p v u ≡ true) ↔ Ancestor p v u
  ancestor-plain v u l = (
    λ e. record { above = under-plain p (length p) d v u l (properly-under p v u e); other = properly_ne p v u e },
    λ r. properly-of p v u (under-of-plain p (length p) d v u l r.above) r.other,
  )

  pub occurs-plain : (l : List ℕ) → EachBelow (length p) l → (v : ℕ) → Entry (under p v) l ↔ Occurs p l v
  occurs-plain l b v = (
    λ r. record { place = r.at; within = r.below; under = under-plain p (length p) d v (get_or l r.at 0) (b r.at r.below) r.passes },
    λ r. record { at = r.place; below = r.within; passes = under-of-plain p (length p) d v (get_or l r.place 0) (b r.place r.within) r.under },
  )

  -- ---- ELCA and SLCA
  module _ (k : ℕ) (W : ℕ → List ℕ) (b : (j : ℕ) → j < k → EachBelow (length p) (W j)) where
    pub full-plain : (v : ℕ) → (full p k W v ≡ true) ↔ Full p k W v
    full-plain v = (
      λ e j l. (occurs-plain (W j) (b j l) v).0 (full_at p k W v e j l),
      λ h. full-of p k W v (λ j l. (occurs-plain (W j) (b j l) v).1 (h j l)),
    )

    pub slca-plain : (v : ℕ) → (slca p k W v ≡ true) ↔ Slca p k W v
    slca-plain v = (
      λ e. record {
        full = (full-plain v).0 (slca-full p k W v e);
        smallest = λ u l a f. slca-none p k W v e u l ((ancestor-plain v u l).1 a) ((full-plain u).1 f);
      },
      λ r. slca-of p k W v ((full-plain v).1 r.full) (λ u l a f. r.smallest u l ((ancestor-plain v u l).0 a) ((full-plain u).0 f)),
    )

    pub own-plain : (v x : ℕ) → x < length p → (own p k W v x ≡ true) ↔ Own p k W v x
    own-plain v x lx = (
      λ e. record {
        under = under-plain p (length p) d v x lx (own-under p k W v x e);
        exclusive = λ u l a f h. own-none p k W v x e u l ((ancestor-plain v u l).1 a) ((full-plain u).1 f) (under-of-plain p (length p) d u x lx h);
      },
      λ r. own_of p k W v x (under-of-plain p (length p) d v x lx r.under)
          (λ u l a f h. r.exclusive u l ((ancestor-plain v u l).0 a) ((full-plain u).0 f) (under-plain p (length p) d u x lx h)),
    )

    pub elca-plain : (v : ℕ) → (elca p k W v ≡ true) ↔ Elca p k W v
    elca-plain v = (
      λ e. record { full = (full-plain v).0 (elca-full p k W v e); own = λ j l. to j l (elca-own p k W v e j l) },
      λ r. elca-of p k W v (λ j l. back j l (r.own j l)),
    )
      where
        to : (j : ℕ) → j < k → Entry (own p k W v) (W j) → OwnOccurs p k W v j
        to j l r = record { place = r.at; within = r.below; own = (own-plain v (get_or (W j) r.at 0) (b j l r.at r.below)).0 r.passes }

        back : (j : ℕ) → j < k → OwnOccurs p k W v j → Entry (own p k W v) (W j)
        back j l r = record { at = r.place; below = r.within; passes = (own-plain v (get_or (W j) r.place 0) (b j l r.place r.within)).1 r.own }

  -- ---- with NOT
  module _ (t : List ℕ) (q : ℕ) (N : ℕ → List ℕ) (c : (j : ℕ) → j < q → EachBelow (length p) (N j)) where
    pub negator-plain : (v : ℕ) → (negator p t q N v ≡ true) ↔ Negator p t q N v
    negator-plain v = (λ e. to (negator-at p t q N v e), λ r. negator-of p t q N v (back r))
      where
        to : Negated p t q N v → Negator p t q N v
        to r =
            let x : ℕ = get_or (N r.word) r.entry.at 0 in
            let s : text t x ≡ true = and_left (text t x) (eqb v (closest p t x)) r.entry.passes in
            let e : v ≡ closest p t x = eqb-true v (closest p t x) (and_right (text t x) (eqb v (closest p t x)) r.entry.passes) in
            record {
              word = r.word;
              below = r.below;
              place = r.entry.at;
              within = r.entry.below;
              text = (text-plain t x).0 s;
              closest = rw e (closest-plain p d t x (c r.word r.below r.entry.at r.entry.below) s);
            }

        back : Negator p t q N v → Negated p t q N v
        back r =
            let x : ℕ = get_or (N r.word) r.place 0 in
            let s : text t x ≡ true = (text-plain t x).1 r.text in
            record {
              word = r.word;
              below = r.below;
              entry = record {
                at = r.place;
                below = r.within;
                passes = and_both _ _ s (eq-eqb v (closest p t x) (closest-is p d t x (c r.word r.below r.place r.within) s v r.closest));
              };
            }

    pub valid-plain : (x : ℕ) → x < length p → (valid p (negator p t q N) x ≡ true) ↔ Valid p t q N x
    valid-plain x l = (
      λ e v r h. valid-none p (negator p t q N) x e v ((negator-plain v).1 r) (under-of-plain p (length p) d v x l h),
      λ f. valid-of p (negator p t q N) x (λ v e h. f v ((negator-plain v).0 e) (under-plain p (length p) d v x l h)),
    )

    module _ (k : ℕ) (W : ℕ → List ℕ) (b : (j : ℕ) → j < k → EachBelow (length p) (W j)) where
      pub valid-slca-plain : (v : ℕ) → (valid_slca p k W (negator p t q N) v ≡ true) ↔ ValidSlca p t k W q N v
      valid-slca-plain v = (
        λ e. record {
          slca = (slca-plain k W b v).0 (valid-slca-slca p k W (negator p t q N) v e);
          valid = λ j l. to j l (valid-slca-at p k W (negator p t q N) v e j l);
        },
        λ r. valid-slca-of p k W (negator p t q N) v ((slca-plain k W b v).1 r.slca) (λ j l. back j l (r.valid j l)),
      )
        where
          to : (j : ℕ) → j < k → Entry (λ x. under p v x && valid p (negator p t q N) x) (W j) → ValidOccurs p t q N (W j) v
          to j l r =
              let x : ℕ = get_or (W j) r.at 0 in
              let lx : x < length p = b j l r.at r.below in
              record {
                place = r.at;
                within = r.below;
                under = under-plain p (length p) d v x lx (and_left (under p v x) (valid p (negator p t q N) x) r.passes);
                valid = (valid-plain x lx).0 (and_right (under p v x) (valid p (negator p t q N) x) r.passes);
              }

          back : (j : ℕ) → j < k → ValidOccurs p t q N (W j) v → Entry (λ x. under p v x && valid p (negator p t q N) x) (W j)
          back j l r =
              let x : ℕ = get_or (W j) r.place 0 in
              let lx : x < length p = b j l r.place r.within in
              record {
                at = r.place;
                below = r.within;
                passes = and_both _ _ (under-of-plain p (length p) d v x lx r.under) ((valid-plain x lx).1 r.valid);
              }
