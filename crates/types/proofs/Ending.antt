-- All elements taken up: the first row holds the number of each node's type, 0 at a text, and each type that repeats is flagged.
-- Letters: p parents, t tags, m elements; at, where the order begins; last, where the row of last children begins; w rows, w₀ as they were lent; i places taken up,
-- v node. Assumes nothing.
use Prim.Native.Nat.{ℕ, ◌/◌, ◌≤◌, ◌<◌}
use mathlib.Core.Path.{◌≡◌, sym, ap, ◌∙◌}
use mathlib.Core.Logic.{⊎_elim}
use mathlib.Core.List.{List}
use mathlib.Core.Bool.{true, false, cond}
use native.Mathlib.Omega.{arith}
use lib.Dec.{eqb}
use borrow.Author.Tests.{eqb-true, eqb-false}
use lib.ListN.{length, get_or}
use Rattle.seq.proofs.Laws.Bools.{bool_cases, bool-not_both}
use Rattle.seq.proofs.Laws.Numbers.{less_or}
use Rattle.tree.specs.Rules.{text}
use Rattle.tree.specs.Plain.{Down}
use Rattle.tree.proofs.Laws.Under.{preorder-down}
use Rattle.answers.specs.Classes.{repeats}
use Rattle.answers.proofs.Laws.Types.{same_type_tag, Repeated, repeats-at, repeats-same}
use Rattle.types.specs.Inner.Order.{tag, Element, entry, Stands}
use Rattle.types.specs.Inner.Numbers.{type_number, number_in, flag_in, NumberPre, Numbered}
use Rattle.types.proofs.Kin.{TwinFound, twin-at}
use Rattle.types.proofs.Numbers.{number_same, number_type, number-root, number-element, repeats-root}
use Rattle.types.proofs.Taking.{Taking}

module _ (p t : List ℕ) (m at last : ℕ) (w₀ : List ℕ) (pre : NumberPre p t m at last w₀) where
  -- The node at a place.
  abbrev o : ℕ → ℕ
  o = entry w₀ at

  down : Down p (length p)
  down = preorder-down p (length p) pre.tree.preorder

  pub taking-end : (w : List ℕ) (i : ℕ) → Taking p t m at last w₀ w i → m ≤ i → Numbered p t w₀ w
  unfolding text
  taking-end w i s h = record {
    long = s.long;
    numbers = λ v l. ⊎_elim (λ q. rw q (of-text v l q)) (λ q. rw q (of_node v l (eqb-false (tag t v) 0 q))) (bool_cases (eqb (tag t v) 0));
    flags = λ v l ne. ⊎_elim (λ z. of-element v (be v l ne z)) (λ (z : v ≤ 0). of-root v (omega arith)) (less_or 0 v);
  }
    where
      of-text : (v : ℕ) → v < length p → eqb (tag t v) 0 ≡ true → number_in w v ≡ 0
      of-text v l q = omega (arith, s.texts v l (eqb-true (tag t v) 0 q))

      be : (v : ℕ) → v < length p → (tag t v ≡ 0 → ⊥) → 0 < v → Element t v
      be v l ne z = record { not_root = z; node = omega (arith, pre.tagged); solid = ne }

      -- An element stands at a place taken up.
      stands : (v : ℕ) → Element t v → Stands i at w₀ v
      stands v e = let r : Stands m at w₀ v = pre.order.has v e in record { place = r.place; within = omega (arith, r.within); is = r.is }

      numbered : (v : ℕ) → Element t v → number_in w v ≡ type_number p t v
      numbered v e =
          let r : Stands i at w₀ v = stands v e in
          ap (number_in w) (sym r.is) ∙ s.typed r.place r.within ∙ ap (type_number p t) r.is

      of_node : (v : ℕ) → v < length p → (tag t v ≡ 0 → ⊥) → number_in w v ≡ type_number p t v
      of_node v l ne = ⊎_elim (λ z. numbered v (be v l ne z)) (λ (z : v ≤ 0). at-root v (omega arith)) (less_or 0 v)
        where
          at-root : (v : ℕ) → v ≡ 0 → number_in w v ≡ type_number p t v
          at-root v z = omega (arith, ap (λ (x : ℕ). get_or w x 0) z, s.root, ap (type_number p t) z, number-root p t)

      of-root : (v : ℕ) → v ≡ 0 → flag_in w (type_number p t v) ≡ cond (repeats p t v) 1 0
      of-root v z =
          ap (λ (x : ℕ). flag_in w (type_number p t x)) z ∙ ap (flag_in w) (number-root p t) ∙ ap (λ (x : ℕ). x / 65536) s.root
          ∙ sym (ap (λ (x : ℕ). cond (repeats p t x) 1 0) z ∙ rw (repeats-root p t down))

      -- The type repeats: a node of it has a twin, both are elements and taken up.
      repeated : (v : ℕ) → Element t v → repeats p t v ≡ true → flag_in w (type_number p t v) ≡ 1
      repeated v e q =
          let r : Repeated p t v = repeats-at p t v q in
          let f : TwinFound p t r.node = twin-at p t r.node r.twin in
          let same : tag t r.node ≡ tag t v = same_type_tag p t r.node v r.same_type in
          let a : Stands i at w₀ r.node = stands r.node (be r.node r.below (λ z. e.solid (sym same ∙ z)) f.akin.one) in
          let c : Stands i at w₀ f.other = stands f.other (be f.other f.below (λ z. e.solid (sym same ∙ sym f.akin.tags ∙ z)) f.akin.two) in
          ap (flag_in w) (sym (number_same p t r.node v r.same_type)) ∙ ap (λ (x : ℕ). flag_in w (type_number p t x)) (sym a.is)
          ∙ s.complete a.place c.place a.within c.within (rw (a.is, c.is) f.akin)

      single : (v : ℕ) → Element t v → repeats p t v ≡ false → flag_in w (type_number p t v) ≡ 0
      single v e q =
          let a : Stands i at w₀ (type_number p t v) = stands (type_number p t v) (number-element p t down pre.tagged v e) in
          ap (flag_in w) (sym a.is)
          ∙ ⊎_elim (λ z. z) (λ z. absurd (bool-not_both _ (found a (s.sound a.place a.within z)) q)) (s.binary a.place a.within)
        where
          found : (a : Stands i at w₀ (type_number p t v)) → repeats p t (o a.place) ≡ true → repeats p t v ≡ true
          found a z = sym (repeats-same p t (type_number p t v) v (number_type p t v (omega (arith, e.node, pre.tagged)))) ∙ ap (repeats p t) (sym a.is) ∙ z

      of-element : (v : ℕ) → Element t v → flag_in w (type_number p t v) ≡ cond (repeats p t v) 1 0
      of-element v e = ⊎_elim (λ q. repeated v e q ∙ sym (rw q)) (λ q. single v e q ∙ sym (rw q)) (bool_cases (repeats p t v))
