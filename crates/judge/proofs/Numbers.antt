-- The turns in numbers, by what the code has tested: a lemma for each way that a function returns.
-- Letters as in specs/Inner. Assumes nothing.
use Prim.Native.Nat.{ℕ, suc, ◌+◌, ◌-◌, ◌≤◌, ◌<◌}
use mathlib.Core.Path.{◌≡◌, sym, ap, ap₂, ◌∙◌}
use mathlib.Core.List.{List}
use mathlib.Core.Bool.{Bool, true, false, not, cond, ◌&&◌}
use lib.Dec.{eqb, ltb}
use native.Mathlib.Omega.{arith}
use lib.ListN.{length, get_or, take, drop, length-drop}
use borrow.Author.Tests.{eq-eqb, ne_eqb, lt-ltb, le-ltb}
use Rattle.seq.proofs.Laws.Bools.{and_false-right, cond-true, cond-false}
use Rattle.profile.specs.Spans.{common}
use Rattle.profile.proofs.Laws.Spans.{common-text}
use Rattle.markup.specs.declared.Piece.{Piece}
use Rattle.judge.specs.Inner.{no_name, broken_at, over_at, goes_on, is_full, is_closed, passed, space_turn, data_turn, tag_turn, matched, close_turn, Holds}
use Rattle.judge.specs.declared.turns.Name.{Name}
use Rattle.judge.specs.declared.turns.State.{State}

-- ---- pieces that meet no node
module _ (p : Piece) (s : State) where
  pub passed-broken : p.whole ≡ false → broken_at p.end ≡ passed p s
  unfolding passed
  passed-broken w = sym (cond-false p.whole w _ _)

  pub passed_on : p.whole ≡ true → goes_on s.depth s.met s.solid s.rooted ≡ passed p s
  unfolding passed
  passed_on w = sym (cond-true p.whole w _ _)

  pub space-broken : (p.whole && eqb p.middle p.end) ≡ false → broken_at p.middle ≡ space_turn p s
  unfolding space_turn
  space-broken n = sym (cond-false (p.whole && eqb p.middle p.end) n _ _)

  pub space-on : p.whole ≡ true → p.middle ≡ p.end → goes_on 0 s.met s.solid s.rooted ≡ space_turn p s
  unfolding space_turn
  space-on w e = sym (cond-true (p.whole && eqb p.middle p.end) (ap₂ (λ a b. a && b) w (eq-eqb p.middle p.end e)) _ _)

  -- ---- data
  pub data_outside : s.depth ≡ 0 → space_turn p s ≡ data_turn p s
  unfolding data_turn
  data_outside e = sym (cond-true (eqb s.depth 0) (eq-eqb s.depth 0 e) _ _)

  module _ (n : s.depth ≡ 0 → ⊥) where
    pub data_white : p.end ≤ p.middle → passed p s ≡ data_turn p s
    unfolding data_turn
    data_white l =
        sym
        (cond-false (eqb s.depth 0) (ne_eqb s.depth 0 n) _ _ ∙
        cond-false (ltb p.middle p.end && not s.solid) (ap (λ b. b && not s.solid) (le-ltb p.middle p.end l)) _ _)

    pub data_solid : s.solid ≡ true → passed p s ≡ data_turn p s
    unfolding data_turn
    data_solid h =
        sym
        (cond-false (eqb s.depth 0) (ne_eqb s.depth 0 n) _ _ ∙
        cond-false (ltb p.middle p.end && not s.solid) (and_false-right (ltb p.middle p.end) (not s.solid) (ap not h)) _ _)

    module _ (l : p.middle < p.end) (h : s.solid ≡ false) where
      -- Data that makes a node.
      data_new : cond (is_full s.depth s.met) (over_at s.met) (cond p.whole (goes_on s.depth (suc s.met) true s.rooted) (broken_at p.end)) ≡ data_turn p s
      unfolding data_turn
      data_new =
          sym
          (cond-false (eqb s.depth 0) (ne_eqb s.depth 0 n) _ _ ∙
          cond-true (ltb p.middle p.end && not s.solid) (ap₂ (λ a b. a && b) (lt-ltb p.middle p.end l) (ap not h)) _ _)

      pub data_full : is_full s.depth s.met ≡ true → over_at s.met ≡ data_turn p s
      data_full f = sym (cond-true (is_full s.depth s.met) f _ _) ∙ data_new

      pub data_broken : is_full s.depth s.met ≡ false → p.whole ≡ false → broken_at p.end ≡ data_turn p s
      data_broken f w = sym (cond-false (is_full s.depth s.met) f _ _ ∙ cond-false p.whole w _ _) ∙ data_new

      pub data_node_lem : is_full s.depth s.met ≡ false → p.whole ≡ true → (i : ℕ) → i ≡ suc s.met → goes_on s.depth i true s.rooted ≡ data_turn p s
      data_node_lem f w i e =
          ap (λ i. goes_on s.depth i true s.rooted) e ∙ sym (cond-false (is_full s.depth s.met) f _ _ ∙ cond-true p.whole w _ _) ∙ data_new

-- ---- tags
module _ (at : ℕ) (p : Piece) (s : State) (d : ℕ) where
  pub tag-closed : is_closed s.depth s.rooted ≡ true → broken_at (at + 1) ≡ tag_turn at p s d
  unfolding tag_turn
  tag-closed c = sym (cond-true (is_closed s.depth s.rooted) c _ _)

  module _ (c : is_closed s.depth s.rooted ≡ false) where
    pub tag-broken : p.whole ≡ false → broken_at p.end ≡ tag_turn at p s d
    unfolding tag_turn
    tag-broken w = sym (cond-false (is_closed s.depth s.rooted) c _ _ ∙ cond-false p.whole w _ _)

    module _ (w : p.whole ≡ true) where
      pub tag-full : is_full s.depth s.met ≡ true → over_at s.met ≡ tag_turn at p s d
      unfolding tag_turn
      tag-full f = sym (cond-false (is_closed s.depth s.rooted) c _ _ ∙ cond-true p.whole w _ _ ∙ cond-true (is_full s.depth s.met) f _ _)

      pub tag-node : is_full s.depth s.met ≡ false → (m : ℕ) → m ≡ suc s.met → goes_on d m false true ≡ tag_turn at p s d
      unfolding tag_turn
      tag-node f m e =
          ap (λ m. goes_on d m false true) e
          ∙ sym (cond-false (is_closed s.depth s.rooted) c _ _ ∙ cond-true p.whole w _ _ ∙ cond-false (is_full s.depth s.met) f _ _)

-- ---- end tags
module _ (T : List ℕ) (at : ℕ) (p : Piece) (s : State) (N : List Name) where
  abbrev size : ℕ
  size = (get_or N (s.depth - 1) no_name).size

  abbrev same : ℕ
  same = matched T at s N

  pub close-outside : s.depth ≡ 0 → broken_at (at + 1) ≡ close_turn T at p s N
  unfolding close_turn
  close-outside e = sym (cond-true (eqb s.depth 0) (eq-eqb s.depth 0 e) _ _)

  abbrev start : ℕ
  start = (get_or N (s.depth - 1) no_name).start

  -- The part of the text that holds the name, as the code lends it; r of its bytes stand in the end tag.
  module _ (n : s.depth ≡ 0 → ⊥) (r : ℕ) (e : r ≡ common (take (start + size - start) (drop start T)) (drop (at + 2) T)) where
    same-is : r ≡ same
    same-is = e ∙ ap (λ z. common (take z (drop start T)) (drop (at + 2) T)) back
      where
        back : start + size - start ≡ size
        back = omega arith

    named : Bool
    named = eqb same size && eqb p.middle (at + 2 + size)

    -- The name is another: the first wrong byte is behind those that stand.
    differs : named ≡ false → broken_at (at + 2 + r) ≡ close_turn T at p s N
    unfolding close_turn named
    differs f = ap (λ r. broken_at (at + 2 + r)) same-is ∙ sym (cond-false (eqb s.depth 0) (ne_eqb s.depth 0 n) _ _ ∙ cond-false named f _ _)

    pub close-differs : (r ≡ size → ⊥) → broken_at (at + 2 + r) ≡ close_turn T at p s N
    unfolding named
    close-differs d = differs (ap (λ b. b && eqb p.middle (at + 2 + size)) (ne_eqb same size (λ f. d (same-is ∙ f))))

    pub close-longer : (p.middle ≡ at + 2 + size → ⊥) → broken_at (at + 2 + r) ≡ close_turn T at p s N
    unfolding named
    close-longer d = differs (and_false-right (eqb same size) (eqb p.middle (at + 2 + size)) (ne_eqb p.middle (at + 2 + size) d))

    module _ (a : r ≡ size) (b : p.middle ≡ at + 2 + size) where
      close-named : cond p.whole (goes_on (s.depth - 1) s.met false s.rooted) (broken_at p.end) ≡ close_turn T at p s N
      unfolding close_turn
      close-named =
          sym
          (cond-false (eqb s.depth 0) (ne_eqb s.depth 0 n) _ _ ∙
          cond-true (eqb same size && eqb p.middle (at + 2 + size)) (ap₂ (λ a b. a && b) (eq-eqb same size (sym same-is ∙ a)) (eq-eqb p.middle (at + 2 + size) b)) _ _)

      pub close-broken : p.whole ≡ false → broken_at p.end ≡ close_turn T at p s N
      close-broken w = sym (cond-false p.whole w _ _) ∙ close-named

      pub close-on : p.whole ≡ true → goes_on (s.depth - 1) s.met false s.rooted ≡ close_turn T at p s N
      close-on w = sym (cond-true p.whole w _ _) ∙ close-named

-- ---- bounds
pub name-within : (T : List ℕ) (s : State) (N : List Name) → Holds T s N → (s.depth ≡ 0 → ⊥) → (get_or N (s.depth - 1) no_name).start + (get_or N (s.depth - 1) no_name).size ≤ length T
name-within T s N h n = h.within (s.depth - 1) (omega (arith, n))

-- The bytes that stand in an end tag stand in the text.
pub common-fits : (w T : List ℕ) (i : ℕ) {r : ℕ} → r ≡ common w (drop i T) → r ≤ length T
common-fits w T i e = omega (arith, e, common-text w (drop i T), length-drop i T)
