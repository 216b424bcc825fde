-- Marking the negators: what the loop knows, and how a turn keeps it. Assumes nothing.
-- A text node is never marked, so what the row holds at it stays.
-- Letters: l list, t tags, n nodes; c the row as lent, w as it is now; i place in the list, v node, x entry of the list.
use Prim.Native.Nat.{ℕ, zero-le, ◌+◌, ◌≤◌, ◌<◌}
use mathlib.Core.Path.{◌≡◌, refl, sym, ap, ◌∙◌}
use mathlib.Core.Logic.{⊎_elim}
use mathlib.Core.List.{List}
use mathlib.Core.Bool.{Bool, true, false, cond, ◌&&◌, ◌||◌, or-false}
use native.Mathlib.Omega.{arith}
use lib.Dec.{eqb}
use borrow.Author.Tests.{eq-eqb, ne_eqb, eqb-true, eqb-false}
use lib.ListN.{length, get_or, set, take, length-set, length-take}
use lib.Seq.{get_or-set_same, get_or-set_other, get_or-take}
use Rattle.seq.specs.Lists.{some_of}
use Rattle.seq.proofs.Laws.Bools.{bool_cases, bool_false, and_left, and_right, and_false-left, and_false-right, or_right}
use Rattle.seq.proofs.Laws.Lists.{Entry, some_of-at, some_of-take-suc}
use Rattle.tree.specs.Rules.{text}
use Rattle.valid.specs.Inner.Tops.{negates, NegatePre}

pub record Negating (l t c w : List ℕ) (i : ℕ) : Type 0 where
  pub within : i ≤ length l
  pub long : length w ≡ length t
  -- the first i entries of the list have been looked at
  pub holds : (v : ℕ) → v < length t → get_or w v 0 ≡ cond (negates t c (take i l) v) (length t) (get_or c v 0)

pub negating_start : (l t c : List ℕ) → NegatePre l t c → Negating l t c c 0
unfolding negates some_of
negating_start l t c pre = record { within = zero-le; long = pre.long; holds = λ v h. refl }

negates-suc : (l t c : List ℕ) (i : ℕ) → i < length l → (v : ℕ) → negates t c (take (i + 1) l) v ≡ (negates t c (take i l) v || (text t (get_or l i 0) && eqb v (get_or c (get_or l i 0) 0)))
unfolding negates
negates-suc l t c i h v = some_of-take-suc (λ x. text t x && eqb v (get_or c x 0)) l i h

module _ (l t c : List ℕ) (pre : NegatePre l t c) where
  -- No text node is negated.
  text-kept : (i : ℕ) → i ≤ length l → (x : ℕ) → get_or t x 0 ≡ 0 → negates t c (take i l) x ≡ false
  unfolding negates text
  text-kept i h x e = bool_false _ none
    where
      none : some_of (λ y. text t y && eqb x (get_or c y 0)) (take i l) ≡ true → ⊥
      none q =
          let r : Entry (λ y. text t y && eqb x (get_or c y 0)) (take i l) = some_of-at (λ y. text t y && eqb x (get_or c y 0)) (take i l) q in
          let b : r.at < i = omega (arith, r.below, length-take i l) in
          let y : ℕ = get_or (take i l) r.at 0 in
          let k : y < length t = rw (get_or-take i l r.at 0 b) (pre.list r.at (omega arith)) in
          pre.solid y k (eqb-true (get_or t y 0) 0 (and_left (text t y) _ r.passes))
          (ap (λ (z : ℕ). get_or t z 0) (sym (eqb-true x (get_or c y 0) (and_right (text t y) _ r.passes))) ∙ e)

  -- x is the entry at hand, as the code has it.
  module _ (w : List ℕ) (i : ℕ) (s : Negating l t c w i) (h : i < length l) (x : ℕ) (ex : x ≡ get_or l i 0) where
    pub mark-node : x < length t
    mark-node = omega (arith, pre.list i h)

    pub mark-place : x < length w
    mark-place = omega (arith, mark-node, s.long)

    more : (v : ℕ) → negates t c (take (i + 1) l) v ≡ (negates t c (take i l) v || (text t x && eqb v (get_or c x 0)))
    more v = negates-suc l t c i h v ∙ ap (λ (z : ℕ). negates t c (take i l) v || (text t z && eqb v (get_or c z 0))) (sym ex)

    pub negating_skip : (get_or t x 0 ≡ 0 → ⊥) → Negating l t c w (i + 1)
    unfolding text
    negating_skip ne = record {
      within = omega arith;
      long = s.long;
      holds = λ v k. s.holds v k ∙ ap (λ (b : Bool). cond b (length t) (get_or c v 0)) (sym (same v));
    }
      where
        same : (v : ℕ) → negates t c (take (i + 1) l) v ≡ negates t c (take i l) v
        same v =
            more v ∙ ap (λ (b : Bool). negates t c (take i l) v || b) (and_false-left (text t x) (eqb v (get_or c x 0)) (ne_eqb (get_or t x 0) 0 ne))
            ∙ or-false (negates t c (take i l) v)

    module _ (tx : get_or t x 0 ≡ 0) (e : ℕ) (ee : e ≡ get_or w x 0) where
      -- What stands at a text node is as lent.
      mark-same : e ≡ get_or c x 0
      mark-same = ee ∙ s.holds x mark-node ∙ ap (λ (b : Bool). cond b (length t) (get_or c x 0)) (text-kept i (omega arith) x tx)

      pub mark_target : e < length w
      mark_target = omega (arith, mark-same, pre.nodes x mark-node, s.long)

      pub negating_mark : Negating l t c (set w e (length t)) (i + 1)
      unfolding text
      negating_mark = record {
        within = omega arith;
        long = length-set w e (length t) ∙ s.long;
        holds = λ v k. ⊎_elim (λ q. here v (eqb-true v e q)) (λ q. there v k (eqb-false v e q)) (bool_cases (eqb v e));
      }
        where
          here : (v : ℕ) → v ≡ e → get_or (set w e (length t)) v 0 ≡ cond (negates t c (take (i + 1) l) v) (length t) (get_or c v 0)
          here v q =
              ap (λ (z : ℕ). get_or (set w e (length t)) z 0) q ∙ get_or-set_same w e (length t) 0 mark_target
              ∙ ap (λ (b : Bool). cond b (length t) (get_or c v 0))
              (sym (more v ∙ or_right (negates t c (take i l) v) _ (rw (eq-eqb (get_or t x 0) 0 tx) (eq-eqb v (get_or c x 0) (q ∙ mark-same)))))

          same : (v : ℕ) → (v ≡ e → ⊥) → negates t c (take (i + 1) l) v ≡ negates t c (take i l) v
          same v ne =
              more v
              ∙ ap (λ (b : Bool). negates t c (take i l) v || b) (and_false-right (text t x) (eqb v (get_or c x 0)) (ne_eqb v (get_or c x 0) (λ q. ne (q ∙ sym mark-same))))
              ∙ or-false (negates t c (take i l) v)

          there : (v : ℕ) → v < length t → (v ≡ e → ⊥) → get_or (set w e (length t)) v 0 ≡ cond (negates t c (take (i + 1) l) v) (length t) (get_or c v 0)
          there v k ne =
              get_or-set_other w e v (length t) 0 ne ∙ s.holds v k
              ∙ ap (λ (b : Bool). cond b (length t) (get_or c v 0)) (sym (same v ne))
