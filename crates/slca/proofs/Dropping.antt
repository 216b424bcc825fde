-- Marking the full nodes that have a full child: what the loop knows, and how a turn keeps it. Assumes nothing.
-- The loop goes from the last node to the first; before node i - 1 is reached, the children from i on have marked their parents.
-- Letters: p parents, fl flags as lent, w as they are now; i, j nodes reached, v node, c child; g the test for full nodes.
use Prim.Native.Nat.{ℕ, zero, suc, ◌-◌, ◌≤◌, ◌<◌}
use mathlib.Core.Path.{◌≡◌, sym, ap, ◌∙◌, subst}
use mathlib.Core.Logic.{⊎_elim}
use mathlib.Core.List.{List}
use mathlib.Core.Bool.{Bool, true, false, cond, ◌&&◌}
use native.Mathlib.Nat.{suc-ne-zero, le_antisymm}
use native.Mathlib.Omega.{arith}
use borrow.Author.Tests.{le-leb, lt-leb, eq-eqb, ne_eqb, eqb-true, eqb-false}
use lib.Dec.{eqb, leb}
use lib.ListN.{length, get_or, set, length-set}
use lib.Seq.{ext_get_or, get_or-set_same, get_or-set_other}
use Rattle.seq.specs.Below.{some_below, tabulate}
use Rattle.seq.proofs.Laws.Bools.{bool_cases, and_both, and_false-left, and_false-right}
use Rattle.seq.proofs.Laws.Numbers.{less_or}
use Rattle.seq.proofs.Laws.Below.{some_ext, some_of_lem, some-none}
use Rattle.seq.proofs.Laws.Gather.{length-tabulate, get_d_tabulate}
use Rattle.tree.specs.Tree.{parent, child}
use Rattle.tree.proofs.Laws.Children.{child-root, child-of, parent-less}
use Rattle.slca.specs.Marks.{mark_by}
use Rattle.slca.specs.Inner.{marks_of}
use Rattle.slca.specs.Inner.{DropPre}

-- The flags as lent say which nodes are full.
abbrev pub is_full : List ℕ → ℕ → Bool
is_full fl v = eqb (get_or fl v 0) 1

-- Some full child of v is i or behind it.
hit : List ℕ → List ℕ → ℕ → ℕ → Bool
hit p fl i v = some_below (length p) λ c. leb i c && (child p v c && is_full fl c)

-- The mark of v while the loop is at i.
pub stage : List ℕ → List ℕ → ℕ → ℕ → ℕ
stage p fl i v = cond (is_full fl v) (cond (hit p fl i v) 2 1) 0

-- ---- how a node changes what is hit
module _ (p fl : List ℕ) (v : ℕ) where
  hit-none : hit p fl (length p) v ≡ false
  unfolding hit
  hit-none = some-none (length p) _ (λ c l. and_false-left (leb (length p) c) _ (lt-leb (length p) c l))

  hit_same : (j : ℕ) → (child p v j && is_full fl j) ≡ false → hit p fl j v ≡ hit p fl (suc j) v
  unfolding hit
  hit_same j e = some_ext (length p) _ _ (λ c l. at c)
    where
      at : (c : ℕ) → (leb j c && (child p v c && is_full fl c)) ≡ (leb (suc j) c && (child p v c && is_full fl c))
      at c =
          ⊎_elim (λ (q : c < j). rw (lt-leb j c q, lt-leb (suc j) c (omega arith)))
          (λ (q : j ≤ c).
          ⊎_elim (λ (z : j < c). rw (le-leb j c q, le-leb (suc j) c z))
          (λ (z : c ≤ j). let m : c ≡ j = le_antisymm z q in
          and_false-right (leb j c) _ (ap (λ (k : ℕ). child p v k && is_full fl k) m ∙ e) ∙ sym (and_false-right (leb (suc j) c) _ (ap (λ (k : ℕ). child p v k && is_full fl k) m ∙ e)))
          (less_or j c))
          (less_or c j)

  hit-here : (j : ℕ) → j < length p → (child p v j && is_full fl j) ≡ true → hit p fl j v ≡ true
  unfolding hit
  hit-here j l e = some_of_lem (length p) _ j l (and_both _ _ (le-leb j j (omega arith)) e)

  -- The root is nobody's child.
  hit-all : (i : ℕ) → i ≤ 1 → hit p fl i v ≡ some_below (length p) (λ c. child p v c && is_full fl c)
  unfolding hit
  hit-all i h = some_ext (length p) _ _ (λ c l. at c)
    where
      at : (c : ℕ) → (leb i c && (child p v c && is_full fl c)) ≡ (child p v c && is_full fl c)
      at zero = and_false-right (leb i 0) _ (and_false-left _ _ (child-root p v)) ∙ sym (and_false-left _ (is_full fl 0) (child-root p v))
      at (suc c) = ap (λ (b : Bool). b && (child p v (suc c) && is_full fl (suc c))) (le-leb i (suc c) (omega arith))

-- ---- the loop
pub record Dropping (p fl w : List ℕ) (i : ℕ) : Type 0 where
  pub within : i ≤ length p
  pub long : length w ≡ length p
  pub marks : (v : ℕ) → v < length p → get_or w v 0 ≡ stage p fl i v

pub dropping_start : (p fl : List ℕ) → DropPre p fl → Dropping p fl fl (length fl)
unfolding stage
dropping_start p fl pre = record {
  within = omega (arith, pre.long);
  long = pre.long;
  marks = λ v l.
      pre.flags v l
      ∙ sym (ap (λ (i : ℕ). cond (is_full fl v) (cond (hit p fl i v) 2 1) 0) pre.long ∙ ap (λ (b : Bool). cond (is_full fl v) (cond b 2 1) 0) (hit-none p fl v));
}

stage_some : (p fl : List ℕ) (i v : ℕ) → (stage p fl i v ≡ 0 → ⊥) → is_full fl v ≡ true
unfolding stage
stage_some p fl i v ne = ⊎_elim (λ q. q) (λ q. absurd (ne (rw q))) (bool_cases (is_full fl v))

stage_none : (p fl : List ℕ) (i v : ℕ) → stage p fl i v ≡ 0 → is_full fl v ≡ false
unfolding stage
stage_none p fl i v e = ⊎_elim (λ q. absurd (marked (hit p fl i v) (rw q at e))) (λ q. q) (bool_cases (is_full fl v))
  where
    marked : (b : Bool) → ◌≡◌ {A = ℕ} (cond b 2 1) 0 → ⊥
    marked true z = suc-ne-zero 1 z
    marked false z = suc-ne-zero 0 z

stage_same : (p fl : List ℕ) (j v : ℕ) → (child p v j && is_full fl j) ≡ false → stage p fl (suc j) v ≡ stage p fl j v
unfolding stage
stage_same p fl j v e = ap (λ (b : Bool). cond (is_full fl v) (cond b 2 1) 0) (sym (hit_same p fl v j e))

stage_marked : (p fl : List ℕ) (j v : ℕ) → is_full fl v ≡ true → hit p fl j v ≡ true → stage p fl j v ≡ 2
unfolding stage
stage_marked p fl j v a b = rw (a, b)

-- The turn at node j = i - 1.
module _ (p fl w : List ℕ) (i : ℕ) (pre : DropPre p fl) (s₀ : Dropping p fl w i) (above : 1 < i) where
  abbrev j : ℕ
  j = i - 1

  h : 0 < j
  h = omega arith

  here : Dropping p fl w (suc j)
  here = subst (Dropping p fl w) (omega arith) s₀

  node : j < length p
  node = here.within

  drop-place : j < length w
  drop-place = omega (arith, here.long, node)

  -- A node that is not full marks nothing.
  pub dropping_skip : get_or w j 0 ≡ 0 → Dropping p fl w j
  dropping_skip e = record {
    within = omega (arith, node);
    long = here.long;
    marks = λ v l. here.marks v l ∙ stage_same p fl j v (and_false-right (child p v j) _ (stage_none p fl (suc j) j (sym (here.marks j node) ∙ e)));
  }

  up-less : parent p j < j
  up-less = parent-less p (length p) pre.down j h node

  up-place : parent p j < length w
  up-place = omega (arith, up-less, drop-place)

  -- A full node marks its parent, which is full too.
  pub dropping_mark : (get_or w j 0 ≡ 0 → ⊥) → Dropping p fl (set w (parent p j) 2) j
  dropping_mark ne = record {
    within = omega (arith, node);
    long = length-set w (parent p j) 2 ∙ here.long;
    marks = λ v l. ⊎_elim (λ q. at-parent v (eqb-true v (parent p j) q)) (λ q. elsewhere v l (eqb-false v (parent p j) q)) (bool_cases (eqb v (parent p j)));
  }
    where
      full-here : is_full fl j ≡ true
      full-here = stage_some p fl (suc j) j (λ z. ne (here.marks j node ∙ z))

      up-full : (j : ℕ) → 0 < j → j < length p → is_full fl j ≡ true → get_or fl (parent p j) 0 ≡ 1
      up-full zero z l e = absurd (suc-ne-zero 0 (le_antisymm z (omega arith)))
      up-full (suc c) z l e = pre.upward c l (eqb-true (get_or fl (suc c) 0) 1 e)

      at-parent : (v : ℕ) → v ≡ parent p j → get_or (set w (parent p j) 2) v 0 ≡ stage p fl j v
      at-parent v q =
          ap (λ (z : ℕ). get_or (set w (parent p j) 2) z 0) q ∙ get_or-set_same w (parent p j) 2 0 up-place
          ∙ sym (stage_marked p fl j v (eq-eqb (get_or fl v 0) 1 (ap (λ (z : ℕ). get_or fl z 0) q ∙ up-full j h node full-here))
          (hit-here p fl v j node (and_both _ _ (child-of p v j h ∙ eq-eqb v (parent p j) q) full-here)))

      elsewhere : (v : ℕ) → v < length p → (v ≡ parent p j → ⊥) → get_or (set w (parent p j) 2) v 0 ≡ stage p fl j v
      elsewhere v l q =
          get_or-set_other w (parent p j) v 2 0 q ∙ here.marks v l
          ∙ stage_same p fl j v (and_false-left (child p v j) _ (child-of p v j h ∙ ne_eqb v (parent p j) q))

pub dropping_end : (p fl w : List ℕ) (i : ℕ) → Dropping p fl w i → i ≤ 1 → w ≡ marks_of p fl
unfolding stage mark_by marks_of
dropping_end p fl w i s h =
    ext_get_or 0 w (tabulate (length p) (mark_by p (is_full fl))) (s.long ∙ sym (length-tabulate (length p) (mark_by p (is_full fl))))
    (λ v l. s.marks v (omega (arith, s.long)) ∙ ap (λ (b : Bool). cond (is_full fl v) (cond b 2 1) 0) (hit-all p fl v i h)
    ∙ sym (get_d_tabulate (length p) (mark_by p (is_full fl)) v 0 (omega (arith, s.long))))
