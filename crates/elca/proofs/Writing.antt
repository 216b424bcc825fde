-- Writing own counts: what the loops know, and how a turn keeps it. Assumes nothing.
--   Writing   the loop over the nodes; the next row of own begins at `at`
-- Letters: cs counts, w work, s₀ own as lent, s as it is now; n nodes, k words; v node, j word.
use Prim.Native.Nat.{ℕ, zero-le, ◌+◌, ◌-◌, ◌≤◌, ◌<◌}
use mathlib.Core.Path.{◌≡◌, refl, sym, ap, ap₂, ◌∙◌}
use mathlib.Core.List.{List, ◌++◌, append_assoc}
use native.Mathlib.Nat.{le_antisymm}
use native.Mathlib.Omega.{arith}
use borrow.Rule.Slice.PartMut.{put_mid, Post-is}
use borrow.Author.Tests.{eq-eqb, ne_eqb}
use lib.Dec.{eqb}
use lib.ListN.{length, take, drop, length-append, length-take, length-drop}
use lib.Seq.{take_at, drop-append-add, drop-drop}
use Rattle.seq.specs.Below.{tabulate, gather}
use Rattle.seq.specs.Memory.{over}
use Rattle.seq.proofs.Laws.Gather.{length-tabulate, gather-zero, gather-yes, gather_no, gather_le}
use Rattle.seq.proofs.Laws.Memory.{over-nil, length_over}
use Rattle.seq.proofs.Laws.Loops.{Filling, filling_end}
use Rattle.elca.specs.Inner.Rows.{flag_at, own_diff, own_rows}
use Rattle.elca.specs.Inner.Steps.{OwnRowPre, OwnPre}

-- ---- one node
pub own-end : (n k v : ℕ) (cs w d row : List ℕ) (j : ℕ) → OwnRowPre n k v cs w d → Filling (own_diff cs n k w v) d row j → length d ≤ j → row ≡ tabulate k (own_diff cs n k w v)
own-end n k v cs w d row j pre s h = filling_end (own_diff cs n k w v) d row j s h ∙ ap (λ (z : ℕ). tabulate z (own_diff cs n k w v)) pre.long

-- ---- all nodes
-- What is written for the nodes below v.
abbrev pub rows_to : List ℕ → ℕ → ℕ → List ℕ → ℕ → List ℕ
rows_to cs n k w v = gather v (λ u. eqb (flag_at n k w u) 1) (λ u. tabulate k (own_diff cs n k w u))

module _ (cs : List ℕ) (n k : ℕ) (w : List ℕ) (v : ℕ) where
  rows-yes : flag_at n k w v ≡ 1 → rows_to cs n k w (v + 1) ≡ rows_to cs n k w v ++ tabulate k (own_diff cs n k w v)
  rows-yes e = gather-yes v (λ u. eqb (flag_at n k w u) 1) (λ u. tabulate k (own_diff cs n k w u)) (eq-eqb (flag_at n k w v) 1 e)

  rows_no : (flag_at n k w v ≡ 1 → ⊥) → rows_to cs n k w (v + 1) ≡ rows_to cs n k w v
  rows_no ne = gather_no v (λ u. eqb (flag_at n k w u) 1) (λ u. tabulate k (own_diff cs n k w u)) (ne_eqb (flag_at n k w v) 1 ne)

pub record Writing (n k : ℕ) (cs w s₀ s : List ℕ) (v at : ℕ) : Type 0 where
  pub within : v ≤ n
  pub place : at ≡ length (rows_to cs n k w v)
  pub front : s ≡ over (rows_to cs n k w v) s₀
  pub long : length s ≡ length s₀

pub writing_start : (n k : ℕ) (cs w s : List ℕ) → Writing n k cs w s s 0 0
writing_start n k cs w s = record {
  within = zero-le;
  place = sym (ap length (gather-zero (λ u. eqb (flag_at n k w u) 1) (λ u. tabulate k (own_diff cs n k w u))));
  front = sym (ap (λ (z : List ℕ). over z s) (gather-zero (λ u. eqb (flag_at n k w u) 1) (λ u. tabulate k (own_diff cs n k w u))) ∙ over-nil s);
  long = refl;
}

-- A part in the middle, behind what is written already.
over-part : (new x old : List ℕ) → length new + length x ≤ length old → take (length new) (over new old) ++ (x ++ drop (length new + length x) (over new old)) ≡ over (new ++ x) old
unfolding over
over-part new x old l =
    ap₂ (λ (a b : List ℕ). a ++ (x ++ b)) (take_at new (drop (length new) old) (length new) refl)
    (drop-append-add new (drop (length new) old) (length x) ∙ drop-drop (length x) (length new) old)
    ∙ sym (append_assoc new x (drop (length (new ++ x)) old) ∙ ap (λ (n : ℕ). new ++ (x ++ drop n old)) (length-append new x))

module _ (n k : ℕ) (cs w s₀ s : List ℕ) (v at : ℕ) (pre : OwnPre n k cs w s₀) (t : Writing n k cs w s₀ s v at) (l : v < n) where
  pub writing_no : (flag_at n k w v ≡ 1 → ⊥) → Writing n k cs w s₀ s (v + 1) at
  writing_no ne = record {
    within = omega arith;
    place = t.place ∙ sym (ap length (rows_no cs n k w v ne));
    front = t.front ∙ ap (λ (z : List ℕ). over z s₀) (sym (rows_no cs n k w v ne));
    long = t.long;
  }

  module _ (e : flag_at n k w v ≡ 1) where
    grown : length (rows_to cs n k w (v + 1)) ≡ at + k
    grown = ap length (rows-yes cs n k w v e) ∙ omega (arith, t.place, length-append (rows_to cs n k w v) (tabulate k (own_diff cs n k w v)), length-tabulate k (own_diff cs n k w v))

    pub write-fits : at + k ≤ length s
    unfolding own_rows
    write-fits = omega (arith, t.long, grown, pre.room, gather_le (v + 1) n (λ u. eqb (flag_at n k w u) 1) (λ u. tabulate k (own_diff cs n k w u)) (omega arith))

    pub row-pre : OwnRowPre n k v cs w (take (at + k - at) (drop at s))
    row-pre = record {
      grid = pre.grid;
      node = l;
      below = λ j h. pre.below v j l h;
      long = length-take (at + k - at) (drop at s) ∙ omega (arith, length-drop at s, write-fits);
    }

    pub writing-yes : (row : List ℕ) → row ≡ tabulate k (own_diff cs n k w v) → Writing n k cs w s₀ (put_mid at (at + k - at) s row) (v + 1) (at + k)
    writing-yes row q = record { within = omega arith; place = sym grown; front = written; long = ap length written ∙ length_over (rows_to cs n k w (v + 1)) s₀ (omega (arith, grown, write-fits, t.long)) }
      where
        old : List ℕ
        old = rows_to cs n k w v

        new : List ℕ
        new = tabulate k (own_diff cs n k w v)

        both : at + k ≡ length old + length new
        both = omega (arith, t.place, length-tabulate k (own_diff cs n k w v))

        written : put_mid at (at + k - at) s row ≡ over (rows_to cs n k w (v + 1)) s₀
        written =
            ap (λ (t : List ℕ). take at s ++ (row ++ t)) (Post-is at (at + k) s (omega arith))
            ∙ ap₂ (λ (a b : List ℕ). take at a ++ (b ++ drop (at + k) a)) t.front q
            ∙ ap₂ (λ (a b : ℕ). take a (over old s₀) ++ (new ++ drop b (over old s₀))) t.place both
            ∙ over-part old new s₀ (omega (arith, both, write-fits, t.long)) ∙ ap (λ (z : List ℕ). over z s₀) (sym (rows-yes cs n k w v e))

pub writing-end : (n k : ℕ) (cs w s₀ s : List ℕ) (v at : ℕ) → Writing n k cs w s₀ s v at → n ≤ v → s ≡ over (own_rows cs n k w) s₀
unfolding own_rows
writing-end n k cs w s₀ s v at t h = t.front ∙ ap (λ (z : ℕ). over (rows_to cs n k w z) s₀) (le_antisymm t.within h)
