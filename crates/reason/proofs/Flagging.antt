-- The flags of a node's own, from the node to the last under it: what the loop knows before node u, and how a turn keeps it. Assumes nothing.
-- Letters: p parents, f the test for full nodes; v node, u the node at hand, x node; fl flags.
use Prim.Native.Nat.{ℕ, zero, suc, ◌+◌, ◌≤◌, ◌<◌}
use mathlib.Core.Path.{◌≡◌, sym, ap, ◌∙◌}
use mathlib.Core.Logic.{⊎_elim}
use mathlib.Core.List.{List}
use mathlib.Core.Bool.{Bool, true, not, cond, ◌&&◌}
use native.Mathlib.Nat.{not-suc-le-zero, not-le_of_lt}
use native.Mathlib.Omega.{arith}
use lib.Dec.{eqb}
use lib.ListN.{length, get_or, set, replicate, length-set, length-replicate, get_or-replicate}
use lib.Seq.{get_or-set_other, ext_get_or}
use Rattle.seq.specs.Below.{tabulate}
use Rattle.seq.proofs.Laws.Bools.{flag-some}
use Rattle.seq.proofs.Laws.Numbers.{less_or}
use Rattle.seq.proofs.Laws.Gather.{length-tabulate, get_d_tabulate}
use Rattle.seq.proofs.Laws.Loops.{filled_more}
use Rattle.tree.specs.Tree.{parent, under, last_under}
use Rattle.tree.specs.Plain.{Down, Preorder}
use Rattle.tree.proofs.Laws.Lines.{under_cases, under-above}
use Rattle.tree.proofs.Laws.Under.{under_le, under-not, preorder-down}
use Rattle.tree.proofs.Laws.Ways.{properly-of}
use Rattle.tree.proofs.Laws.Spans.{last-below, under_last, span-under, span-start, past-span}
use Rattle.reason.specs.Inner.{none_missing, own_if, flag_below}
use Rattle.reason.proofs.Laws.Counts.{flag-below-is}
use Rattle.reason.proofs.Laws.Own.{own_if-outside, own_if_self, own_if-step}

abbrev pub bit : Bool → ℕ
bit b = cond b 1 0

-- All nodes from v up to u are under v, and their flags are set.
pub record Flagging (p : List ℕ) (f : ℕ → Bool) (v : ℕ) (fl : List ℕ) (u : ℕ) : Type 0 where
  pub after : v < u
  pub nodes : u ≤ length p
  pub long : length fl ≡ length p
  pub inside : u ≤ suc (last_under p v)
  pub done : (x : ℕ) → x < u → get_or fl x 0 ≡ bit (own_if p f v x)
  pub rest : (x : ℕ) → u ≤ x → x < length p → get_or fl x 0 ≡ 0

module _ (p : List ℕ) (f : ℕ → Bool) (v : ℕ) (o : Preorder p (length p)) (l : v < length p) where
  abbrev flag : ℕ → ℕ
  flag x = bit (own_if p f v x)

  down : Down p (length p)
  down = preorder-down p (length p) o

  pub flagging-start : (fl : List ℕ) → fl ≡ replicate (length p) 0 → Flagging p f v (set fl v 1) (v + 1)
  flagging-start fl z = record {
    after = omega arith;
    nodes = omega arith;
    long = length-set fl v 1 ∙ long;
    inside = omega (arith, span-start p o v l);
    done = filled_more flag fl v 1 (λ x h. zero-at x (omega arith) ∙ sym (outside x h)) (omega (arith, long)) (sym (ap bit (own_if_self p f v o l)));
    rest = λ x a b. get_or-set_other fl v x 1 0 (λ (q : x ≡ v). omega arith) ∙ zero-at x b;
  }
    where
      long : length fl ≡ length p
      long = ap length z ∙ length-replicate (length p) 0

      zero-at : (x : ℕ) → x < length p → get_or fl x 0 ≡ 0
      zero-at x h = ap (λ (t : List ℕ). get_or t x 0) z ∙ get_or-replicate (length p) x 0 0 h

      outside : (x : ℕ) → x < v → flag x ≡ 0
      outside x h = ap bit (own_if-outside p f v x (under-not p (length p) down v x (omega arith) h))

  -- A node whose parent stands before v is not under v.
  not-under : (u : ℕ) → v < u → u < length p → parent p u < v → under p v u ≡ true → ⊥
  not-under zero a h q e = not-suc-le-zero a
  not-under (suc u) a h q e =
      ⊎_elim (λ z. omega arith) (λ z. not-le_of_lt q (under_le p (length p) down v (parent p (suc u)) (omega (arith, down u h)) z)) (under_cases p (length p) down v u h e)

  -- A node is under v whose parent is.
  up-under : (u : ℕ) → v < u → u < length p → u ≤ suc (last_under p v) → v ≤ parent p u → under p v u ≡ true
  up-under zero a h b q = absurd (not-suc-le-zero a)
  up-under (suc u) a h b q = under-above p (length p) down v u h (span-under p o v l (parent p (suc u)) q (omega (arith, down u h)))

  -- Its flag, by its parent's.
  flag-step : (u : ℕ) → v < u → u < length p → under p v u ≡ true → flag u ≡ bit (own_if p f v (parent p u) && not (f u))
  flag-step zero a h e = absurd (not-suc-le-zero a)
  flag-step (suc u) a h e = ap bit (own_if-step p f v o l u h (properly-of p v (suc u) e (λ q. omega arith)))

  parent-before : (u : ℕ) → v < u → u < length p → parent p u < u
  parent-before zero a h = absurd (not-suc-le-zero a)
  parent-before (suc u) a h = omega (arith, down u h)

  module _ (fl : List ℕ) (u : ℕ) (s : Flagging p f v fl u) where
    -- The parent's flag is one that is set.
    pub flagging-up : u < length p → parent p u < length fl
    flagging-up h = omega (arith, parent-before u s.after h, s.long)

    pub flagging-step : (x : ℕ) → u < length p → v ≤ parent p u → x ≡ bit (not (eqb (get_or fl (parent p u) 0) 0) && not (f u)) → Flagging p f v (set fl u x) (u + 1)
    flagging-step x h q e = record {
      after = omega (arith, s.after);
      nodes = omega arith;
      long = length-set fl u x ∙ s.long;
      inside = omega (arith, under_last p o v l u h in_it);
      done = filled_more flag fl u x s.done (omega (arith, s.long)) (e ∙ by-parent ∙ sym (flag-step u s.after h in_it));
      rest = λ y a b. get_or-set_other fl u y x 0 (λ (z : y ≡ u). omega arith) ∙ s.rest y (omega arith) b;
    }
      where
        in_it : under p v u ≡ true
        in_it = up-under u s.after h s.inside q

        by-parent : bit (not (eqb (get_or fl (parent p u) 0) 0) && not (f u)) ≡ bit (own_if p f v (parent p u) && not (f u))
        by-parent =
            ap (λ (b : Bool). bit (b && not (f u)))
            (ap (λ (z : ℕ). not (eqb z 0)) (s.done (parent p u) (parent-before u s.after h)) ∙ flag-some (own_if p f v (parent p u)))

    -- The loop ends behind the last node under v.
    pub flagging-out : u < length p → parent p u < v → u ≡ suc (last_under p v)
    flagging-out h q =
        ⊎_elim (λ z. omega (arith, s.inside)) (λ z. absurd (not-under u s.after h q (span-under p o v l u (omega (arith, s.after)) z))) (less_or (last_under p v) u)

    pub flagging-end : length p ≤ u → u ≡ suc (last_under p v)
    flagging-end h = omega (arith, s.inside, s.nodes, last-below p o v l)

    pub flagging-whole : u ≡ suc (last_under p v) → fl ≡ tabulate (length p) flag
    flagging-whole e =
        ext_get_or 0 fl (tabulate (length p) flag) (s.long ∙ sym (length-tabulate (length p) flag))
        (λ x h. each x (omega (arith, s.long)) ∙ sym (get_d_tabulate (length p) flag x 0 (omega (arith, s.long))))
      where
        each : (x : ℕ) → x < length p → get_or fl x 0 ≡ flag x
        each x h =
            ⊎_elim (λ q. s.done x q)
            (λ q. s.rest x q h ∙ sym (ap bit (own_if-outside p f v x (past-span p o v l x h (omega arith)))))
            (less_or x u)

-- A turn by the flag that the code works out from the counts, where the parent is `up`.
pub flagging-turn : (p cs : List ℕ) (k v : ℕ) → Preorder p (length p) → v < length p → (fl : List ℕ) (u up x : ℕ) → Flagging p (none_missing cs (length p) k) v fl u →
    u < length p → up ≡ parent p u → v ≤ up → x ≡ flag_below cs (length p) k u (get_or fl up 0) → Flagging p (none_missing cs (length p) k) v (set fl u x) (u + 1)
flagging-turn p cs k v o l fl u up x s h e q ex =
    flagging-step p (none_missing cs (length p) k) v o l fl u s x h (omega arith)
    (ex ∙ ap (λ (z : ℕ). flag_below cs (length p) k u (get_or fl z 0)) e ∙ flag-below-is cs (length p) k u (get_or fl (parent p u) 0))
