-- The loop of a search in a table, for code. It starts at any slot s: at h % m, for code that has a word's hash as a number h, with m slots.
--   Walk w q s i o   == after o steps of the search for q in the table w from the slot s, all of them past taken slots of other words, it is at the slot i
--   walk_start       it starts at s
--   walk_step        a step on; from the last slot it goes to the first
--   walk-stop, walk_end, walk_none    the answer where a slot stops the search, and where it has been at every slot, of which there may be none
--   walk-slot        that answer is the table's `slot_of`, where h is the hash of q
--   stop-free, stop-held, go_on       when a slot stops the search
-- Each need of such a loop is one of these. Letters: p steps, fewer than o; x what a slot holds. Assumes nothing.
use Prim.Native.Nat.{ℕ, suc, ◌+◌, ◌-◌, ◌≤◌, ◌<◌, ◌%◌}
use mathlib.Core.Path.{◌≡◌, sym, ap, subst, ◌∙◌}
use mathlib.Core.Logic.{◌⊎◌, ⊎_elim}
use mathlib.Core.List.{List}
use mathlib.Core.Bool.{true, false, not}
use native.Mathlib.Omega.{arith}
use lib.ListN.{length, get_or}
use borrow.Author.Count.{below_none, below_more}
use Rattle.seq.specs.Lists.{same_list}
use Rattle.probing.specs.Around.{turn, around}
use Rattle.probing.specs.Table.{passes, home, slot_of}
use Rattle.probing.proofs.Laws.Table.{passes-free, passes-key}
use Rattle.probing.proofs.Laws.Around.{turn-zero, turn-next, turn-first, around-is, around-full}

module _ (named : ℕ → List ℕ) where
  pub record Walk (w q : List ℕ) (s i o : ℕ) : Type 0 where
    pub below : i < length w
    pub starts : s < length w
    pub here : turn (length w) s o ≡ i
    pub passed : (p : ℕ) → p < o → passes named q (get_or w (turn (length w) s p) 0) ≡ true

  pub walk_start : (w q : List ℕ) (s : ℕ) → s < length w → Walk w q s s 0
  walk_start w q s l =
      record {
        below = l;
        starts = l;
        here = turn-zero (length w) s l;
        passed = below_none (λ (p : ℕ). passes named q (get_or w (turn (length w) s p) 0) ≡ true);
      }

  module _ (w q : List ℕ) (s i o : ℕ) (r : Walk w q s i o) where
    more : passes named q (get_or w i 0) ≡ true → (p : ℕ) → p < o + 1 → passes named q (get_or w (turn (length w) s p) 0) ≡ true
    more e =
        below_more (λ (p : ℕ). passes named q (get_or w (turn (length w) s p) 0) ≡ true) o r.passed (ap (λ y. passes named q (get_or w y 0)) r.here ∙ e)

    next : o < length w → i + 1 < length w → passes named q (get_or w i 0) ≡ true → Walk w q s (i + 1) (o + 1)
    next l n e =
        record {
          below = n;
          starts = r.starts;
          here = turn-next (length w) s o r.starts l (omega (arith, r.here)) ∙ omega (arith, r.here);
          passed = more e;
        }

    first : o < length w → i + 1 ≡ length w → passes named q (get_or w i 0) ≡ true → Walk w q s 0 (o + 1)
    first l n e =
        record {
          below = omega arith;
          starts = r.starts;
          here = turn-first (length w) s o r.starts l (omega (arith, r.here));
          passed = more e;
        }

    -- One step on: j is 0 after the last slot, and else the next.
    pub walk_step : (j : ℕ) → o < length w → passes named q (get_or w i 0) ≡ true →
        ((i + 1 ≡ length w) × (j ≡ 0)) ⊎ ((i + 1 ≡ length w → ⊥) × (j ≡ i + 1)) → Walk w q s j (o + 1)
    walk_step j l e came =
        ⊎_elim
        (λ (c : (i + 1 ≡ length w) × (j ≡ 0)). subst (λ z. Walk w q s z (o + 1)) (sym c.1) (first l c.0 e))
        (λ (c : (i + 1 ≡ length w → ⊥) × (j ≡ i + 1)). subst (λ z. Walk w q s z (o + 1)) (sym c.1) (next l (omega (arith, r.below, c.0)) e))
        came

    pub walk-stop : o < length w → passes named q (get_or w i 0) ≡ false → i ≡ around (length w) s (λ j. passes named q (get_or w j 0))
    walk-stop l e =
        sym (around-is (length w) s (λ j. passes named q (get_or w j 0)) i (record { steps = o; below = l; to = r.here; passed = r.passed; fails = e }))

    pub walk_end : length w ≤ o → length w ≡ around (length w) s (λ j. passes named q (get_or w j 0))
    walk_end l = sym (around-full (length w) s (λ j. passes named q (get_or w j 0)) (λ p h. r.passed p (omega arith)))

  -- No slots: no walk.
  pub walk_none : (w q : List ℕ) (s : ℕ) → length w ≡ 0 → 0 ≡ around (length w) s (λ j. passes named q (get_or w j 0))
  walk_none w q s e = sym (around-full (length w) s (λ j. passes named q (get_or w j 0)) (λ p h. absurd (omega arith)) ∙ e)

  pub walk-slot : (m : ℕ) (hash : List ℕ → ℕ) (w q : List ℕ) (h : ℕ) → h ≡ hash q → around m (h % m) (λ j. passes named q (get_or w j 0)) ≡ slot_of m hash named q w
  unfolding slot_of home
  walk-slot m hash w q h e = ap (λ z. around m (z % m) (λ j. passes named q (get_or w j 0))) e

-- ---- what a slot says: x is what it holds
module _ (named : ℕ → List ℕ) (q : List ℕ) (x : ℕ) where
  pub stop-free : x ≡ 0 → passes named q x ≡ false
  stop-free e = ap (passes named q) e ∙ passes-free named q

  -- x is one more than the number that it holds.
  key_of : (x ≡ 0 → ⊥) → x ≡ suc (x - 1)
  key_of n = omega (arith, n)

  pub stop-held : (x ≡ 0 → ⊥) → same_list q (named (x - 1)) ≡ true → passes named q x ≡ false
  stop-held n e = ap (passes named q) (key_of n) ∙ passes-key named q (x - 1) ∙ ap not e

  pub go_on : (x ≡ 0 → ⊥) → same_list q (named (x - 1)) ≡ false → passes named q x ≡ true
  go_on n e = ap (passes named q) (key_of n) ∙ passes-key named q (x - 1) ∙ ap not e
