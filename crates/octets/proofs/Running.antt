-- The loops of `run` and `find` (Run) and of `common` (Match): at each place, what is left of what was asked for. Assumes nothing.
-- Letters: t text, w word, f test of a byte, o where the loop began, i where it is.
use Prim.Native.Nat.{ℕ, ◌+◌, ◌≤◌, ◌<◌, min, max}
use mathlib.Core.Path.{◌≡◌, refl, sym, subst, ◌∙◌}
use mathlib.Core.List.{List}
use mathlib.Core.Bool.{Bool, true, false}
use native.Mathlib.Numerals.{add-one}
use native.Mathlib.Omega.{arith}
use lib.ListN.{length, get_or, drop}
use Rattle.profile.specs.Spans.{span, common}
use Rattle.profile.proofs.Laws.Spans.{span-step, span-stop, span_none, common-step, common-stop, common-short, common-end}

-- ---- a run
pub record Run (f : ℕ → Bool) (t : List ℕ) (o i : ℕ) : Type 0 where
  pub same : i + span f (drop i t) ≡ o + span f (drop o t)

pub run-start : (f : ℕ → Bool) (t : List ℕ) (o : ℕ) → Run f t o o
run-start f t o = record { same = refl }

module _ (f : ℕ → Bool) (t : List ℕ) (o i : ℕ) (r : Run f t o i) where
  pub run_step : i < length t → f (get_or t i 0) ≡ true → Run f t o (i + 1)
  run_step l e = record { same = rw (add-one i) (omega (arith, r.same, span-step f t i l e)) }

  pub run_on : i < length t → f (get_or t i 0) ≡ true → (j : ℕ) → j ≡ i + 1 → Run f t o j
  run_on l e j q = subst (Run f t o) (sym q) (run_step l e)

  -- what is found from there on is what was asked for
  pub run-rest : (r : ℕ) → r ≡ i + span f (drop i t) → r ≡ o + span f (drop o t)
  run-rest r' e = e ∙ r.same

  pub run-stop : i < length t → f (get_or t i 0) ≡ false → i ≡ o + span f (drop o t)
  run-stop l e = omega (arith, r.same, span-stop f t i l e)

  pub run_end : length t ≤ i → i ≡ o + span f (drop o t)
  run_end l = omega (arith, r.same, span_none f t i l)

  -- the loop is over: o is past the end, or i is the end
  pub at_end : length t ≤ i → (o ≤ length t → i ≤ length t) → (z : ℕ) → z ≡ max o (length t) → z ≡ o + span f (drop o t)
  at_end l e z q = grind (arith, r.same, span_none f t i l, span_none f t o)

-- ---- a common beginning
pub record Match (w t : List ℕ) (i : ℕ) : Type 0 where
  pub same : i + common (drop i w) (drop i t) ≡ common w t

pub match_start : (w t : List ℕ) → Match w t 0
match_start w t = record { same = omega arith }

module _ (w t : List ℕ) (i : ℕ) (m : Match w t i) where
  pub match_step : i < length w → i < length t → get_or t i 0 ≡ get_or w i 0 → Match w t (i + 1)
  match_step lw lt e = record { same = rw (add-one i) (omega (arith, m.same, common-step w t i i lw lt e)) }

  pub match_stop : i < length w → i < length t → (get_or t i 0 ≡ get_or w i 0 → ⊥) → i ≡ common w t
  match_stop lw lt e = omega (arith, m.same, common-stop w t i i lw lt e)

  -- the shorter of the two is over
  pub match_end : (n : ℕ) → n ≡ min (length w) (length t) → i ≤ n → n ≤ i → n ≡ common w t
  match_end n e l h = grind (arith, m.same, common-end w t i i, common-short w t i i)
