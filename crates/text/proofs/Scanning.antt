-- The loops that look for the end of a line or a field (`Run`), and the loop over the digits of a number (`Figures`). Assumes nothing.
-- Letters: s text, f field; at where the loop began, i where it is; x the number so far.
use Prim.Native.Nat.{ℕ, suc, max, ◌+◌, ◌*◌, ◌-◌, ◌^◌, ◌≤◌, ◌<◌}
use mathlib.Core.Path.{◌≡◌, refl, sym, ap, ◌∙◌}
use mathlib.Core.List.{List, []}
use mathlib.Core.Bool.{true, false, false≢true}
use native.Mathlib.Nat.{pow-le-pow_right, pow-suc}
use native.Mathlib.Numerals.{add-one}
use native.Mathlib.Omega.{arith}
use lib.ListN.{length, get_or, drop, length-drop, drop_of_length-le}
use lib.Seq.{drop-cons}
use Rattle.seq.specs.Lists.{every_of}
use Rattle.seq.proofs.Laws.Bools.{and_both}
use Rattle.seq.proofs.Laws.Lists.{every_of-at}
use Rattle.std.specs.Prelude.{Some, None}
use Rattle.text.specs.Text.{digit, value_from, value, number_of}
use Rattle.text.proofs.Laws.Text.{digit_at, number-none, number_is}

-- ---- a length, byte by byte
-- What is left of the length that was asked for at the start.
pub record Run (f : List ℕ → ℕ) (s : List ℕ) (at i : ℕ) : Type 0 where
  pub same : i + f (drop i s) ≡ at + f (drop at s)

pub run-start : (f : List ℕ → ℕ) (s : List ℕ) (at : ℕ) → Run f s at at
run-start f s at = record { same = refl }

module _ (f : List ℕ → ℕ) (s : List ℕ) (at i : ℕ) (r : Run f s at i) where
  pub run_step : f (drop i s) ≡ suc (f (drop (suc i) s)) → Run f s at (i + 1)
  run_step e = record { same = rw (add-one i) (omega (arith, r.same)) }

  pub run_end : f (drop i s) ≡ 0 → i ≡ at + f (drop at s)
  run_end e = omega (arith, r.same)

  -- It runs to the end of the text, or the text ended before it began.
  pub run_out : at ≤ i → length s ≤ i → f (drop i s) ≡ 0 → f (drop at s) ≤ length (drop at s) → max at (length s) ≡ at + f (drop at s)
  run_out a b e l = omega (arith, r.same, l, length-drop at s)

-- ---- the digits of a number
pub record Figures (f : List ℕ) (i x : ℕ) : Type 0 where
  pub within : i ≤ length f
  -- the bytes before i are digits
  pub passed : every_of digit (drop i f) ≡ true → every_of digit f ≡ true
  -- and x is the number that they give
  pub sum : value_from x (drop i f) ≡ value f
  pub small : x < 10 ^ i

pub figures_start : (f : List ℕ) → Figures f 0 0
figures_start f = record { within = omega arith; passed = λ e. e; sum = refl; small = omega arith }

module _ (f : List ℕ) (i x : ℕ) (s : Figures f i x) (l : i < length f) where
  -- There is room for one more digit.
  pub figures_small : length f ≤ 5 → x < 10000
  figures_small h = omega (arith, s.small, pow-le-pow_right {n = 10} (omega arith) {i = i} {j = 4} (omega arith))

  pub figures_bad : digit (get_or f i 0) ≡ false → None ≡ number_of f
  figures_bad h = number-none f (λ n. absurd (false≢true (sym h ∙ every_of-at digit f 0 n.digits i l)))

  pub figures_step : digit (get_or f i 0) ≡ true → Figures f (i + 1) (x * 10 + (get_or f i 0 - 48))
  unfolding every_of value_from
  figures_step d = record {
    within = omega arith;
    passed = λ e. s.passed (ap (every_of digit) (drop-cons f i 0 l) ∙ and_both _ _ d (rw (add-one i) at e));
    sum = rw (add-one i) (sym (ap (value_from x) (drop-cons f i 0 l)) ∙ s.sum);
    small = rw (add-one i) (omega (arith, s.small, pow-suc 10 i, (digit_at (get_or f i 0) d).high));
  }

pub figures_end : (f : List ℕ) (i x : ℕ) → Figures f i x → length f ≤ i → 1 ≤ length f → length f ≤ 5 → (get_or f 0 0 ≡ 48 → length f ≡ 1) → Some x ≡ number_of f
unfolding every_of value_from
figures_end f i x s h a b c =
    sym (number_is f (record { some = a; few = b; digits = s.passed (ap (every_of digit) none); leads = c })
    ∙ ap Some (sym s.sum ∙ ap (value_from x) none))
  where
    none : drop i f ≡ []
    none = drop_of_length-le f h
