-- From numbers to flags, from the last entry to the first: what the loop knows, and how a turn keeps it. A number is none of the entries already changed, as it is
-- no higher than its own place.
-- Letters: w the row, w₀ as it was lent; v entries are still to be changed, u is one of the others. Assumes nothing.
use Prim.Native.Nat.{ℕ, ◌/◌, ◌%◌, ◌-◌, ◌≤◌, ◌<◌}
use mathlib.Core.Path.{◌≡◌, refl, sym, ap, ◌∙◌}
use mathlib.Core.Logic.{⊎_elim}
use mathlib.Core.List.{List}
use native.Mathlib.Nat.{eq-or-lt_of_le, not-le_of_lt}
use native.Mathlib.Omega.{arith}
use lib.ListN.{length, get_or, set, length-set}
use lib.Seq.{get_or-set_same, get_or-set_other}
use Rattle.types.specs.Inner.Numbers.{number_in, flag_in, SpreadPre, Spread}

pub record Spreading (w₀ w : List ℕ) (v : ℕ) : Type 0 where
  pub within : v ≤ length w₀
  pub long : length w ≡ length w₀
  pub same : (u : ℕ) → u < v → get_or w u 0 ≡ get_or w₀ u 0
  pub holds : (u : ℕ) → u < length w₀ → v ≤ u → get_or w u 0 ≡ flag_in w₀ (number_in w₀ u)

module _ (w₀ : List ℕ) (pre : SpreadPre w₀) where
  pub spreading_start : Spreading w₀ w₀ (length w₀)
  spreading_start = record { within = omega arith; long = refl; same = λ u l. refl; holds = λ u l h. absurd (not-le_of_lt l h) }

  -- The entry at hand is v - 1, and x is the number that stands there.
  module _ (w : List ℕ) (v : ℕ) (s : Spreading w₀ w v) (some : 0 < v) where
    pub spread_at : v - 1 < length w
    spread_at = omega (arith, s.within, s.long)

    module _ (x : ℕ) (ex : x ≡ number_in w (v - 1)) where
      spread-number : x ≡ number_in w₀ (v - 1)
      spread-number = ex ∙ ap (λ (y : ℕ). y % 65536) (s.same (v - 1) (omega arith))

      spread-low : x < v
      spread-low = omega (arith, spread-number, pre.lower (v - 1) (omega (arith, s.within)))

      pub spread-from : x < length w
      spread-from = omega (arith, spread-low, spread_at)

      -- The row with that entry changed.
      abbrev changed : List ℕ
      changed = set w (v - 1) (flag_in w x)

      pub spreading_step : Spreading w₀ changed (v - 1)
      spreading_step = record {
        within = omega (arith, s.within);
        long = length-set w (v - 1) (flag_in w x) ∙ s.long;
        same = λ u l. other u (λ (z : u ≡ v - 1). omega arith) ∙ s.same u (omega arith);
        holds = λ u l h. ⊎_elim (λ z. here u z) (λ (z : v - 1 < u). other u (λ (y : u ≡ v - 1). omega arith) ∙ s.holds u l (omega arith)) (eq-or-lt_of_le h);
      }
        where
          other : (u : ℕ) → (u ≡ v - 1 → ⊥) → get_or changed u 0 ≡ get_or w u 0
          other u ne = get_or-set_other w (v - 1) u (flag_in w x) 0 ne

          here : (u : ℕ) → v - 1 ≡ u → get_or changed u 0 ≡ flag_in w₀ (number_in w₀ u)
          here u z =
              ap (λ (y : ℕ). get_or changed y 0) (sym z) ∙ get_or-set_same w (v - 1) (flag_in w x) 0 spread_at
              ∙ ap (λ (y : ℕ). y / 65536) (s.same x spread-low) ∙ ap (flag_in w₀) (spread-number ∙ ap (number_in w₀) z)

  pub spreading_end : (w : List ℕ) (v : ℕ) → Spreading w₀ w v → v ≤ 0 → Spread w₀ w
  spreading_end w v s h = record { long = s.long; holds = λ u l. s.holds u l (omega arith) }
