-- Slots, or other numbers, that were cleared. Assumes nothing.
use Prim.Native.Nat.{ℕ}
use mathlib.Core.Path.{◌≡◌, sym, ap, ◌∙◌}
use mathlib.Core.List.{List}
use lib.ListN.{length, length-replicate}
use Rattle.probing.specs.Table.{blank}

pub cleared-blank : (w₀ w : List ℕ) → w ≡ blank (length w₀) → w ≡ blank (length w)
cleared-blank w₀ w e = e ∙ ap blank (sym (ap length e ∙ length-replicate {A = ℕ} (length w₀) 0))

pub cleared-long : (w₀ w : List ℕ) → w ≡ blank (length w₀) → length w ≡ length w₀
cleared-long w₀ w e = ap length e ∙ length-replicate {A = ℕ} (length w₀) 0
