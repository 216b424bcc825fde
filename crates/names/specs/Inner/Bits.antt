-- The bits of a number.
--   bit_of m j   == whether bit j of m, from the lowest, bit 0, is 1
-- Assumes nothing.
use Rattle.std.specs.Prelude.{ℕ, Bool, eqb}
use Rattle.std.specs.Int.{bit_at}

unfoldable pub bit_of : ℕ → ℕ → Bool
bit_of m j = eqb (bit_at m j) 1
