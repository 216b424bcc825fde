-- The arms of `class_of` are the table. Assumes nothing.
--   at_byte        what a function says of a byte, told by its number
--   NoneBelow, none-past   a number that is none of the first m, as behind the arms of a `match`, is m or more
use Prim.Native.Nat.{ℕ, zero, suc, zero-le, ◌≤◌}
use mathlib.Core.Path.{◌≡◌, sym, ap, ◌∙◌}
use native.Mathlib.Omega.{arith}

pub at_byte : {A : Type 0} (f : ℕ → A) (n x : ℕ) (r : A) → x ≡ n → r ≡ f n → r ≡ f x
at_byte f n x r e h = h ∙ ap f (sym e)

unfoldable pub NoneBelow : ℕ → ℕ → Type 0
NoneBelow zero k = Unit {0}
NoneBelow (suc m) k = NoneBelow m k × (k ≡ m → ⊥)

pub none-past : (m k : ℕ) → NoneBelow m k → m ≤ k
unfolding NoneBelow
none-past zero k h = zero-le
none-past (suc m) k h = past (none-past m k h.0) h.1
  where
    past : m ≤ k → (k ≡ m → ⊥) → suc m ≤ k
    past l ne = omega arith
