-- The first bits in which bytes and names differ.
--   bit-none                 the bits of 0
--   bit-seen                 a bit, shifted down and masked
--   first-bit                two different bytes first differ at the lowest 1 of their difference
--   names-differ             where bytes before k are the same, and bytes k first differ in bit j, names first differ in bit 8 * k + j
-- Letters: a c bytes, x y names, i j bits, k place in a name. Assumes nothing.
use Prim.Native.Nat.{ℕ, ◌+◌, ◌*◌, ◌/◌, ◌%◌, ◌^◌, ◌≤◌, ◌<◌}
use mathlib.Core.Path.{◌≡◌, sym, ap, ap₂, ◌∙◌}
use mathlib.Core.Logic.{⊎_elim}
use mathlib.Core.Bool.{false}
use mathlib.Core.List.{List}
use native.Mathlib.Omega.{arith}
use lib.Bits.{bit_and}
use lib.Dec.{eqb}
use lib.ListN.{get_or}
use Rattle.std.specs.Int.{bit_at, trailing_zeros, w8}
use Rattle.std.specs.Int.RustNames.{bit_xor}
use Rattle.std.proofs.lemmas.Bool.Decides.{nat_tests}
use Rattle.std.proofs.lemmas.Nat.{xor_of_8}
use Rattle.std.proofs.lemmas.Nat.Bits.{shr_and_one, bit_at-zero, bit_at-lt, bit_at_xor, bit_at-trailing_zeros, same_from_bits}
use Rattle.seq.proofs.Laws.Numbers.{less_or}
use Rattle.names.specs.Inner.Bits.{bit_of}
use Rattle.names.specs.Inner.Tree.{bits}
use Rattle.names.specs.Inner.Calls.{name_bit, FirstBit, NamesDiffer}

pub bit-none : (j : ℕ) → bit_of 0 j ≡ false
unfolding bit_of
bit-none j = ap (λ (k : ℕ). eqb k 1) (bit_at-zero j)

pub bit-seen : (a j : ℕ) → eqb (bit_and (a / 2 ^ j) 1) 1 ≡ bit_of a j
unfolding bit_of
bit-seen a j = ap (λ (k : ℕ). eqb k 1) (shr_and_one a j)

-- ---- the first bit in which two bytes differ
module _ (a c : ℕ) (ne : a ≡ c → ⊥) (la : a < 256) (lc : c < 256) where
  -- A bit of the difference is 0 where the bits are the same.
  same-bit : (i : ℕ) → bit_at (bit_xor a c) i ≡ 0 → bit_at a i ≡ bit_at c i
  same-bit i e = omega (arith, bit_at_xor a c i, bit_at-lt a i, bit_at-lt c i)

  other-bit : (i : ℕ) → bit_at (bit_xor a c) i ≡ 1 → bit_of a i ≡ bit_of c i → ⊥
  unfolding bit_of
  other-bit i e f = grind (arith, nat_tests, bit_at_xor a c i, bit_at-lt a i, bit_at-lt c i, f)

  some : bit_xor a c ≡ 0 → ⊥
  some e = ne (same_from_bits a c (λ i. same-bit i (ap (λ (z : ℕ). bit_at z i) e ∙ bit_at-zero i)))

  pub first-bit : FirstBit a c (trailing_zeros w8 (bit_xor a c))
  unfolding bit_of
  first-bit =
      let low = bit_at-trailing_zeros w8 (bit_xor a c) (omega (arith, some)) (xor_of_8 a c la lc) in
      record { small = low.0; alike = λ i l. ap (λ (k : ℕ). eqb k 1) (same-bit i (low.2 i l)); differs = other-bit _ low.1 }

-- ---- names
pub names-differ : (x y : List ℕ) (k j : ℕ) → 8 * k + j < bits → ((i : ℕ) → i < k → get_or x i 0 ≡ get_or y i 0) → FirstBit (get_or x k 0) (get_or y k 0) j →
    NamesDiffer x y (8 * k + j)
unfolding name_bit
names-differ x y k j few same f = record {
  few = few;
  alike = λ i l. ⊎_elim (λ q. ap (λ (a : ℕ). bit_of a (i % 8)) (same (i / 8) q)) (λ q. inside i l q) (less_or (i / 8) k);
  differs = λ e. f.differs (sym (at x) ∙ e ∙ at y);
}
  where
    inside : (i : ℕ) → i < 8 * k + j → k ≤ i / 8 → bit_of (get_or x (i / 8) 0) (i % 8) ≡ bit_of (get_or y (i / 8) 0) (i % 8)
    inside i l q = rw here (f.alike (i % 8) (omega (arith, f.small)))
      where
        here : i / 8 ≡ k
        here = omega (arith, f.small)

    at : (z : List ℕ) → bit_of (get_or z ((8 * k + j) / 8) 0) ((8 * k + j) % 8) ≡ bit_of (get_or z k 0) j
    at z = ap₂ (λ (p i : ℕ). bit_of (get_or z p 0) i) byte rest
      where
        byte : (8 * k + j) / 8 ≡ k
        byte = omega (arith, f.small)

        rest : (8 * k + j) % 8 ≡ j
        rest = omega (arith, f.small)
