-- Laws of the table's definitions. Assumes nothing.
use Prim.Native.Nat.{ℕ, zero, suc, ◌+◌, ◌*◌}
use mathlib.Core.Path.{◌≡◌, refl, sym, ap, ◌∙◌}
use mathlib.Core.List.{List, [], ◌++◌, append-nil, append_assoc}
use native.Mathlib.Numerals.{add-one}
use native.Mathlib.Nat.{zero-mul, suc-mul}
use native.Mathlib.Omega.{arith}
use lib.ListN.{length, length-append}
use Rattle.text.specs.Text.{bytes}
use Rattle.text.specs.Buffers.{Added}
use Rattle.text.specs.declared.Writer.{Writer}
use Rattle.text.proofs.Laws.Adding.{added-step}
use Rattle.sheet.specs.Table.{times, header_text}

-- ---- the header
pub times_zero : (s : List ℕ) → times 0 s ≡ []
unfolding times
times_zero s = refl

times-last : (m : ℕ) (s : List ℕ) → times (suc m) s ≡ times m s ++ s
unfolding times
times-last zero s = append-nil s
times-last (suc m) s = ap (λ (t : List ℕ). s ++ t) (times-last m s) ∙ sym (append_assoc s (times m s) s)

pub times_more : (m : ℕ) (s : List ℕ) → times (m + 1) s ≡ times m s ++ s
times_more m s = ap (λ (k : ℕ). times k s) (add-one m) ∙ times-last m s

length-times : (m : ℕ) (s : List ℕ) → length (times m s) ≡ m * length s
unfolding times
length-times zero s = sym (zero-mul (length s))
length-times (suc m) s = omega (arith, length-append s (times m s), length-times m s, suc-mul m (length s))

pub length-header : (p q : ℕ) → length (header_text p q) ≡ 10 + 4 * (p + q)
unfolding header_text bytes
length-header p q = simp (length-append, length-times) (omega arith)

-- The header, written piece by piece.
pub header_built : (p q : ℕ) (w₀ w₁ w₂ w₃ : Writer ℕ) → Added (bytes "parent,tag") w₀ w₁ → Added (times p (bytes ",+,#")) w₁ w₂ → Added (times q (bytes ",-,#")) w₂ w₃ →
    Added (header_text p q) w₀ w₃
unfolding header_text
header_built p q w₀ w₁ w₂ w₃ a b c = added-step _ _ _ w₀ w₁ w₃ a (added-step _ _ _ w₁ w₂ w₃ b c refl) refl
