-- Laws of the full flags, and that no second outcome fits. Assumes nothing.
use Prim.Native.Nat.{ℕ, zero, suc, ◌+◌, ◌*◌, ◌/◌, ◌<◌}
use mir.Val.{bool_byte}
use mathlib.Core.Path.{◌≡◌, refl, sym, ap, ap₂, ◌∙◌}
use mathlib.Core.List.{List, [], ◌∷◌}
use mathlib.Core.Bool.{Bool, true, false, cond, ◌&&◌}
use native.Mathlib.Nat.{mul-div_cancel, suc-ne-zero}
use native.Mathlib.Omega.{arith}
use lib.Dec.{ltb}
use lib.ListN.{length, get_or}
use Rattle.std.specs.List.{list_all, range_with_len}
use Rattle.seq.specs.Below.{every_below, tabulate}
use Rattle.seq.proofs.Laws.Below.{every-zero, every_ext}
use Rattle.seq.proofs.Laws.Gather.{length-tabulate, get_d_tabulate}
use Rattle.seq.proofs.Laws.Outcomes.{outcome_unique}
use Rattle.full.specs.Full.{full_by, full_flags}

-- ---- `all` over a range is `every_below`
and_assoc : (a b c : Bool) → (a && (b && c)) ≡ ((a && b) && c)
and_assoc true b c = refl
and_assoc false b c = refl

every_front : (n : ℕ) (f : ℕ → Bool) → every_below (suc n) f ≡ (f 0 && every_below n (λ i. f (suc i)))
unfolding every_below
every_front zero f = and_true (f 0)
  where
    and_true : (b : Bool) → (true && b) ≡ (b && true)
    and_true true = refl
    and_true false = refl
every_front (suc n) f = ap (λ (b : Bool). b && f (suc n)) (every_front n f) ∙ sym (and_assoc (f 0) (every_below n (λ i. f (suc i))) (f (suc n)))

range_from : (f : ℕ → Bool) (a n : ℕ) → list_all f (range_with_len a n) ≡ every_below n (λ i. f (a + i))
range_from f a zero = sym (every-zero (λ i. f (a + i)))
range_from f a (suc n) =
    ap₂ (λ (x y : Bool). x && y) (ap f (omega arith)) (range_from f (a + 1) n ∙ every_ext n _ (λ i. f (a + suc i)) (λ i l. ap f (omega arith)))
    ∙ sym (every_front n (λ i. f (a + i)))

pub every-range : (f : ℕ → Bool) (n : ℕ) → list_all f (range_with_len 0 n) ≡ every_below n f
every-range f n = range_from f 0 n ∙ every_ext n _ _ (λ i l. ap f (omega arith))

-- ---- the flags
-- `u32::from` of a test is its flag.
pub flag-from : (a b : Bool) → a ≡ b → bool_byte a ≡ cond b 1 0
flag-from true b e = rw (← e) refl
flag-from false b e = rw (← e) refl

pub full_by-is : (cs : List ℕ) (n k v : ℕ) (b : Bool) → every_below k (λ j. ltb 0 (get_or cs (j * n + v) 0)) ≡ b → b ≡ full_by cs n k v
unfolding full_by
full_by-is cs n k v b e = sym e

pub length-full_flags : (cs : List ℕ) (n : ℕ) → length (full_flags cs n) ≡ n
unfolding full_flags
length-full_flags cs n = length-tabulate n _

-- The flag of a node, where counts has just k rows.
pub full_flags-at : (cs : List ℕ) (n k v : ℕ) → length cs ≡ k * n → v < n → get_or (full_flags cs n) v 0 ≡ cond (full_by cs n k v) 1 0
unfolding full_flags
full_flags-at cs n k v e l =
    get_d_tabulate n _ v 0 l ∙ ap (λ (z : ℕ). cond (full_by cs n z v) 1 0) (ap (λ (z : ℕ). z / n) e ∙ mul-div_cancel k (omega arith))

-- Where there are no nodes there are no flags.
pub full_flags-none : (cs fl : List ℕ) → length fl ≡ 0 → fl ≡ full_flags cs (length fl)
unfolding full_flags tabulate
full_flags-none cs [] e = refl
full_flags-none cs (x ∷ fl) e = absurd (suc-ne-zero (length fl) e)

pub full_flags-is : (cs fl : List ℕ) (n : ℕ) → n ≡ length fl → fl ≡ tabulate n (λ v. cond (full_by cs n (length cs / n) v) 1 0) → fl ≡ full_flags cs n
unfolding full_flags
full_flags-is cs fl n e q = q

-- No second outcome fits the contract of `flag_full`: the flags were fl, and are o or o' at exit.
pub flag-full_unique : (cs fl o o' : List ℕ) → o ≡ full_flags cs (length fl) → o' ≡ full_flags cs (length fl) → o ≡ o'
flag-full_unique cs fl o o' = outcome_unique
