-- The digits of a number, from the last to the first. Assumes nothing.
--   decimal-first, decimal-more   a number below 10 has one digit; another has those of its tenth, and one more
-- Letters: n the number, d how many digits there may be.
use Prim.Native.Nat.{ℕ, zero, suc, ◌+◌, ◌/◌, ◌%◌, ◌^◌, ◌≤◌, ◌<◌}
use mathlib.Core.Path.{◌≡◌, refl, sym, ap, ◌∙◌}
use mathlib.Core.Logic.{⊎_elim}
use mathlib.Core.List.{List, [], ◌∷◌, ◌++◌}
use native.Mathlib.Nat.{pow-suc}
use native.Mathlib.Omega.{arith}
use borrow.Author.Tests.{eq-eqb, ne_eqb, eqb-true, eqb-false}
use lib.Dec.{eqb}
use Rattle.seq.proofs.Laws.Bools.{bool_cases}
use Rattle.text.specs.Text.{digits_in, decimal}

pub decimal-other : (n : ℕ) → (n ≡ 0 → ⊥) → decimal n ≡ digits_in 10 n
unfolding decimal
decimal-other n e = rw (ne_eqb n 0 e)

pub digits_step : (d n : ℕ) → (n ≡ 0 → ⊥) → digits_in (suc d) n ≡ digits_in d (n / 10) ++ ((48 + n % 10) ∷ [])
unfolding digits_in
digits_step d n e = rw (ne_eqb n 0 e)

pub digits-none : (d : ℕ) → digits_in d 0 ≡ []
unfolding digits_in
digits-none zero = refl
digits-none (suc d) = refl

-- Room for one more digit changes nothing.
digits-enough : (d n : ℕ) → n < 10 ^ d → digits_in (suc d) n ≡ digits_in d n
unfolding digits_in
digits-enough zero n h = rw (eq-eqb n 0 (omega arith))
digits-enough (suc d) n h =
    ⊎_elim (λ q. rw q) (λ q. rw q (ap (λ (t : List ℕ). t ++ ((48 + n % 10) ∷ [])) (digits-enough d (n / 10) (omega (arith, pow-suc 10 d)))))
    (bool_cases (eqb n 0))

decimal-zero : (n : ℕ) → n ≡ 0 → (48 + n % 10) ∷ [] ≡ decimal n
unfolding decimal
decimal-zero n q = rw q

pub decimal-first : (n : ℕ) → n < 10 → (48 + n % 10) ∷ [] ≡ decimal n
decimal-first n h = ⊎_elim (λ q. decimal-zero n (eqb-true n 0 q)) (λ q. some (eqb-false n 0 q)) (bool_cases (eqb n 0))
  where
    tenth : n / 10 ≡ 0
    tenth = omega arith

    some : (n ≡ 0 → ⊥) → (48 + n % 10) ∷ [] ≡ decimal n
    some q =
        sym (decimal-other n q ∙ digits_step 9 n q
        ∙ ap (λ (t : List ℕ). t ++ ((48 + n % 10) ∷ [])) (ap (digits_in 9) tenth ∙ digits-none 9))

pub decimal-more : (n : ℕ) → 10 ≤ n → n < 10 ^ 10 → decimal n ≡ decimal (n / 10) ++ ((48 + n % 10) ∷ [])
decimal-more n l h =
    decimal-other n (omega arith) ∙ digits_step 9 n (omega arith)
    ∙ ap (λ (t : List ℕ). t ++ ((48 + n % 10) ∷ [])) (sym (decimal-other (n / 10) (omega arith) ∙ digits-enough 9 (n / 10) (omega arith)))
