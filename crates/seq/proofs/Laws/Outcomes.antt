-- No second outcome fits a contract that equates the outcome with a definition. Assumes nothing.
--   outcome_unique                             the general law, which the crates above cite too
--   widen_unique, least_unique, clear_unique   for the public functions of this crate
use Prim.Native.Nat.{ℕ, min}
use mathlib.Core.Path.{◌≡◌, sym, ◌∙◌}
use mathlib.Core.List.{List}
use lib.ListN.{length, replicate}

pub outcome_unique : {A : Type 0} {said r r' : A} → r ≡ said → r' ≡ said → r ≡ r'
outcome_unique a b = a ∙ sym b

pub widen_unique : (x r r' : ℕ) → r ≡ x → r' ≡ x → r ≡ r'
widen_unique x r r' = outcome_unique

pub least_unique : (a b r r' : ℕ) → r ≡ min a b → r' ≡ min a b → r ≡ r'
least_unique a b r r' = outcome_unique

-- The slice at exit.
pub clear_unique : (part s s' : List ℕ) → s ≡ replicate (length part) 0 → s' ≡ replicate (length part) 0 → s ≡ s'
clear_unique part s s' = outcome_unique
