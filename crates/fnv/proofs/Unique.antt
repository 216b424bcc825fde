-- No second outcome fits what the public functions promise. Letters: x a number, h a hash, b a byte. Assumes nothing.
use Rattle.std.proofs.Common.{◌≡◌, ℕ, ◌*◌, ◌%◌, ◌^◌, sym, ◌∙◌}
use Rattle.fnv.specs.Fnv.{FACTOR, hash_step}

pub times_factor_unique : (x r r' : ℕ) → r ≡ x * FACTOR % 2 ^ 32 → r' ≡ x * FACTOR % 2 ^ 32 → r ≡ r'
times_factor_unique x r r' a b = a ∙ sym b

pub step_unique : (h b r r' : ℕ) → r ≡ hash_step h b → r' ≡ hash_step h b → r ≡ r'
step_unique h b r r' p q = p ∙ sym q
