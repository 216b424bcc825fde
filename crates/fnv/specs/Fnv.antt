-- 32-bit FNV-1a, as it is published: the hash starts at 2,166,136,261; each byte is put in by exclusive or, and the sum times 16,777,619 is kept modulo 2 to the 32.
--   START         == the hash of no bytes;  FACTOR: what each byte multiplies by
--   hash_step h b  == the hash h with the byte b
--   hash_from h l  == the hash h with the bytes l, in order
--   hash_of l      == the hash of the bytes l
-- The published values are in proofs/Cases. Assumes nothing.
use Rattle.std.specs.Prelude.{ℕ, ◌*◌, ◌%◌, ◌^◌, List, [], ◌∷◌, bit_xor}

abbrev pub START : ℕ
START = 2166136261

abbrev pub FACTOR : ℕ
FACTOR = 16777619

unfoldable pub hash_step : ℕ → ℕ → ℕ
hash_step h b = bit_xor h b * FACTOR % 2 ^ 32

unfoldable pub hash_from : ℕ → List ℕ → ℕ
hash_from h [] = h
hash_from h (b ∷ l) = hash_from (hash_step h b) l

unfoldable pub hash_of : List ℕ → ℕ
hash_of l = hash_from START l
