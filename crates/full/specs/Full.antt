-- Full nodes by their counts.
--   full_by cs n k v   == each of the first k rows of n has a count above 0 at v
--   full_flags cs n    == for each of n nodes 1 where it is full by all whole rows of n in cs, else 0 (nothing where n is 0)
-- Letters: cs counts, n nodes, k words; v node, j word. Laws are in proofs/Laws. Assumes nothing.
use Rattle.std.specs.Prelude.{ℕ, ◌+◌, ◌*◌, ◌/◌, List, Bool, cond, ltb, length, get_or}
use Rattle.seq.specs.Below.{every_below, tabulate}

unfoldable pub full_by : List ℕ → ℕ → ℕ → ℕ → Bool
full_by cs n k v = every_below k λ j. ltb 0 (get_or cs (j * n + v) 0)

unfoldable pub full_flags : List ℕ → ℕ → List ℕ
full_flags cs n = tabulate n λ v. cond (full_by cs n (length cs / n) v) 1 0
