-- How the ELCA search keeps its sums: in work, what v's full children hold of word j stands in entry v * k + j, and behind
-- all these a flag for each node, in entry n * k + v.
--   flag_at n k w v          == the flag of v in work w
--   held_by p cs g v j       == what the children of v that pass g hold of word j, by the counts
--   above_held cs n k w v    == each word's count at v is above what stands in work for it
--   own_diff cs n k w v j    == word j's count at v less what stands in work for it
--   own_rows cs n k w        == for each node flagged with 1, in increasing number, these differences in word order
--   SumsAndFlags n k f g w          == w holds f v j for each node v and word j, then g v for each node v, and nothing else
-- Letters: p parents, cs counts, w work; n nodes, k words; v node, c child, j word; g test. Assumes nothing.
use Rattle.std.specs.Prelude.{ℕ, ◌+◌, ◌-◌, ◌*◌, ◌<◌, ◌≡◌, List, Bool, cond, ◌&&◌, eqb, ltb, length, get_or}
use Rattle.seq.specs.Below.{every_below, sum_below, tabulate, gather}
use Rattle.tree.specs.Tree.{child}
use Rattle.index.specs.Inner.{cell}

abbrev pub flag_at : ℕ → ℕ → List ℕ → ℕ → ℕ
flag_at n k w v = get_or w (n * k + v) 0

unfoldable pub held_by : List ℕ → List ℕ → (ℕ → Bool) → ℕ → ℕ → ℕ
held_by p cs g v j = sum_below (length p) λ c. cond (child p v c && g c) (get_or cs (j * length p + c) 0) 0

unfoldable pub above_held : List ℕ → ℕ → ℕ → List ℕ → ℕ → Bool
above_held cs n k w v = every_below k λ j. ltb (cell k w v j) (get_or cs (j * n + v) 0)

abbrev pub own_diff : List ℕ → ℕ → ℕ → List ℕ → ℕ → ℕ → ℕ
own_diff cs n k w v j = get_or cs (j * n + v) 0 - cell k w v j

unfoldable pub own_rows : List ℕ → ℕ → ℕ → List ℕ → List ℕ
own_rows cs n k w = gather n (λ v. eqb (flag_at n k w v) 1) λ v. tabulate k (own_diff cs n k w v)

pub record SumsAndFlags (n k : ℕ) (f : ℕ → ℕ → ℕ) (g : ℕ → ℕ) (w : List ℕ) : Type 0 where
  pub long : length w ≡ n * k + n
  pub cells : (v j : ℕ) → v < n → j < k → cell k w v j ≡ f v j
  pub flags : (v : ℕ) → v < n → flag_at n k w v ≡ g v
