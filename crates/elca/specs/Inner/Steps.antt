-- What the functions of this crate promise each other; no public contract cites it.
-- Letters: o, s what is lent as out and own; p parents, cs counts, w work; n nodes, k words. Assumes nothing.
use Rattle.std.specs.Prelude.{ℕ, ◌+◌, ◌-◌, ◌*◌, ◌≤◌, ◌<◌, ◌^◌, ◌≡◌, List, Bool, not, cond, ◌&&◌, eqb, ltb, leb, length, get_or, replicate}
use Rattle.seq.specs.Below.{every_below, sum_below, tabulate, gather, listed}
use Rattle.tree.specs.Tree.{child}
use Rattle.tree.specs.Plain.{Down}
use Rattle.index.specs.declared.Reply.{Reply}
use Rattle.index.specs.Replies.{accepted, ROOM, totalled, kept_or}
use Rattle.index.specs.Inner.{cell}
use Rattle.answers.specs.Searches.{out_row}
use Rattle.full.specs.Full.{full_by}
use Rattle.elca.specs.Inner.Rows.{flag_at, held_by, own_rows}

-- Sizes of the grid: as many counts and as much work as n nodes and k words have.
pub record Grid (n k : ℕ) (cs w : List ℕ) : Type 0 where
  pub counted : length cs ≡ k * n
  pub long : length w ≡ n * k + n
  pub small : n * k + n ≤ 655360

-- A full child c is taken off at its parent.
pub record GivePre (n k c up : ℕ) (cs w : List ℕ) : Type 0 where
  pub grid : Grid n k cs w
  pub child : c < n
  pub node : up < n
  pub fits : (j : ℕ) → j < k → cell k w up j + get_or cs (j * n + c) 0 < 2 ^ 32

abbrev pub given : List ℕ → ℕ → ℕ → ℕ → ℕ → List ℕ → ℕ → ℕ → ℕ
given cs n k c up w v j = cell k w v j + cond (eqb v up) (get_or cs (j * n + c) 0) 0

-- The cells are 0, and flags of full nodes stand behind them.
pub record TakeOffPre (p cs : List ℕ) (k : ℕ) (w : List ℕ) : Type 0 where
  pub nodes : 1 ≤ length p
  pub grid : Grid (length p) k cs w
  pub down : Down p (length p)
  pub zeros : (v j : ℕ) → v < length p → j < k → cell k w v j ≡ 0
  pub fits : (v j : ℕ) → v < length p → j < k → sum_below (length p) (λ c. cond (child p v c) (get_or cs (j * length p + c) 0) 0) < 2 ^ 32

-- A node is flagged where its flag is not 0.
abbrev pub is_flagged : ℕ → ℕ → List ℕ → ℕ → Bool
is_flagged n k w v = not (eqb (flag_at n k w v) 0)

pub record NodePre (n k v : ℕ) (cs w : List ℕ) : Type 0 where
  pub grid : Grid n k cs w
  pub node : v < n

-- One row of own: no count is below what stands in work for it.
pub record OwnRowPre (n k v : ℕ) (cs w row : List ℕ) : Type 0 where
  pub grid : Grid n k cs w
  pub node : v < n
  pub below : (j : ℕ) → j < k → cell k w v j ≤ get_or cs (j * n + v) 0
  pub long : length row ≡ k

pub record OwnPre (n k : ℕ) (cs w s : List ℕ) : Type 0 where
  pub grid : Grid n k cs w
  pub below : (v j : ℕ) → v < n → j < k → cell k w v j ≤ get_or cs (j * n + v) 0
  pub room : length (own_rows cs n k w) ≤ length s

-- ---- the answers, from the rows
-- Whether both buffers have room for m answers of k words.
abbrev pub both_fit : ℕ → ℕ → List ℕ → List ℕ → Bool
both_fit k m o s = leb m (length o) && leb (m * k) (length s)

-- What is listed: the nodes that pass f, with the own counts g.
pub record Answered (n k : ℕ) (f : ℕ → Bool) (g : ℕ → ℕ → ℕ) (o s : List ℕ) (r : Reply) (o' s' : List ℕ) : Type 0 where
  pub reply : r ≡ totalled (cond (both_fit k (length (listed n f)) o s) accepted ROOM) (length (listed n f))
  pub out : o' ≡ kept_or r (gather n f out_row) o
  pub own : s' ≡ kept_or r (gather n f (λ v. tabulate k (g v))) s

pub record PutPre (n k : ℕ) (cs w : List ℕ) : Type 0 where
  pub grid : Grid n k cs w
  pub few_nodes : n ≤ 65536
  pub few_words : k ≤ 8
  pub below : (v j : ℕ) → v < n → j < k → cell k w v j ≤ get_or cs (j * n + v) 0

-- By counts alone: which nodes are listed, and their own counts.
unfoldable pub held_full : List ℕ → List ℕ → ℕ → ℕ → ℕ → ℕ
held_full p cs k v j = held_by p cs (full_by cs (length p) k) v j

unfoldable pub elca_by : List ℕ → List ℕ → ℕ → ℕ → Bool
elca_by p cs k v = every_below k λ j. ltb (held_full p cs k v j) (get_or cs (j * length p + v) 0)

abbrev pub own_by : List ℕ → List ℕ → ℕ → ℕ → ℕ → ℕ
own_by p cs k v j = get_or cs (j * length p + v) 0 - held_full p cs k v j

-- What is lent to the search once the index is checked: right counts, and zeros in work.
pub record SearchPre (p cs : List ℕ) (k : ℕ) (w : List ℕ) : Type 0 where
  pub nodes : 1 ≤ length p
  pub few_nodes : length p ≤ 65536
  pub few_words : k ≤ 8
  pub counted : length cs ≡ k * length p
  pub zeros : w ≡ replicate (length p * k + length p) 0
  pub down : Down p (length p)
  pub fits : (v j : ℕ) → v < length p → j < k → sum_below (length p) (λ c. cond (child p v c) (get_or cs (j * length p + c) 0) 0) < 2 ^ 32
  pub below : (v j : ℕ) → v < length p → j < k → held_full p cs k v j ≤ get_or cs (j * length p + v) 0

pub record ElcaFound (p cs : List ℕ) (k : ℕ) (w o s : List ℕ) (r : Reply) (w' o' s' : List ℕ) : Type 0 where
  pub answers : Answered (length p) k (elca_by p cs k) (own_by p cs k) o s r o' s'
  pub work : w' ≡ w
