-- What the functions of this crate promise each other, and what their inner loops ask and give; no public contract cites it.
-- In work, the count check keeps the sums of a node side by side: word j's sum at node v is entry v * k + j.
--   cell k w v j      == word j's sum at node v in work w
--   Cells n k f w     == w holds f v j for each node v below n and each word j below k, and nothing else
--   same cs n k w e   == entry e of counts is its sum in work
-- Letters: I index, p parents, cs counts, l list, w work; n nodes, k words; j word, v node, e entry. Assumes nothing.
use Rattle.std.specs.Prelude.{ℕ, ◌+◌, ◌*◌, ◌/◌, ◌%◌, ◌≤◌, ◌<◌, ◌^◌, ◌≡◌, List, Option, Bool, cond, eqb, length, get_or, replicate}
use Rattle.seq.specs.Below.{sum_below, Lowest}
use Rattle.seq.specs.Lists.{tally, EachBelow}
use Rattle.tree.specs.Plain.{Down, Lawful}
use Rattle.index.specs.Index.{Index, nodes, start}
use Rattle.index.specs.Rules.{count_ok}
use Rattle.index.specs.Plain.{WordKept}

-- ---- the list check
pub record WordPre (ends : List ℕ) (j from : ℕ) : Type 0 where
  pub word : j < length ends
  pub begins : from ≡ start ends j

-- ---- the count check
abbrev pub cell : ℕ → List ℕ → ℕ → ℕ → ℕ
cell k w v j = get_or w (v * k + j) 0

pub record Cells (n k : ℕ) (f : ℕ → ℕ → ℕ) (w : List ℕ) : Type 0 where
  pub long : length w ≡ n * k
  pub holds : (v j : ℕ) → v < n → j < k → cell k w v j ≡ f v j

-- What is lent to mark one word: its column is 0.
pub record MarkPre (n k j : ℕ) (l w : List ℕ) : Type 0 where
  pub word : j < k
  pub long : length w ≡ n * k
  pub small : n * k ≤ 524288
  pub below : EachBelow n l
  pub few : length l < 2 ^ 32
  pub clear : (v : ℕ) → v < n → cell k w v j ≡ 0

-- Column j has one more for each occurrence, the others are as they were.
abbrev pub marked : ℕ → List ℕ → List ℕ → ℕ → ℕ → ℕ → ℕ
marked k l w j v i = cell k w v i + cond (eqb i j) (tally (eqb v) l) 0

pub record MarkWordsPre (n : ℕ) (ends occ w : List ℕ) : Type 0 where
  pub long : w ≡ replicate (n * length ends) 0
  pub small : n * length ends ≤ 524288
  pub words : (j : ℕ) → j < length ends → WordKept n ends occ j

pub record HandPre (n k «from» to : ℕ) (w : List ℕ) : Type 0 where
  pub node : «from» < n
  pub before : to < «from»
  pub long : length w ≡ n * k
  pub small : n * k ≤ 524288
  pub fits : (j : ℕ) → j < k → cell k w to j + cell k w «from» j < 2 ^ 32

-- Node `to` has been handed the sums of node `from`.
abbrev pub handed : ℕ → List ℕ → ℕ → ℕ → ℕ → ℕ → ℕ
handed k w «from» to v j = cell k w v j + cond (eqb v to) (cell k w «from» j) 0

pub record SumPre (p : List ℕ) (k : ℕ) (w : List ℕ) : Type 0 where
  pub down : Down p (length p)
  pub long : length w ≡ length p * k
  pub small : length p * k ≤ 524288
  pub fits : (j : ℕ) → j < k → sum_below (length p) (λ u. cell k w u j) < 2 ^ 32

pub record GridBadPre (n k : ℕ) (cs w : List ℕ) : Type 0 where
  pub nodes : 1 ≤ n
  pub long : length w ≡ n * k
  pub small : n * k ≤ 524288
  pub counted : length cs ≡ k * n

-- Entry e is its sum: that of word e / n at node e % n.
abbrev pub same : List ℕ → ℕ → ℕ → List ℕ → ℕ → Bool
same cs n k w e = eqb (get_or cs e 0) (cell k w (e % n) (e / n))

pub record CountsBadPre (I : Index) (w : List ℕ) : Type 0 where
  pub some_nodes : 1 ≤ nodes I
  pub tree : Lawful I.parents I.tags
  pub words : (j : ℕ) → j < length I.ends → WordKept (nodes I) I.ends I.occurrences j
  pub counted : length I.counts ≡ length I.ends * nodes I
  pub zeros : w ≡ replicate (nodes I * length I.ends) 0
  pub small : nodes I * length I.ends ≤ 524288

-- The lowest wrong entry, and work is as it was.
pub record Counted (I : Index) (w : List ℕ) (r : Option ℕ) (w' : List ℕ) : Type 0 where
  pub place : Lowest (length I.ends * nodes I) (count_ok I.parents I.ends I.occurrences I.counts) r
  pub work : w' ≡ w
