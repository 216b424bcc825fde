-- What the entries of the stack mean. The lists are merged from the last occurrence to the first: the occurrences from s on have been met.
--   occ W j i             == entry i of word j's list
--   share p s c v u       == u has been met, and is under v but not under c
--   own_share, covered_share  == of the occurrences of word j in that share, how many are v's own, and how many are not
--   Stands p k W s c v e  == the entry e is v's, where c is the next open node below v in the tree: it has counted what was met under v and not
--                            under c, by word, v's own apart from what is under a full proper descendant. For the top, c is n, which nothing is under
--   Rung p k W s e c      == e is the entry of an open node, and c the next open one under it
--   Line p k W s ys d c   == the first d of ys are the open nodes above c, from the root on
--   Standing p k W s ys d == the whole stack, whose top is at place d: what holds between two steps of the engine
-- "Full" and "own" are by all occurrences, met or not. A list with a number of k or more is empty: there is no such word. Letters: p parents; k words, W their lists;
-- s the first node met; v node, u under it, c, q nodes; e entry, ys stack, d place, j word. Laws are in proofs/. Assumes nothing.
use Rattle.std.specs.Prelude.{ℕ, zero, suc, ◌≤◌, ◌<◌, ◌≡◌, List, Bool, true, not, ◌&&◌, leb, length, get_or}
use Rattle.seq.specs.Lists.{tally}
use Rattle.tree.specs.Tree.{under, properly}
use Rattle.answers.specs.Answers.{own}
use Rattle.engine.specs.declared.Entry.{Entry}
use Rattle.engine.specs.Inner.Entries.{fresh}

abbrev pub occ : (ℕ → List ℕ) → ℕ → ℕ → ℕ
occ W j i = get_or (W j) i 0

unfoldable pub share : List ℕ → ℕ → ℕ → ℕ → ℕ → Bool
share p s c v u = leb s u && (under p v u && not (under p c u))

-- The occurrences of word j in v's share that pass a test.
unfoldable pub share_by : List ℕ → (ℕ → List ℕ) → ℕ → ℕ → ℕ → (ℕ → Bool) → ℕ → ℕ
share_by p W s c v t j = tally (λ u. share p s c v u && t u) (W j)

abbrev pub own_share : List ℕ → ℕ → (ℕ → List ℕ) → ℕ → ℕ → ℕ → ℕ → ℕ
own_share p k W s c v j = share_by p W s c v (own p k W v) j

abbrev pub covered_share : List ℕ → ℕ → (ℕ → List ℕ) → ℕ → ℕ → ℕ → ℕ → ℕ
covered_share p k W s c v j = share_by p W s c v (λ u. not (own p k W v u)) j

pub record Stands (p : List ℕ) (k : ℕ) (W : ℕ → List ℕ) (s c v : ℕ) (e : Entry) : Type 0 where
  pub node : e.node ≡ v
  pub own : (j : ℕ) → j < 8 → get_or e.own j 0 ≡ own_share p k W s c v j
  pub covered : (j : ℕ) → j < 8 → get_or e.covered j 0 ≡ covered_share p k W s c v j

-- What was met under a node q between v and c is under c: nodes between two open ones have nothing of their own yet.
abbrev pub Bare : List ℕ → (ℕ → List ℕ) → ℕ → ℕ → ℕ → Type 0
Bare p W s v c =
    (q j i : ℕ) → properly p q c ≡ true → v < q → j < 8 → i < length (W j) → s ≤ occ W j i → under p q (occ W j i) ≡ true → under p c (occ W j i) ≡ true

pub record Rung (p : List ℕ) (k : ℕ) (W : ℕ → List ℕ) (s : ℕ) (e : Entry) (c : ℕ) : Type 0 where
  pub above : properly p e.node c ≡ true
  pub bare : Bare p W s e.node c
  pub stands : Stands p k W s c e.node e

abbrev pub entry_at : List Entry → ℕ → Entry
entry_at ys d = get_or ys d (fresh 0)

unfoldable pub Line : List ℕ → ℕ → (ℕ → List ℕ) → ℕ → List Entry → ℕ → ℕ → Type 0
Line p k W s ys zero c = c ≡ 0
Line p k W s ys (suc d) c = Rung p k W s (entry_at ys d) c × Line p k W s ys d (entry_at ys d).node

abbrev pub node_at : List Entry → ℕ → ℕ
node_at ys d = (entry_at ys d).node

pub record Standing (p : List ℕ) (k : ℕ) (W : ℕ → List ℕ) (s : ℕ) (ys : List Entry) (d : ℕ) : Type 0 where
  pub place : d < length ys
  pub node : node_at ys d < length p
  pub stands : Stands p k W s (length p) (node_at ys d) (entry_at ys d)
  pub line : Line p k W s ys d (node_at ys d)
  -- nothing that was met stands before the top
  pub first : (j i : ℕ) → j < 8 → i < length (W j) → s ≤ occ W j i → node_at ys d ≤ occ W j i
  -- whatever stands from the top up to s is under the top
  pub reach : (u : ℕ) → node_at ys d ≤ u → u < s → u < length p → under p (node_at ys d) u ≡ true
  -- nothing that was met is under a node between the top and s
  pub clear : (q j i : ℕ) → node_at ys d < q → q < s → j < 8 → i < length (W j) → s ≤ occ W j i → under p q (occ W j i) ≡ true → ⊥
