-- The tree in which names are looked up, and how three rows of n entries hold it: for an inner node u, the link to its left side at u, to its right side at n + u, and
-- the number of the bit that it tells by at 2 * n + u. The link to a leaf v is 2 * v, to an inner node u it is 2 * u + 1. The link to the whole tree is at 0.
--   Tree              == leaf v, or an inner node: fork u b l r
--   In y T, Has u T   == y is a leaf of T; u is an inner node of T
--   Apart T           == no two inner nodes of T have one number
--   Rep n w m k T     == the link k leads to T in the rows w; T's bits are m or more, and rise from each node to those below it
--   Told bit T        == the leaves of T by their bits: at each inner node those on its left have a 0 as its bit, those on its right a 1, and all are alike below it
--   find β T          == the leaf that bits β lead to
--   Top d T           == the first bit of T, if it has any, is d or more
--   Grow n β d v s T q N == where T's link is at the place s, N is T with a new leaf v, and a new inner node v with the bit d over what is at the place q
-- Letters: n nodes, w rows, k link, T N trees, u inner node, y v leaves, b d m bits, l r the left and the right side. Assumes nothing.
use Rattle.std.specs.Prelude.{ℕ, suc, ◌+◌, ◌*◌, ◌≤◌, ◌<◌, ◌≡◌, List, Bool, true, false, cond, get_or}

pub data Tree : Type 0 where
  leaf : ℕ → Tree
  fork : ℕ → ℕ → Tree → Tree → Tree

pub data In : ℕ → Tree → Type 0 where
  itself : {v : ℕ} → In v (leaf v)
  in_left : {y u b : ℕ} {l r : Tree} → In y l → In y (fork u b l r)
  in_right : {y u b : ℕ} {l r : Tree} → In y r → In y (fork u b l r)

pub data Has : ℕ → Tree → Type 0 where
  top : {u b : ℕ} {l r : Tree} → Has u (fork u b l r)
  has_left : {x u b : ℕ} {l r : Tree} → Has x l → Has x (fork u b l r)
  has_right : {x u b : ℕ} {l r : Tree} → Has x r → Has x (fork u b l r)

pub data Apart : Tree → Type 0 where
  apart_leaf : {v : ℕ} → Apart (leaf v)
  apart_fork : {u b : ℕ} {l r : Tree} → (Has u l → ⊥) → (Has u r → ⊥) → ((x : ℕ) → Has x l → Has x r → ⊥) → Apart l → Apart r → Apart (fork u b l r)

-- No name has so many bits.
abbrev pub bits : ℕ
bits = 268435456

pub data Rep (n : ℕ) (w : List ℕ) : ℕ → ℕ → Tree → Type 0 where
  rep_leaf : {m k v : ℕ} → k ≡ 2 * v → v < n → Rep n w m k (leaf v)
  rep_fork : {m k u b : ℕ} {l r : Tree} → k ≡ 2 * u + 1 → 0 < u → u < n → b ≡ get_or w (2 * n + u) 0 → m ≤ b → b < bits →
      Rep n w (suc b) (get_or w u 0) l → Rep n w (suc b) (get_or w (n + u) 0) r → Rep n w m k (fork u b l r)

pub data Told (bit : ℕ → ℕ → Bool) : Tree → Type 0 where
  told_leaf : {v : ℕ} → Told bit (leaf v)
  told_fork : {u b : ℕ} {l r : Tree} → ((y : ℕ) → In y l → bit y b ≡ false) → ((y : ℕ) → In y r → bit y b ≡ true) →
      ((y z : ℕ) → In y (fork u b l r) → In z (fork u b l r) → (i : ℕ) → i < b → bit y i ≡ bit z i) → Told bit l → Told bit r → Told bit (fork u b l r)

unfoldable pub find : (ℕ → Bool) → Tree → ℕ
find β (leaf v) = v
find β (fork u b l r) = cond (β b) (find β r) (find β l)

pub data Top (d : ℕ) : Tree → Type 0 where
  top_leaf : {v : ℕ} → Top d (leaf v)
  top_fork : {u b : ℕ} {l r : Tree} → d ≤ b → Top d (fork u b l r)

pub data Grow (n : ℕ) (β : ℕ → Bool) (d v : ℕ) : ℕ → Tree → ℕ → Tree → Type 0 where
  new_left : {s : ℕ} {T : Tree} → Top d T → β d ≡ false → Grow n β d v s T s (fork v d (leaf v) T)
  new_right : {s : ℕ} {T : Tree} → Top d T → β d ≡ true → Grow n β d v s T s (fork v d T (leaf v))
  go_left : {s u b q : ℕ} {l r l' : Tree} → b < d → β b ≡ false → Grow n β d v u l q l' → Grow n β d v s (fork u b l r) q (fork u b l' r)
  go_right : {s u b q : ℕ} {l r r' : Tree} → b < d → β b ≡ true → Grow n β d v (n + u) r q r' → Grow n β d v s (fork u b l r) q (fork u b l r')
