-- Plain statements about numbers and lists, in which promises are told. P and Keeps are any statements about a number.
--   LowestBad n Keeps i  == i is below n and does not keep, and each number before it does
--   Among m l v          == v is one of the first m entries of l
--   FirstAre n P m l     == the first m entries of l are the numbers below n of which P holds: each once, in increasing number, and no other
--   StaysFrom m o o'     == o' is as long as o, and the same from entry m on
-- Their laws are in proofs/Laws/Plain. Assumes nothing.
use Rattle.std.specs.Prelude.{ℕ, suc, ◌≤◌, ◌<◌, ◌≡◌, List, length, get_or}

pub record LowestBad (n : ℕ) (Keeps : ℕ → Type 0) (i : ℕ) : Type 0 where
  pub within : i < n
  pub before : (k : ℕ) → k < i → Keeps k
  pub breaks : Keeps i → ⊥

pub record Among (m : ℕ) (l : List ℕ) (v : ℕ) : Type 0 where
  pub at : ℕ
  pub within : at < m
  pub is : get_or l at 0 ≡ v

pub record FirstAre (n : ℕ) (P : ℕ → Type 0) (m : ℕ) (l : List ℕ) : Type 0 where
  pub within : m ≤ length l
  pub rising : (i : ℕ) → suc i < m → get_or l i 0 < get_or l (suc i) 0
  pub below : (i : ℕ) → i < m → get_or l i 0 < n
  pub holds : (i : ℕ) → i < m → P (get_or l i 0)
  pub has : (v : ℕ) → v < n → P v → Among m l v

pub record StaysFrom (m : ℕ) (o o' : List ℕ) : Type 0 where
  pub long : length o' ≡ length o
  pub same : (e : ℕ) → m ≤ e → get_or o' e 0 ≡ get_or o e 0
