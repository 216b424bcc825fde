-- What demand 3 speaks of. A set of nodes is any statement about a node: S v reads "v is in S".
--   Covered p S v          == a node of S is at v or below it
--   LosesNothing p k W S   == the nodes of S are full, and every full node is in S or above one that is
--   CreditedTo p k W x r   == an occurrence at x is credited to r: the lowest full node at or above x, and no other node
-- Letters: p parents; k words, W their lists; v node, x occurrence; S set of nodes. Laws are in proofs/Demand3. Assumes nothing.
use Rattle.std.specs.Prelude.{ℕ, ◌<◌, ◌≡◌, List, true, length}
use Rattle.tree.specs.Tree.{under}
use Rattle.tree.specs.Plain.{Nearest}
use Rattle.answers.specs.Answers.{full}

pub record Covered (p : List ℕ) (S : ℕ → Type 0) (v : ℕ) : Type 0 where
  pub node : ℕ
  pub within : node < length p
  pub among : S node
  pub below : under p v node ≡ true

pub record LosesNothing (p : List ℕ) (k : ℕ) (W : ℕ → List ℕ) (S : ℕ → Type 0) : Type 0 where
  pub only : (v : ℕ) → v < length p → S v → full p k W v ≡ true
  pub covers : (v : ℕ) → v < length p → full p k W v ≡ true → Covered p S v

pub record CreditedTo (p : List ℕ) (k : ℕ) (W : ℕ → List ℕ) (x r : ℕ) : Type 0 where
  pub nearest : Nearest p (full p k W) x r
  pub alone : (s : ℕ) → Nearest p (full p k W) x s → s ≡ r
