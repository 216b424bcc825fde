-- What the functions of this crate ask of each other; no public contract cites it. Letters: cs counts, n nodes, k words; v node. Assumes nothing.
use Rattle.std.specs.Prelude.{ℕ, ◌*◌, ◌<◌, ◌≤◌, List, length}

-- What `is_full` is lent: v is a node, and there are k rows.
pub record FullPre (cs : List ℕ) (n k v : ℕ) : Type 0 where
  pub node : v < n
  pub rows : k * n ≤ length cs
