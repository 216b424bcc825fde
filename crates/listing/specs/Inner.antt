-- What the functions of this crate ask of each other; no public contract cites it. Letters: fl flags. Assumes nothing.
use Rattle.std.specs.Prelude.{ℕ, ◌≤◌, List, length}
use Rattle.listing.specs.Listing.{flagged_rows}

-- Few enough flags that each node's number fits, and room for those that are flagged.
pub record WritePre (fl out : List ℕ) : Type 0 where
  pub few : length fl ≤ 65536
  pub room : length (flagged_rows fl) ≤ length out
