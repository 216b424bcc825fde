-- What the functions of this crate promise each other; no public contract cites it. Assumes nothing.
--   node_text v   == the node field of a line: empty where there is no node
use Rattle.std.specs.Prelude.{ℕ, Option, None, Some, List, []}
use Rattle.text.specs.Text.{decimal}

abbrev pub node_text : Option ℕ → List ℕ
node_text None = []
node_text (Some v) = decimal v
