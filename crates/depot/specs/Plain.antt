-- SIZE of a search without counts as a plain statement, which the laws prove equal to the test (proofs/Laws/Checks).
--   DepotSized I s   == no length and no number of words gives SIZE, for a stack of s entries
-- Letters: I index, s length of the stack. Assumes nothing.
use Rattle.std.specs.Prelude.{ℕ, ◌≤◌, ◌≡◌, length}
use Rattle.index.specs.Index.{Index, nodes, words}

-- No negative word is taken.
pub record DepotSized (I : Index) (s : ℕ) : Type 0 where
  pub some_nodes : 1 ≤ nodes I
  pub few_nodes : nodes I ≤ 65536
  pub some_positive : 1 ≤ I.positive
  pub few_positive : I.positive ≤ 8
  pub no_negative : I.negative ≡ 0
  pub tagged : length I.tags ≡ nodes I
  pub ended : length I.ends ≡ words I
  pub stacked : 64 ≤ s
