-- Two searches of one index: the first with its counts (`elca`, `slca`), the second without (`merge`).
--   recounted I cs      == the index I with the counts cs
--   true_counts I        == what the counts of I must be
--   righted I           == the index I with the counts that it must have
--   uncounted I         == the index I without its counts, as a depot lends it
--   AgreesElca …        == the second ELCA search gives the reply that the first gives, and leaves out and own as the first leaves them
--   AgreesSlca …        == the same of SLCA, which has no own
-- Letters: I index, cs counts; r, o, s the first's reply, out and own at the end, r₂, o₂, s₂ the second's. Assumes nothing.
use Rattle.std.specs.Prelude.{ℕ, ◌*◌, ◌≡◌, List}
use Rattle.seq.specs.Below.{tabulate}
use Rattle.index.specs.declared.Reply.{Reply}
use Rattle.index.specs.Index.{Index, nodes, words, true_count}
use Rattle.index.specs.Promises.{lent}
use Rattle.depot.specs.Depot.{depot}

abbrev pub recounted : Index → List ℕ → Index
recounted I cs = lent I.parents I.tags I.positive I.negative I.ends I.occurrences cs

-- What the counts of I must be, in order.
unfoldable pub true_counts : Index → List ℕ
true_counts I = tabulate (words I * nodes I) (true_count I.parents I.ends I.occurrences)

abbrev pub righted : Index → Index
righted I = recounted I (true_counts I)

abbrev pub uncounted : Index → Index
uncounted I = depot I.parents I.tags I.positive I.negative I.ends I.occurrences

pub record AgreesElca (r : Reply) (o s : List ℕ) (r₂ : Reply) (o₂ s₂ : List ℕ) : Type 0 where
  pub reply : r₂ ≡ r
  pub out : o₂ ≡ o
  pub own : s₂ ≡ s

pub record AgreesSlca (r : Reply) (o : List ℕ) (r₂ : Reply) (o₂ : List ℕ) : Type 0 where
  pub reply : r₂ ≡ r
  pub out : o₂ ≡ o
