-- `index::counts::grid_bad` meets its contract: a scan, row by row.
use Prim.Native.Nat.{◌+◌, ◌*◌}
use Rattle.seq.proofs.Laws.Scan.{Scan}
use Rattle.index.specs.Inner.{same}
use Rattle.index.proofs.counts.grid_bad.Given as goal

-- All entries before row j are right, and then those before node v in it.
abbrev pub invariant-loop-j : goal.invariant-loop-j
invariant-loop-j l = Scan (l.k * l.n) (same l.counts l.n l.k l.work) (l.j * l.n)

abbrev pub invariant-loop-v : goal.invariant-loop-v
invariant-loop-v l = Scan (l.k * l.n) (same l.counts l.n l.k l.work) (l.j * l.n + l.v)
