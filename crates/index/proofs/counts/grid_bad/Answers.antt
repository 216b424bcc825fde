-- `index::counts::grid_bad` meets its contract: a scan, row by row.
use Prim.Native.Nat.{◌+◌, ◌*◌, ◌<◌}
use mathlib.Core.Path.{◌≡◌}
use native.Mathlib.Nat.{mul-le-mul_right}
use Rattle.seq.proofs.Laws.Scan.{scan_step, scan-found, scan-none}
use Rattle.seq.proofs.Laws.Numbers.{row_le}
use Rattle.index.proofs.Comparing.{same-yes, same_no}
use native.Mathlib.Omega.{arith}
use Rattle.index.proofs.counts.grid_bad.Goals as goal
use Rattle.index.proofs.counts.grid_bad.Goals.{In-loop-v}

-- There is such a node.
node : (c : In-loop-v) → c.loop-v.v < c.args.n
node c = omega (arith, c.loop-v-test.true, c.requires.nodes)

-- Its entry is one of counts.
entry : (c : In-loop-v) → c.loop-j.j * c.args.n + c.loop-v.v < c.args.k * c.args.n
entry c = omega (arith, row_le c.loop-j.j c.args.k c.args.n c.loop-j-test.true, node c)

pub returns-then-counts-j : goal.returns-then-counts-j
returns-then-counts-j c =
    let l = (goal.at.returns-then-counts-j c).In-loop-v in
    scan-found _ _ _ c.loop-v.invariant (entry l) (same_no _ _ _ _ _ _ (node l) c.if-counts-j.true)

pub loop-v-preserved : goal.loop-v-preserved
loop-v-preserved c =
    let l = (goal.at.loop-v-preserved c).In-loop-v in
    let e : c.loop-j.j * c.args.n + (c.loop-v.v + 1) ≡ c.loop-j.j * c.args.n + c.loop-v.v + 1 = omega arith in
    rw e (scan_step _ _ _ c.loop-v.invariant (entry l) (same-yes _ _ _ _ _ _ (node l) c.if-counts-j.false))

pub returns : goal.returns
returns c = scan-none _ _ _ c.loop-j.invariant (mul-le-mul_right c.args.n c.loop-j-test.false)
