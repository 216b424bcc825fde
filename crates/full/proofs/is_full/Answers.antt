-- `full::is_full` meets its contract: a column of counts above 0.
use Prim.Native.Nat.{ℕ, ◌+◌}
use mathlib.Core.Path.{subst}
use mathlib.Core.List.{List}
use mathlib.Core.Bool.{Bool}
use lib.Dec.{ltb}
use lib.ListN.{get_or}
use Rattle.seq.proofs.Laws.Bools.{ltb-some, ltb-none}
use Rattle.seq.proofs.Laws.Loops.{Column, column-start, column-fails, column-step, column-end}
use Rattle.full.proofs.Laws.{full_by-is}
use Rattle.full.proofs.is_full.Goals as goal

-- Whether an entry of the counts is above 0.
abbrev some : List ℕ → ℕ → ℕ → Bool
some cs i e = ltb 0 (get_or cs e 0)

pub loop-j-init : goal.loop-j-init
loop-j-init c = let t = column-start (some c.args.counts.now) c.args.n c.args.k c.args.v in subst (λ z. Column (some c.args.counts.now) c.args.n c.args.k c.args.v 0 z) t.place t

pub returns-then-counts-j-eq0 : goal.returns-then-counts-j-eq0
returns-then-counts-j-eq0 c = full_by-is _ _ _ _ _ (column-fails _ _ _ _ _ _ c.requires.node c.loop-j.invariant c.loop-j-test.true (ltb-none _ c.if-counts-j-eq0.true))

pub loop-j-preserved : goal.loop-j-preserved
loop-j-preserved c =
    let t = column-step (some c.args.counts.now) _ _ _ _ _ c.requires.node c.loop-j.invariant c.loop-j-test.true (ltb-some _ c.if-counts-j-eq0.false) in
    subst (λ z. Column (some c.args.counts.now) c.args.n c.args.k c.args.v (c.loop-j.j + 1) z) t.place t

pub returns : goal.returns
returns c = full_by-is _ _ _ _ _ (column-end _ _ _ _ _ _ c.loop-j.invariant c.loop-j-test.false)
