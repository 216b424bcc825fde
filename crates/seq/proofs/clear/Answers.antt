-- `seq::clear` meets its contract: glue over the laws of `zeroed`.
use mathlib.Core.Path.{sym, ap, ◌∙◌}
use mathlib.Core.List.{List}
use lib.ListN.{set}
use Prim.Native.Nat.{ℕ}
use native.Mathlib.Omega.{arith}
use Rattle.seq.proofs.Laws.Memory.{zeroed-zero, zeroed-suc, zeroed-all}
use Rattle.seq.proofs.clear.Goals as goal

pub loop-x-init : goal.loop-x-init
loop-x-init c = sym (zeroed-zero _)

pub loop-x-preserved : goal.loop-x-preserved
loop-x-preserved c = ap (λ (t : List ℕ). set t c.loop-x.x-index 0) c.loop-x.invariant ∙ zeroed-suc _ _ c.loop-x-test.true

pub returns : goal.returns
returns c = c.loop-x.invariant ∙ zeroed-all _ _ (omega arith)
