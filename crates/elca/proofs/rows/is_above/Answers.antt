-- `elca::rows::is_above` meets its contract: a column of counts above what stands in work.
use Prim.Native.Nat.{◌+◌, ◌*◌}
use mathlib.Core.Path.{refl, ◌∙◌}
use native.Mathlib.Omega.{arith}
use lib.Dec.{ltb}
use lib.ListN.{get_or}
use borrow.Author.Tests.{tests}
use Rattle.std.proofs.Common.{rules}
use Rattle.std.proofs.lemmas.Iterator.{YieldsList-from_range}
use Rattle.std.proofs.lemmas.Iterator.Search.{all_from_yields_List}
use Rattle.index.specs.Inner.{cell}
use Rattle.full.proofs.Laws.{every-range}
use Rattle.elca.proofs.Flagging.{above-is}
use Rattle.elca.proofs.rows.is_above.Goals as goal

pub returns : goal.returns
returns c =
    above-is _ _ _ _ _ _
    (all_from_yields_List (λ j. ltb (cell c.args.k c.args.work.now c.args.v j) (get_or c.args.counts.now (j * c.args.n + c.args.v) 0)) _ _ c.all.result c.all.ensures.ran
    (YieldsList-from_range 0 c.args.k c.args.k refl (omega arith))
    (λ x b q k. search (rules, tests)) ∙ every-range _ _)
