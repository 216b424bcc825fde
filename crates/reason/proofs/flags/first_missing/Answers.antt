-- `reason::flags::first_missing` meets its contract: the place of the first count of 0 in a column.
use Prim.Native.Nat.{ℕ, ◌+◌, ◌*◌}
use mathlib.Core.Path.{refl, ap₂, ◌∙◌}
use mathlib.Core.Bool.{cond}
use native.Mathlib.Omega.{arith}
use lib.Dec.{eqb, ltb}
use lib.ListN.{get_or}
use borrow.Author.Tests.{tests}
use Rattle.std.proofs.Common.{rules}
use Rattle.std.specs.Prelude.{Some, None}
use Rattle.std.proofs.lemmas.Iterator.{YieldsList-from_range}
use Rattle.std.proofs.lemmas.Iterator.Search.{position_from_yields_List}
use Rattle.std.proofs.lemmas.List.FromFn.{length-range_with_len}
use Rattle.reason.proofs.Laws.Counts.{missing-is}
use Rattle.reason.proofs.flags.first_missing.Goals as goal

pub returns : goal.returns
returns c =
    position_from_yields_List (λ j. eqb (get_or c.args.counts.now (j * c.args.n + c.args.v) 0) 0) _ _ c.position.result c.position.ensures.ran
    (YieldsList-from_range 0 c.args.k c.args.k refl (omega arith))
    (λ x b q k. search (rules, tests))
    ∙ ap₂ (λ (j k : ℕ). cond (ltb j k) (Some j) None) (missing-is c.args.counts.now c.args.n c.args.k c.args.v) (length-range_with_len 0 c.args.k)
