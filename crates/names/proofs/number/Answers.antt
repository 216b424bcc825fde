-- `names::number` meets its contract: glue over Ending.
use mathlib.Core.Path.{◌≡◌, sym, ◌∙◌}
use mathlib.Core.Bool.{true}
use native.Mathlib.Omega.{arith}
use lib.Seq.{length-take-le}
use Rattle.names.specs.Names.{fits}
use Rattle.names.proofs.Ending.{all-fit, rows_fit, numbered}
use Rattle.names.proofs.number.Goals as goal
use Rattle.names.proofs.number.Goals.{Else-not-all_fits}

fit : (c : Else-not-all_fits) → fits c.args.text.now c.args.firsts.now c.args.tags.now c.args.work.now ≡ true
fit c = sym c.all_fits.ensures ∙ c.if-not-all_fits.false

pub number_all-requires : goal.number_all-requires
number_all-requires c = all-fit _ _ _ _ (fit (goal.at.number_all-requires c).Else-not-all_fits)

pub slice_bounds-clear-end : goal.slice_bounds-clear-end
slice_bounds-clear-end c = omega (arith, rows_fit _ _ _ _ (fit (goal.at.slice_bounds-clear-end c).Else-not-all_fits) _ _ c.number_all.ensures)

pub slice_bounds-clear-end-2 : goal.slice_bounds-clear-end-2
slice_bounds-clear-end-2 c =
    sym (length-take-le _ _ (omega (arith, rows_fit _ _ _ _ (fit (goal.at.slice_bounds-clear-end-2 c).Else-not-all_fits) _ _ c.number_all.ensures)))

pub returns : goal.returns
returns c =
    numbered _ _ _ _ (fit (goal.at.returns c).Else-not-all_fits) _ _ c.number_all.ensures _
    c.clear.ensures
