-- `entities::find_closest` meets its contract: the cases of Laws.
use mathlib.Core.Path.{sym, ◌∙◌}
use lib.Seq.{length-take-le}
use Rattle.entities.proofs.Laws.{closest_unfit, closest-nodes, closest-pre, closest-made, closest-empty}
use Rattle.entities.proofs.find_closest.Goals as goal

pub returns-then-not-flag_repeated : goal.returns-then-not-flag_repeated
returns-then-not-flag_repeated c =
    c.flag_repeated.ensures.rows ∙ closest_unfit _ _ _ (sym c.flag_repeated.ensures.fits ∙ c.if-not-flag_repeated.true)

pub returns-then-n-eq0 : goal.returns-then-n-eq0
returns-then-n-eq0 c =
    closest-empty _ _ _ (sym c.flag_repeated.ensures.fits ∙ c.if-not-flag_repeated.false) _ c.flag_repeated.ensures.rows c.if-n-eq0.true

pub slice_bounds-fill-end : goal.slice_bounds-fill-end
slice_bounds-fill-end c =
    closest-nodes _ _ _ (sym c.flag_repeated.ensures.fits ∙ c.if-not-flag_repeated.false) _ c.flag_repeated.ensures.rows

pub slice_bounds-fill-end-2 : goal.slice_bounds-fill-end-2
slice_bounds-fill-end-2 c =
    sym (length-take-le _ _ (closest-nodes _ _ _ (sym c.flag_repeated.ensures.fits ∙ c.if-not-flag_repeated.false) _ c.flag_repeated.ensures.rows))

pub fill-requires : goal.fill-requires
fill-requires c =
    closest-pre _ _ _ (sym c.flag_repeated.ensures.fits ∙ c.if-not-flag_repeated.false) _ c.flag_repeated.ensures.rows c.if-n-eq0.false

pub returns : goal.returns
returns c =
    closest-made _ _ _ (sym c.flag_repeated.ensures.fits ∙ c.if-not-flag_repeated.false) _ c.flag_repeated.ensures.rows _ c.fill.ensures
