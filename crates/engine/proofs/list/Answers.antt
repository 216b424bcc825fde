-- `engine::list` meets its contract: glue over Searching. Assumes nothing.
use mathlib.Core.Path.{refl}
use native.Mathlib.Omega.{arith}
use Rattle.engine.proofs.Searching.{count-pre, counted-fits, listed-all, listed-none}
use Rattle.engine.proofs.list.Goals as goal

pub pass-m-requires : goal.pass-m-requires
pass-m-requires c = count-pre _ _ _ _ _ c.requires

pub fits-requires : goal.fits-requires
fits-requires c = counted-fits _ _ _ _ _ c.requires _ _ _ _ c.pass-m.ensures

pub overflow_cast-result : goal.overflow_cast-result
overflow_cast-result c = omega (arith, (counted-fits _ _ _ _ _ c.requires _ _ _ _ c.pass-m.ensures).answers)

pub overflow_cast-result-2 : goal.overflow_cast-result-2
overflow_cast-result-2 c = omega (arith, (counted-fits _ _ _ _ _ c.requires _ _ _ _ c.pass-m.ensures).answers)

pub returns-then-not-fits : goal.returns-then-not-fits
returns-then-not-fits c = listed-none _ _ _ _ _ c.requires _ _ _ _ c.pass-m.ensures _ c.fits.ensures c.if-not-fits.true _ refl

pub returns : goal.returns
returns c = listed-all _ _ _ _ _ c.requires _ _ _ _ c.pass-m.ensures _ c.fits.ensures c.if-not-fits.false _ _ refl _ _ _ c.pass.ensures
