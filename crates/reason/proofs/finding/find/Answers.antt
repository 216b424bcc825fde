-- `reason::finding::find` meets its contract: glue over Lowest.
use mathlib.Core.Path.{refl}
use Rattle.reason.proofs.Lowest.{seeking_start, list-below, seeking_stops, seeking_step, seeking_end}
use Rattle.reason.proofs.finding.find.Goals as goal

pub loop-j-init : goal.loop-j-init
loop-j-init c = seeking_start _ _ _ _

pub first_flagged-requires : goal.first_flagged-requires
first_flagged-requires c = list-below _ _ _ _ _ _ _ c.requires c.loop-j.invariant c.loop-j-test.true

pub returns-in_default : goal.returns-in_default
returns-in_default c =
    seeking_stops _ _ _ _ _ _ _ c.requires c.loop-j.invariant c.loop-j-test.true _ c.first_flagged.ensures c.in_default.is

pub loop-j-preserved : goal.loop-j-preserved
loop-j-preserved c =
    seeking_step _ _ _ _ _ _ _ c.requires c.loop-j.invariant c.loop-j-test.true _ c.first_flagged.ensures _ c.in-Some.is refl

pub returns : goal.returns
returns c = seeking_end _ _ _ _ _ _ c.loop-j.invariant c.loop-j-test.false
