-- `reader::build::Builder::run` meets its contract: glue over Here. Assumes nothing.
use mathlib.Core.Path.{refl}
use Rattle.reader.proofs.Calls.{rows_still}
use Rattle.reader.proofs.Here.{here-start, turn-ends, turn-pre, turn-less, turn-again}
use Rattle.reader.proofs.build.Builder.run.Goals as goal

pub loop-self-init : goal.loop-self-init
loop-self-init c = record { here = here-start _ _ c.requires.build _ _ c.requires.state c.requires.opens; same = record { parents = refl; marks = refl; firsts = refl; lasts = refl } }

pub returns-in-End-clause-built : goal.returns-in-End-clause-built
returns-in-End-clause-built c = turn-ends _ _ c.requires.build _ _ c.loop-self.invariant.here _ c.skim_at-p.ensures c.in-End.is

pub turn-requires : goal.turn-requires
turn-requires c = turn-pre _ _ c.requires.build _ _ c.loop-self.invariant.here _ c.skim_at-p.ensures c.in_default.not-End

pub loop-self-smaller : goal.loop-self-smaller
loop-self-smaller c = turn-less _ _ c.requires.build _ _ c.loop-self.invariant.here _ c.skim_at-p.ensures c.in_default.not-End

pub loop-self-preserved : goal.loop-self-preserved
loop-self-preserved c =
    record {
      here = turn-again _ _ c.requires.build _ _ c.loop-self.invariant.here _ c.skim_at-p.ensures c.in_default.not-End _ c.turn.ensures.stored;
      same = rows_still c.loop-self.invariant.same c.turn.ensures.same;
    }
