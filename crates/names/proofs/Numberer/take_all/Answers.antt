-- `names::Numberer::take_all` meets its contract: glue over Numbering.
use mathlib.Core.Path.{refl}
use native.Mathlib.Omega.{arith}
use Rattle.names.proofs.Numbering.{state-start, state-end}
use Rattle.names.proofs.Numberer.take_all.Goals as goal

pub loop-v-init : goal.loop-v-init
loop-v-init c = record {
  state = rw c.requires.count (state-start _ _ _ _);
  same = record { text = refl; firsts = refl; tags = refl };
  tree = record { rows = refl; n = refl };
}

pub returns-clause-numbered : goal.returns-clause-numbered
returns-clause-numbered c = state-end _ _ _ _ _ _ _ _ c.loop-v.invariant.state (omega arith)
