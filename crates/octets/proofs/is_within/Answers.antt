-- `octets::is_within` meets its contract.
use mathlib.Core.Path.{ap}
use mathlib.Core.Bool.{not}
use lib.Bits.{bit_and}
use lib.Dec.{eqb}
use Rattle.profile.specs.Classes.{within}
use Rattle.octets.proofs.is_within.Goals as goal

pub returns : goal.returns
unfolding within
returns c = ap (λ k. not (eqb (bit_and k c.args.set) 0)) c.class_of.ensures
