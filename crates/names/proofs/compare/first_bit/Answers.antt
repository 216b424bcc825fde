-- `names::compare::first_bit` meets its contract.
use native.Mathlib.Omega.{arith}
use Rattle.names.proofs.Bits.{first-bit}
use Rattle.names.proofs.compare.first_bit.Goals as goal

pub returns : goal.returns
returns c = first-bit _ _ c.requires (omega (arith, c.ranges.x)) (omega (arith, c.ranges.y))
