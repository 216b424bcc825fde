-- `names::compare::bit_at` meets its contract.
use Prim.Native.Nat.{◌%◌}
use mathlib.Core.Path.{ap, ◌∙◌}
use Rattle.names.specs.Inner.Bits.{bit_of}
use Rattle.names.specs.Inner.Calls.{name_bit}
use Rattle.names.proofs.Bits.{bit-seen}
use Rattle.names.proofs.compare.bit_at.Goals as goal

pub returns : goal.returns
unfolding name_bit
returns c = bit-seen _ _ ∙ ap (λ a. bit_of a (c.args.i % 8)) c.byte_of.ensures
