-- `octets::class_of` meets its contract: each arm has the class of its byte, and the last one that of 255.
use mathlib.Core.Path.{refl}
use native.Mathlib.Omega.{arith}
use Rattle.profile.specs.Classes.{class, table}
use Rattle.octets.proofs.Table.{NoneBelow, none-past, at_byte}
use Rattle.octets.proofs.class_of.Goals as goal

pub returns-in_default : goal.returns-in_default
unfolding NoneBelow class table
returns-in_default c = at_byte class 255 c.args.x _ (omega (arith, none-past 255 _ c.in_default.in_default-own.rest, c.ranges.x)) refl
