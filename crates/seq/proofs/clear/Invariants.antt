-- Before an entry is reached, those before it are 0 and the rest is as it was.
use mathlib.Core.Path.{◌≡◌}
use Rattle.seq.specs.Memory.{zeroed}
use Rattle.seq.proofs.clear.Given as goal

abbrev pub invariant-loop-x : goal.invariant-loop-x
invariant-loop-x l = l.part ≡ zeroed l.x-index l.initial.part
