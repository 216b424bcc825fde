-- `mentions::quiet_end` meets its contract. Assumes nothing.
use Rattle.octets.proofs.Running.{Run}
use Rattle.mentions.specs.Inner.{quiet}
use Rattle.mentions.proofs.quiet_end.Given as goal

abbrev pub invariant-loop-i : goal.invariant-loop-i
invariant-loop-i l = Run (quiet l.y) l.text l.at l.i
