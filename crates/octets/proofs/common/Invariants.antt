-- `octets::common` meets its contract: glue over Running.
use Rattle.octets.proofs.Running.{Match}
use Rattle.octets.proofs.common.Given as goal

abbrev pub invariant-loop-i : goal.invariant-loop-i
invariant-loop-i l = Match l.word l.rest l.i
