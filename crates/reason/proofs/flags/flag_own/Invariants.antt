-- `reason::flags::flag_own` meets its contract: glue over Flagging.
use Rattle.reason.specs.Inner.{none_missing}
use Rattle.reason.proofs.Flagging.{Flagging}
use Rattle.reason.proofs.flags.flag_own.Given as goal

abbrev pub invariant-loop-u : goal.invariant-loop-u
invariant-loop-u l = Flagging l.parents (none_missing l.counts l.n l.k) l.v l.row l.u
