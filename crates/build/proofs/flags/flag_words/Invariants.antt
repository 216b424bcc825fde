-- `build::flags::flag_words` meets its contract: glue over Flagging. Assumes nothing.
use Rattle.std.proofs.Common.{length}
use Rattle.query.specs.Query.{query}
use Rattle.mentions.specs.Walk.{left}
use Rattle.build.proofs.Flagging.{Flagging}
use Rattle.build.proofs.flags.flag_words.Given as goal

abbrev pub invariant-loop-mention : goal.invariant-loop-mention
invariant-loop-mention l = Flagging l.text (query l.q.words.now l.q.ends.now) l.n l.counts l.walk.pass

abbrev pub decreases-loop-mention : goal.decreases-loop-mention
decreases-loop-mention l = length (left l.text l.walk.pass)
