-- `plan::gather::gather_words` meets its contract: glue over Counting. Assumes nothing.
use Rattle.std.proofs.Common.{length}
use Rattle.query.specs.Query.{query}
use Rattle.mentions.specs.Walk.{left}
use Rattle.plan.proofs.Counting.{Counting}
use Rattle.plan.proofs.gather.gather_words.Given as goal

abbrev pub invariant-loop-mention : goal.invariant-loop-mention
invariant-loop-mention l = Counting l.text (query l.q.words.now l.q.ends.now) (length l.initial.slots) l.slots l.lasts l.walk.pass l.total

abbrev pub decreases-loop-mention : goal.decreases-loop-mention
decreases-loop-mention l = length (left l.text l.walk.pass)
