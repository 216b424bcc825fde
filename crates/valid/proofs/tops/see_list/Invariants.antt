-- `valid::tops::see_list` meets its contract: glue over Pointing.
use Rattle.valid.proofs.Pointing.{Seeing}
use Rattle.valid.proofs.tops.see_list.Given as goal

abbrev pub invariant-loop-x : goal.invariant-loop-x
invariant-loop-x l = Seeing l.j l.list l.tops l.initial.seen l.seen l.x-index
