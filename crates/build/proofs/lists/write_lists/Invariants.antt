-- `build::lists::write_lists` meets its contract: glue over Written. Assumes nothing.
use Rattle.build.proofs.Written.{Writing}
use Rattle.build.proofs.lists.write_lists.Given as goal

abbrev pub invariant-loop-j : goal.invariant-loop-j
invariant-loop-j l = Writing l.flags l.n l.initial.ends l.initial.occurrences l.ends l.occurrences l.at l.j
