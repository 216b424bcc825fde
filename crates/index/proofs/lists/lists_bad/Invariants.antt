-- `index::lists::lists_bad` meets its contract: glue over Listing.
use Rattle.index.proofs.Listing.{Ends}
use Rattle.index.proofs.lists.lists_bad.Given as goal

abbrev pub invariant-loop-j : goal.invariant-loop-j
invariant-loop-j l = Ends l.n l.ends l.occurrences l.j l.from
