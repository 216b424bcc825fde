-- `index::lists::list_ok` meets its contract: glue over Listing.
use Rattle.index.proofs.Listing.{Fine}
use Rattle.index.proofs.lists.list_ok.Given as goal

abbrev pub invariant-loop-x : goal.invariant-loop-x
invariant-loop-x l = Fine l.n l.list l.x-index l.low
