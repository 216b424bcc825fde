-- `listing::count_flagged` meets its contract: glue over Writing.
use Rattle.listing.proofs.Writing.{CountedTo}
use Rattle.listing.proofs.count_flagged.Given as goal

abbrev pub invariant-loop-flag : goal.invariant-loop-flag
invariant-loop-flag l = CountedTo l.flags l.flag-index l.m
