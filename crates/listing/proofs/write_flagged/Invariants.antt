-- `listing::write_flagged` meets its contract: glue over Writing.
use Rattle.listing.proofs.Writing.{Written}
use Rattle.listing.proofs.write_flagged.Given as goal

abbrev pub invariant-loop-v : goal.invariant-loop-v
invariant-loop-v l = Written l.flags l.initial.out l.out l.v l.m
