-- `plan::gather::gather` meets its contract: the hashes are made, the table is cleared, and the words are gathered. Assumes nothing.
use Rattle.std.proofs.Common.{refl}
use Rattle.query.proofs.Hashing.{hashes-of}
use Rattle.plan.proofs.Passing.{cleared-blank, cleared-long}
use Rattle.plan.proofs.Counting.{gathers_any}
use Rattle.plan.proofs.gather.gather.Goals as goal

pub gather_words-requires : goal.gather_words-requires
gather_words-requires c = record { pre = c.requires; hashes = hashes-of _ c.requires.ok _ _ refl c.hash_words.ensures; lasts = refl; free = cleared-blank c.args.slots.now _ c.clear.ensures }

pub returns : goal.returns
returns c = gathers_any _ _ _ _ _ _ (cleared-long c.args.slots.now _ c.clear.ensures) c.gather_words.ensures
