-- `dictionary::probe` meets its contract: glue over the walk of `probing`. Assumes nothing.
use Rattle.std.proofs.Common.{ℕ, Bool, List, ◌≡◌, ◌%◌, ◌<◌, length}
use Rattle.seq.specs.Lists.{same_list}
use Rattle.probing.proofs.Walk.{Walk}
use Rattle.words.specs.Reading.{word_at}
use Rattle.dictionary.proofs.probe.Given as goal

abbrev pub invariant-loop : goal.invariant-loop
invariant-loop g l =
    (l.i < length l.slots)
    × ((T : List ℕ) (q : List ℕ) → ((k : ℕ) (r : Bool) → goal.F-post g l.holds k r → r ≡ same_list q (word_at T k)) → Walk (word_at T) l.slots q (l.hash % length l.slots) l.i l.counter)
