-- Listing the nodes that are flagged with 1 (01, "Replies": ROOM, acceptance; "Memory").
--   flagged fl v          == the flag of v is 1
--   flagged_reply fl o     == SIZE for more than 65,536 flags; else ROOM or acceptance, with the number of flagged nodes, for out of length o
--   flagged_out fl out     == out after the call
-- Letters: fl flags, v node. Assumes nothing.
use Rattle.std.specs.Prelude.{ℕ, ◌≡◌, List, Bool, cond, eqb, leb, length, get_or}
use Rattle.seq.specs.Below.{gather, listed}
use Rattle.index.specs.declared.Reply.{Reply}
use Rattle.index.specs.Replies.{accepted, SIZE, ROOM, refused, totalled, kept_or}
use Rattle.answers.specs.Searches.{out_row}

unfoldable pub flagged : List ℕ → ℕ → Bool
flagged fl v = eqb (get_or fl v 0) 1

unfoldable pub flagged_rows : List ℕ → List ℕ
flagged_rows fl = gather (length fl) (flagged fl) out_row

unfoldable pub flagged_reply : List ℕ → ℕ → Reply
flagged_reply fl o =
    cond (leb (length fl) 65536)
    (totalled (cond (leb (length (flagged_rows fl)) o) accepted ROOM) (length (listed (length fl) (flagged fl))))
    (refused SIZE 0)

unfoldable pub flagged_out : List ℕ → List ℕ → List ℕ
flagged_out fl out = kept_or (flagged_reply fl (length out)) (flagged_rows fl) out

-- Out was o and is o' at the end.
pub record Listed (fl o : List ℕ) (r : Reply) (o' : List ℕ) : Type 0 where
  pub reply : r ≡ flagged_reply fl (length o)
  pub out : o' ≡ flagged_out fl o
