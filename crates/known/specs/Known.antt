-- Words that are unknown, and the refusal of a search for one (02, Q-6).
--   UNKNOWN                  == the number of this refusal
--   known I j                == word j is known: its list is not empty
--   unknown_word I            == the lowest positive word that is not known, or p where all are
--   empty_ok x                == whether the number x asks for the empty answer: 0 does not, any other does
--   unless_unknown asks I r   == UNKNOWN at that word, where there is one and the empty answer is not asked for; else r
--   admitted most asks I w r == SIZE, TREE, LIST, COUNT or UNKNOWN, the first in this order that applies, with its place; r where none does
--   admit_reply asks I w      == the reply of these checks alone
-- A negative word may be unknown: it shuts nothing out. UNKNOWN is no part of the index check.
-- Letters: I index; asks whether the empty answer is asked for; w work or its length; r reply, j word. Laws are in proofs/. Assumes nothing.
use Rattle.std.specs.Prelude.{ℕ, List, Bool, not, cond, eqb, leb, length}
use Rattle.seq.specs.Below.{first_fail}
use Rattle.index.specs.declared.Reply.{Reply}
use Rattle.index.specs.Index.{Index, wanted}
use Rattle.index.specs.Replies.{accepted, totalled, refusing, checked}

abbrev pub UNKNOWN : ℕ
UNKNOWN = 8

unfoldable pub known : Index → ℕ → Bool
known I j = leb 1 (length (wanted I j))

unfoldable pub unknown_word : Index → ℕ
unknown_word I = first_fail I.positive (known I)

unfoldable pub empty_ok : ℕ → Bool
empty_ok x = not (eqb x 0)

unfoldable pub unless_unknown : Bool → Index → Reply → Reply
unless_unknown asks I r = cond asks r (refusing UNKNOWN (unknown_word I) I.positive r)

unfoldable pub admitted : ℕ → Bool → Index → ℕ → Reply → Reply
admitted most asks I w r = checked most I w (unless_unknown asks I r)

-- As many negative words are taken as there may be.
unfoldable pub admit_reply : Bool → Index → List ℕ → Reply
admit_reply asks I w = admitted 8 asks I (length w) (totalled accepted 0)
