-- What the judge replies to a text (02, Q-2).
--   MARKUP          == the number of the refusal of a text that is not of the profile
--   longest         == the length of the longest text that is read
--   max_level, max_nodes == the deepest level, and the most nodes
--   in_numbers q     == the reply q in 02's numbers
--   judge_reply t    == the reply to the text t
-- What `reply_to` says is in `profile`, specs/Check; that it is the grammar's word, in its proofs/Outcome and proofs/Check. Assumes nothing.
use Rattle.std.specs.Prelude.{ℕ, List, cond, ltb, length}
use Rattle.index.specs.declared.Reply.{Reply}
use Rattle.index.specs.Replies.{accepted, SIZE, TREE, refused, totalled}
use Rattle.profile.specs.Check.{whole, broken, over, reply_to}
use Rattle.profile.specs.Check as check

abbrev pub MARKUP : ℕ
MARKUP = 7

abbrev pub longest : ℕ
longest = 16777216

abbrev pub max_level : ℕ
max_level = 64

abbrev pub max_nodes : ℕ
max_nodes = 65536

abbrev pub in_numbers : check.Reply → Reply
in_numbers (whole n) = totalled accepted n
in_numbers (broken i) = refused MARKUP i
in_numbers (over v) = refused TREE v

unfoldable pub judge_reply : List ℕ → Reply
judge_reply t = cond (ltb longest (length t)) (refused SIZE 0) (in_numbers (reply_to max_level max_nodes t))
