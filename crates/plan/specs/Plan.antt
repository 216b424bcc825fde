-- What a call that builds an index replies, and what it leaves in the table (02, Q-5).
--   tree_fits n z         == a tree of n nodes fits, and the reader's work
--   enough T Q m z       == all that is written fits m slots and slices of the sizes z: the table, the tree as for the reader, the ends, the lists and the counts
--   plan_reply T Q m z    == the reply: SIZE, then what the judge of the text says, then ROOM with total 0, or acceptance with the nodes
--   slots_after T w r     == the slots w after the reply r: the table where it is accepted, zero under ROOM, else as lent
--   Plans T Q z w r w'   == the promise of `plan`: reply, table, and how many entries the lists have together
-- Letters: T text, Q query, m how many slots there are, w w' the slots before and after, z sizes, r reply or plan. Assumes nothing.
use Rattle.std.specs.Prelude.{ℕ, ◌*◌, ◌≡◌, List, Bool, cond, ◌&&◌, eqb, leb, length}
use Rattle.index.specs.declared.Reply.{Reply}
use Rattle.index.specs.Replies.{accepted, SIZE, ROOM, refused}
use Rattle.profile.specs.Reader.{tree_of}
use Rattle.judge.specs.Judge.{judge_reply}
use Rattle.reader.specs.Read.{fits}
use Rattle.probing.specs.Table.{blank}
use Rattle.query.specs.Query.{Query, word_count, query_ok}
use Rattle.plan.specs.Lists.{word_table, made, table_or, lists_to}
use Rattle.plan.specs.declared.Sizes.{Sizes}
use Rattle.plan.specs.declared.Planned.{Planned}

abbrev pub tree_fits : ℕ → Sizes → Bool
tree_fits n z = fits n z.parents z.tags z.firsts z.lasts z.work

unfoldable pub enough : List ℕ → Query → ℕ → Sizes → Bool
enough T Q m z =
    (tree_fits (length (tree_of T)) z && (leb (word_count Q) z.ends && leb (word_count Q * length (tree_of T)) z.counts)) &&
    (made (word_table T m) && leb (length (lists_to T Q (word_count Q))) z.occurrences)

unfoldable pub plan_reply : List ℕ → Query → ℕ → Sizes → Reply
plan_reply T Q m z =
    cond (query_ok Q)
    (cond (eqb (judge_reply T).refusal accepted) (cond (enough T Q m z) (judge_reply T) (refused ROOM 0)) (judge_reply T))
    (refused SIZE 0)

unfoldable pub slots_after : List ℕ → List ℕ → Reply → List ℕ
slots_after T w r =
    cond (eqb r.refusal accepted) (table_or w (word_table T (length w))) (cond (eqb r.refusal ROOM) (blank (length w)) w)

pub record Plans (T : List ℕ) (Q : Query) (z : Sizes) (w : List ℕ) (r : Planned) (w' : List ℕ) : Type 0 where
  pub reply : r.reply ≡ plan_reply T Q (length w) z
  pub slots : w' ≡ slots_after T w r.reply
  pub total : r.total ≡ cond (eqb r.reply.refusal accepted) (length (lists_to T Q (word_count Q))) 0
