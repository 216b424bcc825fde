-- What the functions of this crate promise each other; no public contract cites it. While a reason is looked for, a row of work has a flag for each node.
--   missing_by cs n k v    == the first of k rows of n with a count of 0 at v (k where there is none)
--   found_below k j        == j where it is below k, else nothing
--   none_missing cs n k v  == there is none: v is full by the counts
--   own_if p f v x         == x is under v and under no proper descendant of v that passes f
--   flag_below cs n k u a  == the flag of u, where its parent's is a
--   flagged fl x           == the flag of x in fl is not 0
--   lowest_by fl l         == the first entry of l that is flagged in fl
--   lowest_in ends occ fl j == that of word j's list (0 where none is)
--   unowned_by ends occ fl == the first word of whose list no entry is flagged (k where each has one)
--   as_reason w, lowest_of w == the reason that w stands for, and its 8 occurrences (zeros where it has none)
--   explaining x           == the explanation of what is found, or of a refusal
-- Letters: p parents, cs counts, occ occurrences, l list, fl flags; n nodes, k words; v node, u node below it, x occurrence, j word; f test. Assumes nothing.
use Rattle.std.specs.Prelude.{ℕ, suc, ◌+◌, ◌*◌, ◌≤◌, ◌<◌, ◌≡◌, List, [], Bool, not, cond, ◌&&◌, eqb, ltb, length, get_or, replicate, Option, Some, None, find, Result, Ok, Err}
use Rattle.seq.specs.Below.{first_fail, some_below, tabulate}
use Rattle.seq.specs.Lists.{some_of, first_of, EachBelow}
use Rattle.seq.specs.Memory.{over}
use Rattle.tree.specs.Tree.{under, properly, last_under}
use Rattle.tree.specs.Plain.{Preorder}
use Rattle.index.specs.Index.{word_list, count_under}
use Rattle.index.specs.Plain.{WordKept}
use Rattle.index.specs.declared.Reply.{Reply}
use Rattle.index.specs.declared.replies.Refusal.{Refusal}
use Rattle.index.specs.Replies.{accepted, totalled, refusal_reply}
use Rattle.reason.specs.declared.Reason.{Reason}
use Rattle.reason.specs.declared.Reason.TheVariants as reason
use Rattle.reason.specs.declared.Explanation.{Explanation}
use Rattle.reason.specs.declared.finding.Why.{Why}
use Rattle.reason.specs.declared.finding.Why.TheVariants as why
use Rattle.reason.specs.Reasons.{NOT_LISTED, LISTED, naming, told, reason_of, lowest_owns}

-- ---- counts
unfoldable pub missing_by : List ℕ → ℕ → ℕ → ℕ → ℕ
missing_by cs n k v = first_fail k λ j. ltb 0 (get_or cs (j * n + v) 0)

abbrev pub found_below : ℕ → ℕ → Option ℕ
found_below k j = cond (ltb j k) (Some j) None

abbrev pub none_missing : List ℕ → ℕ → ℕ → ℕ → Bool
none_missing cs n k v = not (ltb (missing_by cs n k v) k)

-- What there is to read at a node: its number is below n, and there are k rows of n counts.
pub record RowsPre (cs : List ℕ) (n k v : ℕ) : Type 0 where
  pub node : v < n
  pub rows : k * n ≤ length cs

-- ---- flags
unfoldable pub own_if : List ℕ → (ℕ → Bool) → ℕ → ℕ → Bool
own_if p f v x = under p v x && not (some_below (length p) λ u. (properly p v u && f u) && under p u x)

unfoldable pub flag_below : List ℕ → ℕ → ℕ → ℕ → ℕ → ℕ
flag_below cs n k u a = cond (not (eqb a 0) && not (none_missing cs n k u)) 1 0

pub record FlagPre (p cs : List ℕ) (k v : ℕ) (fl : List ℕ) : Type 0 where
  pub preorder : Preorder p (length p)
  pub node : v < length p
  pub rows : k * length p ≤ length cs
  pub zeros : fl ≡ replicate (length p) 0

-- A flag at each node at which an occurrence is v's own; r is the first node behind those under v.
pub record OwnFlagged (p cs : List ℕ) (k v r : ℕ) (fl : List ℕ) : Type 0 where
  pub end : r ≡ suc (last_under p v)
  pub flags : fl ≡ tabulate (length p) (λ x. cond (own_if p (none_missing cs (length p) k) v x) 1 0)

-- ---- the words' lists
abbrev pub flagged : List ℕ → ℕ → Bool
flagged fl x = not (eqb (get_or fl x 0) 0)

abbrev pub lowest_by : List ℕ → List ℕ → Option ℕ
lowest_by fl l = find (flagged fl) l

abbrev pub FlaggedPre : List ℕ → List ℕ → Type 0
FlaggedPre l fl = EachBelow (length fl) l

abbrev pub lowest_in : List ℕ → List ℕ → List ℕ → ℕ → ℕ
lowest_in ends occ fl j = first_of (flagged fl) 0 (word_list ends occ j)

unfoldable pub unowned_by : List ℕ → List ℕ → List ℕ → ℕ
unowned_by ends occ fl = first_fail (length ends) λ j. some_of (flagged fl) (word_list ends occ j)

pub record FindPre (ends occ fl : List ℕ) : Type 0 where
  pub few_words : length ends ≤ 8
  pub words : (j : ℕ) → j < length ends → WordKept (length fl) ends occ j

-- Whether some word has no flagged entry.
abbrev pub stops : List ℕ → List ℕ → List ℕ → Bool
stops ends occ fl = ltb (unowned_by ends occ fl) (length ends)

abbrev pub as_reason : Why → Reason
as_reason (why.NotFull j) = reason.NotFull j
as_reason (why.NotListed j) = reason.NotListed j
as_reason (why.Listed l) = reason.Listed

abbrev pub lowest_of : Why → List ℕ
lowest_of (why.NotFull j) = replicate 8 0
lowest_of (why.NotListed j) = replicate 8 0
lowest_of (why.Listed l) = l

pub record Finds (ends occ fl : List ℕ) (r : Why) : Type 0 where
  pub reason : told (as_reason r) ≡ cond (stops ends occ fl) (naming NOT_LISTED (unowned_by ends occ fl)) (naming LISTED 0)
  pub occurrences : lowest_of r ≡ over (cond (stops ends occ fl) [] (tabulate (length ends) (lowest_in ends occ fl))) (replicate 8 0)

-- ---- the whole search on a checked index
pub record LookPre (p ends occ cs : List ℕ) (v : ℕ) (fl : List ℕ) : Type 0 where
  pub preorder : Preorder p (length p)
  pub node : v < length p
  pub few_nodes : length p ≤ 65536
  pub few_words : length ends ≤ 8
  pub words : (j : ℕ) → j < length ends → WordKept (length p) ends occ j
  pub counted : length cs ≡ length ends * length p
  pub counts : (j u : ℕ) → j < length ends → u < length p → get_or cs (j * length p + u) 0 ≡ count_under p (word_list ends occ j) u
  pub zeros : fl ≡ replicate (length p) 0

pub record Looked (p ends occ : List ℕ) (v : ℕ) (fl : List ℕ) (r : Why) (fl' : List ℕ) : Type 0 where
  pub reason : told (as_reason r) ≡ reason_of p (length ends) (word_list ends occ) v
  pub occurrences : lowest_of r ≡ lowest_owns p (length ends) (word_list ends occ) v
  pub row : fl' ≡ fl

-- ---- the explanation
abbrev pub with_reply : Reply → Reason → Explanation
with_reply r m = record { reply = r; reason = m; occurrences = replicate 8 0 }

abbrev pub with_why : Reply → Why → Explanation
with_why r w = record { reply = r; reason = as_reason w; occurrences = lowest_of w }

abbrev pub explaining : Result Why Refusal → Explanation
explaining (Ok w) = with_why (totalled accepted 0) w
explaining (Err e) = with_reply (refusal_reply e) (reason.NotFull 0)
