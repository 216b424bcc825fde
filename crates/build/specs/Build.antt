-- What building an index from a text leaves in each buffer (02, Q-5).
--   ends_for, counts_for   == the ends of the lists of k words, and all their counts
--   Lent                 == what is lent to be written;  sizes: how much of it
--   build_reply T Q l     == the reply: SIZE, then what the judge of the text says, then ROOM with total 0, or acceptance with the nodes, as `plan` has it
--   Builds T Q l r b     == the call's promise: the reply r, and what is lent afterwards, b
-- Letters: T text, Q query, k words, l b what is lent, before and after, r reply. Assumes nothing.
use Rattle.std.specs.Prelude.{ℕ, suc, ◌*◌, ◌/◌, ◌%◌, ◌≡◌, List, cond, eqb, length}
use Rattle.seq.specs.Below.{tabulate}
use Rattle.seq.specs.Memory.{zeroed}
use Rattle.index.specs.Index.{count_under}
use Rattle.index.specs.declared.Reply.{Reply}
use Rattle.index.specs.Replies.{accepted, kept_or}
use Rattle.profile.specs.Reader.{tree_of}
use Rattle.reader.specs.Read.{parents_of, tags_in, firsts_of, lasts_of}
use Rattle.query.specs.Query.{Query, word_count}
use Rattle.plan.specs.declared.Sizes.{Sizes}
use Rattle.plan.specs.Lists.{list_for, lists_to}
use Rattle.plan.specs.Plan.{plan_reply, slots_after}

-- ---- what is built, beside the table, the tree and the lists
unfoldable pub ends_for : List ℕ → Query → ℕ → List ℕ
ends_for T Q k = tabulate k λ j. length (lists_to T Q (suc j))

-- Entry j * n + v: how many nodes of word j's list are v or a descendant of v.
unfoldable pub counts_for : List ℕ → Query → ℕ → List ℕ
counts_for T Q k = tabulate (k * length (tree_of T)) λ e. count_under (parents_of (tree_of T)) (list_for T Q (e / length (tree_of T))) (e % length (tree_of T))

-- ---- what is lent
pub record Lent : Type 0 where
  pub slots : List ℕ
  pub parents : List ℕ
  pub tags : List ℕ
  pub firsts : List ℕ
  pub lasts : List ℕ
  pub ends : List ℕ
  pub occurrences : List ℕ
  pub counts : List ℕ
  pub work : List ℕ

abbrev pub lent : List ℕ → List ℕ → List ℕ → List ℕ → List ℕ → List ℕ → List ℕ → List ℕ → List ℕ → Lent
lent s p t f l e o c w = record { slots = s; parents = p; tags = t; firsts = f; lasts = l; ends = e; occurrences = o; counts = c; work = w }

abbrev pub sizes : Lent → Sizes
sizes l =
    record {
      parents = length l.parents;
      tags = length l.tags;
      firsts = length l.firsts;
      lasts = length l.lasts;
      ends = length l.ends;
      occurrences = length l.occurrences;
      counts = length l.counts;
      work = length l.work;
    }

abbrev pub build_reply : List ℕ → Query → Lent → Reply
build_reply T Q l = plan_reply T Q (length l.slots) (sizes l)

-- ---- the promise
pub record Builds (T : List ℕ) (Q : Query) (l : Lent) (r : Reply) (b : Lent) : Type 0 where
  pub reply : r ≡ build_reply T Q l
  pub slots : b.slots ≡ slots_after T l.slots r
  pub parents : b.parents ≡ kept_or r (parents_of (tree_of T)) l.parents
  pub tags : b.tags ≡ kept_or r (tags_in (tree_of T)) l.tags
  pub firsts : b.firsts ≡ kept_or r (firsts_of (tree_of T)) l.firsts
  pub lasts : b.lasts ≡ kept_or r (lasts_of (tree_of T)) l.lasts
  pub ends : b.ends ≡ kept_or r (ends_for T Q (word_count Q)) l.ends
  pub occurrences : b.occurrences ≡ kept_or r (lists_to T Q (word_count Q)) l.occurrences
  pub counts : b.counts ≡ kept_or r (counts_for T Q (word_count Q)) l.counts
  pub work : b.work ≡ cond (eqb r.refusal accepted) (zeroed (3 * length (tree_of T)) l.work) l.work
