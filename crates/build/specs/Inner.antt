-- What the functions of this crate promise each other; no public contract cites it.
--   FlagPre, Flags       == one mention, and the flags that it sets;  FlagAllPre, FlagWordsPre, FlagsAll: all of them
--   row_of c n j          == word j's row of n entries;  flag_lists c n k: the nodes that are flagged with 1 in the first k rows, one row after the other
--   ListsPre, ListsWritten, SumRowPre, SumsRow, SumRowsPre, SumsRows   == lists and counts from flags
--   WritePre, Written    == what `build` writes once the tree is read
-- Letters: T text, Q query, h all hashes of a query, c counts or flags, p parents; m mention, v node, j word. Assumes nothing.
use Rattle.std.specs.Prelude.{ℕ, zero, suc, ◌+◌, ◌*◌, ◌≤◌, ◌<◌, ◌^◌, ◌≡◌, List, [], ◌++◌, true, cond, ◌&&◌, eqb, length, get_or, take, drop, replicate}
use Rattle.seq.specs.Below.{sum_below, tabulate}
use Rattle.seq.specs.Lists.{same_list}
use Rattle.tree.specs.Tree.{sum_under}
use Rattle.tree.specs.Plain.{Down}
use Rattle.index.specs.Replies.{accepted}
use Rattle.listing.specs.Listing.{flagged_rows}
use Rattle.profile.specs.Reader.{tree_of}
use Rattle.judge.specs.Judge.{judge_reply}
use Rattle.reader.specs.Read.{parents_of}
use Rattle.fnv.specs.Fnv.{hash_of}
use Rattle.words.specs.Reading.{word_at}
use Rattle.words.specs.Stands.{stands}
use Rattle.query.specs.Query.{Query, asked, word_count, query_ok, Hashes}
use Rattle.mentions.specs.declared.Mention.{Mention}
use Rattle.plan.specs.Lists.{lists_to}
use Rattle.build.specs.Build.{ends_for, counts_for}

-- ---- flags
pub record FlagPre (T : List ℕ) (m : Mention) (Q : Query) (h : List ℕ) (n : ℕ) (c : List ℕ) : Type 0 where
  pub ok : query_ok Q ≡ true
  pub own : m.hash ≡ hash_of (word_at T m.place)
  pub hashes : Hashes Q h
  pub node : m.node < n
  pub few : n ≤ 65536
  pub long : length c ≡ word_count Q * n

pub record Flags (T : List ℕ) (m : Mention) (Q : Query) (n : ℕ) (c c' : List ℕ) : Type 0 where
  pub long : length c' ≡ word_count Q * n
  pub each : (j u : ℕ) → j < word_count Q → u < n → get_or c' (j * n + u) 0 ≡ cond (eqb m.node u && same_list (asked Q j) (word_at T m.place)) 1 (get_or c (j * n + u) 0)

pub record FlagAllPre (T : List ℕ) (Q : Query) (n : ℕ) (c : List ℕ) : Type 0 where
  pub ok : query_ok Q ≡ true
  pub kept : (judge_reply T).refusal ≡ accepted
  pub nodes : n ≡ length (tree_of T)
  pub long : length c ≡ word_count Q * n

pub record FlagWordsPre (T : List ℕ) (Q : Query) (h : List ℕ) (n : ℕ) (c : List ℕ) : Type 0 where
  pub pre : FlagAllPre T Q n c
  pub hashes : Hashes Q h
  pub clear : c ≡ replicate (length c) 0

pub record FlagsAll (T : List ℕ) (Q : Query) (n : ℕ) (c' : List ℕ) : Type 0 where
  pub long : length c' ≡ word_count Q * n
  pub each : (j v : ℕ) → j < word_count Q → v < n → get_or c' (j * n + v) 0 ≡ cond (stands T (asked Q j) v) 1 0

-- ---- lists and counts
abbrev pub row_of : List ℕ → ℕ → ℕ → List ℕ
row_of c n j = take n (drop (j * n) c)

unfoldable pub flag_lists : List ℕ → ℕ → ℕ → List ℕ
flag_lists c n zero = []
flag_lists c n (suc j) = flag_lists c n j ++ flagged_rows (row_of c n j)

pub record ListsPre (c : List ℕ) (n : ℕ) (e o : List ℕ) : Type 0 where
  pub few : n ≤ 65536
  pub words : length e ≤ 8
  pub long : length c ≡ length e * n
  pub room : length o ≡ length (flag_lists c n (length e))

pub record ListsWritten (c : List ℕ) (n : ℕ) (e o e' o' : List ℕ) : Type 0 where
  pub ends : e' ≡ tabulate (length e) (λ j. length (flag_lists c n (suc j)))
  pub lists : o' ≡ flag_lists c n (length e)

pub record SumRowPre (p w : List ℕ) : Type 0 where
  pub down : Down p (length p)
  pub long : length w ≡ length p
  pub few : length p ≤ 65536
  pub fits : sum_below (length p) (λ u. get_or w u 0) < 2 ^ 32

pub record SumsRow (p w w' : List ℕ) : Type 0 where
  pub long : length w' ≡ length p
  pub each : (v : ℕ) → v < length p → get_or w' v 0 ≡ sum_under p (λ u. get_or w u 0) v

pub record SumRowsPre (p : List ℕ) (k : ℕ) (c : List ℕ) : Type 0 where
  pub down : Down p (length p)
  pub few : length p ≤ 65536
  pub words : k ≤ 8
  pub long : length c ≡ k * length p
  pub bits : (j v : ℕ) → j < k → v < length p → get_or c (j * length p + v) 0 ≤ 1

pub record SumsRows (p : List ℕ) (k : ℕ) (c c' : List ℕ) : Type 0 where
  pub long : length c' ≡ k * length p
  pub each : (j v : ℕ) → j < k → v < length p → get_or c' (j * length p + v) 0 ≡ sum_under p (λ u. get_or c (j * length p + u) 0) v

-- ---- the whole
pub record WritePre (T : List ℕ) (Q : Query) (p e o c : List ℕ) : Type 0 where
  pub ok : query_ok Q ≡ true
  pub kept : (judge_reply T).refusal ≡ accepted
  pub parents : p ≡ parents_of (tree_of T)
  pub ends : length e ≡ word_count Q
  pub lists : length o ≡ length (lists_to T Q (word_count Q))
  pub counts : length c ≡ word_count Q * length (tree_of T)

pub record Written (T : List ℕ) (Q : Query) (e' o' c' : List ℕ) : Type 0 where
  pub ends : e' ≡ ends_for T Q (word_count Q)
  pub lists : o' ≡ lists_to T Q (word_count Q)
  pub counts : c' ≡ counts_for T Q (word_count Q)
