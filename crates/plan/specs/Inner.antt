-- What the functions of this crate promise each other; no public contract cites it.
--   is_new T i q v u      == the word q stands at the place i of T, and u is not one more than its node v: it was not seen there before
--   hits T q u M         == the nodes of the mentions M at which q stands, each once; u is one more than the last one before them, or 0
--   bar u                == one more than the node u, or 0 where there is none
--   TallyPre, Tallied    == one mention, and how many words of the query are new at its node
--   GatherPre, WordsPre, Gathers   == the pass over all mentions
--   roomy, RoomPre, NoRoom         == what fits before the pass, and what is left where something does not
-- Letters: T text, Q query, h hashes, L last nodes, w slots, z sizes; i place, v node, m mention, j word. Assumes nothing.
use Rattle.std.specs.Prelude.{ℕ, suc, ◌*◌, ◌≤◌, ◌<◌, ◌≡◌, List, [], ◌∷◌, Bool, Option, None, Some, MatchOption, true, not, cond, ◌&&◌, eqb, leb, length, get_or, replicate}
use mathlib.Core.Option.{none, some}
use Rattle.seq.specs.Below.{sum_below}
use Rattle.seq.specs.Lists.{same_list}
use Rattle.index.specs.Replies.{accepted, ROOM, refused}
use Rattle.judge.specs.Judge.{judge_reply}
use Rattle.fnv.specs.Fnv.{hash_of}
use Rattle.probing.specs.Table.{blank}
use Rattle.words.specs.Runs.{Word}
use Rattle.words.specs.Places.{Mention}
use Rattle.words.specs.Reading.{word_at}
use Rattle.query.specs.Query.{Query, asked, word_count, query_ok, Hashes}
use Rattle.mentions.specs.declared.Mention as lent
use Rattle.plan.specs.Lists.{word_table, lists_to}
use Rattle.plan.specs.Plan.{tree_fits}
use Rattle.plan.specs.declared.Sizes.{Sizes}
use Rattle.plan.specs.declared.Planned.{Planned}

-- ---- the pass
unfoldable pub is_new : List ℕ → ℕ → Word → ℕ → ℕ → Bool
is_new T i q v u = not (eqb u (suc v)) && same_list q (word_at T i)

unfoldable pub hits : List ℕ → Word → ℕ → List Mention → List ℕ
hits T q u [] = []
hits T q u (m ∷ M) = cond (is_new T m.place q m.node u) (m.node ∷ hits T q (suc m.node) M) (hits T q u M)

abbrev pub bar : Option ℕ → ℕ
bar None = 0
bar (Some u) = suc u

pub record TallyPre (T : List ℕ) (m : lent.Mention) (Q : Query) (h : List ℕ) (L : List (Option ℕ)) : Type 0 where
  pub ok : query_ok Q ≡ true
  pub own : m.hash ≡ hash_of (word_at T m.place)
  pub hashes : Hashes Q h
  pub long : length L ≡ 8

-- Word j is new at the node.
abbrev pub new_at : List ℕ → lent.Mention → Query → List (Option ℕ) → ℕ → Bool
new_at T m Q L j = is_new T m.place (asked Q j) m.node (bar (get_or L j None))

pub record Tallied (T : List ℕ) (m : lent.Mention) (Q : Query) (L : List (Option ℕ)) (r : ℕ) (L' : List (Option ℕ)) : Type 0 where
  pub long : length L' ≡ 8
  pub count : r ≡ sum_below (word_count Q) (λ j. cond (new_at T m Q L j) 1 0)
  pub each : (j : ℕ) → j < word_count Q → get_or L' j None ≡ cond (new_at T m Q L j) (Some m.node) (get_or L j None)

pub record GatherPre (T : List ℕ) (Q : Query) : Type 0 where
  pub ok : query_ok Q ≡ true
  pub kept : (judge_reply T).refusal ≡ accepted

pub record WordsPre (T : List ℕ) (Q : Query) (h : List ℕ) (L : List (Option ℕ)) (w : List ℕ) : Type 0 where
  pub pre : GatherPre T Q
  pub hashes : Hashes Q h
  pub lasts : L ≡ replicate 8 None
  pub free : w ≡ blank (length w)

-- The table and how many entries the lists have, or none where the distinct words do not fit.
pub record Gathers (T : List ℕ) (Q : Query) (w : List ℕ) (r : Option ℕ) (w' : List ℕ) : Type 0 where
  pub long : length w' ≡ length w
  pub reply : MatchOption r (word_table T (length w) ≡ none) (λ k. (word_table T (length w) ≡ some w') × (k ≡ length (lists_to T Q (word_count Q))))

-- ---- room
unfoldable pub roomy : ℕ → ℕ → Sizes → Bool
roomy n k z = tree_fits n z && (leb k z.ends && leb (k * n) z.counts)

pub record RoomPre (n k : ℕ) : Type 0 where
  pub few : n ≤ 65536
  pub words : k ≤ 8

pub record NoRoom (w : List ℕ) (r : Planned) (w' : List ℕ) : Type 0 where
  pub reply : r.reply ≡ refused ROOM 0
  pub total : r.total ≡ 0
  pub slots : w' ≡ blank (length w)
