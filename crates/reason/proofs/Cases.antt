-- Reasons on 01's small schedule, as one table under one theorem: each call is run whole, and what it gives is written out from 02's Q-4 and 01's definitions.
--   reason_at I v w  == the call of node v, with work of w entries: the reply; the case's number, its word and the 8 occurrences; and work as it is left
--   tells           == what is written beside it
--   cases, case_at  == the theorem, and each line by its place in the table
-- The words of the schedule are those of `answers`. Words are counted from 0, and 8 occurrences are given: those past the last word are 0. Assumes nothing.
use Prim.Native.Nat.{ℕ, ◌<◌}
use mathlib.Core.Path.{◌≡◌, refl}
use mathlib.Core.List.{List, [], ◌∷◌}
use mathlib.Core.Bool.{true}
use lib.ListN.{length, get_or, replicate}
use Rattle.seq.specs.Below.{every_below, some_below, first_fail, tabulate}
use Rattle.seq.specs.Lists.{every_of, some_of, tally, first_of, same_list}
use Rattle.seq.specs.Memory.{zeroed, over}
use Rattle.seq.proofs.Laws.Lists.{every_of-at}
use Rattle.tree.specs.Tree.{climb, line, level, under, properly}
use Rattle.tree.specs.Rules.{text, parent_ok, level_ok, hangs_ok, tag_ok, node_ok, tree_bad}
use Rattle.index.specs.Index.{Index, start, word_list, count_under, true_count}
use Rattle.index.specs.Rules.{rises, list_ok, last_end_ok, end_ok, word_ok, lists_bad, count_ok, counts_bad}
use Rattle.index.specs.Replies.{nodes_ok, words_ok, lengths_ok, size_ok, refusing, checked, work_after}
use Rattle.answers.specs.Answers.{full, own, own_count, elca}
use Rattle.answers.proofs.Claims.{Case, case, word, size, ends_from, all_lists, all_counts, ask, nines, zeros, three, gives, same_lists, holds, holds-is}
use Rattle.answers.proofs.Cases.{schedule, A, Z, T, U, none, old_a, AZ, A¬X}
use Rattle.reason.specs.Reasons.{naming, missing, unowned, reason_of, lowest_own, lowest_owns}
use Rattle.reason.specs.Promises.{reason_reply, explains, told_after, lowest_after}

unfoldable reason_at : Index → ℕ → ℕ → List (List ℕ)
reason_at I v w =
    three (reason_reply I v (nines w))
    ∷ ((told_after (naming 0 0) I v (nines w)).number ∷ (told_after (naming 0 0) I v (nines w)).word ∷ lowest_after I v (nines w))
    ∷ work_after 0 I (nines w)
    ∷ []

-- ---- what is said: the case, the word, the occurrences; and zeros in m entries of work, with r more as lent
abbrev not_full : ℕ → ℕ → ℕ → List (List ℕ)
not_full j m r = gives 0 0 0 ∷ (1 ∷ j ∷ replicate 8 0) ∷ zeros m r ∷ []

abbrev not_listed : ℕ → ℕ → ℕ → List (List ℕ)
not_listed j m r = gives 0 0 0 ∷ (2 ∷ j ∷ replicate 8 0) ∷ zeros m r ∷ []

abbrev listed : List ℕ → ℕ → ℕ → List (List ℕ)
listed l m r = gives 0 0 0 ∷ (3 ∷ 0 ∷ l) ∷ zeros m r ∷ []

-- A refusal, with what it leaves in work.
abbrev refuses : ℕ → ℕ → List ℕ → List (List ℕ)
refuses number at work = gives number at 0 ∷ replicate 10 0 ∷ work ∷ []

-- ---- the table. Work is 54 entries for one word, 72 for two, 90 for three and 180 for eight.
pub table : List Case
table =
    -- A,Z: 2's subtree is full, and so is 1's, which has no Z of its own; 0 has A at 17 and Z at 15 of its own, and neither 4 nor 9 nor 6
    case 2 (reason_at AZ 0 77) (listed (17 ∷ 15 ∷ replicate 6 0) 72 5)
    ∷ case 2 (reason_at AZ 1 77) (not_listed 1 72 5)
    ∷ case 2 (reason_at AZ 2 77) (listed (4 ∷ 6 ∷ replicate 6 0) 72 5)
    ∷ case 2 (reason_at AZ 7 77) (not_full 1 72 5)
    -- A is missing under 12, both are under 10: the first is named; 17 is the last node
    ∷ case 0 (reason_at AZ 12 72) (not_full 0 72 0)
    ∷ case 0 (reason_at AZ 10 72) (not_full 0 72 0)
    ∷ case 0 (reason_at AZ 17 72) (not_full 1 72 0)
    -- the order of the words; of two whose own count is 0 the first
    ∷ case 0 (reason_at (schedule (Z ∷ A ∷ []) []) 1 72) (not_listed 0 72 0)
    ∷ case 0 (reason_at (schedule (Z ∷ A ∷ []) []) 0 72) (listed (15 ∷ 17 ∷ replicate 6 0) 72 0)
    ∷ case 0 (reason_at (schedule (A ∷ Z ∷ Z ∷ []) []) 1 90) (not_listed 1 90 0)
    ∷ case 5 (reason_at (schedule (A ∷ A ∷ []) []) 0 72) (not_listed 0 72 0)
    ∷ case 5 (reason_at (schedule (A ∷ A ∷ []) []) 9 72) (listed (9 ∷ 9 ∷ replicate 6 0) 72 0)
    -- one word: an occurrence at the node itself is its own, one at a full child is not
    ∷ case 4 (reason_at (schedule (U ∷ []) []) 0 54) (not_listed 0 54 0)
    ∷ case 4 (reason_at (schedule (U ∷ []) []) 1 54) (listed (1 ∷ replicate 7 0) 54 0)
    ∷ case 4 (reason_at (schedule (U ∷ []) []) 3 54) (not_full 0 54 0)
    -- T,A: the lowest of two own occurrences, 4 and 9
    ∷ case 0 (reason_at (schedule (T ∷ A ∷ []) []) 1 72) (listed (1 ∷ 4 ∷ replicate 6 0) 72 0)
    ∷ case 0 (reason_at (schedule (T ∷ A ∷ []) []) 0 72) (listed (12 ∷ 17 ∷ replicate 6 0) 72 0)
    -- a word with an empty list is missing under every node
    ∷ case 12 (reason_at (schedule (A ∷ none ∷ []) []) 0 72) (not_full 1 72 0)
    ∷ case 12 (reason_at (schedule (none ∷ A ∷ []) []) 9 72) (not_full 0 72 0)
    -- eight words leave no entry over
    ∷ case 0 (reason_at (schedule (A ∷ A ∷ A ∷ A ∷ A ∷ A ∷ A ∷ A ∷ []) []) 9 180) (listed (replicate 8 9) 180 0)
    -- NODE from n on, after everything that the index check refuses
    ∷ case 0 (reason_at AZ 18 77) (refuses 10 0 (zeros 72 5))
    ∷ case 0 (reason_at AZ 4294967295 72) (refuses 10 0 (zeros 72 0))
    ∷ case 10 (reason_at (schedule (old_a ∷ []) []) 18 59) (refuses 4 1 (zeros 54 5))
    ∷ case 10 (reason_at (schedule (old_a ∷ []) []) 4 59) (refuses 4 1 (zeros 54 5))
    ∷ case 0 (reason_at (schedule (word (4 ∷ 4 ∷ []) A.counts ∷ []) []) 18 54) (refuses 3 0 (zeros 54 0))
    ∷ case 0 (reason_at (ask (0 ∷ 0 ∷ 2 ∷ []) (1 ∷ 2 ∷ 3 ∷ []) (word [] (0 ∷ 0 ∷ 0 ∷ []) ∷ []) []) 3 10) (refuses 2 2 (zeros 9 1))
    -- SIZE touches nothing: a negative word, and work one entry short
    ∷ case 6 (reason_at A¬X 0 77) (refuses 1 0 (nines 77))
    ∷ case 0 (reason_at AZ 18 71) (refuses 1 0 (nines 71))
    -- one node: it is listed where the word is at it
    ∷ case 0 (reason_at (ask (0 ∷ []) (1 ∷ []) (word (0 ∷ []) (1 ∷ []) ∷ []) []) 0 3) (listed (replicate 8 0) 3 0)
    ∷ case 0 (reason_at (ask (0 ∷ []) (1 ∷ []) (word (0 ∷ []) (1 ∷ []) ∷ []) []) 1 3) (refuses 10 0 (zeros 3 0))
    ∷ []

pub cases : every_of holds table ≡ true
unfolding every_below some_below first_fail tabulate some_of tally first_of zeroed over climb line level under properly text parent_ok level_ok hangs_ok tag_ok node_ok tree_bad start word_list count_under true_count rises list_ok last_end_ok end_ok word_ok lists_bad count_ok counts_bad nodes_ok words_ok lengths_ok size_ok refusing checked work_after full own own_count elca size ends_from all_lists all_counts ask three missing unowned reason_of lowest_own lowest_owns reason_reply explains told_after lowest_after reason_at table every_of same_list same_lists holds
cases = refl

-- Each line by its place in the table.
pub case_at : (d : Case) (i : ℕ) → i < length table → (get_or table i d).found ≡ (get_or table i d).said
case_at d i l = holds-is (get_or table i d) (every_of-at holds table d cases i l)
