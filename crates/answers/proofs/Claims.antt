-- A line of the table of cases: what antt computes from the definitions, beside what document 01 says, written out.
--   Case                        == a line, with the number of its case in 01
--   ask p t W N                 == the index of a tree, positive words W and negative words N
--   check_of, elca_of, slca_of, valid_of    == a whole call: its reply, and every buffer as it leaves it
--   every_call                   == the index check and the three searches, one after the other
--   negators_of, classes_of, closest_of, owns_of, credit_of    == parts of an answer
--   gives, are, refuse          == what is written beside them
--   holds, holds-is             == the test of a line, and that a line that passes it says what is found
-- What is lent in a buffer is 99 throughout: no answer here has it. The cases are in Cases and Edges. Assumes nothing.
use Prim.Native.Nat.{ℕ, suc, ◌+◌}
use mathlib.Core.Path.{◌≡◌, refl, ap₂}
use mathlib.Core.List.{List, [], ◌∷◌, ◌++◌}
use mathlib.Core.Bool.{Bool, true, false, cond, ◌&&◌, false≢true}
use lib.ListN.{length, replicate}
use Rattle.seq.specs.Below.{tabulate, listed}
use Rattle.seq.specs.Lists.{same_list}
use Rattle.seq.proofs.Laws.Bools.{and_left, and_right}
use Rattle.seq.proofs.Laws.Lists.{same_list-is}
use Rattle.index.specs.declared.Reply.{Reply}
use Rattle.index.specs.Index.{Index, nodes, wanted}
use Rattle.index.specs.Replies.{check_reply, work_after}
use Rattle.index.specs.Promises.{lent}
use Rattle.answers.specs.Answers.{full, own_count, credited}
use Rattle.answers.specs.Classes.{Class, is_text, is_attribute, is_entity, is_dummy, class_of, closest}
use Rattle.answers.specs.Searches.{is_negator, elca_reply, elca_out, elca_own, slca_reply, slca_out, valid_reply, valid_out}

-- The number of the case in 01, or 0 for one at the edges; what antt computes; what 01 says.
pub record Case : Type 0 where
  pub number : ℕ
  pub found : List (List ℕ)
  pub said : List (List ℕ)

abbrev pub case : ℕ → List (List ℕ) → List (List ℕ) → Case
case n f s = record { number = n; found = f; said = s }

-- ---- indexes
-- A word: its list, and its count under each node.
pub record Word : Type 0 where
  pub list : List ℕ
  pub counts : List ℕ

abbrev pub word : List ℕ → List ℕ → Word
word l cs = record { list = l; counts = cs }

unfoldable pub size : List Word → ℕ
size [] = 0
size (x ∷ W) = suc (size W)

unfoldable pub ends_from : ℕ → List Word → List ℕ
ends_from from [] = []
ends_from from (x ∷ W) = (from + length x.list) ∷ ends_from (from + length x.list) W

unfoldable pub all_lists : List Word → List ℕ
all_lists [] = []
all_lists (x ∷ W) = x.list ++ all_lists W

unfoldable pub all_counts : List Word → List ℕ
all_counts [] = []
all_counts (x ∷ W) = x.counts ++ all_counts W

unfoldable pub ask : List ℕ → List ℕ → List Word → List Word → Index
ask p t W N = lent p t (size W) (size N) (ends_from 0 (W ++ N)) (all_lists (W ++ N)) (all_counts (W ++ N))

-- ---- buffers
-- m entries as they were lent.
abbrev pub nines : ℕ → List ℕ
nines m = replicate m 99

-- Work after a call: m entries are 0, and r more are as they were lent.
abbrev pub zeros : ℕ → ℕ → List ℕ
zeros m r = replicate m 0 ++ nines r

-- ---- what is computed
unfoldable pub three : Reply → List ℕ
three r = r.refusal ∷ r.place ∷ r.total ∷ []

-- w, o and s are the lengths of work, out and own.
-- The reply alone.
unfoldable pub reply_of : Index → ℕ → List (List ℕ)
reply_of I w = three (check_reply I (nines w)) ∷ []

unfoldable pub check_of : Index → ℕ → List (List ℕ)
check_of I w = three (check_reply I (nines w)) ∷ work_after 8 I (nines w) ∷ []

unfoldable pub elca_of : Index → ℕ → ℕ → ℕ → List (List ℕ)
elca_of I w o s =
    three (elca_reply I (nines w) (nines o) (nines s))
    ∷ work_after 0 I (nines w)
    ∷ elca_out I (nines w) (nines o) (nines s)
    ∷ elca_own I (nines w) (nines o) (nines s)
    ∷ []

unfoldable pub slca_of : Index → ℕ → ℕ → List (List ℕ)
slca_of I w o = three (slca_reply I (nines w) (nines o)) ∷ work_after 0 I (nines w) ∷ slca_out I (nines w) (nines o) ∷ []

unfoldable pub valid_of : Index → ℕ → ℕ → List (List ℕ)
valid_of I w o = three (valid_reply I (nines w) (nines o)) ∷ work_after 8 I (nines w) ∷ valid_out I (nines w) (nines o) ∷ []

unfoldable pub every_call : Index → ℕ → ℕ → List (List ℕ)
every_call I w o = check_of I w ++ (elca_of I w o o ++ (slca_of I w o ++ valid_of I w o))

unfoldable pub each : (ℕ → ℕ) → List ℕ → List ℕ
each f [] = []
each f (x ∷ l) = f x ∷ each f l

unfoldable pub negators_of : Index → List (List ℕ)
negators_of I = listed (nodes I) (is_negator I) ∷ []

-- The rule that gives a class, from 1 in 01's order: text, attribute, entity, dummy.
unfoldable pub rule : Class → ℕ
rule is_text = 1
rule is_attribute = 2
rule is_entity = 3
rule is_dummy = 4

unfoldable pub classes_of : Index → List (List ℕ)
classes_of I = tabulate (nodes I) (λ v. rule (class_of I.parents I.tags v)) ∷ []

unfoldable pub closest_of : Index → List ℕ → List (List ℕ)
closest_of I l = each (closest I.parents I.tags) l ∷ []

-- The own counts of v, behind a 1 where v is full.
unfoldable pub owns_of : Index → ℕ → List (List ℕ)
owns_of I v =
    (cond (full I.parents I.positive (wanted I) v) 1 0 ∷ tabulate I.positive (own_count I.parents I.positive (wanted I) v)) ∷ []

unfoldable pub credit_of : Index → List ℕ → List (List ℕ)
credit_of I l = each (credited I.parents I.positive (wanted I)) l ∷ []

-- ---- what is said
-- A reply by its refusal, place and m.
abbrev pub gives : ℕ → ℕ → ℕ → List ℕ
gives r at m = r ∷ at ∷ m ∷ []

-- One list.
abbrev pub are : List ℕ → List (List ℕ)
are l = l ∷ []

-- Check and searches give the same reply r and leave the same in work; out and own, o long each, are as they were lent.
unfoldable pub refuse : ℕ → ℕ → ℕ → List ℕ → ℕ → List (List ℕ)
refuse number at m work o =
    (gives number at m ∷ work ∷ [])
    ++ ((gives number at m ∷ work ∷ nines o ∷ nines o ∷ [])
    ++ ((gives number at m ∷ work ∷ nines o ∷ []) ++ (gives number at m ∷ work ∷ nines o ∷ [])))

-- ---- the test of a line
unfoldable pub same_lists : List (List ℕ) → List (List ℕ) → Bool
same_lists [] [] = true
same_lists [] (y ∷ b) = false
same_lists (x ∷ a) [] = false
same_lists (x ∷ a) (y ∷ b) = same_list x y && same_lists a b

unfoldable pub holds : Case → Bool
holds c = same_lists c.found c.said

-- A line that passes says what is found.
pub holds-is : (c : Case) → holds c ≡ true → c.found ≡ c.said
unfolding holds same_lists
holds-is c e = same-is c.found c.said e
  where
    same-is : (a b : List (List ℕ)) → same_lists a b ≡ true → a ≡ b
    same-is [] [] e = refl
    same-is [] (y ∷ b) e = absurd (false≢true e)
    same-is (x ∷ a) [] e = absurd (false≢true e)
    same-is (x ∷ a) (y ∷ b) e = ap₂ ◌∷◌ (same_list-is x y (and_left (same_list x y) (same_lists a b) e)) (same-is a b (and_right (same_list x y) (same_lists a b) e))
