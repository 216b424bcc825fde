-- Why a node is listed under ELCA, or is not (02, Q-4), in numbers.
--   NOT_FULL, NOT_LISTED, LISTED  == the numbers of the three cases
--   Naming               == what a reason says: its case's number, and the word that it names, from 0 (0 where it names none)
--   told r               == what the code's reason r says: the number and the word of each of its cases
--   missing p k W v      == the first word with no occurrence under v (k where each word has one)
--   unowned p k W v      == the first word whose own count at v is 0 (k where none's is)
--   lowest_own p k W v j  == the lowest of v's own occurrences of word j: the first on the word's list, which rises (0 where there is none)
--   reason_of p k W v     == the reason: not full, with the first word missing; full but not listed, with the first word whose own count is 0; or listed
--   lowest_owns p k W v   == 8 numbers: the lowest own occurrence of each word, then zeros; all zeros where v is not listed
-- Letters: p parents; k words, W their lists, word j's being `W j`; v node, j word. What these mean in plain statements is in Plain. Assumes nothing.
use Rattle.std.specs.Prelude.{ℕ, List, [], cond, leb, replicate}
use Rattle.seq.specs.Below.{first_fail, tabulate}
use Rattle.seq.specs.Lists.{some_of, first_of}
use Rattle.seq.specs.Memory.{over}
use Rattle.tree.specs.Tree.{under}
use Rattle.answers.specs.Answers.{full, own, own_count, elca}
use Rattle.reason.specs.declared.Reason.{Reason}
use Rattle.reason.specs.declared.Reason.TheVariants.{NotFull, NotListed, Listed}

-- ---- the cases
abbrev pub NOT_FULL : ℕ
NOT_FULL = 1

abbrev pub NOT_LISTED : ℕ
NOT_LISTED = 2

abbrev pub LISTED : ℕ
LISTED = 3

pub record Naming : Type 0 where
  pub number : ℕ
  pub word : ℕ

-- A case, with the word that it names.
abbrev pub naming : ℕ → ℕ → Naming
naming c j = record { number = c; word = j }

abbrev pub told : Reason → Naming
told (NotFull j) = naming NOT_FULL j
told (NotListed j) = naming NOT_LISTED j
told Listed = naming LISTED 0

-- ---- which of them
unfoldable pub missing : List ℕ → ℕ → (ℕ → List ℕ) → ℕ → ℕ
missing p k W v = first_fail k λ j. some_of (under p v) (W j)

unfoldable pub unowned : List ℕ → ℕ → (ℕ → List ℕ) → ℕ → ℕ
unowned p k W v = first_fail k λ j. leb 1 (own_count p k W v j)

unfoldable pub reason_of : List ℕ → ℕ → (ℕ → List ℕ) → ℕ → Naming
reason_of p k W v =
    cond (full p k W v)
    (cond (elca p k W v) (naming LISTED 0) (naming NOT_LISTED (unowned p k W v)))
    (naming NOT_FULL (missing p k W v))

-- ---- the occurrences of a listed node
unfoldable pub lowest_own : List ℕ → ℕ → (ℕ → List ℕ) → ℕ → ℕ → ℕ
lowest_own p k W v j = first_of (own p k W v) 0 (W j)

unfoldable pub lowest_owns : List ℕ → ℕ → (ℕ → List ℕ) → ℕ → List ℕ
lowest_owns p k W v = over (cond (elca p k W v) (tabulate k (lowest_own p k W v)) []) (replicate 8 0)
