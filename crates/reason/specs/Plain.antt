-- Reasons in plain statements: what the definitions of Reasons mean. proofs/Meaning shows that they mean it.
--   Missing p k W v j      == word j has no occurrence under v, and each word before it has one
--   Unowned p k W v j      == v is full; word j's own count at v is 0, so that each occurrence of it under v is under a full proper descendant
--                             of v; and no word before it has the own count 0
--   LowestOwn p k W v j x  == x is an occurrence of word j and v's own, and no lower one is
--   Lowest p k W v l       == l has 8 numbers: the lowest own occurrence of each word, then zeros
--   TrueOf p k W v t       == what t says of v is so: `Missing`, `Unowned`, or that v is an ELCA
--   OneReason p k W v t    == t is true of v, and nothing else is
-- Letters: p parents; k words, W their lists; v node, u node below it, x y occurrences, j i words; t what is told. Assumes nothing.
use Rattle.std.specs.Prelude.{ℕ, ◌≤◌, ◌<◌, ◌≡◌, List, length, get_or}
use Rattle.seq.specs.Plain.{Among}
use Rattle.tree.specs.Plain.{Under}
use Rattle.answers.specs.Answers.{own_count}
use Rattle.answers.specs.Plain.{Ancestor, Occurs, Full, Own, Elca}
use Rattle.reason.specs.Reasons.{NOT_FULL, NOT_LISTED, LISTED, Naming, naming}

-- x is on word j's list.
abbrev pub OnList : (ℕ → List ℕ) → ℕ → ℕ → Type 0
OnList W j x = Among (length (W j)) (W j) x

pub record Missing (p : List ℕ) (k : ℕ) (W : ℕ → List ℕ) (v j : ℕ) : Type 0 where
  pub word : j < k
  pub none : Occurs p (W j) v → ⊥
  pub earlier : (i : ℕ) → i < j → Occurs p (W i) v

-- Node u is a full proper descendant of v, and x is under it.
pub record Covers (p : List ℕ) (k : ℕ) (W : ℕ → List ℕ) (v x : ℕ) : Type 0 where
  pub node : ℕ
  pub below : Ancestor p v node
  pub full : Full p k W node
  pub over : Under p node x

pub record Unowned (p : List ℕ) (k : ℕ) (W : ℕ → List ℕ) (v j : ℕ) : Type 0 where
  pub full : Full p k W v
  pub word : j < k
  pub none : own_count p k W v j ≡ 0
  pub covered : (x : ℕ) → OnList W j x → Under p v x → Covers p k W v x
  pub earlier : (i : ℕ) → i < j → 1 ≤ own_count p k W v i

pub record LowestOwn (p : List ℕ) (k : ℕ) (W : ℕ → List ℕ) (v j x : ℕ) : Type 0 where
  pub occurs : OnList W j x
  pub own : Own p k W v x
  pub lowest : (y : ℕ) → OnList W j y → Own p k W v y → x ≤ y

pub record Lowest (p : List ℕ) (k : ℕ) (W : ℕ → List ℕ) (v : ℕ) (l : List ℕ) : Type 0 where
  pub long : length l ≡ 8
  pub each : (j : ℕ) → j < k → LowestOwn p k W v j (get_or l j 0)
  pub rest : (j : ℕ) → k ≤ j → get_or l j 0 ≡ 0

pub data TrueOf (p : List ℕ) (k : ℕ) (W : ℕ → List ℕ) (v : ℕ) : Naming → Type 0 where
  true_not_full : {j : ℕ} → Missing p k W v j → TrueOf p k W v (naming NOT_FULL j)
  true_not_listed : {j : ℕ} → Unowned p k W v j → TrueOf p k W v (naming NOT_LISTED j)
  true_listed : Elca p k W v → TrueOf p k W v (naming LISTED 0)

pub record OneReason (p : List ℕ) (k : ℕ) (W : ℕ → List ℕ) (v : ℕ) (t : Naming) : Type 0 where
  pub holds : TrueOf p k W v t
  pub only : (s : Naming) → TrueOf p k W v s → s ≡ t
