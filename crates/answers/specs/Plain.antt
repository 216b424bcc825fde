-- Classes and answers in plain statements: what the tests of Classes, Answers and Not mean. proofs/Laws/Classes and Meaning show that they mean it.
--   Text t v                  == v's tag is 0
--   Child p v c               == c is a node other than the root, and its parent is v
--   OneText p t v             == v has exactly one child, and that child is text
--   Twin p t v                == another child of the same parent has the same tag
--   SameType p t u v          == both are the root; or neither is, they have one tag, and their parents are of one type
--   Repeats p t v             == some node of v's type has a twin
--   Attribute, Entity, Dummy  == each the first rule that fits, so that those before it do not
--   Fits p t v c              == v is of class c
--   Ancestor p v u            == v is an ancestor of u, and not u itself
--   Closest p t x v           == v is the nearest entity above x, or the root where there is none
--   Occurs p l v              == the list l has an entry under v
--   Full, Slca, Own, Elca     == as 01 has them, with `Full p k W v` for "v is full"
--   Negator p t q N v         == v is the closest entity of a text node on some negative word's list
--   Valid p t q N x           == neither x nor any ancestor of x is a negator
--   ValidSlca p t k W q N v   == v is an SLCA under which every positive word has a valid occurrence
-- Letters: p parents, t tags; k words and W their lists, q negative words and N theirs; v node, u and w nodes, c child, x occurrence, j word. Assumes nothing.
use Rattle.std.specs.Prelude.{ℕ, suc, ◌<◌, ◌≡◌, List, length, get_or}
use Rattle.tree.specs.Tree.{parent}
use Rattle.tree.specs.Plain.{Under}
use Rattle.answers.specs.Classes.{Class, is_text, is_attribute, is_entity, is_dummy}

-- ---- classes
abbrev pub Text : List ℕ → ℕ → Type 0
Text t v = get_or t v 0 ≡ 0

pub record Child (p : List ℕ) (v c : ℕ) : Type 0 where
  pub node : c < length p
  pub not_root : 0 < c
  pub hangs : parent p c ≡ v

pub record OneText (p t : List ℕ) (v : ℕ) : Type 0 where
  pub only : ℕ
  pub child : Child p v only
  pub text : Text t only
  pub alone : (c : ℕ) → Child p v c → c ≡ only

pub record Twin (p t : List ℕ) (v : ℕ) : Type 0 where
  pub above : ℕ
  pub child : Child p above v
  pub other : ℕ
  pub sibling : Child p above other
  pub another : other ≡ v → ⊥
  pub same_tag : get_or t other 0 ≡ get_or t v 0

pub data SameType (p t : List ℕ) : ℕ → ℕ → Type 0 where
  roots : SameType p t 0 0
  children : {u v : ℕ} → get_or t (suc u) 0 ≡ get_or t (suc v) 0 → SameType p t (parent p (suc u)) (parent p (suc v)) → SameType p t (suc u) (suc v)

pub record Repeats (p t : List ℕ) (v : ℕ) : Type 0 where
  pub node : ℕ
  pub below : node < length p
  pub same_type : SameType p t node v
  pub twin : Twin p t node

pub record Attribute (p t : List ℕ) (v : ℕ) : Type 0 where
  pub no_text : Text t v → ⊥
  pub one_text : OneText p t v

pub record Entity (p t : List ℕ) (v : ℕ) : Type 0 where
  pub no_text : Text t v → ⊥
  pub no_attribute : OneText p t v → ⊥
  pub repeats : Repeats p t v

pub record Dummy (p t : List ℕ) (v : ℕ) : Type 0 where
  pub no_text : Text t v → ⊥
  pub no_attribute : OneText p t v → ⊥
  pub no_entity : Repeats p t v → ⊥

abbrev pub Fits : List ℕ → List ℕ → ℕ → Class → Type 0
Fits p t v is_text = Text t v
Fits p t v is_attribute = Attribute p t v
Fits p t v is_entity = Entity p t v
Fits p t v is_dummy = Dummy p t v

-- ---- the closest entity
pub record Ancestor (p : List ℕ) (v u : ℕ) : Type 0 where
  pub above : Under p v u
  pub other : v ≡ u → ⊥

pub data Closest (p t : List ℕ) (x v : ℕ) : Type 0 where
  -- every entity above x is at or above v
  nearest : Entity p t v → Ancestor p v x → ((w : ℕ) → Entity p t w → Ancestor p w x → Under p w v) → Closest p t x v
  root : ((w : ℕ) → Entity p t w → Ancestor p w x → ⊥) → v ≡ 0 → Closest p t x v

-- ---- which nodes are listed
pub record Occurs (p l : List ℕ) (v : ℕ) : Type 0 where
  pub place : ℕ
  pub within : place < length l
  pub under : Under p v (get_or l place 0)

abbrev pub Full : List ℕ → ℕ → (ℕ → List ℕ) → ℕ → Type 0
Full p k W v = (j : ℕ) → j < k → Occurs p (W j) v

pub record Slca (p : List ℕ) (k : ℕ) (W : ℕ → List ℕ) (v : ℕ) : Type 0 where
  pub full : Full p k W v
  pub smallest : (u : ℕ) → u < length p → Ancestor p v u → Full p k W u → ⊥

pub record Own (p : List ℕ) (k : ℕ) (W : ℕ → List ℕ) (v x : ℕ) : Type 0 where
  pub under : Under p v x
  pub exclusive : (u : ℕ) → u < length p → Ancestor p v u → Full p k W u → Under p u x → ⊥

-- Word j has an occurrence that is v's own.
pub record OwnOccurs (p : List ℕ) (k : ℕ) (W : ℕ → List ℕ) (v j : ℕ) : Type 0 where
  pub place : ℕ
  pub within : place < length (W j)
  pub own : Own p k W v (get_or (W j) place 0)

pub record Elca (p : List ℕ) (k : ℕ) (W : ℕ → List ℕ) (v : ℕ) : Type 0 where
  pub full : Full p k W v
  pub own : (j : ℕ) → j < k → OwnOccurs p k W v j

-- ---- with NOT
pub record Negator (p t : List ℕ) (q : ℕ) (N : ℕ → List ℕ) (v : ℕ) : Type 0 where
  pub word : ℕ
  pub below : word < q
  pub place : ℕ
  pub within : place < length (N word)
  pub text : Text t (get_or (N word) place 0)
  pub closest : Closest p t (get_or (N word) place 0) v

abbrev pub Valid : List ℕ → List ℕ → ℕ → (ℕ → List ℕ) → ℕ → Type 0
Valid p t q N x = (v : ℕ) → Negator p t q N v → Under p v x → ⊥

-- The list l has a valid entry under v.
pub record ValidOccurs (p t : List ℕ) (q : ℕ) (N : ℕ → List ℕ) (l : List ℕ) (v : ℕ) : Type 0 where
  pub place : ℕ
  pub within : place < length l
  pub under : Under p v (get_or l place 0)
  pub valid : Valid p t q N (get_or l place 0)

pub record ValidSlca (p t : List ℕ) (k : ℕ) (W : ℕ → List ℕ) (q : ℕ) (N : ℕ → List ℕ) (v : ℕ) : Type 0 where
  pub slca : Slca p k W v
  pub valid : (j : ℕ) → j < k → ValidOccurs p t q N (W j) v
