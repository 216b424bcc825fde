-- The rows by which the valid SLCAs are found, and what the functions that make them promise.
--   negates t c l v      == v is what the row c holds at a text node of the list l; where c holds closest entities, that makes v a negator
--   top_above p w v       == what the row w holds at v's parent, or n where v is the root
--   top_here …            == the top of a node, from what stands in the rows at it and from the top of its parent
--   top_of p neg f v      == the top of v: the nearest node at or above it that passes f; n where there is none, and n + 1 where v is not valid
--   reached f j          == how many of the tests f 0, f 1, .. hold one after the other, at most j
--   points w ends occ s j  == some entry of word j's list has s in the row w
--   kept_flag …           == 1 at a node that every word points to, else 0
-- Letters: p parents, t tags, n nodes, k words; rows with an entry for each node: m marks, g negators, w tops, z words seen, with ' as they are afterwards; l list,
-- neg f tests; v s nodes, x occurrence, j word. Assumes nothing.
use Rattle.std.specs.Prelude.{ℕ, zero, suc, ◌+◌, ◌≤◌, ◌<◌, ◌≡◌, ◌⊎◌, List, Bool, cond, ◌&&◌, ◌||◌, eqb, ltb, length, get_or, set, replicate}
use Rattle.seq.specs.Lists.{some_of, first_of, EachBelow}
use Rattle.tree.specs.Tree.{parent, line}
use Rattle.tree.specs.Rules.{text}
use Rattle.tree.specs.Plain.{Down}
use Rattle.index.specs.Index.{word_list}
use Rattle.index.specs.Plain.{WordKept}
use Rattle.answers.specs.Not.{valid}

-- ---- negators
unfoldable pub negates : List ℕ → List ℕ → List ℕ → ℕ → Bool
negates t c l v = some_of (λ x. text t x && eqb v (get_or c x 0)) l

-- What is lent to mark: a row c of nodes, none of them text where c is at a text node.
pub record NegatePre (l t c : List ℕ) : Type 0 where
  pub few : length t ≤ 65536
  pub long : length c ≡ length t
  pub list : EachBelow (length t) l
  pub nodes : (v : ℕ) → v < length t → get_or c v 0 < length t
  pub solid : (x : ℕ) → x < length t → get_or t x 0 ≡ 0 → get_or t (get_or c x 0) 0 ≡ 0 → ⊥

-- n stands at each node that is negated, the rest is as it was.
pub record NegatorsMarked (l t c c' : List ℕ) : Type 0 where
  pub long : length c' ≡ length t
  pub holds : (v : ℕ) → v < length t → get_or c' v 0 ≡ cond (negates t c l v) (length t) (get_or c v 0)

-- ---- tops
unfoldable pub top_here : ℕ → ℕ → ℕ → ℕ → ℕ → ℕ
top_here mark shut me above n = cond (eqb shut n || ltb n above) (suc n) (cond (eqb mark 1) me above)

unfoldable pub top_of : List ℕ → (ℕ → Bool) → (ℕ → Bool) → ℕ → ℕ
top_of p neg f v = cond (valid p neg v) (first_of f (length p) (line p v)) (suc (length p))

-- By two rows: 1 in the first is a mark, n in the second a negator.
abbrev pub top_by : List ℕ → List ℕ → List ℕ → ℕ → ℕ
top_by p m g = top_of p (λ v. eqb (get_or g v 0) (length p)) (λ v. eqb (get_or m v 0) 1)

-- What the row holds at v's parent; n above the root.
unfoldable pub top_above : List ℕ → List ℕ → ℕ → ℕ
top_above p w v = cond (eqb v 0) (length p) (get_or w (parent p v) 0)

pub record AbovePre (p w : List ℕ) (v : ℕ) : Type 0 where
  pub few : length p ≤ 65536
  pub node : v < length p
  pub down : Down p (length p)
  pub long : length w ≡ length p

pub record PointPre (p g m : List ℕ) : Type 0 where
  pub few : length p ≤ 65536
  pub down : Down p (length p)
  pub shut : length g ≡ length p
  pub long : length m ≡ length p

-- The tops are in the place of the marks.
pub record Pointed (p g m w : List ℕ) : Type 0 where
  pub long : length w ≡ length p
  pub holds : (v : ℕ) → v < length p → get_or w v 0 ≡ top_by p m g v

-- ---- how many words in a row a node has seen
pub record SeePre (x j : ℕ) (w : List ℕ) : Type 0 where
  pub node : x < length w
  pub word : j ≤ 8

-- What an occurrence of word j at x does.
pub data Saw (x j : ℕ) (w z z' : List ℕ) : Type 0 where
  passed : (length z ≤ get_or w x 0) ⊎ (get_or z (get_or w x 0) 0 ≡ j → ⊥) → z' ≡ z → Saw x j w z z'
  saw : get_or w x 0 < length z → get_or z (get_or w x 0) 0 ≡ j → z' ≡ set z (get_or w x 0) (j + 1) → Saw x j w z z'

pub record SeeListPre (j : ℕ) (l w : List ℕ) : Type 0 where
  pub word : j ≤ 8
  pub list : EachBelow (length w) l

abbrev pub points_in : List ℕ → List ℕ → ℕ → Bool
points_in w l s = some_of (λ x. eqb (get_or w x 0) s) l

-- What a whole list of word j does.
pub record SawList (j : ℕ) (l w z z' : List ℕ) : Type 0 where
  pub long : length z' ≡ length z
  pub seen : (s : ℕ) → s < length z → get_or z' s 0 ≡ cond (eqb (get_or z s 0) j && points_in w l s) (suc j) (get_or z s 0)

unfoldable pub reached : (ℕ → Bool) → ℕ → ℕ
reached f zero = 0
reached f (suc j) = cond (eqb (reached f j) j && f j) (suc j) (reached f j)

abbrev pub points : List ℕ → List ℕ → List ℕ → ℕ → ℕ → Bool
points w ends occ s j = points_in w (word_list ends occ j) s

pub record SeeWordsPre (k : ℕ) (ends occ w z : List ℕ) : Type 0 where
  pub few_words : k ≤ 8
  pub ended : k ≤ length ends
  pub words : (j : ℕ) → j < k → WordKept (length w) ends occ j
  pub unseen : z ≡ replicate (length w) 0

pub record SawWords (k : ℕ) (ends occ w z' : List ℕ) : Type 0 where
  pub long : length z' ≡ length w
  pub seen : (s : ℕ) → s < length w → get_or z' s 0 ≡ reached (points w ends occ s) k

-- ---- flags
unfoldable pub flag_here : ℕ → ℕ → ℕ
flag_here seen k = cond (eqb seen k) 1 0

pub record Settled (k : ℕ) (z w' : List ℕ) : Type 0 where
  pub long : length w' ≡ length z
  pub holds : (v : ℕ) → v < length z → get_or w' v 0 ≡ flag_here (get_or z v 0) k

pub record KeepPre (p : List ℕ) (k : ℕ) (ends occ m g : List ℕ) : Type 0 where
  pub few : length p ≤ 65536
  pub down : Down p (length p)
  pub few_words : k ≤ 8
  pub ended : k ≤ length ends
  pub words : (j : ℕ) → j < k → WordKept (length p) ends occ j
  pub long : length m ≡ length p
  pub shut : length g ≡ length p

-- Every word points to the node.
unfoldable pub kept_flag : List ℕ → ℕ → List ℕ → List ℕ → List ℕ → List ℕ → ℕ → ℕ
kept_flag p k ends occ m g v = flag_here (reached (λ j. some_of (λ x. eqb (top_by p m g x) v) (word_list ends occ j)) k) k

-- The flags are in the place of the marks, zeros in that of the negators.
pub record Kept (p : List ℕ) (k : ℕ) (ends occ m g m' g' : List ℕ) : Type 0 where
  pub long : length m' ≡ length p
  pub flags : (v : ℕ) → v < length p → get_or m' v 0 ≡ kept_flag p k ends occ m g v
  pub zeros : g' ≡ replicate (length p) 0
