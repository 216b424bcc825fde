-- A fixed table of words with linear probing (02, Q-5). A slot is 0 where it is free, and k + 1 where it holds the word that the number k names: a caller's word is named by its place in
-- the caller's text. m is the number of slots, hash the hash of a word, named k the word that k names.
--   holds q x    == the slot x holds the word q
--   passes q x   == a search for q goes on past the slot x: it is taken, and by another word
--   home q       == the slot at which a search for q starts: its hash modulo the slots (of no use where there are none)
--   slot_of q w   == the first slot of w, from home on, cyclically, that is free or holds q; m where there is none
--   free_of q w   == the first slot of w, from home on, cyclically, that is free; m where there is none
--   found q w    == the search for q comes to a slot that holds it
--   lookup q w   == the slot to which it comes, or m where it comes to none
--   insert k w   == w with the word of k in it: as it was where that is found, none where it is not and no slot is free for it
--   fill ks w    == w with the words of ks inserted in order; none as soon as one insertion is
--   firsts b ks  == of the numbers ks, in order, those whose word none before them names; b are those before ks
-- Letters: q a word; k j numbers that name words; x what a slot holds; w a table; b ks lists of numbers. Assumes nothing.
use Rattle.std.specs.Prelude.{ℕ, zero, suc, ◌%◌, List, [], ◌∷◌, Bool, false, not, cond, ◌&&◌, ltb, get_or, set, replicate}
use mathlib.Core.Option.{Option, none, some}
use Rattle.seq.specs.Lists.{some_of, same_list}
use Rattle.probing.specs.Around.{around}

-- A table with every slot free.
abbrev pub blank : ℕ → List ℕ
blank m = replicate m 0

abbrev pub taken : ℕ → Bool
taken x = ltb 0 x

-- After an insertion, which may have failed, the ones that follow.
abbrev pub then_fill : Option (List ℕ) → (List ℕ → Option (List ℕ)) → Option (List ℕ)
then_fill none f = none
then_fill (some w) f = f w

module _ (named : ℕ → List ℕ) where
  unfoldable pub holds : List ℕ → ℕ → Bool
  holds q zero = false
  holds q (suc k) = same_list q (named k)

  unfoldable pub passes : List ℕ → ℕ → Bool
  passes q x = taken x && not (holds q x)

  -- Some number of ks names the word q.
  unfoldable pub names : List ℕ → List ℕ → Bool
  names ks q = some_of (λ k. same_list q (named k)) ks

  unfoldable pub firsts : List ℕ → List ℕ → List ℕ
  firsts b [] = []
  firsts b (k ∷ ks) = cond (names b (named k)) (firsts (k ∷ b) ks) (k ∷ firsts (k ∷ b) ks)

module _ (m : ℕ) (hash : List ℕ → ℕ) where
  unfoldable pub home : List ℕ → ℕ
  home q = hash q % m

  unfoldable pub free_of : List ℕ → List ℕ → ℕ
  free_of q w = around m (home q) λ i. taken (get_or w i 0)

module _ (m : ℕ) (hash : List ℕ → ℕ) (named : ℕ → List ℕ) where
  unfoldable pub slot_of : List ℕ → List ℕ → ℕ
  slot_of q w = around m (home m hash q) λ i. passes named q (get_or w i 0)

  unfoldable pub found : List ℕ → List ℕ → Bool
  found q w = holds named q (get_or w (slot_of q w) 0)

  unfoldable pub lookup : List ℕ → List ℕ → ℕ
  lookup q w = cond (found q w) (slot_of q w) m

  -- k into the slot s: none where s is no slot.
  unfoldable pub put : ℕ → ℕ → List ℕ → Option (List ℕ)
  put k s w = cond (ltb s m) (some (set w s (suc k))) none

  unfoldable pub insert : ℕ → List ℕ → Option (List ℕ)
  insert k w = cond (found (named k) w) (some w) (put k (slot_of (named k) w) w)

  unfoldable pub fill : List ℕ → List ℕ → Option (List ℕ)
  fill [] w = some w
  fill (k ∷ ks) w = then_fill (insert k w) (fill ks)
