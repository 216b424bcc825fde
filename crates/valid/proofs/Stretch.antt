-- The lists of the negative words stand behind those of the positive ones, so together they are one stretch of the occurrences. Assumes nothing.
--   stretch-some    some entry of the stretch passes a test exactly where some entry of one of these lists does
--   stretch-below   each entry of the stretch is a node
-- Letters: n nodes; ends and occ as lent; k positive words, m negative ones; f test, j word, i entry.
use Prim.Native.Nat.{ℕ, zero, suc, ◌+◌, ◌-◌, ◌≤◌, ◌<◌}
use mathlib.Core.Path.{◌≡◌, sym, ap, ap₂, ◌∙◌}
use mathlib.Core.Logic.{⊎_elim}
use mathlib.Core.List.{List, ◌++◌}
use mathlib.Core.Bool.{Bool, false, not, ◌||◌}
use native.Mathlib.Nat.{add-zero, add-suc, sub_self}
use native.Mathlib.Omega.{arith}
use borrow.Author.Tests.{ltb-true, lt-ltb}
use lib.Dec.{ltb}
use lib.ListN.{length, get_or, take, drop}
use lib.Seq.{take-add, drop-drop}
use Rattle.seq.specs.Below.{some_below}
use Rattle.seq.specs.Lists.{some_of, EachBelow}
use Rattle.seq.proofs.Laws.Bools.{bool_cases, not_at}
use Rattle.seq.proofs.Laws.Below.{Found, some_at}
use Rattle.seq.proofs.Laws.Lists.{Entry, some_of-at, some_of-of, some_of-append}
use Rattle.index.specs.Index.{start, word_list}
use Rattle.index.specs.Plain.{WordKept}

module _ (n : ℕ) (ends occ : List ℕ) (words : (j : ℕ) → j < length ends → WordKept n ends occ j) (k : ℕ) where
  rises : (m : ℕ) → k + m ≤ length ends → start ends k ≤ start ends (k + m)
  unfolding start
  rises zero h = rw (add-zero k) (omega arith)
  rises (suc m) h = rw (add-suc k m) (omega (arith, rises m (omega arith), (words (k + m) (omega arith)).rising))

  -- The lists of m words from word k on.
  abbrev part : ℕ → List ℕ
  part m = take (start ends (k + m) - start ends k) (drop (start ends k) occ)

  part-suc : (m : ℕ) → k + suc m ≤ length ends → part (suc m) ≡ part m ++ word_list ends occ (k + m)
  unfolding start word_list
  part-suc m h =
      let a : ℕ = start ends k in
      let b : ℕ = start ends (k + m) in
      let c : ℕ = get_or ends (k + m) 0 in
      let ab : a ≤ b = rises m (omega arith) in
      let bc : b ≤ c = (words (k + m) (omega arith)).rising in
      ap (λ (z : ℕ). take (start ends z - a) (drop a occ)) (add-suc k m) ∙ ap (λ (z : ℕ). take z (drop a occ)) (parts a b c ab bc) ∙ take-add (b - a) (c - b) (drop a occ)
      ∙ ap (λ (z : List ℕ). take (b - a) (drop a occ) ++ take (c - b) z) (drop-drop (b - a) a occ ∙ ap (λ (z : ℕ). drop z occ) (back a b ab))
    where
      parts : (a b c : ℕ) → a ≤ b → b ≤ c → c - a ≡ (b - a) + (c - b)
      parts a b c x y = omega arith

      back : (a b : ℕ) → a ≤ b → a + (b - a) ≡ b
      back a b x = omega arith

  part-some : (f : ℕ → Bool) (m : ℕ) → k + m ≤ length ends → some_of f (part m) ≡ some_below m (λ j. some_of f (word_list ends occ (k + j)))
  unfolding some_of some_below
  part-some f zero h = rw (add-zero k, sub_self (start ends k))
  part-some f (suc m) h =
      ap (some_of f) (part-suc m h) ∙ some_of-append f (part m) (word_list ends occ (k + m)) ∙ ap (λ (b : Bool). b || some_of f (word_list ends occ (k + m))) (part-some f m (omega arith))

  -- All words from word k on: `begin` is where the stretch begins, as the code has it.
  module _ (m : ℕ) (all : k + m ≡ length ends) (some : 1 ≤ k) (begin : ℕ) (e : begin ≡ get_or ends (k - 1) 0) where
    ends_at : (j : ℕ) → suc j ≡ length ends → start ends (length ends) ≡ length occ
    unfolding start
    ends_at j q = ap (start ends) (sym q) ∙ (words j (omega arith)).last q

    begins : (j : ℕ) → k ≡ suc j → begin ≡ start ends k
    unfolding start
    begins j q = e ∙ ap (λ (z : ℕ). get_or ends z 0) less ∙ ap (start ends) (sym q)
      where
        less : k - 1 ≡ j
        less = omega arith

    one_less : (z : ℕ) → 1 ≤ z → z ≡ suc (z - 1)
    one_less z h = omega arith

    abbrev pub stretch : List ℕ
    stretch = take (length occ - begin) (drop begin occ)

    stretch-part : stretch ≡ part m
    stretch-part =
        ap₂ (λ (x y : ℕ). take (x - y) (drop y occ)) (sym (ap (start ends) all ∙ ends_at (length ends - 1) (sym (one_less (length ends) (omega arith))))) (begins (k - 1) (one_less k some))

    pub stretch-some : (f : ℕ → Bool) → some_of f stretch ≡ some_below m (λ j. some_of f (word_list ends occ (k + j)))
    stretch-some f = ap (some_of f) stretch-part ∙ part-some f m (omega arith)

    pub stretch-below : EachBelow n stretch
    stretch-below i l = ⊎_elim (λ q. ltb-true _ n q) (λ q. absurd (outside q)) (bool_cases (ltb (get_or stretch i 0) n))
      where
        outside : ltb (get_or stretch i 0) n ≡ false → ⊥
        outside q =
            let f : ℕ → Bool = λ x. not (ltb x n) in
            let r : Found m (λ j. some_of f (word_list ends occ (k + j))) = some_at m _ (sym (stretch-some f) ∙ some_of-of f stretch i l (ap not q)) in
            let x : Entry f (word_list ends occ (k + r.at)) = some_of-at f _ r.passes in
            not_at _ x.passes (lt-ltb _ n ((words (k + r.at) (omega (arith, r.below))).list.below x.at x.below))
