-- Entries and their rows of counts, word by word. Assumes nothing.
--   sums_at, sums_ext              two rows added
--   each-some_ext, -at, -of        each of the first k counts is 1 or more
--   each-some-long                 such a row has k numbers
--   zeros-at, fresh-node           nothing counted yet
--   closed-node, -own, -covered    what an entry is once a node has been closed into it
--   raised-held, raised-full       a new entry into which a node has been closed holds what that node held
--   raised-answers                 and its own node is no answer
-- Letters: k words, j word; e, b entries; a, h counts; q node.
use Prim.Native.Nat.{ℕ, zero, suc, ◌+◌, ◌≤◌, ◌<◌}
use mathlib.Core.Path.{◌≡◌, refl, ap, ◌∙◌}
use mathlib.Core.List.{List}
use mathlib.Core.Bool.{Bool, true, false, cond, ◌&&◌}
use mathlib.Core.Logic.{⊎_elim}
use native.Mathlib.Omega.{arith}
use lib.Dec.{ltb, eqb}
use borrow.Author.Tests.{lt-ltb, ltb-true, ne_eqb}
use lib.ListN.{length, get_or, replicate, get_or-replicate, get_or-eq_default}
use Rattle.seq.proofs.Laws.Bools.{bool_false, and_false-left, and_false-right}
use Rattle.seq.proofs.Laws.Numbers.{less_or}
use Rattle.seq.proofs.Laws.Below.{every_ext, every-at, every_of_lem}
use Rattle.seq.proofs.Laws.Gather.{get_d_tabulate, tabulate_ext}
use Rattle.engine.specs.declared.Entry.{Entry}
use Rattle.engine.specs.Inner.Entries.{fresh, sums, held, each_some, full_entry, answering, closed_into}

-- ---- rows
pub sums_at : (a b : List ℕ) (j : ℕ) → j < 8 → get_or (sums a b) j 0 ≡ get_or a j 0 + get_or b j 0
unfolding sums
sums_at a b j l = get_d_tabulate 8 (λ j. get_or a j 0 + get_or b j 0) j 0 l

pub sums_ext : (a b c d : List ℕ) → ((j : ℕ) → j < 8 → get_or a j 0 + get_or b j 0 ≡ get_or c j 0 + get_or d j 0) → sums a b ≡ sums c d
unfolding sums
sums_ext a b c d h = tabulate_ext 8 (λ j. get_or a j 0 + get_or b j 0) (λ j. get_or c j 0 + get_or d j 0) h

-- A row of zeros.
pub zeros-at : (j : ℕ) → j < 8 → ◌≡◌ {A = ℕ} (get_or (replicate 8 0) j 0) 0
zeros-at j l = get_or-replicate {A = ℕ} 8 j 0 0 l

pub each-some_ext : (k : ℕ) (a b : List ℕ) → ((j : ℕ) → j < k → get_or a j 0 ≡ get_or b j 0) → each_some k a ≡ each_some k b
unfolding each_some
each-some_ext k a b h = every_ext k (λ j. ltb 0 (get_or a j 0)) (λ j. ltb 0 (get_or b j 0)) (λ j l. ap (ltb 0) (h j l))

pub each-some-at : (k : ℕ) (a : List ℕ) → each_some k a ≡ true → (j : ℕ) → j < k → 0 < get_or a j 0
unfolding each_some
each-some-at k a q j l = ltb-true 0 (get_or a j 0) (every-at k (λ j. ltb 0 (get_or a j 0)) q j l)

pub each-some-of : (k : ℕ) (a : List ℕ) → ((j : ℕ) → j < k → 0 < get_or a j 0) → each_some k a ≡ true
unfolding each_some
each-some-of k a h = every_of_lem k (λ j. ltb 0 (get_or a j 0)) (λ j l. lt-ltb 0 (get_or a j 0) (h j l))

pub each-some-long : (k : ℕ) (a : List ℕ) → each_some k a ≡ true → k ≤ length a
each-some-long zero a q = omega arith
each-some-long (suc k) a q =
    ⊎_elim (λ (l : k < length a). l) (λ (l : length a ≤ k). omega (arith, get_or-eq_default a 0 l, each-some-at (suc k) a q k (omega arith))) (less_or k (length a))

pub fresh-node : (v : ℕ) → (fresh v).node ≡ v
unfolding fresh
fresh-node v = refl

-- ---- closing
module _ (b : Entry) (h : List ℕ) where
  pub closed-node : (full : Bool) → (closed_into b full h).node ≡ b.node
  unfolding closed_into
  closed-node true = refl
  closed-node false = refl

  pub closed-own : (full : Bool) (j : ℕ) → j < 8 → get_or (closed_into b full h).own j 0 ≡ get_or b.own j 0 + cond full 0 (get_or h j 0)
  unfolding closed_into
  closed-own true j l = omega arith
  closed-own false j l = sums_at b.own h j l

  pub closed-covered : (full : Bool) (j : ℕ) → j < 8 → get_or (closed_into b full h).covered j 0 ≡ get_or b.covered j 0 + cond full (get_or h j 0) 0
  unfolding closed_into
  closed-covered true j l = sums_at b.covered h j l
  closed-covered false j l = omega arith

-- ---- a node is closed into a new entry
module _ (k : ℕ) (e : Entry) (q : ℕ) where
  fresh-own : (j : ℕ) → j < 8 → get_or (fresh q).own j 0 ≡ 0
  unfolding fresh
  fresh-own j l = zeros-at j l

  fresh-covered : (j : ℕ) → j < 8 → get_or (fresh q).covered j 0 ≡ 0
  unfolding fresh
  fresh-covered j l = zeros-at j l

  pub raised-held : (full : Bool) → held (closed_into (fresh q) full (held e)) ≡ held e
  raised-held full = sums_ext _ _ _ _ (λ j l. omega (
    arith,
    closed-own (fresh q) (held e) full j l,
    closed-covered (fresh q) (held e) full j l,
    fresh-own j l,
    fresh-covered j l,
    sums_at e.own e.covered j l,
    once full (get_or (held e) j 0),
  ))
    where
      once : (t : Bool) (m : ℕ) → cond t 0 m + cond t m 0 ≡ m
      once true m = omega arith
      once false m = omega arith

  pub raised-full : (full : Bool) → full_entry k (closed_into (fresh q) full (held e)) ≡ full_entry k e
  raised-full full = ap (each_some k) (raised-held full)

  -- Where the node that was closed is full, all is covered; where it is not, this one is not full either.
  pub raised-answers : 0 < k → k ≤ 8 → (smallest : Bool) → answering smallest k (closed_into (fresh q) (full_entry k e) (held e)) ≡ false
  unfolding answering
  raised-answers some words smallest = by-full (full_entry k e) refl smallest
    where
      -- What the new entry has of a word, where the closed one is full or not.
      owns : (t : Bool) (j : ℕ) → j < 8 → get_or (closed_into (fresh q) t (held e)).own j 0 ≡ cond t 0 (get_or (held e) j 0)
      owns t j l = closed-own (fresh q) (held e) t j l ∙ omega (arith, fresh-own j l)

      covers : (t : Bool) (j : ℕ) → j < 8 → get_or (closed_into (fresh q) t (held e)).covered j 0 ≡ cond t (get_or (held e) j 0) 0
      covers t j l = closed-covered (fresh q) (held e) t j l ∙ omega (arith, fresh-covered j l)

      by-full : (t : Bool) → full_entry k e ≡ t → (smallest : Bool) →
          cond smallest (full_entry k (closed_into (fresh q) t (held e)) && eqb (get_or (closed_into (fresh q) t (held e)).covered 0 0) 0)
          (each_some k (closed_into (fresh q) t (held e)).own) ≡ false
      by-full true f true =
          and_false-right (full_entry k (closed_into (fresh q) true (held e))) _
          (ne_eqb _ 0 (λ (z : get_or (closed_into (fresh q) true (held e)).covered 0 0 ≡ 0). omega (arith, covers true 0 (omega arith), each-some-at k (held e) f 0 some)))
      by-full false f true = and_false-left _ (eqb (get_or (closed_into (fresh q) false (held e)).covered 0 0) 0) (raised-full false ∙ f)
      by-full true f false = bool_false _ (λ z. omega (arith, owns true 0 (omega arith), each-some-at k (closed_into (fresh q) true (held e)).own z 0 some))
      by-full false f false = each-some_ext k _ (held e) (λ j l. owns false j (omega arith)) ∙ f
