-- From call to call: the tops, the negators cleared, the words seen, the flags, the words seen cleared. Assumes nothing.
-- Letters: p parents, k words; m marks and g negators as lent; w tops, z words seen, f flags, as each call leaves them; v node, x occurrence, j word.
use Prim.Native.Nat.{ℕ, ◌<◌}
use mathlib.Core.Path.{◌≡◌, ap, ◌∙◌}
use mathlib.Core.List.{List}
use native.Mathlib.Omega.{arith}
use lib.Dec.{eqb}
use lib.ListN.{length, get_or, replicate}
use Rattle.seq.specs.Lists.{some_of}
use Rattle.seq.proofs.Laws.Lists.{some_of_ext}
use Rattle.index.specs.Index.{word_list}
use Rattle.valid.specs.Inner.Tops.{top_by, Pointed, points, SeeWordsPre, SawWords, flag_here, Settled, kept_flag, KeepPre, Kept}
use Rattle.valid.proofs.Reached.{reached_ext}

module _ (p : List ℕ) (k : ℕ) (ends occ m g : List ℕ) (pre : KeepPre p k ends occ m g) (w : List ℕ) (m₁ : Pointed p g m w) where
  pub keep-words-pre : (c : List ℕ) → c ≡ replicate (length g) 0 → SeeWordsPre k ends occ w c
  keep-words-pre c e = record {
    few_words = pre.few_words;
    ended = pre.ended;
    words = λ j l. rw m₁.long (pre.words j l);
    unseen = rw (m₁.long, ← pre.shut) e;
  }

  module _ (z : List ℕ) (m₂ : SawWords k ends occ w z) (f : List ℕ) (m₃ : Settled k z f) where
    -- The words that point to a node.
    pointed : (v j : ℕ) → j < k → points w ends occ v j ≡ some_of (λ x. eqb (top_by p m g x) v) (word_list ends occ j)
    pointed v j l = some_of_ext _ _ (length p) (word_list ends occ j) (pre.words j l).list.below (λ x h. ap (λ (y : ℕ). eqb y v) (m₁.holds x h))

    flag_at_lem : (v : ℕ) → v < length p → get_or f v 0 ≡ kept_flag p k ends occ m g v
    unfolding kept_flag
    flag_at_lem v l =
        m₃.holds v (omega (arith, m₂.long, m₁.long)) ∙ ap (λ (y : ℕ). flag_here y k) (m₂.seen v (omega (arith, m₁.long)) ∙ reached_ext _ _ k (pointed v))

    pub keep-kept : (c : List ℕ) → c ≡ replicate (length z) 0 → Kept p k ends occ m g f c
    keep-kept c e = record {
      long = m₃.long ∙ m₂.long ∙ m₁.long;
      flags = flag_at_lem;
      zeros = e ∙ ap (λ (y : ℕ). replicate y 0) (m₂.long ∙ m₁.long);
    }
