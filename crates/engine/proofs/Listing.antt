-- The answers of a job are those of the index that it is taken from, where there is no negative word. Assumes nothing.
--   answers-same, total-same, own_same   the answers, how many they are, and their own counts
--   fits-same            there is room for them by the one as by the other
-- Letters: p parents, t tags, a positive and q negative words, ends, occ as lent; b whether the smallest are listed; o, w out and own.
use Prim.Native.Nat.{ℕ, ◌*◌}
use mathlib.Core.Path.{◌≡◌, sym, ap, ap₂, ◌∙◌}
use mathlib.Core.List.{List}
use mathlib.Core.Bool.{Bool, true, false, ◌&&◌, ◌||◌}
use lib.Dec.{leb}
use lib.ListN.{length}
use Rattle.seq.specs.Below.{gather, listed, tabulate}
use Rattle.index.specs.Index.{Index, word_list}
use Rattle.answers.specs.Answers.{slca, elca, own_count}
use Rattle.answers.specs.Searches.{is_elca, is_slca, out_row, out_of, own_of, answers, out_fits, own_fits}
use Rattle.depot.specs.Depot.{depot}
use Rattle.engine.specs.Inner.Going.{Job, is_answer, answers_of, total, own_rows}
use Rattle.engine.specs.Search.{is_listed}
use Rattle.engine.specs.Inner.Passes.{job, fitting}
use Rattle.engine.proofs.Laws.Going.{length-rows}

module _ (p t : List ℕ) (a q : ℕ) (ends occ : List ℕ) where
  abbrev I : Index
  I = depot p t a q ends occ

  abbrev J : Job
  J = job p ends occ

  module _ (e : length ends ≡ a) where
    test_same : (b : Bool) → is_answer J b ≡ is_listed I b
    unfolding is_answer is_slca is_elca
    test_same true = ap (λ (k : ℕ). slca p k (word_list ends occ)) e
    test_same false = ap (λ (k : ℕ). elca p k (word_list ends occ)) e

    module _ (b : Bool) where
      pub answers-same : answers_of J b ≡ out_of I (is_listed I b)
      unfolding listed out_of
      answers-same = ap (λ (f : ℕ → Bool). gather (length p) f out_row) (test_same b)

      pub total-same : total J b ≡ answers I (is_listed I b)
      unfolding answers
      total-same = ap (λ (f : ℕ → Bool). length (listed (length p) f)) (test_same b)

      pub own_same : own_rows J b ≡ own_of I (is_listed I b)
      unfolding own_rows own_of
      own_same = ap₂ (λ (f : ℕ → Bool) (k : ℕ). gather (length p) f λ v. tabulate k (own_count p k (word_list ends occ) v)) (test_same b) e

      pub fits-same : (m : ℕ) → m ≡ total J b → (o w : List ℕ) →
          fitting b m (length ends) (length o) (length w) ≡ (out_fits I (is_listed I b) o && (b || own_fits I (is_listed I b) w))
      unfolding out_fits own_fits
      fits-same m h o w =
          ap₂ (λ (x y : ℕ). leb x (length o) && (b || leb y (length w))) (h ∙ ap length answers-same)
          (ap (λ (x : ℕ). x * length ends) h ∙ sym (length-rows J b) ∙ ap length own_same)
