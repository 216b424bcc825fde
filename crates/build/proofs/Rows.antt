-- One mention's flags: the loop over the query's words.
--   RowFlags, row-flags-*   the rows of the first j words are flagged, the later ones as they were
-- Letters: T text, m mention, Q query, n nodes, c₀ the counts before, c now, j word. Assumes nothing.
use Prim.Native.Nat.{ℕ, zero-le, ◌+◌, ◌*◌, ◌≤◌, ◌<◌}
use mathlib.Core.Path.{◌≡◌, refl, sym, ap, ap₂, ◌∙◌}
use mathlib.Core.Logic.{◌⊎◌, ⊎_elim}
use mathlib.Core.List.{List, map}
use mathlib.Core.Bool.{Bool, true, false, cond, ◌&&◌, and-false}
use native.Mathlib.Nat.{not-suc-le-zero, eq-or-lt_of_le, add-mul, one-mul, mul-le-mul_right}
use native.Mathlib.Omega.{arith}
use lib.Dec.{eqb}
use lib.ListN.{length, get_or, set, length-set}
use lib.Seq.{get_or-set_same, get_or-set_other}
use borrow.Author.Tests.{eqb-true, eqb-false}
use Rattle.seq.specs.Lists.{same_list}
use Rattle.seq.proofs.Laws.Bools.{bool_cases}
use Rattle.index.specs.Index.{word_list}
use Rattle.index.proofs.Laws.Cells.{cell_below}
use Rattle.fnv.specs.Fnv.{hash_of}
use Rattle.words.specs.Runs.{Word, lower}
use Rattle.words.specs.Reading.{word_at}
use Rattle.query.specs.Query.{Query, asked, word_count}
use Rattle.mentions.specs.declared.Mention.{Mention}
use Rattle.build.specs.Inner.{Flags}
use Rattle.query.specs.Plain.{IsQuery}
use Rattle.query.proofs.Hashing.{asked_is, asked-other}

abbrev hit : List ℕ → ℕ → Query → ℕ → Bool
hit T i Q j = same_list (asked Q j) (word_at T i)

pub record RowFlags (T : List ℕ) (m : Mention) (Q : Query) (n : ℕ) (c₀ c : List ℕ) (j : ℕ) : Type 0 where
  pub within : j ≤ word_count Q
  pub long : length c ≡ word_count Q * n
  pub done : (y u : ℕ) → y < j → u < n → get_or c (y * n + u) 0 ≡ cond (eqb m.node u && hit T m.place Q y) 1 (get_or c₀ (y * n + u) 0)
  pub rest : (e : ℕ) → j * n ≤ e → get_or c e 0 ≡ get_or c₀ e 0

pub row-flags-start : (T : List ℕ) (m : Mention) (Q : Query) (n : ℕ) (c : List ℕ) → length c ≡ word_count Q * n → RowFlags T m Q n c c 0
row-flags-start T m Q n c e = record { within = zero-le; long = e; done = λ y u l. absurd (not-suc-le-zero l); rest = λ e l. refl }

module _ (T : List ℕ) (m : Mention) (Q : Query) (n : ℕ) (c₀ c : List ℕ) (j : ℕ) (q : IsQuery Q) (s : RowFlags T m Q n c₀ c j) (l : j < word_count Q) (b : m.node < n) where
  abbrev v : ℕ
  v = m.node

  abbrev r : ℕ
  r = j * n

  pub flag-fits : j * n + m.node < length c
  flag-fits = omega (arith, cell_below (word_count Q) n j v l b, s.long)

  next_row : r + n ≡ (j + 1) * n
  next_row = omega (arith, add-mul j 1 n, one-mul n)

  split : (y : ℕ) → y < j + 1 → (y ≡ j) ⊎ (y < j)
  split y k = eq-or-lt_of_le (omega arith)

  row-flags-hit : hit T m.place Q j ≡ true → RowFlags T m Q n c₀ (set c (j * n + m.node) 1) (j + 1)
  row-flags-hit h =
      record {
        within = omega arith;
        long = length-set c (r + v) 1 ∙ s.long;
        done = λ y u k a. ⊎_elim (λ (z : y ≡ j). here y u a z) (λ (z : y < j). get_or-set_other c (r + v) (y * n + u) 1 0 (λ p. omega (arith, cell_below j n y u z a)) ∙ s.done y u z a) (split y k);
        rest = λ x k. get_or-set_other c (r + v) x 1 0 (λ p. omega (arith, next_row)) ∙ s.rest x (omega (arith, next_row));
      }
    where
      here : (y u : ℕ) → u < n → y ≡ j → get_or (set c (r + v) 1) (y * n + u) 0 ≡ cond (eqb v u && hit T m.place Q y) 1 (get_or c₀ (y * n + u) 0)
      here y₀ u a z =
          let place : y₀ * n + u ≡ r + u = ap (λ (x : ℕ). x * n + u) z in
          ⊎_elim
          (λ p. let w : v ≡ u = eqb-true v u p in
          ap (λ (x : ℕ). get_or (set c (r + v) 1) x 0) (place ∙ ap (λ (x : ℕ). r + x) (sym w)) ∙ get_or-set_same c (r + v) 1 0 flag-fits ∙
          sym (ap₂ (λ x y. cond (x && y) 1 (get_or c₀ (y₀ * n + u) 0)) p (ap (hit T m.place Q) z ∙ h)))
          (λ p. get_or-set_other c (r + v) (y₀ * n + u) 1 0 (λ x. eqb-false v u p (omega arith)) ∙ s.rest (y₀ * n + u) (omega arith) ∙
          sym (ap (λ x. cond (x && hit T m.place Q y₀) 1 (get_or c₀ (y₀ * n + u) 0)) p))
          (bool_cases (eqb v u))

  row-flags-not : hit T m.place Q j ≡ false → RowFlags T m Q n c₀ c (j + 1)
  row-flags-not h =
      record {
        within = omega arith;
        long = s.long;
        done = λ y u k a. ⊎_elim (λ (z : y ≡ j). s.rest (y * n + u) (omega (arith, ap (λ (x : ℕ). x * n) z)) ∙
            sym (ap (λ x. cond (eqb v u && x) 1 (get_or c₀ (y * n + u) 0)) (ap (hit T m.place Q) z ∙ h) ∙ ap (λ x. cond x 1 (get_or c₀ (y * n + u) 0)) (and-false (eqb v u)))) (λ (z : y < j). s.done y u z a) (split y k);
        rest = λ x k. s.rest x (omega (arith, next_row));
      }

  -- The word is asked for, by its hash h and its bytes w: x says what came of it.
  module _ (h : ℕ) (own : m.hash ≡ hash_of (word_at T m.place)) (hash : h ≡ hash_of (asked Q j))
      (w : Word) (is : w ≡ word_list Q.ends Q.words j) (x : Bool) (said : x ≡ (eqb m.hash h && same_list (map lower w) (word_at T m.place))) where
    stands : hit T m.place Q j ≡ x
    unfolding asked
    stands = sym (said ∙ ap (λ w. eqb m.hash h && same_list (map lower w) (word_at T m.place)) is ∙ asked_is T m.place m.hash (asked Q j) h own hash)

    pub row-flagged : x ≡ true → RowFlags T m Q n c₀ (set c (j * n + m.node) 1) (j + 1)
    row-flagged e = row-flags-hit (stands ∙ e)

    pub row-kept : x ≡ false → RowFlags T m Q n c₀ c (j + 1)
    row-kept e = row-flags-not (stands ∙ e)

  pub row-other : (h : ℕ) → m.hash ≡ hash_of (word_at T m.place) → h ≡ hash_of (asked Q j) → (m.hash ≡ h → ⊥) → RowFlags T m Q n c₀ c (j + 1)
  row-other h own hash ne = row-flags-not (asked-other T m.place m.hash (asked Q j) h own hash ne)

pub row-flags-end : (T : List ℕ) (m : Mention) (Q : Query) (n : ℕ) (c₀ c : List ℕ) (j : ℕ) → RowFlags T m Q n c₀ c j → word_count Q ≤ j → Flags T m Q n c₀ c
row-flags-end T m Q n c₀ c j s l = record { long = s.long; each = λ y u a b. s.done y u (omega (arith, s.within)) b }

-- No row begins too far on.
pub row_small : (T : List ℕ) (m : Mention) (Q : Query) (n : ℕ) (c₀ c : List ℕ) (j : ℕ) → IsQuery Q → RowFlags T m Q n c₀ c j → n ≤ 65536 → j * n ≤ 524288
row_small T m Q n c₀ c j q s l = omega (arith, mul-le-mul_right {m = j} {n = 8} n (omega (arith, s.within, q.few)))
