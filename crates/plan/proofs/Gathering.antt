-- The first pass: one mention, and all of them.
--   new-is                   whether a word is new at a node, by the last node at which it stood
--   Tallying, tallying-*     the loop over the query's words, at one mention
-- Letters: T text, i place, v node, m mention, Q query, L last nodes, r how many are new, j word. Assumes nothing.
use Prim.Native.Nat.{ℕ, suc, zero-le, ◌+◌, ◌≤◌, ◌<◌}
use mathlib.Core.Path.{◌≡◌, refl, sym, ap, ap₂, ◌∙◌}
use mathlib.Core.Logic.{◌⊎◌, ⊎_elim}
use mathlib.Core.List.{List, map}
use mathlib.Core.Bool.{Bool, true, false, not, cond, ◌&&◌}
use native.Mathlib.Nat.{not-suc-le-zero, eq-or-lt_of_le}
use native.Mathlib.Omega.{arith}
use lib.Dec.{eqb}
use lib.ListN.{length, get_or, set, length-set}
use Rattle.std.specs.Prelude.{Option, None, Some}
use Rattle.std.specs.Option.{option_eq}
use lib.Seq.{get_or-set_same, get_or-set_other}
use borrow.Author.Tests.{eq-eqb, ne_eqb, eqb-true, eqb-false}
use Rattle.seq.specs.Below.{sum_below}
use Rattle.seq.specs.Lists.{same_list}
use Rattle.seq.proofs.Laws.Bools.{bool_cases, and_false-left, and_false-right}
use Rattle.seq.proofs.Laws.Sums.{sum-zero, sum-suc}
use Rattle.index.specs.Index.{word_list}
use Rattle.fnv.specs.Fnv.{hash_of}
use Rattle.words.specs.Runs.{Word, lower}
use Rattle.words.specs.Reading.{word_at}
use Rattle.query.specs.Query.{Query, asked, word_count}
use Rattle.mentions.specs.declared.Mention.{Mention}
use Rattle.plan.specs.Inner.{is_new, bar, new_at, Tallied}
use Rattle.query.specs.Plain.{IsQuery}
use Rattle.query.proofs.Hashing.{asked_is, asked-other}

-- ---- a word at a mention
eqb-suc : (u v : ℕ) → eqb (suc u) (suc v) ≡ eqb u v
eqb-suc u v =
    ⊎_elim
    (λ e. let same : u ≡ v = eqb-true u v e in eq-eqb (suc u) (suc v) (ap suc same) ∙ sym e)
    (λ e. ne_eqb (suc u) (suc v) (λ z. eqb-false u v e (omega arith)) ∙ sym e)
    (bool_cases (eqb u v))

-- It is new where the last node at which it stood is another, and it stands there.
new-is : (T : List ℕ) (i : ℕ) (q : Word) (v : ℕ) (u : Option ℕ) → is_new T i q v (bar u) ≡ (not (option_eq eqb u (Some v)) && same_list q (word_at T i))
unfolding is_new
new-is T i q v None = ap (λ z. not z && same_list q (word_at T i)) (ne_eqb 0 (suc v) (λ e. omega arith))
new-is T i q v (Some u) = ap (λ z. not z && same_list q (word_at T i)) (eqb-suc u v)

-- ---- tally
pub record Tallying (T : List ℕ) (m : Mention) (Q : Query) (L₀ L : List (Option ℕ)) (r j : ℕ) : Type 0 where
  pub within : j ≤ word_count Q
  pub long : length L ≡ 8
  pub count : r ≡ sum_below j (λ y. cond (new_at T m Q L₀ y) 1 0)
  pub small : r ≤ j
  pub done : (y : ℕ) → y < j → get_or L y None ≡ cond (new_at T m Q L₀ y) (Some m.node) (get_or L₀ y None)
  pub rest : (y : ℕ) → j ≤ y → get_or L y None ≡ get_or L₀ y None

pub tallying_start : (T : List ℕ) (m : Mention) (Q : Query) (L : List (Option ℕ)) → length L ≡ 8 → Tallying T m Q L L 0 0
tallying_start T m Q L e =
    record { within = zero-le; long = e; count = sym (sum-zero _); small = zero-le; done = λ y l. absurd (not-suc-le-zero l); rest = λ y l. refl }

module _ (T : List ℕ) (m : Mention) (Q : Query) (L₀ L : List (Option ℕ)) (r j : ℕ) (q : IsQuery Q) (s : Tallying T m Q L₀ L r j) (l : j < word_count Q) where
  pub last_fits : j < length L
  last_fits = omega (arith, q.few, s.long)

  split : (y : ℕ) → y < j + 1 → (y ≡ j) ⊎ (y < j)
  split y k = eq-or-lt_of_le (omega arith)

  one : (b : Bool) → new_at T m Q L₀ j ≡ b → sum_below (j + 1) (λ y. cond (new_at T m Q L₀ y) 1 0) ≡ r + cond b 1 0
  one b p =
      let next : suc j ≡ j + 1 = omega arith in
      ap (λ (z : ℕ). sum_below z (λ y. cond (new_at T m Q L₀ y) 1 0)) (sym next) ∙ sum-suc j (λ y. cond (new_at T m Q L₀ y) 1 0) ∙
      ap₂ (λ (x : ℕ) z. x + cond z 1 0) (sym s.count) p

  tallying_new : new_at T m Q L₀ j ≡ true → Tallying T m Q L₀ (set L j (Some m.node)) (r + 1) (j + 1)
  tallying_new p =
      record {
        within = omega arith;
        long = length-set L j (Some m.node) ∙ s.long;
        count = sym (one true p);
        small = omega (arith, s.small);
        done = λ y k. ⊎_elim
            (λ (z : y ≡ j). ap (λ (x : ℕ). get_or (set L j (Some m.node)) x None) z ∙ get_or-set_same L j (Some m.node) None last_fits ∙
            sym (ap (λ (x : ℕ). cond (new_at T m Q L₀ x) (Some m.node) (get_or L₀ x None)) z ∙ ap (λ b. cond b (Some m.node) (get_or L₀ j None)) p))
            (λ (z : y < j). get_or-set_other L j y (Some m.node) None (λ x. omega arith) ∙ s.done y z)
            (split y k);
        rest = λ y k. get_or-set_other L j y (Some m.node) None (λ x. omega arith) ∙ s.rest y (omega arith);
      }

  tallying_old : new_at T m Q L₀ j ≡ false → Tallying T m Q L₀ L r (j + 1)
  tallying_old p =
      record {
        within = omega arith;
        long = s.long;
        count = let none : r ≡ r + 0 = omega arith in none ∙ sym (one false p);
        small = omega (arith, s.small);
        done = λ y k. ⊎_elim
            (λ (z : y ≡ j). ap (λ (x : ℕ). get_or L x None) z ∙ s.rest j (omega arith) ∙
            sym (ap (λ (x : ℕ). cond (new_at T m Q L₀ x) (Some m.node) (get_or L₀ x None)) z ∙ ap (λ b. cond b (Some m.node) (get_or L₀ j None)) p))
            (λ (z : y < j). s.done y z)
            (split y k);
        rest = λ y k. s.rest y (omega arith);
      }

  -- Whether the word was last seen at another node, or nowhere: b.
  module _ (b : Bool) (other : b ≡ not (option_eq eqb (get_or L j None) (Some m.node))) where
    here : new_at T m Q L₀ j ≡ (b && same_list (asked Q j) (word_at T m.place))
    here =
        new-is T m.place (asked Q j) m.node (get_or L₀ j None) ∙
        ap (λ u. not (option_eq eqb u (Some m.node)) && same_list (asked Q j) (word_at T m.place)) (sym (s.rest j (omega arith))) ∙
        ap (λ z. z && same_list (asked Q j) (word_at T m.place)) (sym other)

    pub tallying-seen : b ≡ false → Tallying T m Q L₀ L r (j + 1)
    tallying-seen e = tallying_old (here ∙ and_false-left _ _ e)

    -- It was, and is asked for: x says what came of it.
    module _ (e : b ≡ true) (h : ℕ) (own : m.hash ≡ hash_of (word_at T m.place)) (hash : h ≡ hash_of (asked Q j))
        (w : Word) (is : w ≡ word_list Q.ends Q.words j) (x : Bool) (said : x ≡ (eqb m.hash h && same_list (map lower w) (word_at T m.place))) where
      stands : x ≡ same_list (asked Q j) (word_at T m.place)
      unfolding asked
      stands = said ∙ ap (λ w. eqb m.hash h && same_list (map lower w) (word_at T m.place)) is ∙ asked_is T m.place m.hash (asked Q j) h own hash

      says : new_at T m Q L₀ j ≡ x
      says = here ∙ ap (λ z. z && same_list (asked Q j) (word_at T m.place)) e ∙ sym stands

      pub tallying-hit : x ≡ true → Tallying T m Q L₀ (set L j (Some m.node)) (r + 1) (j + 1)
      tallying-hit y = tallying_new (says ∙ y)

      pub tallying-not : x ≡ false → Tallying T m Q L₀ L r (j + 1)
      tallying-not y = tallying_old (says ∙ y)

  -- Words of two hashes are two.
  pub tallying-other : (h : ℕ) → m.hash ≡ hash_of (word_at T m.place) → h ≡ hash_of (asked Q j) → (m.hash ≡ h → ⊥) → Tallying T m Q L₀ L r (j + 1)
  tallying-other h own hash ne =
      let seen : Bool = not (option_eq eqb (get_or L j None) (Some m.node)) in
      tallying_old (here seen refl ∙ and_false-right seen _ (asked-other T m.place m.hash (asked Q j) h own hash ne))

pub tallying_end : (T : List ℕ) (m : Mention) (Q : Query) (L₀ L : List (Option ℕ)) (r j : ℕ) → Tallying T m Q L₀ L r j → word_count Q ≤ j → Tallied T m Q L₀ r L
tallying_end T m Q L₀ L r j s l =
    let all : j ≡ word_count Q = omega (arith, s.within) in
    record { long = s.long; count = s.count ∙ ap (λ (z : ℕ). sum_below z (λ y. cond (new_at T m Q L₀ y) 1 0)) all; each = λ y k. s.done y (omega arith) }
