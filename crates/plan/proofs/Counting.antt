-- The loop of the pass: table and total go on over the mentions that are left.
--   Counting, counting-*   the loop
--   gathers_any            what it leaves does not depend on what the slots held
-- Letters: T text, Q query, m how many slots there are, w slots, L last nodes, h hashes, p b passes, d mention. Assumes nothing.
use Prim.Native.Nat.{ℕ, suc, ◌+◌, ◌≤◌, ◌<◌}
use mathlib.Core.Path.{◌≡◌, refl, sym, ap, ap₂, subst, ◌∙◌}
use mathlib.Core.List.{List, [], ◌∷◌}
use mathlib.Core.Bool.{Bool, true, false, cond, ◌&&◌}
use mathlib.Core.Option.{none, some}
use native.Mathlib.Omega.{arith}
use lib.ListN.{length, get_or, length-replicate, get_or-eq_default}
use Rattle.std.proofs.lemmas.List.{get_or-replicate}
use mathlib.Core.Logic.{⊎_elim}
use Rattle.seq.proofs.Laws.Numbers.{less_or}
use Rattle.std.specs.Prelude.{replicate, Option, None, Some, MatchOption}
use Rattle.seq.specs.Below.{sum_below}
use Rattle.seq.specs.Lists.{every_of}
use Rattle.seq.proofs.Laws.Bools.{and_right}
use Rattle.seq.proofs.Laws.Sums.{sum_ext, sum-add, sum-none}
use Rattle.profile.specs.Reader.{tree_of}
use Rattle.fnv.specs.Fnv.{hash_of}
use Rattle.probing.specs.Table.{then_fill, insert, fill}
use Rattle.words.specs.Places.{Mention, mention}
use Rattle.words.specs.Reading.{word_at}
use Rattle.words.specs.Scan.{mentions_in}
use Rattle.words.proofs.Mentions.{below}
use Rattle.mentions.specs.declared.Pass.{Pass}
use Rattle.mentions.specs.declared.Mention as lent
use Rattle.mentions.specs.Walk.{left, Next}
use Rattle.dictionary.specs.Slots.{places, Entered, table_of}
use Rattle.dictionary.proofs.Laws.{insert-enters, insert-fails, entered-long}
use Rattle.query.specs.Query.{Query, asked, word_count}
use Rattle.plan.specs.Lists.{places_of, word_table, lists_to}
use Rattle.plan.specs.Inner.{hits, bar, new_at, Tallied, Gathers, WordsPre}
use Rattle.plan.proofs.Texts.{TextKept, text-kept, lists_length, lists-small}
use Rattle.query.specs.Plain.{IsQuery}

-- What is still to be counted.
abbrev due : List ℕ → Query → List (Option ℕ) → List Mention → ℕ
due T Q L M = sum_below (word_count Q) λ j. length (hits T (asked Q j) (bar (get_or L j None)) M)

pub record Counting (T : List ℕ) (Q : Query) (m : ℕ) (w : List ℕ) (L : List (Option ℕ)) (p : Pass) (total : ℕ) : Type 0 where
  pub within : every_of (below (length (tree_of T))) (left T p) ≡ true
  pub long : length w ≡ m
  pub lasts : length L ≡ 8
  pub table : fill m hash_of (word_at T) (places_of (left T p)) w ≡ word_table T m
  pub count : total + due T Q L (left T p) ≡ length (lists_to T Q (word_count Q))

abbrev nothing : Option ℕ
nothing = None

none-at : (n j : ℕ) → get_or (replicate n nothing) j nothing ≡ nothing
none-at n j =
    ⊎_elim (λ (l : j < n). get_or-replicate n j nothing nothing l) (λ (l : n ≤ j). get_or-eq_default (replicate n nothing) nothing (omega (arith, length-replicate {A = Option ℕ} n nothing))) (less_or j n)

pub counting-start : (T : List ℕ) (Q : Query) (h : List ℕ) (L : List (Option ℕ)) (w : List ℕ) (p : Pass) → WordsPre T Q h L w → left T p ≡ mentions_in T → Counting T Q (length w) w L p 0
unfolding word_table table_of
counting-start T Q h L w p pre all =
    record {
      within = ap (every_of (below (length (tree_of T)))) all ∙ t.within;
      long = refl;
      lasts = ap length pre.lasts ∙ length-replicate {A = Option ℕ} 8 None;
      table = ap₂ (λ M v. fill (length w) hash_of (word_at T) (places_of M) v) all pre.free;
      count = ap (λ (x : ℕ). 0 + x) (sum_ext (word_count Q) _ _ (λ j l. ap₂ (λ u M. length (hits T (asked Q j) (bar u) M)) (first j) all)) ∙ omega (arith, lists_length T t Q (word_count Q));
    }
  where
    t : TextKept T
    t = text-kept T pre.pre.kept

    first : (j : ℕ) → get_or L j None ≡ None
    first j = ap (λ l. get_or l j None) pre.lasts ∙ none-at 8 j

-- One mention: its node, its place, and what follows.
module _ (T : List ℕ) (Q : Query) (m : ℕ) (w : List ℕ) (L : List (Option ℕ)) (p : Pass) (total : ℕ) (t : TextKept T) (s : Counting T Q m w L p total) where
  -- No mention is left.
  module _ (e : left T p ≡ []) where
    filled : word_table T m ≡ some w
    unfolding fill
    filled = sym s.table ∙ ap (λ M. fill m hash_of (word_at T) (places_of M) w) e

    pub counting-end : (w₀ : List ℕ) → length w₀ ≡ m → Gathers T Q w₀ (Some total) w
    counting-end w₀ l = record { long = s.long ∙ sym l; reply = (ap (word_table T) l ∙ filled, omega (arith, sym s.count, ap (due T Q L) e, none-due)) }
      where
        none-due : due T Q L [] ≡ 0
        none-due = unfold hits in sum-none (word_count Q) _ (λ j q. refl)

  module _ (d : lent.Mention) (b : Pass) (x : Next T p d b) where
    abbrev after : List Mention
    after = left T b

    inside : (below (length (tree_of T)) (mention d.node d.place) && every_of (below (length (tree_of T))) after) ≡ true
    unfolding every_of
    inside = sym (ap (every_of (below (length (tree_of T)))) x.more) ∙ s.within

    place-fits : d.place < places
    place-fits = omega (arith, x.within, t.short)

    in_order : fill m hash_of (word_at T) (d.place ∷ places_of after) w ≡ word_table T m
    in_order = sym (ap (λ M. fill m hash_of (word_at T) (places_of M) w) x.more) ∙ s.table

    -- The word does not fit.
    pub counting-full : (w₀ w' : List ℕ) → length w₀ ≡ m → Entered T d.place d.hash w false w' → Gathers T Q w₀ None w'
    unfolding fill
    counting-full w₀ w' l en =
        record {
          long = ap length en.table ∙ entered-long T d.place d.hash w ∙ s.long ∙ sym l;
          reply = ap (word_table T) l ∙ sym in_order ∙ ap (λ o. then_fill o (fill m hash_of (word_at T) (places_of after))) fails;
        }
      where
        fails : insert m hash_of (word_at T) d.place w ≡ none
        fails = ap (λ (z : ℕ). insert z hash_of (word_at T) d.place w) (sym s.long) ∙ insert-fails T d.place d.hash w place-fits x.own (sym en.reply)

    -- It does, and the query's words are counted.
    module _ (w' : List ℕ) (L' : List (Option ℕ)) (r : ℕ) (en : Entered T d.place d.hash w true w') (ta : Tallied T d Q L r L') where
      goes : insert m hash_of (word_at T) d.place w ≡ some w'
      goes =
          ap (λ (z : ℕ). insert z hash_of (word_at T) d.place w) (sym s.long) ∙
          insert-enters T d.place d.hash w place-fits x.own (sym en.reply) ∙ ap some (sym en.table)

      -- One word: new at this node or not.
      one : (j : ℕ) → j < word_count Q →
          length (hits T (asked Q j) (bar (get_or L j None)) (mention d.node d.place ∷ after)) ≡ cond (new_at T d Q L j) 1 0 + length (hits T (asked Q j) (bar (get_or L' j None)) after)
      unfolding hits
      one j l = by (new_at T d Q L j) (ta.each j l)
        where
          by : (z : Bool) → get_or L' j None ≡ cond z (Some d.node) (get_or L j None) →
              length (cond z (d.node ∷ hits T (asked Q j) (suc d.node) after) (hits T (asked Q j) (bar (get_or L j None)) after)) ≡ cond z 1 0 + length (hits T (asked Q j) (bar (get_or L' j None)) after)
          by true e = omega (arith, ap (λ u. length (hits T (asked Q j) (bar u) after)) e)
          by false e = omega (arith, ap (λ u. length (hits T (asked Q j) (bar u) after)) e)

      all : due T Q L (left T p) ≡ r + due T Q L' after
      all =
          ap (due T Q L) x.more ∙ sum_ext (word_count Q) _ _ one ∙
          sum-add (word_count Q) (λ j. cond (new_at T d Q L j) 1 0) (λ j. length (hits T (asked Q j) (bar (get_or L' j None)) after)) ∙
          ap (λ (z : ℕ). z + due T Q L' after) (sym ta.count)

      pub total-small : (q : IsQuery Q) → total + r ≤ 524288
      total-small q = omega (arith, s.count, all, lists-small T t Q (word_count Q), q.few)

      pub counting-step : Counting T Q m w' L' b (total + r)
      unfolding fill
      counting-step =
          record {
            within = and_right (below (length (tree_of T)) (mention d.node d.place)) _ inside;
            long = ap length en.table ∙ entered-long T d.place d.hash w ∙ s.long;
            lasts = ta.long;
            table = sym (ap (λ o. then_fill o (fill m hash_of (word_at T) (places_of after))) goes) ∙ in_order;
            count = omega (arith, s.count, all);
          }

      -- One mention less is left.
      pub fewer-left : length after < length (left T p)
      fewer-left = omega (arith, ap length x.more)

-- What the first pass leaves depends on how many slots there were, and not on what they held.
pub gathers_any : (T : List ℕ) (Q : Query) (w₁ w : List ℕ) (r : Option ℕ) (w' : List ℕ) → length w₁ ≡ length w → Gathers T Q w₁ r w' → Gathers T Q w r w'
gathers_any T Q w₁ w r w' l s =
    record {
      long = s.long ∙ l;
      reply = subst (λ (m : ℕ). MatchOption r (word_table T m ≡ none) (λ k. (word_table T m ≡ some w') × (k ≡ length (lists_to T Q (word_count Q))))) l s.reply;
    }
