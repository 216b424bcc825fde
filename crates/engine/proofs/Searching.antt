-- From the parts of a search to the whole: two passes, the zeroing of the stack, and what is replied without them.
--   product_small       a product of answers and words fits
--   count-pre, counted-fits, write-pre, listed-all, listed-none   the listing
--   clean-of, list-pre   what the reply of the checks shows
--   answering-refused, answering-listed   the answers, or why there are none
--   wide-of, searched-zeroed, searched-size   a search
-- Letters: J job; I index, b whether the smallest are listed; ys, o, w stack, out and own as lent, with 1 to 3 after the first pass or the listing, the second pass, and the zeroing; m answers, k words, f test; r reply. Assumes nothing.
use Prim.Native.Nat.{ℕ, ◌*◌, ◌≤◌}
use mathlib.Core.Path.{◌≡◌, refl, sym, ap, ap₂, ◌∙◌}
use mathlib.Core.Logic.{⊎_elim}
use mathlib.Core.List.{List}
use mathlib.Core.Bool.{Bool, true, false, not, cond, ◌&&◌, ◌||◌, false≢true}
use native.Mathlib.Nat.{mul-le-mul_right}
use native.Mathlib.Omega.{arith}
use lib.Dec.{eqb, leb}
use borrow.Author.Tests.{leb-true, eq-eqb}
use lib.ListN.{length}
use Rattle.seq.specs.Memory.{over}
use Rattle.seq.proofs.Laws.Bools.{bool_cases, bool-not_both, cond-true, cond-false, and_left, and_right, or_cases}
use Rattle.seq.proofs.Laws.Gather.{listed_le}
use Rattle.tree.proofs.Laws.Rules.{lawful-of}
use Rattle.index.specs.declared.Reply.{Reply}
use Rattle.index.specs.Index.{Index}
use Rattle.index.specs.Replies.{accepted, SIZE, ROOM, totalled, kept_or}
use Rattle.index.proofs.Laws.Lists.{words-kept}
use Rattle.index.proofs.Laws.Replies.{kept-accepted, kept-refused}
use Rattle.answers.specs.Searches.{out_of, own_of, roomed, out_fits, own_fits}
use Rattle.engine.specs.declared.Entry.{Entry}
use Rattle.engine.specs.declared.steps.Tally.TheVariants.{Counted, Left}
use Rattle.depot.specs.Depot.{depot, depot_size_ok, depot_checked}
use Rattle.depot.specs.Plain.{DepotSized}
use Rattle.depot.proofs.Laws.Checks.{refused-size, sized_any, sized_of, sized-words, sized-yes, Clean, Stopped, clean-reply, clean_or_stopped}
use Rattle.engine.specs.Search.{blanked, stack_after, is_listed, Searched}
use Rattle.engine.specs.Inner.Entries.{fresh}
use Rattle.engine.specs.Inner.Going.{Job, nodes_of, words_of, is_answer, answers_of, total, own_rows, Sound}
use Rattle.engine.specs.Inner.Passes.{job, PassPre, Passed, FitsPre, fitting, ListPre, Listed, Answering}
use Rattle.engine.proofs.Laws.Going.{sound-of}
use Rattle.engine.proofs.Blanks.{blanked-same}
use Rattle.engine.proofs.Listing.{answers-same, total-same, own_same, fits-same}

-- A choice between the same.
cond_same : {A : Type 0} (b : Bool) (x : A) → cond b x x ≡ x
cond_same true x = refl
cond_same false x = refl

pub product_small : (m k : ℕ) → FitsPre m k → m * k ≤ 524288
product_small m k h = omega (arith, h.words, mul-le-mul_right {m = m} {n = 65536} k h.answers)

-- ---- the listing
module _ (J : Job) (b : Bool) (ys : List Entry) (o w : List ℕ) (pre : ListPre J ys) where
  pub count-pre : PassPre J ys o w b (Counted 0)
  count-pre = record {
    sound = pre.sound;
    wide = pre.wide;
    counts = λ _. refl;
    left = λ e. absurd (false≢true e);
    out = λ e. absurd (false≢true e);
    own = λ e. absurd (false≢true e);
  }

  module _ (m : ℕ) (ys₁ : List Entry) (o₁ w₁ : List ℕ) (one : Passed J ys o w b (Counted 0) m ys₁ o₁ w₁) where
    counted : (m ≡ total J b) × (o₁ ≡ o) × (w₁ ≡ w)
    counted = one.counts refl

    pub counted-fits : FitsPre m (words_of J)
    counted-fits = record { answers = omega (arith, counted.0, listed_le (nodes_of J) (is_answer J b), pre.sound.few); words = pre.sound.few_words }

    -- There is room for what was counted, or there is none.
    module _ (f : Bool) (f-is : f ≡ fitting b m (words_of J) (length o₁) (length w₁)) where
      fits-is : f ≡ fitting b (total J b) (words_of J) (length o) (length w)
      fits-is = rw (← counted.0, ← counted.1, ← counted.2) f-is

      replied : (x : ℕ) → x ≡ cond f accepted ROOM → totalled x m ≡ totalled (cond (fitting b (total J b) (words_of J) (length o) (length w)) accepted ROOM) (total J b)
      replied x e = ap₂ totalled (e ∙ ap (λ (z : Bool). cond z accepted ROOM) fits-is) counted.0

      module _ (yes : f ≡ true) where
        fitted : fitting b m (words_of J) (length o₁) (length w₁) ≡ true
        fitted = sym f-is ∙ yes

        own-room : b ≡ false → leb (m * words_of J) (length w₁) ≡ true
        own-room e =
            ⊎_elim (λ z. absurd (bool-not_both b z e)) (λ z. z) (or_cases b (leb (m * words_of J) (length w₁)) (and_right (leb m (length o₁)) _ fitted))

        pub write-pre : PassPre J ys₁ o₁ w₁ b (Left m)
        write-pre = record {
          sound = pre.sound;
          wide = omega (arith, one.long, pre.wide);
          counts = λ e. absurd (false≢true (sym e));
          left = λ _. counted.0;
          out = λ _. omega (arith, counted.0, leb-true m (length o₁) (and_left _ _ fitted));
          own = λ _ e. omega (arith, ap (λ (z : ℕ). z * words_of J) counted.0, leb-true (m * words_of J) (length w₁) (own-room e));
        }

        pub listed-all : (x m₂ : ℕ) → x ≡ accepted → (ys₂ : List Entry) (o₂ w₂ : List ℕ) → Passed J ys₁ o₁ w₁ b (Left m) m₂ ys₂ o₂ w₂ → Listed J b ys o w (totalled x m) ys₂ o₂ w₂
        listed-all x m₂ e ys₂ o₂ w₂ two = record {
          reply = replied x (e ∙ sym (cond-true {A = ℕ} f yes accepted ROOM));
          long = two.long ∙ one.long;
          rest = λ i l. two.rest i l ∙ one.rest i l;
          out = two.out refl ∙ ap (over (answers_of J b)) counted.1 ∙ sym (kept-accepted (totalled x m) (answers_of J b) o e);
          own = ⊎_elim
              (λ z. two.no_own refl z ∙ counted.2 ∙ sym (cond-true b z w _))
              (λ z. two.own refl z ∙ ap (over (own_rows J b)) counted.2 ∙ sym (cond-false b z w _ ∙ kept-accepted (totalled x m) (own_rows J b) w e))
              (bool_cases b);
        }

      pub listed-none : f ≡ false → (x : ℕ) → x ≡ ROOM → Listed J b ys o w (totalled x m) ys₁ o₁ w₁
      listed-none off x e = record {
        reply = replied x (e ∙ sym (cond-false {A = ℕ} f off accepted ROOM));
        long = one.long;
        rest = one.rest;
        out = counted.1 ∙ sym (kept-refused (totalled x m) (answers_of J b) o none);
        own = counted.2 ∙ sym (ap (cond b w) (kept-refused (totalled x m) (own_rows J b) w none) ∙ cond_same b w);
      }
        where
          none : x ≡ accepted → ⊥
          none y = omega arith

-- ---- a search
-- An index that passes the checks is one that the engine takes.
clean-sound : (p t : List ℕ) (a q : ℕ) (ends occ : List ℕ) (s : ℕ) → Clean (depot p t a q ends occ) s → Sound (job p ends occ)
clean-sound p t a q ends occ s c =
    let z : DepotSized (depot p t a q ends occ) s = sized_of (depot p t a q ends occ) s c.size in
    let n : length ends ≡ a = sized-words (depot p t a q ends occ) s z in
    sound-of (job p ends occ) t (lawful-of p t c.tree) z.some_nodes z.few_nodes (omega (arith, n, z.some_positive)) (omega (arith, n, z.few_positive))
    (words-kept (length p) ends occ (omega (arith, z.ended, c.lists)))

module _ (p t : List ℕ) (a q : ℕ) (ends occ : List ℕ) (b : Bool) (ys : List Entry) (o w : List ℕ) (r : Reply) (r-is : r ≡ depot_checked (depot p t a q ends occ) (length ys) (totalled accepted 0)) where
  abbrev I : Index
  I = depot p t a q ends occ

  abbrev J : Job
  J = job p ends occ

  -- The test for the nodes that are listed.
  abbrev f : ℕ → Bool
  f = is_listed I b

  -- ---- what the reply of the checks shows
  clean-of : r.refusal ≡ accepted → Clean I (length ys)
  clean-of e =
      ⊎_elim (λ c. c) (λ z. absurd (z.refuses (sym (ap (λ (x : Reply). x.refusal) (r-is ∙ z.reply (totalled accepted 0))) ∙ e))) (clean_or_stopped I (length ys))

  stopped-of : (r.refusal ≡ accepted → ⊥) → Stopped I (length ys)
  stopped-of ne =
      ⊎_elim (λ c. absurd (ne (ap (λ (x : Reply). x.refusal) (r-is ∙ clean-reply I (length ys) (totalled accepted 0) c)))) (λ z. z) (clean_or_stopped I (length ys))

  -- Another reply stands only where no refusal comes before the search.
  reply-stopped : (x : Reply) → (r.refusal ≡ accepted → ⊥) → r ≡ depot_checked I (length ys) x
  reply-stopped x ne =
      let z : Stopped I (length ys) = stopped-of ne in
      r-is ∙ z.reply (totalled accepted 0) ∙ sym (z.reply x)

  pub list-pre : r.refusal ≡ accepted → ListPre J ys
  list-pre e = record { sound = clean-sound p t a q ends occ (length ys) (clean-of e); wide = (sized_of I (length ys) (clean-of e).size).stacked }

  pub answering-refused : (r.refusal ≡ accepted → ⊥) → Answering I b ys o w r ys o w
  answering-refused ne = record {
    reply = reply-stopped _ ne;
    long = refl;
    rest = λ i l. refl;
    kept = λ e. refl;
    out = sym (kept-refused r (out_of I f) o ne);
    own = sym (ap (cond b w) (kept-refused r (own_of I f) w ne) ∙ cond_same b w);
  }

  module _ (yes : r.refusal ≡ accepted) (r₁ : Reply) (ys₁ : List Entry) (o₁ w₁ : List ℕ) (d : Listed J b ys o w r₁ ys₁ o₁ w₁) where
    c : Clean I (length ys)
    c = clean-of yes

    ended-all : length ends ≡ a
    ended-all = sized-words I (length ys) (sized_of I (length ys) c.size)

    reply-clean : r₁ ≡ depot_checked I (length ys) (roomed I f (out_fits I f o && (b || own_fits I f w)))
    unfolding roomed
    reply-clean =
        d.reply ∙ ap₂ (λ (x : Bool) (m : ℕ). totalled (cond x accepted ROOM) m) (fits-same p t a q ends occ ended-all b (total J b) refl o w) (total-same p t a q ends occ ended-all b)
        ∙ sym (clean-reply I (length ys) _ c)

    never_size : r₁.refusal ≡ SIZE → ⊥
    never_size e =
        let x : cond (fitting b (total J b) (words_of J) (length o) (length w)) accepted ROOM ≡ SIZE = sym (ap (λ (z : Reply). z.refusal) d.reply) ∙ e in
        by (fitting b (total J b) (words_of J) (length o) (length w)) x
      where
        by : (z : Bool) → cond z accepted ROOM ≡ SIZE → ⊥
        by true q = omega (arith, q)
        by false q = omega (arith, q)

    pub answering-listed : Answering I b ys o w r₁ ys₁ o₁ w₁
    answering-listed = record {
      reply = reply-clean;
      long = d.long;
      rest = d.rest;
      kept = λ e. absurd (never_size e);
      out = d.out ∙ ap (λ (z : List ℕ). kept_or r₁ z o) (answers-same p t a q ends occ ended-all b);
      own = d.own ∙ ap (λ (z : List ℕ). cond b w (kept_or r₁ z w)) (own_same p t a q ends occ ended-all b);
    }

-- ---- the zeroing of the stack, which every reply but SIZE ends with
module _ (p t : List ℕ) (a q : ℕ) (ends occ : List ℕ) (b : Bool) (ys : List Entry) (o w : List ℕ) (r : Reply) (ys₁ : List Entry) (o₁ w₁ : List ℕ)
    (s : Answering (depot p t a q ends occ) b ys o w r ys₁ o₁ w₁) where
  abbrev I₁ : Index
  I₁ = depot p t a q ends occ

  -- What a search itself replies is no SIZE.
  other : (z : Bool) → (roomed I₁ (is_listed I₁ b) z).refusal ≡ SIZE → ⊥
  unfolding roomed
  other true q = omega (arith, q)
  other false q = omega (arith, q)

  whole : (ys₃ : List Entry) → ys₃ ≡ stack_after I₁ ys → Searched I₁ b ys o w r ys₃ o₁ w₁
  whole ys₃ e = record { reply = s.reply; stack = e; out = s.out; own = s.own }

  sized : (r.refusal ≡ SIZE → ⊥) → DepotSized I₁ (length ys)
  sized ne = sized_any I₁ (length ys) _ (λ e. ne (ap (λ (x : Reply). x.refusal) s.reply ∙ e))

  pub wide-of : (r.refusal ≡ SIZE → ⊥) → 64 ≤ length ys₁
  wide-of ne = omega (arith, s.long, (sized ne).stacked)

  pub searched-zeroed : (r.refusal ≡ SIZE → ⊥) → (ys₃ : List Entry) → ys₃ ≡ blanked 64 ys₁ → Searched I₁ b ys o w r ys₃ o₁ w₁
  unfolding stack_after
  searched-zeroed ne ys₃ e =
      whole ys₃ (e ∙ blanked-same 64 ys ys₁ (fresh 0) (sized ne).stacked s.long s.rest ∙ sym (cond-true _ (sized-yes I₁ (length ys) (sized ne)) (blanked 64 ys) ys))

  pub searched-size : r.refusal ≡ SIZE → Searched I₁ b ys o w r ys₁ o₁ w₁
  unfolding stack_after
  searched-size e = whole ys₁ (s.kept e ∙ sym (cond-false _ small (blanked 64 ys) ys))
    where
      small : depot_size_ok I₁ (length ys) ≡ false
      small =
          ⊎_elim (λ z. absurd (bool-not_both (eqb r.refusal SIZE) (eq-eqb r.refusal SIZE e) (ap (λ (x : Reply). eqb x.refusal SIZE) s.reply ∙ refused-size I₁ (length ys) _ (other _) ∙ ap not z)))
          (λ z. z) (bool_cases (depot_size_ok I₁ (length ys)))
