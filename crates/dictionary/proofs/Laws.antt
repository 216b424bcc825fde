-- Laws of the table of the words of a text.
--   find_unique, lookup_unique, enter_unique    no second outcome fits `find`, `lookup`, `enter`
--   stop-slot, stop_le        a search from the word's own hash on is that of `probing`, and comes to a slot or to their number
--   insert-enters, -fails     so, with the word's own hash, `enter` is the insertion of `probing`
--   enter-last, enter-full, enter-held, enter-free   the exits of `enter`;  started, no_slots, stopped, missed: the start and the exits of `probe`;  stop-or: the reply of `find`
-- Letters as in specs/Slots. Assumes nothing.
use Prim.Native.Nat.{ℕ, suc, ◌+◌, ◌≤◌, ◌<◌, ◌%◌}
use native.Mathlib.Nat.{mod-lt}
use mathlib.Core.Path.{◌≡◌, refl, sym, ap, ap₂, subst, ◌∙◌}
use mathlib.Core.Logic.{⊎_elim}
use mathlib.Core.List.{List}
use mathlib.Core.Bool.{Bool, true, false, cond, ◌&&◌}
use mathlib.Core.Option.{none, some}
use native.Mathlib.Omega.{arith}
use lib.Dec.{eqb, ltb}
use lib.ListN.{length, get_or, set, length-set}
use borrow.Author.Tests.{lt-ltb, le-ltb, eq-eqb, ne_eqb, eqb-true, eqb-false, ltb-true, ltb-false}
use Rattle.seq.proofs.Laws.Bools.{bool_cases, and_both, and_right, and_false-left, and_false-right}
use Rattle.fnv.specs.Fnv.{hash_of}
use Rattle.probing.specs.Table.{slot_of, insert}
use Rattle.probing.proofs.Laws.Table.{insert-held, insert-free, insert-full}
use Rattle.probing.specs.Table.{passes}
use Rattle.probing.proofs.Laws.Around.{around_le}
use Rattle.probing.proofs.Walk.{Walk, walk_start, walk-slot, walk-stop, walk_end, walk_none}
use Rattle.words.specs.Runs.{Word}
use Rattle.words.specs.Reading.{word_at}
use Rattle.dictionary.specs.Slots.{stop_from, stop_of, places, enters, entered, Entered}
use Rattle.dictionary.specs.Inner.{Stops}
use Rattle.std.specs.Prelude.{Option, None, Some}
use Rattle.std.specs.Option.{unwrap_or}

-- ---- searches
module _ (T : List ℕ) (q : Word) (w : List ℕ) where
  pub stop-slot : (h : ℕ) → h ≡ hash_of q → stop_from T q h w ≡ slot_of (length w) hash_of (word_at T) q w
  unfolding stop_from
  stop-slot h e = walk-slot (word_at T) (length w) hash_of w q h e

  pub stop-of : stop_of T q w ≡ slot_of (length w) hash_of (word_at T) q w
  unfolding stop_of
  stop-of = stop-slot (hash_of q) refl

  pub stop_le : (h : ℕ) → stop_from T q h w ≤ length w
  unfolding stop_from
  stop_le h = around_le (length w) (h % length w) (λ i. passes (word_at T) q (get_or w i 0)) (λ l. mod-lt h l)

-- ---- the exits of `enter`
module _ (T : List ℕ) (k h : ℕ) (w : List ℕ) where
  stays : (r : Bool) → r ≡ enters T k h w → (enters T k h w && eqb (get_or w (stop_from T (word_at T k) h w) 0) 0) ≡ false → Entered T k h w r w
  stays r e f = record { reply = e; table = unfold entered in sym (ap (λ z. cond z (set w (stop_from T (word_at T k) h w) (suc k)) w) f) }

  none-enters : enters T k h w ≡ false → Entered T k h w false w
  none-enters e = stays false (sym e) (and_false-left _ _ e)

  pub enter-last : places ≤ k → Entered T k h w false w
  enter-last l = none-enters (unfold enters in and_false-left _ _ (le-ltb k places l))

  module _ (l : k < places) where
    pub enter-full : stop_from T (word_at T k) h w ≡ length w → Entered T k h w false w
    enter-full e = none-enters (unfold enters in and_false-right (ltb k places) _ (le-ltb (stop_from T (word_at T k) h w) (length w) (omega (arith, e))))

    -- The search stops at the slot s.
    module _ (s : ℕ) (stops : (s < length w) × (s ≡ stop_from T (word_at T k) h w)) where
      at : s ≡ stop_from T (word_at T k) h w
      at = stops.1

      yes : enters T k h w ≡ true
      unfolding enters
      yes = and_both _ _ (lt-ltb k places l) (lt-ltb (stop_from T (word_at T k) h w) (length w) (omega (arith, at, stops.0)))

      pub enter-held : (get_or w s 0 ≡ 0 → ⊥) → Entered T k h w true w
      enter-held f = stays true (sym yes) (and_false-right (enters T k h w) _ (ap (λ (z : ℕ). eqb (get_or w z 0) 0) (sym at) ∙ ne_eqb (get_or w s 0) 0 f))

      pub enter-free : get_or w s 0 ≡ 0 → Entered T k h w true (set w s (k + 1))
      enter-free f =
          record {
            reply = sym yes;
            table = unfold entered in ap₂ (set w) at up ∙ sym (ap (λ z. cond z (set w (stop_from T (word_at T k) h w) (suc k)) w)
                (and_both _ _ yes (ap (λ (z : ℕ). eqb (get_or w z 0) 0) (sym at) ∙ eq-eqb (get_or w s 0) 0 f)));
          }
        where
          up : k + 1 ≡ suc k
          up = omega arith

  -- With the word's own hash it is the insertion of `probing`.
  module _ (l : k < places) (e : h ≡ hash_of (word_at T k)) where
    slot : stop_from T (word_at T k) h w ≡ slot_of (length w) hash_of (word_at T) (word_at T k) w
    slot = stop-slot T (word_at T k) w h e

    pub insert-enters : enters T k h w ≡ true → insert (length w) hash_of (word_at T) k w ≡ some (entered T k h w)
    insert-enters y =
        ⊎_elim
        (λ z. insert-free (length w) hash_of (word_at T) k w within (ap (λ (i : ℕ). get_or w i 0) (sym slot) ∙ eqb-true _ _ z) ∙
        ap (λ (i : ℕ). some (set w i (suc k))) (sym slot) ∙ ap some (sym (unfold_entered ∙ ap (λ b. cond b (set w here (suc k)) w) (and_both _ _ y z))))
        (λ z. insert-held (length w) hash_of (word_at T) k w within (λ f. eqb-false _ _ z (ap (λ (i : ℕ). get_or w i 0) slot ∙ f)) ∙
        ap some (sym (unfold_entered ∙ ap (λ b. cond b (set w here (suc k)) w) (and_false-right (enters T k h w) _ z))))
        (bool_cases (eqb (get_or w (stop_from T (word_at T k) h w) 0) 0))
      where
        here : ℕ
        here = stop_from T (word_at T k) h w

        stops : ltb (stop_from T (word_at T k) h w) (length w) ≡ true
        stops = unfold enters in and_right (ltb k places) (ltb (stop_from T (word_at T k) h w) (length w)) y

        within : slot_of (length w) hash_of (word_at T) (word_at T k) w < length w
        within = omega (arith, sym slot, ltb-true (stop_from T (word_at T k) h w) (length w) stops)

        unfold_entered : entered T k h w ≡ cond (enters T k h w && eqb (get_or w (stop_from T (word_at T k) h w) 0) 0) (set w (stop_from T (word_at T k) h w) (suc k)) w
        unfold_entered = unfold entered in refl

    pub insert-fails : enters T k h w ≡ false → insert (length w) hash_of (word_at T) k w ≡ none
    insert-fails n = insert-full (length w) hash_of (word_at T) k w refl (omega (arith, sym slot, past, stop_le T (word_at T k) w h))
      where
        past : length w ≤ stop_from T (word_at T k) h w
        past = ltb-false (stop_from T (word_at T k) h w) (length w) (sym (ap (λ z. z && ltb (stop_from T (word_at T k) h w) (length w)) (lt-ltb k places l)) ∙ unfold enters in n)

-- The table keeps its length.
pub entered-long : (T : List ℕ) (k h : ℕ) (w : List ℕ) → length (entered T k h w) ≡ length w
unfolding entered
entered-long T k h w = by (enters T k h w && eqb (get_or w (stop_from T (word_at T k) h w) 0) 0)
  where
    by : (z : Bool) → length (cond z (set w (stop_from T (word_at T k) h w) (suc k)) w) ≡ length w
    by true = length-set w (stop_from T (word_at T k) h w) (suc k)
    by false = refl

-- ---- the start and the exits of `probe`, which starts at the slot that the hash h gives
module _ (T : List ℕ) (q : Word) (h : ℕ) (w : List ℕ) where
  pub no_slots : length w ≤ 0 → Stops T q h w None
  unfolding stop_from
  no_slots l = sym (walk_none (word_at T) w q (h % length w) none) ∙ sym none
    where
      none : length w ≡ 0
      none = omega arith

  pub started : (i : ℕ) → (0 < length w) × (i ≡ h % length w) → Walk (word_at T) w q (h % length w) i 0
  started i e = subst (λ (z : ℕ). Walk (word_at T) w q (h % length w) z 0) (sym e.1) (walk_start (word_at T) w q (h % length w) (mod-lt h e.0))

  module _ (i o : ℕ) (r : Walk (word_at T) w q (h % length w) i o) where
    pub stopped : o < length w → passes (word_at T) q (get_or w i 0) ≡ false → Stops T q h w (Some i)
    unfolding stop_from
    stopped l e = (r.below, walk-stop (word_at T) w q (h % length w) i o r l e)

    pub missed : length w ≤ o → Stops T q h w None
    unfolding stop_from
    missed l = sym (walk_end (word_at T) w q (h % length w) i o r l)

-- The slot, or the number of slots where there is none.
pub stop-or : (T : List ℕ) (q : Word) (h : ℕ) (w : List ℕ) (o : Option ℕ) → Stops T q h w o → unwrap_or o (length w) ≡ stop_from T q h w
stop-or T q h w None e = sym e
stop-or T q h w (Some s) e = e.1

-- ---- no second outcome
pub find_unique : (T : List ℕ) (k h : ℕ) (w : List ℕ) (r r' : ℕ) → r ≡ stop_from T (word_at T k) h w → r' ≡ stop_from T (word_at T k) h w → r ≡ r'
find_unique T k h w r r' a b = a ∙ sym b

pub lookup_unique : (T : List ℕ) (q : Word) (w : List ℕ) (r r' : ℕ) → r ≡ stop_of T q w → r' ≡ stop_of T q w → r ≡ r'
lookup_unique T q w r r' a b = a ∙ sym b

pub enter_unique : (T : List ℕ) (k h : ℕ) (w : List ℕ) (r r' : Bool) (v v' : List ℕ) → Entered T k h w r v → Entered T k h w r' v' → (r ≡ r') × (v ≡ v')
enter_unique T k h w r r' v v' a b = (a.reply ∙ sym b.reply, a.table ∙ sym b.table)
