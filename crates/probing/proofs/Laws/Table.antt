-- Laws of one insertion. The table's invariant is that each word that it holds stands where a search for it stops (Settled).
--   holds-free, holds-key, holds-own       the word that a slot holds: none where it is free, else the one that its number names
--   passes-free, passes-key, passes-other  the slots past which a search goes
--   stops-free, stops-held                 the slots at which it stops: free, or with its word
--   holds_at, holds-one                    the number in a slot that holds a word; a slot holds one word only
--   slot_le, slot-free                     a search stops at a slot, or at none, which is m; where its word is not found, at a free slot or at none
--   lookup-held, lookup-none               a lookup gives the slot at which the word is found, or m
--   Settled w                              == w has m slots, and each word that it holds is found at its own slot
--   blank-at, settled-blank, found-blank   the table with every slot free is settled, and nothing is found in it
--   found_at, found_of, slot-of            what is found stands in a slot, and what stands in a slot is found there
--   holds-none, slot-rule                  what is not found is in no slot, and its search stops at the first free one
--   holds-once                             each word stands in one slot at most
--   slots-taken, slots-full                where a search stops nowhere, every slot is taken
--   settled-put                            a table stays settled where a word that is not found is put into the slot at which its search stops
--   put-at, kept_put, now-holds            the number stands there then, and the other slots are as they were
--   tally-put, found-put                   one slot more is taken, and just that word is found besides
--   insert_cases                           the three outcomes of an insertion
--   insert-held, insert-free, insert-full  the same by what stands in the slot at which the search stops, for code
-- Letters: m slots; q p words; k j numbers that name words; x what a slot holds; i s slots; o steps; w w' v tables; P a statement on an outcome.
-- Assumes nothing.
use Prim.Native.Nat.{ℕ, zero, suc, ◌≤◌, ◌<◌}
use mathlib.Core.Path.{◌≡◌, refl, sym, ap, subst, ◌∙◌}
use mathlib.Core.Logic.{⊎_elim, ◌⊎◌, inl, inr}
use mathlib.Core.List.{List}
use mathlib.Core.Bool.{Bool, true, false, not, cond, ◌||◌, false≢true}
use mathlib.Core.Option.{Option, none, some}
use native.Mathlib.Nat.{mod-lt}
use native.Mathlib.Omega.{arith}
use lib.ListN.{length, get_or, set, length-set, length-replicate, get_or-replicate, get_or-eq_default}
use lib.Seq.{get_or-set_same, get_or-set_other}
use borrow.Author.Tests.{lt-ltb, le-ltb, not-false}
use Rattle.seq.specs.Lists.{tally, same_list}
use Rattle.seq.proofs.Laws.Bools.{bool_cases, bool_ext, bool_false, and_left, or_cases, or_left, or_right, equal_or}
use Rattle.seq.proofs.Laws.Numbers.{less_or}
use Rattle.seq.proofs.Laws.Lists.{same_list-is, same_list_self}
use Rattle.probing.specs.Around.{turn, around}
use Rattle.probing.specs.Table.{blank, taken, holds, passes, home, slot_of, free_of, found, lookup, put, insert}
use Rattle.probing.proofs.Laws.Around.{turn-apart, Stop, around-is, around_le, around-stop, around-none, around-same}
use Rattle.probing.proofs.Laws.Tallies.{tally-none, tally-full, tally-once, tally-set}

-- ---- one slot
taken-suc : (k : ℕ) → taken (suc k) ≡ true
taken-suc k = lt-ltb 0 (suc k) (omega arith)

module _ (named : ℕ → List ℕ) (q : List ℕ) where
  pub holds-free : holds named q 0 ≡ false
  unfolding holds
  holds-free = refl

  pub holds-key : (k : ℕ) → holds named q (suc k) ≡ same_list q (named k)
  unfolding holds
  holds-key k = refl

  pub passes-free : passes named q 0 ≡ false
  unfolding passes holds
  passes-free = refl

  pub passes-key : (k : ℕ) → passes named q (suc k) ≡ not (same_list q (named k))
  unfolding passes holds
  passes-key k = rw (taken-suc k)

  passes-taken : (x : ℕ) → passes named q x ≡ true → taken x ≡ true
  unfolding passes
  passes-taken x e = and_left (taken x) (not (holds named q x)) e

  -- A search that stops at a slot without finding its word stops at a free one.
  pub stops-free : (x : ℕ) → passes named q x ≡ false → holds named q x ≡ false → x ≡ 0
  stops-free zero e h = refl
  stops-free (suc k) e h = absurd (false≢true (sym e ∙ passes-key k ∙ ap not (sym (holds-key k) ∙ h)))

  -- And one that stops at a slot that is taken has found its word.
  pub stops-held : (x : ℕ) → passes named q x ≡ false → (x ≡ 0 → ⊥) → holds named q x ≡ true
  stops-held zero e n = absurd (n refl)
  stops-held (suc k) e n = holds-key k ∙ not-false (same_list q (named k)) (sym (passes-key k) ∙ e)

  -- Past a slot that does not hold its word, a search goes on if it is taken.
  pub passes-other : (x : ℕ) → holds named q x ≡ false → passes named q x ≡ taken x
  passes-other zero h = passes-free
  passes-other (suc k) h = passes-key k ∙ ap not (sym (holds-key k) ∙ h) ∙ sym (taken-suc k)

  -- The number in a slot that holds q.
  pub record Key (x : ℕ) : Type 0 where
    pub key : ℕ
    pub is : x ≡ suc key
    pub word : q ≡ named key

  pub holds_at : (x : ℕ) → holds named q x ≡ true → Key x
  holds_at zero h = absurd (false≢true (sym holds-free ∙ h))
  holds_at (suc k) h = record { key = k; is = refl; word = same_list-is q (named k) (sym (holds-key k) ∙ h) }

pub holds-own : (named : ℕ → List ℕ) (k x : ℕ) → x ≡ suc k → holds named (named k) x ≡ true
holds-own named k x e = ap (holds named (named k)) e ∙ holds-key named (named k) k ∙ same_list_self (named k)

pub holds-one : (named : ℕ → List ℕ) (q p : List ℕ) (x : ℕ) → holds named q x ≡ true → holds named p x ≡ true → q ≡ p
holds-one named q p zero h g = absurd (false≢true (sym (holds-free named q) ∙ h))
holds-one named q p (suc k) h g =
    same_list-is q (named k) (sym (holds-key named q k) ∙ h) ∙ sym (same_list-is p (named k) (sym (holds-key named p k) ∙ g))

-- ---- what stands in a table
taken-below : (w : List ℕ) (i j : ℕ) → get_or w i 0 ≡ suc j → i < length w
taken-below w i j e =
    ⊎_elim (λ l. l) (λ l. let z : ◌≡◌ {A = ℕ} 0 (suc j) = sym (get_or-eq_default w 0 l) ∙ e in omega arith) (less_or i (length w))

pub blank-at : (m i : ℕ) → get_or (blank m) i 0 ≡ 0
blank-at m i =
    ⊎_elim (λ (l : i < m). get_or-replicate m i 0 0 l) (λ (l : m ≤ i). get_or-eq_default (blank m) 0 (omega (arith, length-replicate {A = ℕ} m 0))) (less_or i m)

module _ (m : ℕ) (hash : List ℕ → ℕ) (named : ℕ → List ℕ) where
  home_below : (q : List ℕ) → 0 < m → home m hash q < m
  unfolding home
  home_below q l = mod-lt (hash q) l

  pub slot_le : (q w : List ℕ) → slot_of m hash named q w ≤ m
  unfolding slot_of
  slot_le q w = around_le m (home m hash q) (λ i. passes named q (get_or w i 0)) (home_below q)

  slot-stops : (q w : List ℕ) → slot_of m hash named q w < m → passes named q (get_or w (slot_of m hash named q w) 0) ≡ false
  unfolding slot_of
  slot-stops q w l = (around-stop m (home m hash q) (λ i. passes named q (get_or w i 0)) l).fails

  -- Where q is not found, its search stops at a free slot, or at none.
  pub slot-free : (q w : List ℕ) → length w ≡ m → found m hash named q w ≡ false → get_or w (slot_of m hash named q w) 0 ≡ 0
  slot-free q w long e =
      ⊎_elim (λ l. stops-free named q (get_or w (slot_of m hash named q w) 0) (slot-stops q w l) (unfold found in e))
      (λ l. get_or-eq_default w 0 (omega arith)) (less_or (slot_of m hash named q w) m)

  pub lookup-held : (q w : List ℕ) → found m hash named q w ≡ true → lookup m hash named q w ≡ slot_of m hash named q w
  unfolding lookup
  lookup-held q w e = rw e

  pub lookup-none : (q w : List ℕ) → found m hash named q w ≡ false → lookup m hash named q w ≡ m
  unfolding lookup
  lookup-none q w e = rw e

  -- ---- a settled table
  pub record Settled (w : List ℕ) : Type 0 where
    pub long : length w ≡ m
    pub settled : (i j : ℕ) → i < m → get_or w i 0 ≡ suc j → slot_of m hash named (named j) w ≡ i

  pub settled-blank : Settled (blank m)
  settled-blank =
      record {
        long = length-replicate {A = ℕ} m 0;
        settled = λ i j l e. let z : ◌≡◌ {A = ℕ} 0 (suc j) = sym (blank-at m i) ∙ e in omega arith;
      }

  pub found-blank : (q : List ℕ) → found m hash named q (blank m) ≡ false
  unfolding found
  found-blank q = ap (holds named q) (blank-at m (slot_of m hash named q (blank m))) ∙ holds-free named q

  -- The slot at which q is found, and the number in it.
  pub record Holder (q w : List ℕ) : Type 0 where
    pub below : slot_of m hash named q w < m
    pub key : ℕ
    pub is : get_or w (slot_of m hash named q w) 0 ≡ suc key
    pub word : q ≡ named key

  pub found_at : (q w : List ℕ) → length w ≡ m → found m hash named q w ≡ true → Holder q w
  unfolding found
  found_at q w long e =
      let r : Key named q (get_or w (slot_of m hash named q w) 0) = holds_at named q (get_or w (slot_of m hash named q w) 0) e in
      record { below = omega (arith, taken-below w (slot_of m hash named q w) r.key r.is); key = r.key; is = r.is; word = r.word }

  -- A word that a slot of a settled table holds is found there.
  pub slot-of : (w : List ℕ) → Settled w → (q : List ℕ) (i : ℕ) → holds named q (get_or w i 0) ≡ true → slot_of m hash named q w ≡ i
  slot-of w st q i h =
      let r : Key named q (get_or w i 0) = holds_at named q (get_or w i 0) h in
      ap (λ z. slot_of m hash named z w) r.word ∙ st.settled i r.key (omega (arith, taken-below w i r.key r.is, st.long)) r.is

  pub found_of : (w : List ℕ) → Settled w → (q : List ℕ) (i : ℕ) → holds named q (get_or w i 0) ≡ true → found m hash named q w ≡ true
  unfolding found
  found_of w st q i h = ap (λ s. holds named q (get_or w s 0)) (slot-of w st q i h) ∙ h

  module _ (w : List ℕ) (st : Settled w) where
    pub holds-none : (q : List ℕ) → found m hash named q w ≡ false → (i : ℕ) → holds named q (get_or w i 0) ≡ false
    holds-none q e i = bool_false (holds named q (get_or w i 0)) (λ h. false≢true (sym e ∙ found_of w st q i h))

    pub slot-rule : (q : List ℕ) → found m hash named q w ≡ false → slot_of m hash named q w ≡ free_of m hash q w
    unfolding slot_of free_of
    slot-rule q e =
        around-same m (home m hash q) (λ i. passes named q (get_or w i 0)) (λ i. taken (get_or w i 0))
        (λ i. passes-other named q (get_or w i 0) (holds-none q e i))

    pub holds-once : (q : List ℕ) → tally (holds named q) w ≡ cond (found m hash named q w) 1 0
    holds-once q = ⊎_elim (λ e. yes e ∙ ap (λ b. cond b 1 0) (sym e)) (λ e. no e ∙ ap (λ b. cond b 1 0) (sym e)) (bool_cases (found m hash named q w))
      where
        yes : found m hash named q w ≡ true → tally (holds named q) w ≡ 1
        yes e =
            tally-once (holds named q) w (slot_of m hash named q w) (omega (arith, (found_at q w st.long e).below, st.long)) (unfold found in e)
            (λ i l h. sym (slot-of w st q i h))

        no : found m hash named q w ≡ false → tally (holds named q) w ≡ 0
        no e = tally-none (holds named q) w (λ i l. holds-none q e i)

    pub slots-taken : (q : List ℕ) → m ≤ slot_of m hash named q w → (i : ℕ) → i < m → taken (get_or w i 0) ≡ true
    unfolding slot_of
    slots-taken q e i l =
        passes-taken named q (get_or w i 0) (around-none m (home m hash q) (λ i. passes named q (get_or w i 0)) (home_below q (omega arith)) e i l)

    pub slots-full : (q : List ℕ) → m ≤ slot_of m hash named q w → tally taken w ≡ m
    slots-full q e = tally-full taken w (λ i l. slots-taken q e i (omega (arith, st.long))) ∙ st.long

    -- ---- a word that is not found, into the slot at which its search stops
    module _ (k : ℕ) (new : found m hash named (named k) w ≡ false) (room : slot_of m hash named (named k) w < m) where
      abbrev s : ℕ
      s = slot_of m hash named (named k) w

      abbrev w' : List ℕ
      w' = set w s (suc k)

      abbrev goes : List ℕ → List ℕ → ℕ → Bool
      goes q v i = passes named q (get_or v i 0)

      stop : Stop m (home m hash (named k)) (goes (named k) w) s
      unfolding slot_of
      stop = around-stop m (home m hash (named k)) (goes (named k) w) room

      was_free : get_or w s 0 ≡ 0
      was_free = slot-free (named k) w st.long new

      pub put-at : get_or w' s 0 ≡ suc k
      put-at = get_or-set_same w s (suc k) 0 (omega (arith, st.long))

      at_old : (i : ℕ) → (i ≡ s → ⊥) → get_or w' i 0 ≡ get_or w i 0
      at_old i n = get_or-set_other w s i (suc k) 0 n

      -- A search that did not pass s stops where it stopped.
      still : (q : List ℕ) (i : ℕ) (r : Stop m (home m hash q) (goes q w) i) → ((o : ℕ) → o < r.steps → turn m (home m hash q) o ≡ s → ⊥) →
          passes named q (get_or w' i 0) ≡ false → slot_of m hash named q w' ≡ i
      unfolding slot_of
      still q i r away e =
          around-is m (home m hash q) (goes q w') i
          (record {
            steps = r.steps;
            below = r.below;
            to = r.to;
            passed = λ o l. ap (passes named q) (at_old (turn m (home m hash q) o) (away o l)) ∙ r.passed o l;
            fails = e;
          })

      settled-new : slot_of m hash named (named k) w' ≡ s
      settled-new =
          still (named k) s stop
          (λ o l e. turn-apart m (home m hash (named k)) o stop.steps (home_below (named k) (omega (arith, room))) l stop.below (e ∙ sym stop.to))
          (ap (passes named (named k)) put-at ∙ passes-key named (named k) k ∙ ap not (same_list_self (named k)))

      settled-old : (i j : ℕ) → i < m → (i ≡ s → ⊥) → get_or w i 0 ≡ suc j → slot_of m hash named (named j) w' ≡ i
      settled-old i j l n e =
          still (named j) i r
          (λ o h z. false≢true (sym (passes-free named (named j)) ∙ ap (passes named (named j)) (sym was_free) ∙ ap (goes (named j) w) (sym z) ∙ r.passed o h))
          (ap (passes named (named j)) (at_old i n) ∙ r.fails)
        where
          here : around m (home m hash (named j)) (goes (named j) w) ≡ i
          here = unfold slot_of in st.settled i j l e

          r : Stop m (home m hash (named j)) (goes (named j) w) i
          r = subst (Stop m (home m hash (named j)) (goes (named j) w)) here (around-stop m (home m hash (named j)) (goes (named j) w) (omega (arith, here)))

      -- What a slot holds now is k at s, or what it held.
      pub now-holds : (i j : ℕ) → get_or w' i 0 ≡ suc j → ((i ≡ s) × (j ≡ k)) ⊎ ((i ≡ s → ⊥) × (get_or w i 0 ≡ suc j))
      now-holds i j e =
          ⊎_elim
          (λ (h : i ≡ s). let z : suc k ≡ suc j = sym put-at ∙ ap (λ y. get_or w' y 0) (sym h) ∙ e in inl (h, omega arith))
          (λ (n : i ≡ s → ⊥). inr (n, sym (at_old i n) ∙ e))
          (equal_or i s)

      pub settled-put : Settled w'
      settled-put =
          record {
            long = length-set w s (suc k) ∙ st.long;
            settled = λ i j l e.
                ⊎_elim
                (λ (c : (i ≡ s) × (j ≡ k)). ap (λ z. slot_of m hash named (named z) w') c.1 ∙ settled-new ∙ sym c.0)
                (λ (c : (i ≡ s → ⊥) × (get_or w i 0 ≡ suc j)). settled-old i j l c.0 c.1)
                (now-holds i j e);
          }

      -- A slot that was taken is as it was.
      pub kept_put : (i j : ℕ) → get_or w i 0 ≡ suc j → get_or w' i 0 ≡ suc j
      kept_put i j e = at_old i (λ h. let z : ◌≡◌ {A = ℕ} 0 (suc j) = sym was_free ∙ ap (λ y. get_or w y 0) (sym h) ∙ e in omega arith) ∙ e

      pub tally-put : tally taken w' ≡ suc (tally taken w)
      tally-put = tally-set taken w s (suc k) (omega (arith, st.long)) (ap taken was_free) (taken-suc k)

      pub found-put : (q : List ℕ) → found m hash named q w' ≡ (same_list q (named k) || found m hash named q w)
      found-put q = bool_ext (found m hash named q w') (same_list q (named k) || found m hash named q w) to from
        where
          to : found m hash named q w' ≡ true → (same_list q (named k) || found m hash named q w) ≡ true
          to e =
              ⊎_elim
              (λ (h : slot_of m hash named q w' ≡ s). or_left (same_list q (named k)) (found m hash named q w)
              (sym (ap (λ y. holds named q (get_or w' y 0)) h ∙ ap (holds named q) put-at ∙ holds-key named q k) ∙ unfold found in e))
              (λ (n : slot_of m hash named q w' ≡ s → ⊥). or_right (same_list q (named k)) (found m hash named q w)
              (found_of w st q (slot_of m hash named q w') (sym (ap (holds named q) (at_old (slot_of m hash named q w') n)) ∙ unfold found in e)))
              (equal_or (slot_of m hash named q w') s)

          old : Holder q w → found m hash named q w' ≡ true
          old r =
              found_of w' settled-put q (slot_of m hash named q w)
              (ap (λ z. holds named z (get_or w' (slot_of m hash named q w) 0)) r.word ∙
              holds-own named r.key (get_or w' (slot_of m hash named q w) 0) (kept_put (slot_of m hash named q w) r.key r.is))

          from : (same_list q (named k) || found m hash named q w) ≡ true → found m hash named q w' ≡ true
          from e =
              ⊎_elim (λ h. found_of w' settled-put q s (ap (holds named q) put-at ∙ holds-key named q k ∙ h)) (λ h. old (found_at q w st.long h))
              (or_cases (same_list q (named k)) (found m hash named q w) e)

-- ---- the outcomes of an insertion
module _ (m : ℕ) (hash : List ℕ → ℕ) (named : ℕ → List ℕ) (k : ℕ) (w : List ℕ) where
  abbrev stop-slot : ℕ
  stop-slot = slot_of m hash named (named k) w

  insert-known : found m hash named (named k) w ≡ true → insert m hash named k w ≡ some w
  unfolding insert
  insert-known e = rw e

  insert-new : found m hash named (named k) w ≡ false → stop-slot < m → insert m hash named k w ≡ some (set w stop-slot (suc k))
  unfolding insert put
  insert-new e l = rw (e, lt-ltb stop-slot m l)

  insert-none : found m hash named (named k) w ≡ false → m ≤ stop-slot → insert m hash named k w ≡ none
  unfolding insert put
  insert-none e l = rw (e, le-ltb stop-slot m l)

  pub insert_cases : (P : Option (List ℕ) → Type 0) →
      (found m hash named (named k) w ≡ true → P (some w)) →
      (found m hash named (named k) w ≡ false → stop-slot < m → P (some (set w stop-slot (suc k)))) →
      (found m hash named (named k) w ≡ false → m ≤ stop-slot → P none) →
      P (insert m hash named k w)
  insert_cases P a b c =
      ⊎_elim (λ e. subst P (sym (insert-known e)) (a e))
      (λ e. ⊎_elim (λ l. subst P (sym (insert-new e l)) (b e l)) (λ l. subst P (sym (insert-none e l)) (c e l)) (less_or stop-slot m))
      (bool_cases (found m hash named (named k) w))

  -- By what stands in the slot at which the search stops.
  pub insert-held : stop-slot < m → (get_or w stop-slot 0 ≡ 0 → ⊥) → insert m hash named k w ≡ some w
  insert-held l n = insert-known (unfold found in stops-held named (named k) (get_or w stop-slot 0) (slot-stops m hash named (named k) w l) n)

  not-here : get_or w stop-slot 0 ≡ 0 → found m hash named (named k) w ≡ false
  unfolding found
  not-here e = ap (holds named (named k)) e ∙ holds-free named (named k)

  pub insert-free : stop-slot < m → get_or w stop-slot 0 ≡ 0 → insert m hash named k w ≡ some (set w stop-slot (suc k))
  insert-free l e = insert-new (not-here e) l

  pub insert-full : length w ≡ m → stop-slot ≡ m → insert m hash named k w ≡ none
  insert-full long e = insert-none (not-here (get_or-eq_default w 0 (omega arith))) (omega arith)
