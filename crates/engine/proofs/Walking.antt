-- The loops that write the two numbers of each word, its head and where what is left of it ends: what they know at word j, and how a turn keeps it. Assumes nothing.
--   Wrote        one word's two numbers have been written
--   Walking      the words before j have been written, by `fh` and `fu`, and `far` is the highest of their heads
--   highest-…    the highest of some numbers, with one more
-- Letters: ends, occ as lent; c the cursors as they were, w as they are now; r reach, j word, h head, u where what is left ends.
use Prim.Native.Nat.{ℕ, ◌+◌, ◌-◌, ◌≤◌, ◌<◌}
use mathlib.Core.Path.{◌≡◌, refl, sym, ◌∙◌}
use mathlib.Core.Logic.{◌⊎◌, ⊎_elim}
use mathlib.Core.List.{List}
use native.Mathlib.Numerals.{add-one}
use native.Mathlib.Nat.{le_antisymm}
use native.Mathlib.Omega.{arith}
use borrow.Author.Count.{below_none, below_more}
use lib.ListN.{length, get_or, set, replicate, get_or-replicate}
use lib.Seq.{get_or-set_same, get_or-set_other}
use Rattle.std.specs.Prelude.{max}
use Rattle.seq.proofs.Laws.Numbers.{less_or}
use Rattle.index.specs.Index.{start}
use Rattle.engine.specs.declared.cursors.Cursors.{Cursors}
use Rattle.engine.specs.Inner.Cursors.{head, up_to, last_left, head_after, up_to_after, Reached, Highest, CursorsPre, Taken, SetPre, Set}
use Rattle.engine.specs.Inner.Words.{LastPre, TakeWordPre, WordTaken}

-- ---- the highest
pub highest-none : (f : ℕ → ℕ) → Highest 0 f 0
highest-none f = record { above = below_none _; among = λ ne. absurd (ne refl) }

module _ (n : ℕ) (f : ℕ → ℕ) (r : ℕ) (t : Highest n f r) where
  pub highest_ext : (g : ℕ → ℕ) → ((i : ℕ) → i < n → f i ≡ g i) → Highest n g r
  highest_ext g e = record { above = λ i l. omega (arith, e i l, t.above i l); among = λ ne. found (t.among ne) }
    where
      found : Reached n f r → Reached n g r
      found s = record { at = s.at; below = s.below; is = sym (e s.at s.below) ∙ s.is }

  -- The next number is higher than those before it, or not.
  pub highest-more : (h : ℕ) → h ≡ f n → Highest (n + 1) f (max r h)
  highest-more h e = record { above = below_more _ n (λ i b. omega (arith, t.above i b)) (omega arith); among = λ ne. either ne (less_or r h) }
    where
      before : Reached n f r → h ≤ r → Reached (n + 1) f (max r h)
      before s l = record { at = s.at; below = omega (arith, s.below); is = s.is ∙ omega arith }

      either : (max r h ≡ 0 → ⊥) → (r < h) ⊎ (h ≤ r) → Reached (n + 1) f (max r h)
      either ne = ⊎_elim (λ l. record { at = n; below = omega arith; is = sym e ∙ omega arith }) (λ l. before (t.among (λ (z : r ≡ 0). ne (omega arith))) l)

-- ---- one word
pub record Wrote (j h u : ℕ) (c w : Cursors) : Type 0 where
  pub head_is : head w j ≡ h
  pub up_to_is : up_to w j ≡ u
  pub others : (i : ℕ) → (i ≡ j → ⊥) → (head w i ≡ head c i) × (up_to w i ≡ up_to c i)

pub wrote_set : (j h u : ℕ) (c : Cursors) → j < length c.heads → j < length c.stops → Wrote j h u c (record { heads = set c.heads j h; stops = set c.stops j u })
wrote_set j h u c l m = record {
  head_is = get_or-set_same c.heads j h 0 l;
  up_to_is = get_or-set_same c.stops j u 0 m;
  others = λ i a. (get_or-set_other c.heads j i h 0 a, get_or-set_other c.stops j i u 0 a);
}

-- ---- all words
pub record Walking (fh fu : ℕ → ℕ) (ends : List ℕ) (c w : Cursors) (far f j : ℕ) : Type 0 where
  pub within : j ≤ length ends
  pub begins : f ≡ start ends j
  pub heads : (i : ℕ) → i < j → head w i ≡ fh i
  pub up_tos : (i : ℕ) → i < j → up_to w i ≡ fu i
  pub rest_heads : (i : ℕ) → j ≤ i → i < 8 → head w i ≡ head c i
  pub rest_up_tos : (i : ℕ) → j ≤ i → i < 8 → up_to w i ≡ up_to c i
  pub highest : Highest j fh far

pub walking_start : (fh fu : ℕ → ℕ) (ends : List ℕ) (c : Cursors) → Walking fh fu ends c c 0 0 0
unfolding start
walking_start fh fu ends c = record {
  within = omega arith;
  begins = refl;
  heads = below_none _;
  up_tos = below_none _;
  rest_heads = λ i a b. refl;
  rest_up_tos = λ i a b. refl;
  highest = highest-none fh;
}

start-suc : (ends : List ℕ) (j : ℕ) → get_or ends j 0 ≡ start ends (j + 1)
unfolding start
start-suc ends j = rw add-one

module _ (fh fu : ℕ → ℕ) (ends : List ℕ) (c w : Cursors) (far f j : ℕ) (words : length ends ≤ 8) (t : Walking fh fu ends c w far f j) where
  pub walking-step : (w' : Cursors) (far' : ℕ) → j < length ends → Wrote j (fh j) (fu j) w w' → Highest (j + 1) fh far' →
      Walking fh fu ends c w' far' (get_or ends j 0) (j + 1)
  walking-step w' far' l s hi = record {
    within = omega arith;
    begins = start-suc ends j;
    heads = below_more _ j (λ i h. (s.others i (λ (z : i ≡ j). omega arith)).0 ∙ t.heads i h) s.head_is;
    up_tos = below_more _ j (λ i h. (s.others i (λ (z : i ≡ j). omega arith)).1 ∙ t.up_tos i h) s.up_to_is;
    rest_heads = λ i a b. (s.others i (λ (z : i ≡ j). omega arith)).0 ∙ t.rest_heads i (omega arith) b;
    rest_up_tos = λ i a b. (s.others i (λ (z : i ≡ j). omega arith)).1 ∙ t.rest_up_tos i (omega arith) b;
    highest = hi;
  }

  walking-end : length ends ≤ j → j ≡ length ends
  walking-end l = le_antisymm t.within l

  pub walking-highest : length ends ≤ j → Highest (length ends) (head w) far
  walking-highest l = rw (sym (walking-end l)) (highest_ext j fh far t.highest (head w) (λ i h. sym (t.heads i h)))

-- ---- taking
module _ (ends occ : List ℕ) (c : Cursors) (r : ℕ) (w : Cursors) (far f j : ℕ) (pre : CursorsPre ends occ c r)
    (t : Walking (head_after ends occ c r) (up_to_after c r) ends c w far f j) where
  module _ (l : j < length ends) where
    head_now : head w j ≡ head c j
    head_now = t.rest_heads j (omega arith) (omega (arith, pre.words))

    up_to_now : up_to w j ≡ up_to c j
    up_to_now = t.rest_up_tos j (omega arith) (omega (arith, pre.words))

    pub take-pre : TakeWordPre occ w j f r
    take-pre = record {
      word = omega (arith, pre.words);
      some = λ e. omega (arith, up_to_now, pre.left j l (sym head_now ∙ e));
      last = λ e. record {
        within = omega (arith, up_to_now, pre.within j l);
        small = λ h. pre.small j (up_to w j - 1 - 1) l (omega (arith, t.begins)) (omega (arith, up_to_now));
      };
    }

    module _ (h : ℕ) (w' : Cursors) (s : WordTaken occ w j f r h w') where
      take_head : h ≡ head_after ends occ c r j
      take_head = s.result ∙ rw (head_now, up_to_now, t.begins)

      pub take_step : (m : ℕ) → m ≡ max far h → Walking (head_after ends occ c r) (up_to_after c r) ends c w' m (get_or ends j 0) (j + 1)
      take_step m e =
          walking-step _ _ ends c w far f j pre.words t w' m l
          (record { head_is = s.head_is ∙ take_head; up_to_is = s.up_to_is ∙ rw (head_now, up_to_now); others = s.others })
          (rw e (highest-more j _ far t.highest h take_head))

  pub take-end : length ends ≤ j → Taken ends occ c r far w
  take-end l = record {
    heads = λ i h. t.heads i (omega arith);
    up_tos = λ i h. t.up_tos i (omega arith);
    reach = walking-highest _ _ ends c w far f j pre.words t l;
    others = λ i a b. t.rest_heads i (omega (arith, t.within)) b;
  }

-- ---- setting
abbrev pub last_of : List ℕ → List ℕ → ℕ → ℕ
last_of ends occ j = last_left occ (start ends j) (get_or ends j 0)

-- The cursors before anything is set.
abbrev pub unset : Cursors
unset = record { heads = replicate 8 0; stops = replicate 8 0 }

module _ (ends occ : List ℕ) (w : Cursors) (far f j : ℕ) (pre : SetPre ends occ)
    (t : Walking (last_of ends occ) (λ i. get_or ends i 0) ends unset w far f j) where
  module _ (l : j < length ends) where
    pub set-pre : LastPre occ f (get_or ends j 0)
    set-pre = record {
      within = pre.within j l;
      small = λ h. pre.small j (get_or ends j 0 - 1) l (omega (arith, t.begins)) (omega arith);
    }

    module _ (h : ℕ) (s : h ≡ last_left occ f (get_or ends j 0)) where
      set-head : h ≡ last_of ends occ j
      set-head = s ∙ rw t.begins

      pub set-step : length w.heads ≡ 8 → length w.stops ≡ 8 → (m : ℕ) → m ≡ max far h →
          Walking (last_of ends occ) (λ i. get_or ends i 0) ends unset (record { heads = set w.heads j h; stops = set w.stops j (get_or ends j 0) }) m (get_or ends j 0) (j + 1)
      set-step a b m e =
          let d : Wrote j h (get_or ends j 0) w (record { heads = set w.heads j h; stops = set w.stops j (get_or ends j 0) }) =
          wrote_set j h (get_or ends j 0) w (omega (arith, pre.words)) (omega (arith, pre.words))
          in
          walking-step _ _ ends unset w far f j pre.words t _ m l
          (record { head_is = d.head_is ∙ set-head; up_to_is = d.up_to_is; others = d.others })
          (rw e (highest-more j _ far t.highest h set-head))

  pub set-end : length ends ≤ j → Set ends occ far w
  set-end l = record {
    heads = λ i h. t.heads i (omega arith);
    up_tos = λ i h. t.up_tos i (omega arith);
    reach = walking-highest _ _ ends unset w far f j pre.words t l;
    others = λ i a b. t.rest_heads i (omega (arith, t.within)) b ∙ get_or-replicate {A = ℕ} 8 i 0 0 b;
  }
