-- How many elements are open in a text that is accepted, a piece at a time.
--   nested p       == how many elements are open at the place p
--   Follows d j t  == with d elements open, at the place j and with t ahead, a reader stands that accepts n nodes
--   follows-…      from one piece to the next, by its kind; at the end no element is open
--   few            there are at most N nodes
-- Letters as in `profile`, specs/Turns; L N the limits, d elements that are open. Assumes nothing.
use Prim.Native.Nat.{ℕ, suc, pred, ◌+◌, ◌-◌, ◌≤◌}
use mathlib.Core.Path.{◌≡◌, refl, sym, ap, ◌∙◌}
use mathlib.Core.Logic.{◌⊎◌}
use mathlib.Core.List.{List, [], ◌∷◌}
use mathlib.Core.Bool.{Bool, true, false, not, cond, ◌&&◌, ◌||◌, false≢true}
use mathlib.Core.Option.{Option, none, some}
use native.Mathlib.Omega.{arith}
use lib.Dec.{eqb, ltb, leb}
use lib.ListN.{drop}
use borrow.Author.Tests.{ltb-false, leb-false, ne_eqb}
use Rattle.profile.specs.Spans.{common}
use Rattle.profile.specs.Machine.{Place, before, after, inside, past, b0, State, between, step, accepting}
use Rattle.profile.specs.Check.{Tally, Reply, whole, broken, over, count, meets, weighed, full, check}
use Rattle.profile.specs.Pieces.{END, DATA, START, EMPTY, CLOSE, Piece, piece_of}
use Rattle.profile.specs.Turns.{Turn, halt, go, follow, tally, name_of, with_data, turn_space, tag_tally, named, turn_data, turn_element, turn_tag, turn_close, turn_by, turn, lawful}
use Rattle.profile.proofs.Went.{broken-whole, over-whole, data_by}
use Rattle.profile.proofs.Turns.{by-close, by-tag, check-turn}
use Rattle.profile.proofs.PieceLaws.{went-of, Good, turn-good}

unfoldable pub nested : Place → ℕ
nested before = 0
nested after = 0
nested (inside n p) = suc (nested p)

nested-past : (p : Place) → nested (past p) ≡ nested p
unfolding nested
nested-past before = refl
nested-past after = refl
nested-past (inside n p) = refl

nested-inside : (n : List ℕ) (p : Place) → nested (inside n p) ≡ suc (nested p)
unfolding nested
nested-inside n p = refl

whole_is : (m n : ℕ) → whole m ≡ whole n → m ≡ n
whole_is m n e = cc

or_none : (a b : Bool) → (a || b) ≡ false → b ≡ false
or_none true b e = absurd (false≢true (sym e))
or_none false b e = e

or_first : (a b : Bool) → (a || b) ≡ false → a ≡ false
or_first true b e = e
or_first false b e = refl

module _ (L N n : ℕ) where
  -- A turn that goes on where Q holds, or halts without accepting.
  abbrev Steady : (Place → Tally → Type 0) → Turn → Type 0
  Steady Q (halt r) = r ≡ whole n → ⊥
  Steady Q (go p c) = Q p c

  steady_if : (Q : Place → Tally → Type 0) (b : Bool) (x y : Turn) → (b ≡ true → Steady Q x) → (b ≡ false → Steady Q y) → Steady Q (cond b x y)
  steady_if Q true x y g h = g refl
  steady_if Q false x y g h = h refl

  record Ends (Q : Place → Tally → Type 0) (t : Turn) : Type 0 where
    place : Place
    tally : Tally
    is : t ≡ go place tally
    holds : Q place tally

  ends : (Q : Place → Tally → Type 0) (f : Place → Tally → Reply) (t : Turn) → Steady Q t → follow t f ≡ whole n → Ends Q t
  ends Q f (halt r) g e = absurd (g e)
  ends Q f (go p c) g e = record { place = p; tally = c; is = refl; holds = g }

  -- d elements are open, by the place and by the tally.
  pub record Open (d : ℕ) (p : Place) (c : Tally) : Type 0 where
    pub place : nested p ≡ d
    pub tally : c.depth ≡ d

  pub record Follows (d j : ℕ) (t : List ℕ) : Type 0 where
    pub place : Place
    pub tally : Tally
    pub names : lawful place ≡ true
    pub opens : Open d place tally
    pub checking : check L N j (between b0 place) tally t ≡ whole n

  -- ---- the turns
  module _ (d : ℕ) (c : Tally) (j : ℕ) where
    space_steady : (p : Place) (q : Piece) → Open d p c → Steady (Open d) (turn_space p c j q)
    space_steady p q o = steady_if (Open d) (q.whole && eqb q.middle q.size) (go p c) (halt (broken (j + q.middle))) (λ e. o) (λ e. broken-whole (j + q.middle) n)

    with-depth : (q : Piece) → (with_data c q).depth ≡ c.depth
    with-depth q = by_test (ltb q.middle q.size)
      where
        by_test : (b : Bool) → (cond b (tally (cond c.solid c.met (suc c.met)) c.depth true) c).depth ≡ c.depth
        by_test true = refl
        by_test false = refl

    data_steady : (p : Place) (q : Piece) → Open d p c → Steady (Open d) (turn_data L N p c j q)
    unfolding turn_data
    data_steady before q o = space_steady before q o
    data_steady after q o = space_steady after q o
    data_steady (inside n' p) q o =
        steady_if (Open d) (ltb q.middle q.size && not c.solid && full L N c) (halt (over c.met)) inner (λ e. over-whole c.met n)
        (λ e. steady_if (Open d) q.whole (go (inside n' p) (with_data c q)) (halt (broken (j + q.size)))
        (λ w. record { place = o.place; tally = with-depth q ∙ o.tally }) (λ w. broken-whole (j + q.size) n))
      where
        inner : Turn
        inner = cond q.whole (go (inside n' p) (with_data c q)) (halt (broken (j + q.size)))

    -- A tag stands where one element more may be open.
    record Tagged (q : Piece) (p : Place) (c' : Tally) : Type 0 where
      room : suc d ≤ L
      opens : Open (cond (eqb q.kind START) (suc d) d) p c'

    element_steady : (p : Place) (t : List ℕ) (q : Piece) → Open d p c → Steady (Tagged q) (turn_element L N p c j t q)
    element_steady p t q o =
        steady_if (Tagged q) q.whole inner (halt (broken (j + q.size)))
        (λ w. steady_if (Tagged q) (full L N c) (halt (over c.met)) next (λ e. over-whole c.met n)
        (λ e.
        record {
          room = omega (arith, ltb-false L (suc c.depth) (or_first (ltb L (suc c.depth)) (leb N c.met) e), o.tally);
          opens = by_kind (eqb q.kind START);
        }))
        (λ w. broken-whole (j + q.size) n)
      where
        next : Turn
        next = go (cond (eqb q.kind START) (inside (name_of t q) p) (past p)) (tag_tally c q)

        inner : Turn
        inner = cond (full L N c) (halt (over c.met)) next

        by_kind : (b : Bool) → Open (cond b (suc d) d) (cond b (inside (name_of t q) p) (past p)) (tally (suc c.met) (cond b (suc c.depth) c.depth) false)
        by_kind true = record { place = nested-inside (name_of t q) p ∙ ap suc o.place; tally = ap suc o.tally }
        by_kind false = record { place = nested-past p ∙ o.place; tally = o.tally }

    tag_steady : (p : Place) (t : List ℕ) (q : Piece) → Open d p c → Steady (Tagged q) (turn_tag L N p c j t q)
    unfolding turn_tag
    tag_steady before t q o = element_steady before t q o
    tag_steady after t q o = broken-whole (j + 1) n
    tag_steady (inside n' p) t q o = element_steady (inside n' p) t q o

    record Shut (p : Place) (c' : Tally) : Type 0 where
      some : 1 ≤ d
      opens : Open (d - 1) p c'

    close_steady : (p : Place) (t : List ℕ) (q : Piece) → Open d p c → Steady Shut (turn_close L N p c j t q)
    unfolding turn_close
    close_steady before t q o = broken-whole (j + 1) n
    close_steady after t q o = broken-whole (j + 1) n
    close_steady (inside n' p) t q o =
        steady_if Shut (named n' t q) inner (halt (broken (j + (2 + common n' (drop 2 t)))))
        (λ e. steady_if Shut q.whole (go (past p) (tally c.met (pred c.depth) false)) (halt (broken (j + q.size)))
        (λ w. record { some = omega (arith, deep); opens = record { place = omega (arith, nested-past p, deep); tally = ap pred o.tally ∙ less d } })
        (λ w. broken-whole (j + q.size) n))
        (λ e. broken-whole (j + (2 + common n' (drop 2 t))) n)
      where
        inner : Turn
        inner = cond q.whole (go (past p) (tally c.met (pred c.depth) false)) (halt (broken (j + q.size)))

        deep : suc (nested p) ≡ d
        deep = sym (nested-inside n' p) ∙ o.place

        less : (d : ℕ) → pred d ≡ d - 1
        less d = omega arith

    rest_steady : (p : Place) (q : Piece) → Open d p c → Steady (Open d) (cond q.whole (go p c) (halt (broken (j + q.size))))
    rest_steady p q o = steady_if (Open d) q.whole (go p c) (halt (broken (j + q.size))) (λ w. o) (λ w. broken-whole (j + q.size) n)

  by-rest : (p : Place) (c : Tally) (j : ℕ) (t : List ℕ) (q : Piece) → (q.kind ≡ END → ⊥) → (q.kind ≡ DATA → ⊥) → (q.kind ≡ CLOSE → ⊥) →
      (q.kind ≡ START → ⊥) → (q.kind ≡ EMPTY → ⊥) → turn_by L N p c j t q ≡ cond q.whole (go p c) (halt (broken (j + q.size)))
  unfolding turn_by
  by-rest p c j t q e d k s m =
      rw (ne_eqb q.kind END e, ne_eqb q.kind DATA d, ne_eqb q.kind CLOSE k, ne_eqb q.kind START s, ne_eqb q.kind EMPTY m)

  -- ---- from one piece to the next
  module _ (d j : ℕ) (t : List ℕ) (w : Follows d j t) where
    behind : Place → Tally → Reply
    behind p' c' = check L N (j + (piece_of t).size) (between b0 p') c' (drop (piece_of t).size t)

    turned : follow (turn_by L N w.place w.tally j t (piece_of t)) behind ≡ whole n
    unfolding turn behind
    turned = sym (check-turn L N w.place w.names w.tally j t) ∙ w.checking

    -- The turn x of the piece goes on, where Q holds; and where Q holds d' elements are open.
    onward : (Q : Place → Tally → Type 0) (d' : ℕ) (x : Turn) → x ≡ turn_by L N w.place w.tally j t (piece_of t) → (e : Ends Q x) → Open d' e.place e.tally →
        Follows d' (j + (piece_of t).size) (drop (piece_of t).size t)
    unfolding turn behind
    onward Q d' x q e o =
        record {
          place = e.place;
          tally = e.tally;
          names = (went-of (Good (piece_of t)) (turn L N w.place w.tally j t) e.place e.tally (turn-good L N w.tally j w.place w.names t) (sym q ∙ e.is)).names;
          opens = o;
          checking = ap (λ x. follow x behind) (sym (sym q ∙ e.is)) ∙ turned;
        }

    goes : (Q : Place → Tally → Type 0) (x : Turn) → x ≡ turn_by L N w.place w.tally j t (piece_of t) → Steady Q x → Ends Q x
    goes Q x q s = ends Q behind x s (ap (λ x. follow x behind) q ∙ turned)

    pub follows_data : (piece_of t).kind ≡ DATA → Follows d (j + (piece_of t).size) (drop (piece_of t).size t)
    follows_data k = onward (Open d) d x q e e.holds
      where
        x : Turn
        x = turn_data L N w.place w.tally j (piece_of t)

        q : x ≡ turn_by L N w.place w.tally j t (piece_of t)
        q = sym (data_by L N w.place w.tally j t (piece_of t) k)

        e : Ends (Open d) x
        e = goes (Open d) x q (data_steady d w.tally j w.place (piece_of t) w.opens)

    module _ (k : (piece_of t).kind ≡ START ⊎ (piece_of t).kind ≡ EMPTY) where
      tag_turn : Turn
      tag_turn = turn_tag L N w.place w.tally j t (piece_of t)

      tag-ends : Ends (Tagged d w.tally j (piece_of t)) tag_turn
      unfolding tag_turn
      tag-ends = goes (Tagged d w.tally j (piece_of t)) tag_turn (by-tag L N w.place w.tally j t (piece_of t) k) (tag_steady d w.tally j w.place t (piece_of t) w.opens)

      pub follows_room : suc d ≤ L
      follows_room = tag-ends.holds.room

      pub follows_tag : Follows (cond (eqb (piece_of t).kind START) (suc d) d) (j + (piece_of t).size) (drop (piece_of t).size t)
      unfolding tag_turn
      follows_tag =
          onward (Tagged d w.tally j (piece_of t)) (cond (eqb (piece_of t).kind START) (suc d) d) tag_turn (by-tag L N w.place w.tally j t (piece_of t) k) tag-ends
          tag-ends.holds.opens

    module _ (k : (piece_of t).kind ≡ CLOSE) where
      close_turn : Turn
      close_turn = turn_close L N w.place w.tally j t (piece_of t)

      close-ends : Ends (Shut d w.tally j) close_turn
      unfolding close_turn
      close-ends = goes (Shut d w.tally j) close_turn (by-close L N w.place w.tally j t (piece_of t) k) (close_steady d w.tally j w.place t (piece_of t) w.opens)

      pub follows_some : 1 ≤ d
      follows_some = close-ends.holds.some

      pub follows_close : Follows (d - 1) (j + (piece_of t).size) (drop (piece_of t).size t)
      unfolding close_turn
      follows_close =
          onward (Shut d w.tally j) (d - 1) close_turn (by-close L N w.place w.tally j t (piece_of t) k) close-ends close-ends.holds.opens

    pub follows_rest : ((piece_of t).kind ≡ END → ⊥) → ((piece_of t).kind ≡ DATA → ⊥) → ((piece_of t).kind ≡ CLOSE → ⊥) → ((piece_of t).kind ≡ START → ⊥) →
        ((piece_of t).kind ≡ EMPTY → ⊥) → Follows d (j + (piece_of t).size) (drop (piece_of t).size t)
    follows_rest a b k s m = onward (Open d) d x q e e.holds
      where
        x : Turn
        x = cond (piece_of t).whole (go w.place w.tally) (halt (broken (j + (piece_of t).size)))

        q : x ≡ turn_by L N w.place w.tally j t (piece_of t)
        q = sym (by-rest w.place w.tally j t (piece_of t) a b k s m)

        e : Ends (Open d) x
        e = goes (Open d) x q (rest_steady d w.tally j w.place (piece_of t) w.opens)

  -- ---- the beginning and the end
  pub follows_start : (t : List ℕ) → check L N 0 (between b0 before) (tally 0 0 false) t ≡ whole n → Follows 0 0 t
  unfolding nested lawful
  follows_start t e = record { place = before; tally = tally 0 0 false; names = refl; opens = record { place = refl; tally = refl }; checking = e }

  pub follows_end : (d j : ℕ) → Follows d j [] → d ≡ 0
  unfolding check accepting nested
  follows_end d j w = by_place w.place w.opens.place w.checking
    where
      by_place : (p : Place) → nested p ≡ d → cond (accepting (some (between b0 p))) (whole w.tally.met) (broken j) ≡ whole n → d ≡ 0
      by_place before q e = absurd (broken-whole j n e)
      by_place after q e = sym q
      by_place (inside n' p) q e = absurd (broken-whole j n e)

  -- ---- how many nodes
  pub few : (t : List ℕ) (j : ℕ) (s : State) (c : Tally) → c.met ≤ N → check L N j s c t ≡ whole n → n ≤ N
  unfolding check
  few [] j s c l e = by_end (accepting (some s)) e
    where
      by_end : (b : Bool) → cond b (whole c.met) (broken j) ≡ whole n → n ≤ N
      by_end true e = omega (arith, whole_is c.met n e)
      by_end false e = absurd (broken-whole j n e)
  few (x ∷ t) j s c l e = by-step (step s x) (meets s x c.solid && full L N c) refl e (λ s' h. few t (suc j) s' (count s x c) h)
    where
      grows : (a : Bool) → (a && full L N c) ≡ false → cond a (suc c.met) c.met ≤ N
      grows true q = omega (arith, leb-false N c.met (or_none (ltb L (suc c.depth)) (leb N c.met) q))
      grows false q = l

      by-step : (o : Option State) (b : Bool) → (meets s x c.solid && full L N c) ≡ b → weighed L N o b c.met j (λ z. check L N (suc j) z (count s x c) t) ≡ whole n →
          ((s' : State) → (count s x c).met ≤ N → check L N (suc j) s' (count s x c) t ≡ whole n → n ≤ N) → n ≤ N
      by-step none b q e r = absurd (broken-whole j n e)
      by-step (some s') true q e r = absurd (over-whole c.met n e)
      by-step (some s') false q e r = r s' (grows (meets s x c.solid) q) e
