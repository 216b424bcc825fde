-- The last steps of `close`, `arrive` and `advance`: what they give is what the definitions say. Assumes nothing.
-- Letters: p parents, k words; ends, occ as lent; s state, m the tally then; e the top that is closed, t the top, b the entry below, f an entry; h counts; c, o, w cursors, out and own.
use Prim.Native.Nat.{ℕ, ◌+◌, ◌-◌, ◌≤◌, ◌<◌, ◌^◌}
use mathlib.Core.Path.{◌≡◌, refl, sym, ap, ◌∙◌}
use mathlib.Core.List.{List}
use mathlib.Core.Bool.{Bool}
use native.Mathlib.Nat.{not-le_of_lt}
use native.Mathlib.Omega.{arith}
use borrow.Author.Tests.{lt-ltb, ltb-true, eq-eqb, ne_eqb}
use lib.ListN.{length, get_or, replicate, get_or-replicate}
use Rattle.seq.proofs.Laws.Gather.{get_d_tabulate}
use Rattle.engine.specs.declared.Entry.{Entry}
use Rattle.engine.specs.declared.cursors.Cursors.{Cursors}
use Rattle.engine.specs.declared.steps.State.{State}
use Rattle.engine.specs.declared.steps.Tally.{Tally}
use Rattle.engine.specs.Inner.Entries.{fresh, sums, held, each_some, closed_into, SumsPre, ClosedIntoPre}
use Rattle.engine.specs.Inner.Cursors.{coming_row, Taken}
use Rattle.engine.specs.Inner.Steps.{Now, now, Move, moved_to, risen, closed_over, closed_step, arrived_step, ClosePre, ArrivePre, Closed, Arrived, Advanced}
use Rattle.engine.specs.Inner.Writing.{JudgePre, Judged, ClimbPre}

-- ---- closing
module _ (p : List ℕ) (k : ℕ) (o w : List ℕ) (s : State) (e b : Entry) (pre : ClosePre p k o w (now s) e b) where
  pub is-open : 0 < s.depth
  is-open = ltb-true 0 s.depth pre.on

  pub judge-pre : (h : List ℕ) (full : Bool) → h ≡ held e → full ≡ each_some k h → JudgePre k o w s e full
  judge-pre h full a q = record {
    words = pre.words;
    known = q ∙ ap (each_some k) a;
    more = pre.more;
    left = pre.left;
    out = pre.out;
    own = pre.own;
  }

  pub climb-pre : (s.depth ≡ 1 → ⊥) → ClimbPre p e.node
  climb-pre ne = record { down = pre.down; node = pre.node; not_root = pre.not_root (omega (arith, is-open)) }

  pub into-pre : (h : List ℕ) → h ≡ held e → ClosedIntoPre b h
  into-pre h a = rw a pre.into

  held_at : (j : ℕ) → j < 8 → get_or (held e) j 0 ≡ get_or e.own j 0 + get_or e.covered j 0
  unfolding sums
  held_at j l = get_d_tabulate 8 _ j 0 l

  -- A new entry has room for all that the top has counted.
  pub into_new : (h : List ℕ) (f : Entry) (q : ℕ) → h ≡ held e → f ≡ fresh q → ClosedIntoPre f h
  unfolding fresh
  into_new h f q a g = rw (a, g) (record { own = record { fits = fits }; covered = record { fits = fits } })
    where
      fits : (j : ℕ) → j < 8 → get_or (replicate 8 0) j 0 + get_or (held e) j 0 < 2 ^ 32
      fits j l = omega (arith, get_or-replicate {A = ℕ} 8 j 0 0 l, held_at j l, pre.holds.fits j l)

module _ (p : List ℕ) (k : ℕ) (o w : List ℕ) (s : State) (e b : Entry) (m : Tally) (o' w' : List ℕ) (d : Judged k o w s e m o' w') where
  pub closed-root : (f : Entry) → s.depth ≡ 1 → f ≡ fresh 0 →
      Closed p k o w (now s) e b (moved_to (record { state = record { depth = 0; reach = s.reach; tally = m; smallest = s.smallest }; top = f })) o' w'
  unfolding closed_step
  closed-root f z g = record { step = rw (d.result, d.fill, g, z) refl; out = d.out; own = d.own }

  module _ (ne : s.depth ≡ 1 → ⊥) (opens : 0 < s.depth) (h : List ℕ) (full : Bool) (q : ℕ) (a : h ≡ held e) (g : full ≡ each_some k h) (r : q ≡ risen p b.node s.reach e.node) where
    deep : s.depth - 1 ≡ 0 → ⊥
    deep y = ne (omega arith)

    pub closed-met : (x : Entry) → q ≡ b.node → x ≡ closed_into b full h →
        Closed p k o w (now s) e b (moved_to (record { state = record { depth = s.depth - 1; reach = s.reach; tally = m; smallest = s.smallest }; top = x })) o' w'
    unfolding closed_step closed_over
    closed-met x z v = record {
      step = rw (
        ne_eqb (s.depth - 1) 0 deep,
        eq-eqb (risen p b.node s.reach e.node) b.node (sym r ∙ z),
        d.result,
        d.fill,
        v,
        g,
        a,
        lt-ltb 0 (s.depth - 1) (omega (arith, opens, ne)),
        lt-ltb 0 s.depth opens,
      ) refl;
      out = d.out;
      own = d.own;
    }

    pub closed-new : (x f : Entry) → (q ≡ b.node → ⊥) → f ≡ fresh q → x ≡ closed_into f full h →
        Closed p k o w (now s) e b (moved_to (record { state = record { depth = s.depth; reach = s.reach; tally = m; smallest = s.smallest }; top = x })) o' w'
    unfolding closed_step closed_over
    closed-new x f z y v = record {
      step = rw (ne_eqb (s.depth - 1) 0 deep, ne_eqb (risen p b.node s.reach e.node) b.node (λ u. z (r ∙ u)), d.result, d.fill, v, y, r, g, a) refl;
      out = d.out;
      own = d.own;
    }

-- ---- what comes next
module _ (ends occ : List ℕ) (c : Cursors) (s : State) (t : Entry) (pre : ArrivePre ends occ c (now s) t) where
  pub came-fits : (h : List ℕ) → h ≡ coming_row c s.reach → SumsPre t.own h
  came-fits h a = rw a pre.counts

  pub was-open : 0 < s.depth
  was-open = ltb-true 0 s.depth pre.on

  module _ (r' : ℕ) (c' : Cursors) (h : List ℕ) (k : Taken ends occ c s.reach r' c') (a : h ≡ coming_row c s.reach) where
    pub arrived-met : (x : List ℕ) → t.node ≡ s.reach - 1 → x ≡ sums t.own h →
        Arrived ends occ c (now s) t
        (moved_to (record { state = record { depth = s.depth; reach = r'; tally = s.tally; smallest = s.smallest }; top = record { node = t.node; own = x; covered = t.covered } })) c'
    unfolding arrived_step
    arrived-met x e g = record { step = rw (eq-eqb t.node (s.reach - 1) e, g, a, e) refl; cursors = k }

    pub arrived-new : (t.node ≡ s.reach - 1 → ⊥) →
        Arrived ends occ c (now s) t
        (moved_to (record { state = record { depth = s.depth + 1; reach = r'; tally = s.tally; smallest = s.smallest }; top = record { node = s.reach - 1; own = h; covered = replicate 8 0 } })) c'
    unfolding arrived_step
    arrived-new ne = record {
      step = rw (ne_eqb t.node (s.reach - 1) ne, a, lt-ltb 0 (s.depth + 1) (omega arith), lt-ltb 0 s.depth was-open, higher) refl;
      cursors = k;
    }
      where
        higher : s.depth + 1 - 1 ≡ s.depth - 1 + 1
        higher = omega (arith, was-open)

-- ---- one step
module _ (p ends occ : List ℕ) (c : Cursors) (o w : List ℕ) (s : Now) (t b : Entry) (n : Move) where
  pub advanced_closed : (o' w' : List ℕ) → s.reach ≤ t.node → Closed p (length ends) o w s t b n o' w' → Advanced p ends occ c o w s t b n c o' w'
  advanced_closed o' w' l d = record { closed = λ h. (d, refl); arrived = λ (h : t.node < s.reach). absurd (not-le_of_lt h l) }

  pub advanced_arrived : (c' : Cursors) → t.node < s.reach → Arrived ends occ c s t n c' → Advanced p ends occ c o w s t b n c' o w
  advanced_arrived c' l d = record { closed = λ (h : s.reach ≤ t.node). absurd (not-le_of_lt l h); arrived = λ h. (d, refl, refl) }
