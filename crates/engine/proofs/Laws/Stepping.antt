-- One step keeps what holds between two steps. Assumes nothing.
--   closed-root, closed-met, closed-new, arrived-added, arrived_pushed   the steps, case by case
--   Stepped J u u'      == the world u has become u' by one step
--   going-stepped       one step
-- Letters: J job; u, u' worlds; st its state, t the top, below the entry below it; n step; a place, e entry; c, o, w cursors, out and own; r' the next reach; j word.
use Prim.Native.Nat.{ℕ, suc, ◌+◌, ◌-◌, ◌≤◌, ◌<◌}
use mathlib.Core.Path.{◌≡◌, refl, sym, ap, ap₂, subst, ◌∙◌}
use mathlib.Core.List.{List}
use mathlib.Core.Bool.{Bool, true, false, cond, false≢true}
use mathlib.Core.Logic.{⊎_elim}
use native.Mathlib.Numerals.{add-one}
use native.Mathlib.Omega.{arith}
use lib.Dec.{eqb}
use borrow.Author.Tests.{eq-eqb, ne_eqb, eqb-true, eqb-false}
use lib.ListN.{length, get_or, set, replicate, length-set}
use lib.Seq.{get_or-set_same, get_or-set_other}
use Rattle.seq.specs.Lists.{tally, EachBelow}
use Rattle.seq.proofs.Laws.Bools.{bool_cases, cond-true, cond-false}
use Rattle.seq.proofs.Laws.Numbers.{less_or, row_le}
use Rattle.engine.specs.declared.Entry.{Entry}
use Rattle.engine.specs.declared.cursors.Cursors.{Cursors}
use Rattle.engine.specs.Inner.Entries.{fresh, sums, held, full_entry, closed_into}
use Rattle.engine.specs.Inner.Cursors.{coming_row, Taken}
use Rattle.engine.specs.Inner.Meaning.{Line, entry_at, node_at, Standing}
use Rattle.engine.specs.Inner.Steps.{Now, Move, left_after, out_after, own_after, risen, moved, step, closed_step, closed_over, arrived_step, Closed, Arrived, Advanced}
use Rattle.engine.specs.Inner.Going.{Job, World, nodes_of, words_of, list_of, is_answer, past_of, met_of, Written, Going, measure, Kept, stepped}
use Rattle.engine.proofs.Laws.Entries.{fresh-node, closed-node}
use Rattle.engine.proofs.Laws.Climbing.{Climbed, top-climbed}
use Rattle.engine.proofs.Laws.Opening.{standing-next, standing-added, standing_pushed}
use Rattle.engine.proofs.Laws.Depth.{depth-next}
use Rattle.engine.proofs.Laws.Occurrences.{list-below}
use Rattle.engine.proofs.Laws.Cursors.{reach-node, taken-less, taken-skips, reaching-taken}
use Rattle.engine.proofs.Laws.Counting.{past-closed, past-arrived, past-root}
use Rattle.engine.proofs.Laws.Writing.{own-smallest, closed_world, Final, stays_out, stays-own, counted_same, counts-closed, written-closed}
use Rattle.engine.proofs.Laws.Asking.{going-deep, going_final, going-comes}

pub record Stepped (J : Job) (u u' : World) : Type 0 where
  pub going : Going J u'
  pub kept : Kept J u u'
  pub less : measure J u' < measure J u
  pub place : u'.state.at < length u.stack

-- ---- the steps, case by case
module _ (p : List ℕ) (k : ℕ) (s : Now) (e b : Entry) where
  closed-root : s.at ≡ 0 → closed_step p k s e b ≡ step (moved s false s.at s.reach (left_after k s e)) (fresh 0)
  unfolding closed_step
  closed-root z = cond-true (eqb s.at 0) (eq-eqb s.at 0 z) _ _

  abbrev ends : ℕ
  ends = risen p b.node s.reach e.node

  closed-met : 0 < s.at → ends ≡ b.node →
      closed_step p k s e b ≡ step (moved s s.on (s.at - 1) s.reach (left_after k s e)) (closed_into b (full_entry k e) (held e))
  unfolding closed_step closed_over
  closed-met h z = cond-false (eqb s.at 0) (ne_eqb s.at 0 (λ (y : s.at ≡ 0). omega arith)) _ _ ∙ cond-true (eqb ends b.node) (eq-eqb ends b.node z) _ _

  closed-new : 0 < s.at → (ends ≡ b.node → ⊥) →
      closed_step p k s e b ≡ step (moved s s.on s.at s.reach (left_after k s e)) (closed_into (fresh ends) (full_entry k e) (held e))
  unfolding closed_step closed_over
  closed-new h z = cond-false (eqb s.at 0) (ne_eqb s.at 0 (λ (y : s.at ≡ 0). omega arith)) _ _ ∙ cond-false (eqb ends b.node) (ne_eqb ends b.node z) _ _

module _ (s : Now) (t : Entry) (c : Cursors) (r' : ℕ) where
  arrived-added : t.node ≡ s.reach - 1 →
      arrived_step s t c r' ≡ step (moved s s.on s.at r' s.left) (record { node = s.reach - 1; own = sums t.own (coming_row c s.reach); covered = t.covered })
  unfolding arrived_step
  arrived-added z = cond-true (eqb t.node (s.reach - 1)) (eq-eqb t.node (s.reach - 1) z) _ _

  arrived_pushed : (t.node ≡ s.reach - 1 → ⊥) →
      arrived_step s t c r' ≡ step (moved s s.on (s.at + 1) r' s.left) (record { node = s.reach - 1; own = coming_row c s.reach; covered = replicate 8 0 })
  unfolding arrived_step
  arrived_pushed z = cond-false (eqb t.node (s.reach - 1)) (ne_eqb t.node (s.reach - 1) z) _ _

module _ (J : Job) (u : World) (G : Going J u) (on : u.state.on ≡ true) where
  abbrev p : List ℕ
  p = J.parents

  abbrev k : ℕ
  k = words_of J

  abbrev W : ℕ → List ℕ
  W = list_of J

  abbrev st : Now
  st = u.state

  -- The top, and the entry below it.
  abbrev t : Entry
  t = entry_at u.stack st.at

  abbrev below : Entry
  below = entry_at u.stack (st.at - 1)

  bound : (j : ℕ) → j < 8 → EachBelow (nodes_of J) (W j)
  bound = list-below J G.sound

  stack : Standing p k W st.reach u.stack st.at
  stack = G.standing on

  deepest : st.at < 64
  deepest = going-deep J u G on

  -- ---- the top is closed
  module _ (h : st.reach ≤ t.node) where
    final : Final J u t st.reach t.node
    final = going_final J u G on h

    -- Out and own are as closing leaves them, and the stack has a new entry at place a.
    kept-closed : (a : ℕ) (e : Entry) (go : Bool) (at r : ℕ) → a < 64 → Kept J u (closed_world k u t (set u.stack a e) u.cursors go at r)
    kept-closed a e go at r l = record {
      smallest = refl;
      fill = refl;
      long = length-set u.stack a e;
      rest = λ i g. get_or-set_other u.stack a i e (fresh 0) (λ (z : i ≡ a). omega arith);
      counted = counted_same J u t st.reach t.node final;
      out = stays_out J u t st.reach t.node final G.writes;
      own = stays-own J u t st.reach t.node final G.writes;
      no_own = λ b. own-smallest k st t u.own b;
    }

    -- The root is closed last.
    module _ (z : st.at ≡ 0) where
      abbrev rooted : World
      rooted = closed_world k u t (set u.stack st.at (fresh 0)) u.cursors false st.at st.reach

      root : t.node ≡ 0
      unfolding Line
      root = subst (λ (a : ℕ). Line p k W st.reach u.stack a t.node) z stack.line

      more-root : met_of J rooted ≡ met_of J u + cond (is_answer J st.smallest t.node) 1 0
      unfolding met_of
      more-root =
          past-root J st.smallest st.reach G.sound.some (omega (arith, root))
          ∙ sym (ap₂ ◌+◌ (rw (on, root) refl) (ap (λ (v : ℕ). cond (is_answer J st.smallest v) 1 0) root))

      less-root : measure J rooted < measure J u
      unfolding measure
      less-root = rw on (omega arith)

      root-stepped : Stepped J u rooted
      root-stepped = record {
        going = record {
          sound = G.sound;
          wide = omega (arith, length-set u.stack st.at (fresh 0), G.wide);
          standing = λ q. absurd (false≢true q);
          reaching = λ q. absurd (false≢true q);
          counts = λ f. counts-closed J u t st.reach t.node final _ _ _ _ _ more-root f (G.counts f);
          writes = λ f. written-closed J u t st.reach t.node final _ _ _ _ _ more-root f (G.writes f);
        };
        kept = kept-closed st.at (fresh 0) false st.at st.reach deepest;
        less = less-root;
        place = stack.place;
      }

    -- Any other node is closed with the nodes up to where the climb ends.
    module _ (deep : 0 < st.at) where
      abbrev x : ℕ
      x = risen p below.node st.reach t.node

      climb : Climbed p k W st.reach u.stack st.at x
      climb = top-climbed p G.sound.preorder k G.sound.few_words W bound G.sound.some_words st.reach st.at deep u.stack stack h

      module _ (a : ℕ) (e : Entry) (l : a < length u.stack) (small : a < 64) (node : e.node ≡ x) (w : Standing p k W st.reach (set u.stack a e) a) where
        abbrev climbed_to : World
        climbed_to = closed_world k u t (set u.stack a e) u.cursors st.on a st.reach

        top : node_at (set u.stack a e) a ≡ x
        top = ap (λ (z : Entry). z.node) (get_or-set_same u.stack a e (fresh 0) l) ∙ node

        more-climbed : met_of J climbed_to ≡ met_of J u + cond (is_answer J st.smallest t.node) 1 0
        unfolding met_of is_answer
        more-climbed = rw (on, top) (past-closed J st.smallest st.reach x t.node climb.low stack.node h (climb.none st.smallest))

        less-climbed : measure J climbed_to < measure J u
        unfolding measure
        less-climbed = rw (on, top) (omega (arith, climb.low))

        climbed-stepped : Stepped J u climbed_to
        climbed-stepped = record {
          going = record {
            sound = G.sound;
            wide = omega (arith, length-set u.stack a e, G.wide);
            standing = λ q. w;
            reaching = λ q. G.reaching on;
            counts = λ f. counts-closed J u t st.reach t.node final _ _ _ _ _ more-climbed f (G.counts f);
            writes = λ f. written-closed J u t st.reach t.node final _ _ _ _ _ more-climbed f (G.writes f);
          };
          kept = kept-closed a e st.on a st.reach small;
          less = less-climbed;
          place = l;
        }

    abbrev SteppedBy : Move → Type 0
    SteppedBy n = Stepped J u (stepped u n u.cursors (out_after k st t u.out) (own_after k st t u.own))

    stepped-closed : SteppedBy (closed_step p k st t below)
    stepped-closed =
        ⊎_elim
        (λ (deep : 0 < st.at). ⊎_elim
        (λ z. subst SteppedBy (sym (closed-met p k st t below deep (eqb-true (x deep) below.node z)))
        (climbed-stepped deep (st.at - 1) met-entry (omega (arith, stack.place)) (omega (arith, deepest))
        (closed-node below (held t) (full_entry k t) ∙ sym (eqb-true (x deep) below.node z))
        ((climb deep).met (eqb-true (x deep) below.node z))))
        (λ z. subst SteppedBy (sym (closed-new p k st t below deep (eqb-false (x deep) below.node z)))
        (climbed-stepped deep st.at (new-entry deep) stack.place deepest (closed-node (fresh (x deep)) (held t) (full_entry k t) ∙ fresh-node (x deep))
        ((climb deep).new (λ y. eqb-false (x deep) below.node z y))))
        (bool_cases (eqb (x deep) below.node)))
        (λ (low : st.at ≤ 0). let z : st.at ≡ 0 = omega arith in subst SteppedBy (sym (closed-root p k st t below z)) (root-stepped z))
        (less_or 0 st.at)
      where
        met-entry : Entry
        met-entry = closed_into below (full_entry k t) (held t)

        new-entry : 0 < st.at → Entry
        new-entry deep = closed_into (fresh (x deep)) (full_entry k t) (held t)

  -- ---- a node comes
  module _ (h : t.node < st.reach) (r' : ℕ) (c' : Cursors) (T : Taken J.ends J.occurrences u.cursors st.reach r' c') where
    abbrev y : ℕ
    y = st.reach - 1

    reach-is : st.reach ≡ suc y
    reach-is = omega arith

    falls : r' < st.reach
    falls = taken-less J G.sound st.reach u.cursors (G.reaching on) (omega arith) r' c' T

    is-node : y < nodes_of J
    is-node = reach-node J G.sound st.reach u.cursors (G.reaching on) (omega arith)

    comes : (j : ℕ) → j < 8 → get_or (coming_row u.cursors st.reach) j 0 ≡ tally (eqb y) (W j)
    comes = going-comes J u G on (omega arith)

    open_stack : Standing p k W (suc y) u.stack st.at
    open_stack = subst (λ (r : ℕ). Standing p k W r u.stack st.at) reach-is stack

    module _ (a : ℕ) (e : Entry) (l : a < length u.stack) (small : a < 64) (node : e.node ≡ y) (w : Standing p k W y (set u.stack a e) a) where
      abbrev arrived_at : World
      arrived_at = record { stack = set u.stack a e; cursors = c'; out = u.out; own = u.own; state = moved st st.on a r' st.left }

      new-top : node_at (set u.stack a e) a ≡ y
      new-top = ap (λ (z : Entry). z.node) (get_or-set_same u.stack a e (fresh 0) l) ∙ node

      met-same : met_of J arrived_at ≡ met_of J u
      unfolding met_of
      met-same = rw (on, new-top) (sym (ap (λ (r : ℕ). past_of J st.smallest r t.node) reach-is ∙ past-arrived J st.smallest t.node y r' (omega arith) (omega (arith, falls))))

      less-arrived : measure J arrived_at < measure J u
      unfolding measure
      less-arrived = rw (on, new-top) (omega (arith, row_le r' st.reach (suc (nodes_of J)) falls, is-node))

      written-arrived : Written J u → Written J arrived_at
      written-arrived v = record { left = ap (λ (z : ℕ). st.left + z) met-same ∙ v.left; room = v.room; nodes = v.nodes; own_room = v.own_room; owns = v.owns }

      arrived-stepped : Stepped J u arrived_at
      arrived-stepped = record {
        going = record {
          sound = G.sound;
          wide = omega (arith, length-set u.stack a e, G.wide);
          standing = λ q. standing-next p G.sound.preorder k G.sound.few_words W bound y r' (omega (arith, falls))
              (taken-skips J G.sound st.reach u.cursors (G.reaching on) (omega arith) r' c' T) (set u.stack a e) a w;
          reaching = λ q. reaching-taken J G.sound st.reach u.cursors (G.reaching on) (omega arith) r' c' T;
          counts = λ f. G.counts f ∙ sym met-same;
          writes = λ f. written-arrived (G.writes f);
        };
        kept = record {
          smallest = refl;
          fill = refl;
          long = length-set u.stack a e;
          rest = λ i g. get_or-set_other u.stack a i e (fresh 0) (λ (z : i ≡ a). omega arith);
          counted = λ f. (refl, refl);
          out = record { long = refl; same = λ i g. refl };
          own = record { long = refl; same = λ i g. refl };
          no_own = λ b. refl;
        };
        less = less-arrived;
        place = l;
      }

    stepped-arrived : Stepped J u (stepped u (arrived_step st t u.cursors r') c' u.out u.own)
    stepped-arrived =
        ⊎_elim
        (λ z. let q : t.node ≡ y = eqb-true t.node y z in
        subst (λ (n : Move). Stepped J u (stepped u n c' u.out u.own)) (sym (arrived-added st t u.cursors r' q))
        (arrived-stepped st.at added stack.place deepest refl
        (standing-added p G.sound.preorder k G.sound.few_words W bound y is-node u.stack st.at open_stack (coming_row u.cursors st.reach) comes q)))
        (λ z. let q : t.node < y = omega (arith, eqb-false t.node y z) in
        subst (λ (n : Move). Stepped J u (stepped u n c' u.out u.own)) (sym (arrived_pushed st t u.cursors r' (eqb-false t.node y z)))
        (arrived-stepped (st.at + 1) pushed (omega (arith, room q, G.wide)) (omega (arith, room q)) refl
        (subst (λ (d : ℕ). Standing p k W y (set u.stack d pushed) d) (sym (add-one st.at))
        (standing_pushed p G.sound.preorder k G.sound.few_words W bound y is-node u.stack st.at open_stack (coming_row u.cursors st.reach) comes q (omega (arith, room q, G.wide))))))
        (bool_cases (eqb t.node y))
      where
        added : Entry
        added = record { node = y; own = sums t.own (coming_row u.cursors st.reach); covered = t.covered }

        pushed : Entry
        pushed = record { node = y; own = coming_row u.cursors st.reach; covered = replicate 8 0 }

        -- There is a place for a node under the top: levels go up to 64.
        room : t.node < y → suc st.at < 64
        room q = omega (arith, depth-next p G.sound.preorder k W y u.stack st.at open_stack is-node q, G.sound.levels y is-node)

  -- ---- one step
  pub going-stepped : (n : Move) (c' : Cursors) (o' w' : List ℕ) → Advanced p J.ends J.occurrences u.cursors u.out u.own st t below n c' o' w' → Stepped J u (stepped u n c' o' w')
  going-stepped n c' o' w' A =
      ⊎_elim
      (λ (h : t.node < st.reach). arrives (A.arrived h) h)
      (λ (h : st.reach ≤ t.node). closes (A.closed h) h)
      (less_or t.node st.reach)
    where
      closes : Closed p k u.out u.own st t below n o' w' × (c' ≡ u.cursors) → st.reach ≤ t.node → Stepped J u (stepped u n c' o' w')
      closes C h = rw (C.0.step, C.0.out, C.0.own, C.1) (stepped-closed h)

      arrives : Arrived J.ends J.occurrences u.cursors st t n c' × (o' ≡ u.out) × (w' ≡ u.own) → t.node < st.reach → Stepped J u (stepped u n c' o' w')
      arrives C h =
          rw (C.1, C.2) (subst (λ (m : Move). Stepped J u (stepped u m c' u.out u.own)) (sym C.0.step) (stepped-arrived h n.state.reach c' C.0.cursors))
