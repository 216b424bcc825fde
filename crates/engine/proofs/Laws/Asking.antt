-- What one step asks holds between two steps: places are in memory, no count wraps, and there is room for each answer that is left. Assumes nothing.
--   stack-enough        the stack never holds more entries than the level of its top's node, so 64 are enough
--   going-at, going-deep   the place of the top
--   going_final         the entry that is closed is a final one
--   going-comes         what comes, word by word
--   going-pre           what one step asks
-- Letters: J job; u world; st its state, t the top, below the entry below it; c, v nodes, e entry, j word.
use Prim.Native.Nat.{ℕ, ◌-◌, ◌≤◌, ◌<◌}
use mathlib.Core.Path.{◌≡◌, refl, ◌∙◌}
use mathlib.Core.List.{List}
use mathlib.Core.Bool.{true, not}
use mathlib.Core.Logic.{⊎_elim}
use native.Mathlib.Nat.{mul-le-mul_right}
use native.Mathlib.Omega.{arith}
use lib.Dec.{eqb}
use lib.ListN.{length, get_or}
use Rattle.seq.specs.Lists.{tally, EachBelow}
use Rattle.seq.proofs.Laws.Bools.{bool_cases, and_right}
use Rattle.seq.proofs.Laws.Numbers.{less_or}
use Rattle.seq.proofs.Laws.Lists.{tally_le}
use Rattle.seq.proofs.Laws.Gather.{get_d_tabulate, listed_le}
use Rattle.tree.specs.Tree.{level}
use Rattle.tree.proofs.Laws.Under.{parents-before}
use Rattle.answers.specs.Answers.{own}
use Rattle.engine.specs.declared.Entry.{Entry}
use Rattle.engine.specs.Inner.Entries.{held, answering}
use Rattle.engine.specs.Inner.Cursors.{coming, coming_row}
use Rattle.engine.specs.Inner.Meaning.{Stands, entry_at, Standing}
use Rattle.engine.specs.Inner.Steps.{Now, ClosePre, ArrivePre, AdvancePre}
use Rattle.engine.specs.Inner.Going.{Job, World, nodes_of, words_of, list_of, is_answer, total, past_of, met_of, Going}
use Rattle.engine.proofs.Laws.Entries.{sums_at}
use Rattle.engine.proofs.Laws.Shares.{share_le, top-own, stands-answers}
use Rattle.engine.proofs.Laws.Closing.{top_rung, below_less}
use Rattle.engine.proofs.Laws.Depth.{depth}
use Rattle.engine.proofs.Laws.Occurrences.{list-below, list_le}
use Rattle.engine.proofs.Laws.Cursors.{coming-is, cursors-pre}
use Rattle.engine.proofs.Laws.Counting.{past_split}
use Rattle.engine.proofs.Laws.Writing.{Final, left-some}

module _ (J : Job) (u : World) (G : Going J u) (on : u.state.on ≡ true) where
  abbrev p : List ℕ
  p = J.parents

  abbrev k : ℕ
  k = words_of J

  abbrev W : ℕ → List ℕ
  W = list_of J

  abbrev st : Now
  st = u.state

  -- The top, and the entry below it.
  abbrev t : Entry
  t = entry_at u.stack st.at

  abbrev below : Entry
  below = entry_at u.stack (st.at - 1)

  bound : (j : ℕ) → j < 8 → EachBelow (nodes_of J) (W j)
  bound = list-below J G.sound

  stack : Standing p k W st.reach u.stack st.at
  stack = G.standing on

  met-on : met_of J u ≡ past_of J st.smallest st.reach t.node
  unfolding met_of
  met-on = rw on

  -- ---- places
  pub going-at : st.at < length u.stack
  going-at = stack.place

  -- As many entries are open as the top's node has levels, or fewer, and no lawful tree has more than 64 of them.
  pub stack-enough : (st.at < level p t.node) × (level p t.node ≤ 64)
  stack-enough = (depth p G.sound.preorder k W st.reach u.stack st.at stack, G.sound.levels t.node stack.node)

  pub going-deep : st.at < 64
  going-deep = omega (arith, stack-enough.0, stack-enough.1)

  -- ---- no count wraps
  module _ (c v : ℕ) (e : Entry) (w : Stands p k W st.reach c v e) (j : ℕ) (l : j < 8) where
    own-few : get_or e.own j 0 ≤ 65536
    own-few = omega (arith, w.own j l, share_le p W st.reach c v (own p k W v) j, list_le J G.sound j l, G.sound.few)

    covered-few : get_or e.covered j 0 ≤ 65536
    covered-few = omega (arith, w.covered j l, share_le p W st.reach c v (λ u. not (own p k W v u)) j, list_le J G.sound j l, G.sound.few)

  -- The entry below stands for a share of its own; at place 0 it is the top itself.
  below-few : (j : ℕ) → j < 8 → (get_or below.own j 0 ≤ 65536) × (get_or below.covered j 0 ≤ 65536)
  below-few j l =
      ⊎_elim
      (λ (h : 0 < st.at). (
        own-few _ _ _ (top_rung p G.sound.preorder k G.sound.few_words W bound st.reach u.stack st.at stack h).stands j l,
        covered-few _ _ _ (top_rung p G.sound.preorder k G.sound.few_words W bound st.reach u.stack st.at stack h).stands j l,
      ))
      (λ (h : st.at ≤ 0). let z : st.at - 1 ≡ st.at = omega arith in rw z (own-few _ _ _ stack.stands j l, covered-few _ _ _ stack.stands j l))
      (less_or 0 st.at)

  held-few : (j : ℕ) → j < 8 → get_or (held t) j 0 ≤ 131072
  held-few j l = omega (arith, sums_at t.own t.covered j l, own-few _ _ _ stack.stands j l, covered-few _ _ _ stack.stands j l)

  -- ---- the top is closed
  -- Its entry is final.
  pub going_final : st.reach ≤ t.node → Final J u t st.reach t.node
  unfolding is_answer
  going_final h = record {
    node = stack.node;
    passed = h;
    is = refl;
    tells = stands-answers p G.sound.preorder k G.sound.few_words W bound st.reach t.node t h stack.stands G.sound.some_words st.smallest;
    owns = λ j l. top-own p G.sound.preorder k G.sound.few_words W bound st.reach t.node t h stack.stands j (omega (arith, G.sound.few_words));
    met = met-on;
  }

  left-few : st.reach ≤ t.node → st.left ≤ 65536
  left-few h =
      let a : total J st.smallest ≤ nodes_of J = listed_le (nodes_of J) (is_answer J st.smallest) in
      ⊎_elim
      (λ f. omega (arith, (G.writes f).left, G.sound.few))
      (λ f. omega (arith, G.counts f, met-on, past_split J st.smallest st.reach t.node stack.node h, G.sound.few))
      (bool_cases st.fill)

  close-pre : st.reach ≤ t.node → ClosePre p k u.out u.own st t below
  close-pre h = record {
    on = on;
    words = G.sound.few_words;
    few = G.sound.few;
    down = parents-before p (nodes_of J) G.sound.preorder;
    node = stack.node;
    not_root = λ a. omega (arith, below_less p G.sound.preorder k G.sound.few_words W bound st.reach u.stack st.at stack a);
    holds = record { fits = λ j l. omega (arith, own-few _ _ _ stack.stands j l, covered-few _ _ _ stack.stands j l) };
    into = record {
      own = record { fits = λ j l. omega (arith, (below-few j l).0, held-few j l) };
      covered = record { fits = λ j l. omega (arith, (below-few j l).1, held-few j l) };
    };
    more = left-few h;
    left = λ a. left-some J u t st.reach t.node (going_final h) (G.writes (and_right (answering st.smallest k t) st.fill a)) a;
    out = λ f. omega (arith, (G.writes f).left, (G.writes f).room);
    own = λ f b. omega (arith, (G.writes f).own_room b, mul-le-mul_right {m = st.left} {n = total J st.smallest} k (omega (arith, (G.writes f).left)));
  }

  -- ---- a node comes
  coming-at : (j : ℕ) → j < 8 → get_or (coming_row u.cursors st.reach) j 0 ≡ coming u.cursors st.reach j
  unfolding coming_row
  coming-at j l = get_d_tabulate 8 (coming u.cursors st.reach) j 0 l

  pub going-comes : 0 < st.reach → (j : ℕ) → j < 8 → get_or (coming_row u.cursors st.reach) j 0 ≡ tally (eqb (st.reach - 1)) (W j)
  going-comes h j l = coming-at j l ∙ coming-is J G.sound st.reach u.cursors (G.reaching on) h j l

  coming-few : 0 < st.reach → (j : ℕ) → j < 8 → get_or (coming_row u.cursors st.reach) j 0 ≤ 65536
  coming-few h j l =
      omega (arith, going-comes h j l, tally_le (eqb (st.reach - 1)) (W j), list_le J G.sound j l, G.sound.few)

  arrive-pre : t.node < st.reach → ArrivePre J.ends J.occurrences u.cursors st t
  arrive-pre h = record {
    on = on;
    cursors = cursors-pre J G.sound st.reach u.cursors (G.reaching on) (omega arith);
    counts = record { fits = λ j l. omega (arith, own-few _ _ _ stack.stands j l, coming-few (omega arith) j l) };
    place = going-deep;
  }

  -- What one step asks.
  pub going-pre : AdvancePre p J.ends J.occurrences u.cursors u.out u.own st t below
  going-pre = record { close = close-pre; arrive = arrive-pre }
