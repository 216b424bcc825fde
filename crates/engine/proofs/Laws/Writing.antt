-- What the closing of a node leaves in out and own, and in the number of answers. Assumes nothing.
--   row-long, row_inside, row-after   a row that is put into own
--   left-answer, left-more, left_other   the answers counted or left
--   out-answer, out-other, own-answer, own-other, own-smallest   out and own, where the node is an answer and where it is not
--   closed_world …       == the world once the entry e was closed, with stack, cursors and places as they are then
--   Final …             == the entry e is a final one: it tells whether its node v is an answer, and has v's own counts
--   left-some           there is an answer left to write where one is written
--   counts-closed, written-closed   the counting and the writing go on
--   stays_out, stays-own, counted_same   what is left of out and own
-- Letters: k words, m row; st state, e the entry that is closed, v its node; J job, u world; s the first node met; j word, i, y entries of own.
use Prim.Native.Nat.{ℕ, ◌+◌, ◌-◌, ◌*◌, ◌≤◌, ◌<◌}
use mathlib.Core.Path.{◌≡◌, refl, sym, ap, ◌∙◌}
use mathlib.Core.List.{List, ◌++◌}
use mathlib.Core.Bool.{Bool, true, false, not, cond, ◌&&◌}
use mathlib.Core.Logic.{⊎_elim}
use native.Mathlib.Omega.{arith}
use borrow.Rule.Slice.PartMut.{put_mid}
use lib.ListN.{length, get_or, set, take, length-set}
use lib.Seq.{length-take-le, get_or-take, drop-drop, get_or-set_same, get_or-set_other}
use Rattle.seq.specs.Plain.{StaysFrom}
use Rattle.seq.proofs.Laws.Bools.{bool_cases, cond-false, and_left, and_right, and_both, and_false-left, and_false-right}
use Rattle.seq.proofs.Laws.Numbers.{less_or, row_next, row_le}
use Rattle.seq.proofs.Laws.Parts.{put-long, put-inside, put-after}
use Rattle.answers.specs.Answers.{own_count}
use Rattle.engine.specs.declared.Entry.{Entry}
use Rattle.engine.specs.declared.cursors.Cursors.{Cursors}
use Rattle.engine.specs.Inner.Entries.{answering}
use Rattle.engine.specs.Inner.Steps.{Now, left_after, out_after, own_after, row_put, writing, moved}
use Rattle.engine.specs.Inner.Going.{Job, World, nodes_of, words_of, list_of, is_answer, answers_of, total, own_rows, past_of, met_of, Written}
use Rattle.engine.proofs.Laws.Entries.{each-some-long}
use Rattle.engine.proofs.Laws.Counting.{past-place, answer-listed, answer-row}

-- ---- a row of own
module _ (k m : ℕ) (a w : List ℕ) (room : m * k + k ≤ length w) (wide : k ≤ length a) where
  row_put_lem : row_put k m a w ≡ put_mid (m * k) k w (take k a)
  row_put_lem = ap (λ (z : List ℕ). take (m * k) w ++ (take k a ++ z)) (sym (drop-drop k (m * k) w))

  row : length (take k a) ≡ k
  row = length-take-le k a wide

  pub row-long : length (row_put k m a w) ≡ length w
  row-long = ap length row_put_lem ∙ put-long (m * k) k w (take k a) room row

  pub row_inside : (j : ℕ) → j < k → get_or (row_put k m a w) (m * k + j) 0 ≡ get_or a j 0
  row_inside j l = ap (λ (z : List ℕ). get_or z (m * k + j) 0) row_put_lem ∙ put-inside (m * k) k w (take k a) room row j l ∙ get_or-take k a j 0 l

  pub row-after : (i : ℕ) → m * k + k ≤ i → get_or (row_put k m a w) i 0 ≡ get_or w i 0
  row-after i l = ap (λ (z : List ℕ). get_or z i 0) row_put_lem ∙ put-after (m * k) k w (take k a) room row i l

-- ---- the answers counted or left
module _ (k : ℕ) (st : Now) (e : Entry) where
  pub left-answer : answering st.smallest k e ≡ true → st.fill ≡ true → left_after k st e ≡ st.left - 1
  unfolding left_after
  left-answer a f = rw (a, f)

  pub left-more : answering st.smallest k e ≡ true → st.fill ≡ false → left_after k st e ≡ st.left + 1
  unfolding left_after
  left-more a f = rw (a, f)

  pub left_other : answering st.smallest k e ≡ false → left_after k st e ≡ st.left
  unfolding left_after
  left_other a = rw a

  -- ---- out and own
  pub out-answer : (o : List ℕ) → writing k st e ≡ true → out_after k st e o ≡ set o (st.left - 1) e.node
  unfolding out_after
  out-answer o a = rw a

  pub out-other : (o : List ℕ) → writing k st e ≡ false → out_after k st e o ≡ o
  unfolding out_after
  out-other o a = rw a

  pub own-answer : (w : List ℕ) → writing k st e ≡ true → st.smallest ≡ false → own_after k st e w ≡ row_put k (st.left - 1) e.own w
  unfolding own_after
  own-answer w a b = ap (λ (t : Bool). cond (t && not st.smallest) (row_put k (st.left - 1) e.own w) w) a ∙ ap (λ (t : Bool). cond (not t) (row_put k (st.left - 1) e.own w) w) b

  pub own-other : (w : List ℕ) → writing k st e ≡ false → own_after k st e w ≡ w
  unfolding own_after
  own-other w a = ap (λ (t : Bool). cond (t && not st.smallest) (row_put k (st.left - 1) e.own w) w) a

  pub own-smallest : (w : List ℕ) → st.smallest ≡ true → own_after k st e w ≡ w
  unfolding own_after
  own-smallest w b = cond-false (writing k st e && not st.smallest) (and_false-right (writing k st e) (not st.smallest) (ap not b)) _ w

  -- An ELCA's entry has a whole row.
  answer-wide : st.smallest ≡ false → answering st.smallest k e ≡ true → k ≤ length e.own
  unfolding answering
  answer-wide b a = each-some-long k e.own (rw b at a)

-- ---- one node is closed
abbrev pub closed_world : ℕ → World → Entry → List Entry → Cursors → Bool → ℕ → ℕ → World
closed_world k u e ys c on at r = record {
  stack = ys;
  cursors = c;
  out = out_after k u.state e u.out;
  own = own_after k u.state e u.own;
  state = moved u.state on at r (left_after k u.state e);
}

pub record Final (J : Job) (u : World) (e : Entry) (s v : ℕ) : Type 0 where
  pub node : v < nodes_of J
  pub passed : s ≤ v
  pub is : e.node ≡ v
  pub tells : answering u.state.smallest (words_of J) e ≡ is_answer J u.state.smallest v
  pub owns : (j : ℕ) → j < words_of J → get_or e.own j 0 ≡ own_count J.parents (words_of J) (list_of J) v j
  -- the answers past v have been met
  pub met : met_of J u ≡ past_of J u.state.smallest s v

module _ (J : Job) (u : World) (e : Entry) (s v : ℕ) (d : Final J u e s v) where
  abbrev k : ℕ
  k = words_of J

  abbrev b : Bool
  b = u.state.smallest

  abbrev m : ℕ
  m = u.state.left

  fills : writing k u.state e ≡ true → u.state.fill ≡ true
  fills a = and_right (answering b k e) u.state.fill a

  -- There is an answer left to write where one is written,
  pub left-some : Written J u → writing k u.state e ≡ true → 0 < m
  left-some w a = omega (arith, past-place J b s v m d.node d.passed (ap (λ (z : ℕ). m + z) (sym d.met) ∙ w.left) (sym d.tells ∙ and_left _ _ a))

  -- and a row.
  row-some : Written J u → writing k u.state e ≡ true → m * k ≡ (m - 1) * k + k
  row-some w a = let z : m ≡ m - 1 + 1 = omega (arith, left-some w a) in ap (λ (y : ℕ). y * k) z ∙ row_next (m - 1) k

  row_room : Written J u → writing k u.state e ≡ true → b ≡ false → (m - 1) * k + k ≤ length u.own
  row_room w a f = omega (arith, w.own_room f, row_le (m - 1) (total J b) k (omega (arith, w.left, left-some w a)))

  row-wide : writing k u.state e ≡ true → b ≡ false → k ≤ length e.own
  row-wide a f = answer-wide k u.state e f (and_left _ _ a)

  -- ---- what is left of out and own
  pub stays_out : (u.state.fill ≡ true → Written J u) → StaysFrom m u.out (out_after k u.state e u.out)
  stays_out w =
      ⊎_elim
      (λ a. rw (out-answer k u.state e u.out a) (record {
        long = length-set u.out (m - 1) e.node;
        same = λ i l. get_or-set_other u.out (m - 1) i e.node 0 (λ (z : i ≡ m - 1). omega (arith, left-some (w (fills a)) a));
      }))
      (λ a. rw (out-other k u.state e u.out a) (record { long = refl; same = λ i l. refl }))
      (bool_cases (writing k u.state e))

  pub stays-own : (u.state.fill ≡ true → Written J u) → StaysFrom (m * k) u.own (own_after k u.state e u.own)
  stays-own w =
      ⊎_elim
      (λ z. rw (own-smallest k u.state e u.own z) (record { long = refl; same = λ i l. refl }))
      (λ z. ⊎_elim
      (λ a. rw (own-answer k u.state e u.own a z) (record {
        long = row-long k (m - 1) e.own u.own (row_room (w (fills a)) a z) (row-wide a z);
        same = λ i l. row-after k (m - 1) e.own u.own (row_room (w (fills a)) a z) (row-wide a z) i (omega (arith, row-some (w (fills a)) a));
      }))
      (λ a. rw (own-other k u.state e u.own a) (record { long = refl; same = λ i l. refl }))
      (bool_cases (writing k u.state e)))
      (bool_cases b)

  pub counted_same : u.state.fill ≡ false → (out_after k u.state e u.out ≡ u.out) × (own_after k u.state e u.own ≡ u.own)
  counted_same f =
      let a : writing k u.state e ≡ false = and_false-right (answering b k e) u.state.fill f in
      (out-other k u.state e u.out a, own-other k u.state e u.own a)

  -- ---- the counting and the writing go on
  module _ (ys : List Entry) (c : Cursors) (on : Bool) (at r : ℕ) (more : met_of J (closed_world k u e ys c on at r) ≡ met_of J u + cond (is_answer J b v) 1 0) where
    abbrev u' : World
    u' = closed_world k u e ys c on at r

    pub counts-closed : u.state.fill ≡ false → m ≡ met_of J u → left_after k u.state e ≡ met_of J u'
    counts-closed f h =
        ⊎_elim
        (λ a. omega (arith, left-more k u.state e a f, rw (sym d.tells ∙ a) at more))
        (λ a. omega (arith, left_other k u.state e a, rw (sym d.tells ∙ a) at more))
        (bool_cases (answering b k e))

    module _ (f : u.state.fill ≡ true) (w : Written J u) where
      module _ (a : answering b k e ≡ true) where
        writes : writing k u.state e ≡ true
        writes = and_both _ _ a f

        is-answer : is_answer J b v ≡ true
        is-answer = sym d.tells ∙ a

        left_is : left_after k u.state e ≡ m - 1
        left_is = left-answer k u.state e a f

        counted : m + past_of J b s v ≡ total J b
        counted = ap (λ (z : ℕ). m + z) (sym d.met) ∙ w.left

        -- The new row, then those that were written before.
        node_at_lem : (i : ℕ) → m - 1 ≤ i → i < total J b → get_or (out_after k u.state e u.out) i 0 ≡ get_or (answers_of J b) i 0
        node_at_lem i l h =
            ap (λ (z : List ℕ). get_or z i 0) (out-answer k u.state e u.out writes)
            ∙ ⊎_elim
            (λ (g : i < m). let z : i ≡ m - 1 = omega arith in
            rw z (get_or-set_same u.out (m - 1) e.node 0 (omega (arith, w.room)) ∙ d.is ∙ sym (answer-listed J b s v m d.node d.passed counted is-answer)))
            (λ (g : m ≤ i). get_or-set_other u.out (m - 1) i e.node 0 (λ (z : i ≡ m - 1). omega (arith, left-some w writes)) ∙ w.nodes i g h)
            (less_or i m)

        own_at : b ≡ false → (y : ℕ) → (m - 1) * k ≤ y → y < total J b * k → get_or (own_after k u.state e u.own) y 0 ≡ get_or (own_rows J b) y 0
        own_at z y l h =
            ap (λ (q : List ℕ). get_or q y 0) (own-answer k u.state e u.own writes z)
            ∙ ⊎_elim
            (λ (g : y < (m - 1) * k + k). new_row (y - (m - 1) * k) (omega arith) (omega arith))
            (λ (g : (m - 1) * k + k ≤ y). row-after k (m - 1) e.own u.own (row_room w writes z) (row-wide writes z) y g ∙ w.owns z y (omega (arith, row-some w writes)) h)
            (less_or y ((m - 1) * k + k))
          where
            new_row : (j : ℕ) → j < k → y ≡ (m - 1) * k + j → get_or (row_put k (m - 1) e.own u.own) y 0 ≡ get_or (own_rows J b) y 0
            new_row j lj q =
                rw q (row_inside k (m - 1) e.own u.own (row_room w writes z) (row-wide writes z) j lj ∙ d.owns j lj
                ∙ sym (answer-row J b s v m d.node d.passed counted is-answer j lj))

        written-answer : Written J u'
        written-answer = record {
          left = omega (arith, left_is, rw is-answer at more, w.left, left-some w writes);
          room = omega (arith, w.room, (stays_out (λ q. w)).long);
          nodes = λ i l h. node_at_lem i (omega (arith, left_is)) h;
          own_room = λ z. omega (arith, w.own_room z, (stays-own (λ q. w)).long);
          owns = λ z y l h. own_at z y (rw left_is at l) h;
        }

      written-other : answering b k e ≡ false → Written J u'
      written-other a = record {
        left = omega (arith, left_other k u.state e a, rw (sym d.tells ∙ a) at more, w.left);
        room = rw (out-other k u.state e u.out (and_false-left _ u.state.fill a)) w.room;
        nodes = λ i l h. rw (out-other k u.state e u.out (and_false-left _ u.state.fill a)) (w.nodes i (rw (left_other k u.state e a) at l) h);
        own_room = λ z. rw (own-other k u.state e u.own (and_false-left _ u.state.fill a)) (w.own_room z);
        owns = λ z y l h. rw (own-other k u.state e u.own (and_false-left _ u.state.fill a)) (w.owns z y (rw (left_other k u.state e a) at l) h);
      }

      pub written-closed : Written J u'
      written-closed = ⊎_elim written-answer written-other (bool_cases (answering b k e))
