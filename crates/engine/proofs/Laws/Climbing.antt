-- The climb that follows when the top is closed: nodes that are not open are passed until the node below is met, or one that stands before the reach.
-- Each node that is passed is closed too. It holds what was closed into it, so that the counts stay the same, and it is no answer. Assumes nothing.
--   standing_ext        a stack is read off its memory up to the top
--   climbed-up, climbed-end   one step of the climb, and its end
--   answer-full         an answer is full
--   Climbed …           == what holds where the climb from the top's parent has ended at x
--   top-climbed         it holds of `risen`
-- Letters: p parents; k words, W their lists; s the first node met; ys, zs stacks, d the top's place; x where the climb ends, r node, j word, b whether
-- the smallest are listed.
use Prim.Native.Nat.{ℕ, zero, suc, ◌-◌, ◌≤◌, ◌<◌}
use mathlib.Core.Path.{◌≡◌, sym, ap, ap₂, subst, ◌∙◌}
use mathlib.Core.List.{List}
use mathlib.Core.Bool.{Bool, true, false, cond, ◌&&◌}
use mathlib.Core.Logic.{◌⊎◌, inl, inr, ⊎_elim}
use native.Mathlib.Nat.{not-le_of_lt}
use native.Mathlib.Omega.{arith}
use lib.Dec.{leb, ltb}
use borrow.Author.Tests.{lt-ltb, ltb-true, le-leb, leb-true}
use lib.ListN.{length, set, length-set}
use lib.Seq.{get_or-set_same, get_or-set_other, set-set}
use Rattle.seq.specs.Lists.{EachBelow}
use Rattle.seq.proofs.Laws.Bools.{bool_cases, bool-not_both, and_left, and_right, and_both}
use Rattle.seq.proofs.Laws.Numbers.{less_or}
use Rattle.seq.proofs.Laws.Lists as Under
use Rattle.tree.specs.Tree.{parent, under}
use Rattle.tree.specs.Plain.{Preorder, Down}
use Rattle.tree.proofs.Laws.Under.{under_le, parents-before}
use Rattle.answers.specs.Answers.{full, slca, elca}
use Rattle.answers.proofs.Laws.Full.{full_at}
use Rattle.answers.proofs.Laws.Plain.{slca-full, elca-full}
use Rattle.engine.specs.declared.Entry.{Entry}
use Rattle.engine.specs.Inner.Entries.{fresh, held, full_entry, answering, closed_into}
use Rattle.engine.specs.Inner.Meaning.{occ, Stands, entry_at, node_at, Standing}
use Rattle.engine.specs.Inner.Steps.{climbed, risen}
use Rattle.engine.proofs.Laws.Entries.{closed-node, raised-held, raised-full, raised-answers}
use Rattle.engine.proofs.Laws.Shares.{stands-answers}
use Rattle.engine.proofs.Laws.Closing.{line_ext, below_less, below-parent, parent-before, none_between, standing-met, standing-new}

pub climbed-up : (p : List ℕ) (l r f v : ℕ) → (ltb l v && leb r v) ≡ true → climbed p l r (suc f) v ≡ climbed p l r f (parent p v)
unfolding climbed
climbed-up p l r f v t = rw t

pub climbed-end : (p : List ℕ) (l r f v : ℕ) → (ltb l v && leb r v) ≡ false → climbed p l r (suc f) v ≡ v
unfolding climbed
climbed-end p l r f v t = rw t

pub answer-full : (p : List ℕ) (k : ℕ) (W : ℕ → List ℕ) (b : Bool) (r : ℕ) → cond b (slca p k W r) (elca p k W r) ≡ true → full p k W r ≡ true
answer-full p k W true r z = slca-full p k W r z
answer-full p k W false r z = elca-full p k W r z

-- The top is closed, with the nodes up to x.
pub record Climbed (p : List ℕ) (k : ℕ) (W : ℕ → List ℕ) (s : ℕ) (ys : List Entry) (d x : ℕ) : Type 0 where
  pub low : x < node_at ys d
  -- of the nodes that are passed none is an answer
  pub none : (b : Bool) (r : ℕ) → x < r → r < node_at ys d → s ≤ r → cond b (slca p k W r) (elca p k W r) ≡ true → ⊥
  pub ends : (x ≡ node_at ys (d - 1)) ⊎ ((node_at ys (d - 1) < x) × (x < s))
  pub met : x ≡ node_at ys (d - 1) → Standing p k W s (set ys (d - 1) (closed_into (entry_at ys (d - 1)) (full_entry k (entry_at ys d)) (held (entry_at ys d)))) (d - 1)
  pub new : (x ≡ node_at ys (d - 1) → ⊥) → Standing p k W s (set ys d (closed_into (fresh x) (full_entry k (entry_at ys d)) (held (entry_at ys d)))) d

module _ (p : List ℕ) (o : Preorder p (length p)) (k : ℕ) (words : k ≤ 8) (W : ℕ → List ℕ) (bound : (j : ℕ) → j < 8 → EachBelow (length p) (W j)) where
  down : Down p (length p)
  down = parents-before p (length p) o

  pub standing_ext : (s : ℕ) (ys zs : List Entry) (d : ℕ) → length ys ≡ length zs → ((i : ℕ) → i < suc d → entry_at ys i ≡ entry_at zs i) → Standing p k W s ys d → Standing p k W s zs d
  standing_ext s ys zs d long same w =
      record {
        place = omega (arith, w.place);
        node = rw (← here) w.node;
        stands = subst (λ (z : Entry). Stands p k W s (length p) z.node z) (same d (omega arith)) w.stands;
        line = rw (← here) (line_ext p o k words W bound s ys zs d (node_at ys d) (λ i l. same i (omega arith)) w.line);
        first = λ j i lj li m. rw (← here) (w.first j i lj li m);
        reach = λ u a b l. rw (← here) (w.reach u (rw (← here) at a) b l);
        clear = λ q j i a b lj li m g. w.clear q j i (rw (← here) at a) b lj li m g;
      }
    where
      here : node_at ys d ≡ node_at zs d
      here = ap (λ (z : Entry). z.node) (same d (omega arith))

  module _ (some : 0 < k) (s d : ℕ) (deep : 0 < d) where
    module _ (ys : List Entry) (w : Standing p k W s ys d) (passed : s ≤ node_at ys d) where
      abbrev up : ℕ
      up = parent p (node_at ys d)

      -- An answer has occurrences under it, which have been met.
      answer_between : (b : Bool) (r : ℕ) → up < r → r < node_at ys d → s ≤ r → cond b (slca p k W r) (elca p k W r) ≡ true → ⊥
      answer_between b r h l m z =
          let f : Under.Entry (under p r) (W 0) = full_at p k W r (answer-full p k W b r z) 0 some in
          none_between p o k words W bound s ys d w deep passed r 0 f.at h l (omega arith) f.below
          (omega (arith, under_le p (length p) down r (occ W 0 f.at) (bound 0 (omega arith) f.at f.below) f.passes)) f.passes

      -- The climb ends at the parent.
      stops : (ltb (node_at ys (d - 1)) up && leb s up) ≡ false → Climbed p k W s ys d up
      stops t = record {
        low = parent-before p o k words W bound s ys d w deep;
        none = answer_between;
        ends = ⊎_elim
            (λ (h : node_at ys (d - 1) < up). inr (h, ⊎_elim (λ (g : up < s). g) (λ (g : s ≤ up). absurd (bool-not_both _ (and_both _ _ (lt-ltb _ _ h) (le-leb _ _ g)) t)) (less_or up s)))
            (λ (h : up ≤ node_at ys (d - 1)). inl (omega (arith, below-parent p o k words W bound s ys d w deep)))
            (less_or (node_at ys (d - 1)) up);
        met = λ z. standing-met p o k words W bound s ys d w deep passed (sym z);
        new = λ z. standing-new p o k words W bound s ys d w deep passed (λ g. z (sym g));
      }

      -- The parent is passed: it is closed in its turn.
      module _ (t : (ltb (node_at ys (d - 1)) up && leb s up) ≡ true) where
        abbrev E : Entry
        E = closed_into (fresh up) (full_entry k (entry_at ys d)) (held (entry_at ys d))

        abbrev zs : List Entry
        zs = set ys d E

        past : node_at ys (d - 1) < up
        past = ltb-true _ _ (and_left _ _ t)

        opened : Standing p k W s zs d
        opened = standing-new p o k words W bound s ys d w deep passed (λ (z : node_at ys (d - 1) ≡ up). omega (arith, past))

        here : entry_at zs d ≡ E
        here = get_or-set_same ys d E (fresh 0) w.place

        other : (i : ℕ) → (i ≡ d → ⊥) → entry_at zs i ≡ entry_at ys i
        other i ne = get_or-set_other ys d i E (fresh 0) ne

        top : node_at zs d ≡ up
        unfolding fresh
        top = ap (λ (z : Entry). z.node) here ∙ closed-node (fresh up) (held (entry_at ys d)) (full_entry k (entry_at ys d))

        below : entry_at zs (d - 1) ≡ entry_at ys (d - 1)
        below = other (d - 1) (λ (z : d - 1 ≡ d). omega arith)

        -- It holds the same counts,
        same-held : held (entry_at zs d) ≡ held (entry_at ys d)
        same-held = ap held here ∙ raised-held k (entry_at ys d) up (full_entry k (entry_at ys d))

        same_full : full_entry k (entry_at zs d) ≡ full_entry k (entry_at ys d)
        same_full = ap (full_entry k) here ∙ raised-full k (entry_at ys d) up (full_entry k (entry_at ys d))

        same-closed : (b : Entry) → closed_into b (full_entry k (entry_at zs d)) (held (entry_at zs d)) ≡ closed_into b (full_entry k (entry_at ys d)) (held (entry_at ys d))
        same-closed b = ap₂ (closed_into b) same_full same-held

        -- and is no answer.
        no_answer : (b : Bool) → cond b (slca p k W up) (elca p k W up) ≡ true → ⊥
        no_answer b z =
            bool-not_both (answering b k E)
            (ap (answering b k) (sym here)
            ∙ stands-answers p o k words W bound s (node_at zs d) (entry_at zs d) (rw top (leb-true s up (and_right (ltb (node_at ys (d - 1)) up) _ t))) opened.stands some b
            ∙ ap (λ (r : ℕ). cond b (slca p k W r) (elca p k W r)) top ∙ z)
            (raised-answers k (entry_at ys d) up some words b)

        further : (x : ℕ) → Climbed p k W s zs d x → Climbed p k W s ys d x
        further x c = record {
          low = omega (arith, c.low, top, parent-before p o k words W bound s ys d w deep);
          none = λ b r h l m z. ⊎_elim
              (λ (g : r < up). c.none b r h (omega (arith, top)) m z)
              (λ (g : up ≤ r). ⊎_elim (λ (a : up < r). answer_between b r a l m z) (λ (a : r ≤ up). let e : r ≡ up = omega arith in no_answer b (rw e at z)) (less_or up r))
              (less_or r up);
          ends = subst (λ (l : ℕ). (x ≡ l) ⊎ ((l < x) × (x < s))) (ap (λ (y : Entry). y.node) below) c.ends;
          met = λ z. standing_ext s (set zs (d - 1) A) (set ys (d - 1) B) (d - 1) (length-set zs (d - 1) A ∙ length-set ys d E ∙ sym (length-set ys (d - 1) B)) met-same
              (c.met (z ∙ sym (ap (λ (y : Entry). y.node) below)));
          new = λ z. subst (λ (l : List Entry). Standing p k W s l d) (set-set ys d E _ ∙ ap (set ys d) (same-closed (fresh x))) (c.new (λ y. z (y ∙ ap (λ (y : Entry). y.node) below)));
        }
          where
            A : Entry
            A = closed_into (entry_at zs (d - 1)) (full_entry k (entry_at zs d)) (held (entry_at zs d))

            B : Entry
            B = closed_into (entry_at ys (d - 1)) (full_entry k (entry_at ys d)) (held (entry_at ys d))

            met-same : (i : ℕ) → i < suc (d - 1) → entry_at (set zs (d - 1) A) i ≡ entry_at (set ys (d - 1) B) i
            met-same i l =
                ⊎_elim
                (λ (g : i < d - 1). get_or-set_other zs (d - 1) i A (fresh 0) (λ (z : i ≡ d - 1). omega arith) ∙ other i (λ (z : i ≡ d). omega arith)
                ∙ sym (get_or-set_other ys (d - 1) i B (fresh 0) (λ (z : i ≡ d - 1). omega arith)))
                (λ (g : d - 1 ≤ i). let e : i ≡ d - 1 = omega arith in
                rw e (get_or-set_same zs (d - 1) A (fresh 0) (omega (arith, length-set ys d E, w.place))
                ∙ ap (λ (b : Entry). closed_into b (full_entry k (entry_at zs d)) (held (entry_at zs d))) below ∙ same-closed (entry_at ys (d - 1))
                ∙ sym (get_or-set_same ys (d - 1) B (fresh 0) (omega (arith, w.place)))))
                (less_or i (d - 1))

    climbs : (f : ℕ) (ys : List Entry) → Standing p k W s ys d → s ≤ node_at ys d → node_at ys d ≤ f →
        Climbed p k W s ys d (climbed p (node_at ys (d - 1)) s f (parent p (node_at ys d)))
    climbs zero ys w passed l = absurd (not-le_of_lt (below_less p o k words W bound s ys d w deep) (omega arith))
    climbs (suc f) ys w passed l =
        ⊎_elim
        (λ t. rw (climbed-up p (node_at ys (d - 1)) s f (parent p (node_at ys d)) t) (further ys w passed t _
        (subst (λ (x : ℕ). Climbed p k W s (zs ys w passed t) d x) (ap₂ (λ (a b : ℕ). climbed p a s f (parent p b)) (ap (λ (y : Entry). y.node) (below ys w passed t)) (top ys w passed t))
        (climbs f (zs ys w passed t) (opened ys w passed t)
        (rw (top ys w passed t) (leb-true s (parent p (node_at ys d)) (and_right (ltb (node_at ys (d - 1)) (parent p (node_at ys d))) _ t)))
        (omega (arith, top ys w passed t, parent-before p o k words W bound s ys d w deep))))))
        (λ t. rw (climbed-end p (node_at ys (d - 1)) s f (parent p (node_at ys d)) t) (stops ys w passed t))
        (bool_cases (ltb (node_at ys (d - 1)) (parent p (node_at ys d)) && leb s (parent p (node_at ys d))))

    pub top-climbed : (ys : List Entry) → Standing p k W s ys d → s ≤ node_at ys d → Climbed p k W s ys d (risen p (node_at ys (d - 1)) s (node_at ys d))
    top-climbed ys w passed = climbs (node_at ys d) ys w passed (omega arith)
