-- Closing the top into its parent keeps what the stack means. Assumes nothing.
--   line_ext, line_lift     a line of open nodes, in other memory; below the parent of its last node
--   top_rung, below_less, below-parent   the entry below the top: its node is at or above the top's parent
--   parent-before           the top's parent stands before it
--   none_between            nothing that was met is under a node between the top and its parent
--   standing-met            the parent is the node below: its entry is the new top
--   standing-new            it is not: the parent's new entry takes the top's place
-- Letters: p parents; k words, W their lists; s the first node met; ys stack, d the top's place; v node, q its parent, u under it; b, e entries, j word.
use Prim.Native.Nat.{ℕ, zero, suc, ◌-◌, ◌≤◌, ◌<◌}
use mathlib.Core.Path.{◌≡◌, refl, sym, ap, subst, ◌∙◌}
use mathlib.Core.List.{List}
use mathlib.Core.Bool.{Bool, true, false, not, ◌&&◌}
use mathlib.Core.Logic.{⊎_elim}
use native.Mathlib.Nat.{not-le_of_lt, not-suc-le-zero}
use native.Mathlib.Omega.{arith}
use lib.Dec.{leb}
use borrow.Author.Tests.{leb-true, eq-eqb}
use lib.ListN.{length, set, length-set}
use lib.Seq.{get_or-set_same, get_or-set_other}
use Rattle.seq.specs.Lists.{EachBelow}
use Rattle.seq.proofs.Laws.Bools.{bool_cases, bool_ext, bool_false, and_left, and_right, not_at}
use Rattle.tree.specs.Tree.{parent, under, properly, child}
use Rattle.tree.specs.Plain.{Preorder, Down}
use Rattle.tree.proofs.Laws.Under.{under_le, under_trans, under-within, parents-before}
use Rattle.tree.proofs.Laws.Children.{child-of, child-under, parent-less}
use Rattle.tree.proofs.Laws.Ways.{properly-of, properly-under, properly_ne, properly-parent, properly-below}
use Rattle.engine.specs.declared.Entry.{Entry}
use Rattle.engine.specs.Inner.Entries.{fresh, held, full_entry, closed_into}
use Rattle.engine.specs.Inner.Meaning.{occ, share, Stands, Rung, Line, entry_at, node_at, Standing}
use Rattle.engine.proofs.Laws.Shares.{stands_ext, stands-fresh, stands-closed}

module _ (p : List ℕ) (o : Preorder p (length p)) (k : ℕ) (words : k ≤ 8) (W : ℕ → List ℕ) (bound : (j : ℕ) → j < 8 → EachBelow (length p) (W j)) where
  down : Down p (length p)
  down = parents-before p (length p) o

  properly-up : (w v : ℕ) → 0 < v → v < length p → properly p w v ≡ true → under p w (parent p v) ≡ true
  properly-up w zero h l e = absurd (not-suc-le-zero h)
  properly-up w (suc v) h l e = properly-parent p (length p) down w v l e

  parent-child : (v : ℕ) → 0 < v → child p (parent p v) v ≡ true
  parent-child v h = child-of p (parent p v) v h ∙ eq-eqb (parent p v) (parent p v) refl

  parent-properly : (v : ℕ) → 0 < v → v < length p → properly p (parent p v) v ≡ true
  parent-properly v h l = child-under p (length p) down (parent p v) v l (parent-child v h)

  -- ---- lines
  -- A line is read off the memory below it.
  pub line_ext : (s : ℕ) (ys zs : List Entry) (d c : ℕ) → ((i : ℕ) → i < d → entry_at ys i ≡ entry_at zs i) → Line p k W s ys d c → Line p k W s zs d c
  unfolding Line
  line_ext s ys zs zero c h w = w
  line_ext s ys zs (suc d) c h w =
      let e : entry_at ys d ≡ entry_at zs d = h d (omega arith) in (
        subst (λ (z : Entry). Rung p k W s z c) e w.0,
        line_ext s ys zs d (node_at zs d) (λ i l. h i (omega arith)) (subst (λ (z : Entry). Line p k W s ys d z.node) e w.1),
      )

  module _ (s v : ℕ) (lv : v < length p) (pos : 0 < v) where
    -- v's parent
    abbrev q : ℕ
    q = parent p v

    over : (u : ℕ) → u < length p → under p v u ≡ true → under p q u ≡ true
    over u l g = under_trans p (length p) o q v u l (properly-under p q v (parent-properly v pos lv)) g

    -- The node below v on the line, where it is not v's parent, is above that parent.
    lifts : (b : Entry) → Rung p k W s b v → (b.node ≡ q → ⊥) → properly p b.node q ≡ true
    lifts b w ne = properly-of p b.node q (properly-up b.node v pos lv w.above) ne

    lifts_less : (b : Entry) → Rung p k W s b v → (b.node ≡ q → ⊥) → b.node < q
    lifts_less b w ne =
        let l : q < v = parent-less p (length p) down v pos lv in
        omega (arith, ne, under_le p (length p) down b.node q (omega arith) (properly-under p b.node q (lifts b w ne)))

    -- What was met under the parent is under v, where the parent is not open.
    gap : (b : Entry) → Rung p k W s b v → (b.node ≡ q → ⊥) → (j i : ℕ) → j < 8 → i < length (W j) → s ≤ occ W j i → under p q (occ W j i) ≡ true → under p v (occ W j i) ≡ true
    gap b w ne j i lj li h g = w.bare q j i (parent-properly v pos lv) (lifts_less b w ne) lj li h g

    rung_lift : (b : Entry) → Rung p k W s b v → (b.node ≡ q → ⊥) → Rung p k W s b q
    unfolding share
    rung_lift b w ne = record {
      above = lifts b w ne;
      bare = λ r j i a h lj li m g. over (occ W j i) (bound j lj i li)
          (w.bare r j i (properly-below p (length p) o r q v lv a (properly-under p q v (parent-properly v pos lv))) h lj li m g);
      stands = stands_ext p o k words W bound s s v q b.node b same w.stands;
    }
      where
        same : (j i : ℕ) → j < 8 → i < length (W j) → share p s v b.node (occ W j i) ≡ share p s q b.node (occ W j i)
        same j i lj li =
            ⊎_elim
            (λ m. ap (λ (z : Bool). leb s (occ W j i) && (under p b.node (occ W j i) && not z))
            (bool_ext (under p v (occ W j i)) (under p q (occ W j i)) (over (occ W j i) (bound j lj i li)) (gap b w ne j i lj li (leb-true s (occ W j i) m))))
            (λ m. rw m)
            (bool_cases (leb s (occ W j i)))

    -- Between two open nodes the line may end at any node that is not open.
    pub line_lift : (ys : List Entry) (d : ℕ) → (node_at ys d ≡ q → ⊥) → Line p k W s ys (suc d) v → Line p k W s ys (suc d) q
    unfolding Line
    line_lift ys d ne w = (rung_lift (entry_at ys d) w.0 ne, w.1)

  -- ---- the entry below the top
  module _ (s : ℕ) (ys : List Entry) (d : ℕ) (w : Standing p k W s ys d) (deep : 0 < d) where
    the_line : Line p k W s ys (suc (d - 1)) (node_at ys d)
    the_line = let z : d ≡ suc (d - 1) = omega arith in subst (λ (a : ℕ). Line p k W s ys a (node_at ys d)) z w.line

    pub top_rung : Rung p k W s (entry_at ys (d - 1)) (node_at ys d)
    unfolding Line
    top_rung = the_line.0

    -- Its node stands before the top's, which so is not the root.
    pub below_less : node_at ys (d - 1) < node_at ys d
    below_less =
        omega (
          arith,
          under_le p (length p) down (node_at ys (d - 1)) (node_at ys d) w.node (properly-under p (node_at ys (d - 1)) (node_at ys d) top_rung.above),
          properly_ne p (node_at ys (d - 1)) (node_at ys d) top_rung.above,
        )

    -- It is at or above the top's parent.
    pub below-parent : node_at ys (d - 1) ≤ parent p (node_at ys d)
    below-parent =
        under_le p (length p) down (node_at ys (d - 1)) (parent p (node_at ys d)) (omega (arith, parent-less p (length p) down (node_at ys d) (omega (arith, below_less)) w.node, w.node))
        (properly-up (node_at ys (d - 1)) (node_at ys d) (omega (arith, below_less)) w.node top_rung.above)

    pub parent-before : parent p (node_at ys d) < node_at ys d
    parent-before = parent-less p (length p) down (node_at ys d) (omega (arith, below_less)) w.node

    -- ---- the top is closed into its parent
    module _ (passed : s ≤ node_at ys d) where
      abbrev v : ℕ
      v = node_at ys d

      abbrev up : ℕ
      up = parent p v

      abbrev e : Entry
      e = entry_at ys d

      abbrev below : Entry
      below = entry_at ys (d - 1)

      pos : 0 < v
      pos = omega (arith, below_less)

      -- What was met is under no node between v and its parent.
      pub none_between : (r j i : ℕ) → up < r → r < v → j < 8 → i < length (W j) → s ≤ occ W j i → under p r (occ W j i) ≡ true → ⊥
      none_between r j i a b lj li m g =
          let x : under p r v ≡ true = under-within p (length p) o r (occ W j i) v (bound j lj i li) g (omega arith) (w.first j i lj li m) in
          let y : under p r up ≡ true = properly-up r v pos w.node (properly-of p r v x (λ (z : r ≡ v). omega arith)) in
          not-le_of_lt a (under_le p (length p) down r up (omega (arith, parent-before, w.node)) y)

      -- The parent's entry E at place a of zs, with its line below it, is a whole stack.
      whole : (zs : List Entry) (a : ℕ) (E : Entry) → a < length zs → entry_at zs a ≡ E → Stands p k W s (length p) up E → Line p k W s zs a up → Standing p k W s zs a
      whole zs a E la is stands line =
          record {
            place = la;
            node = rw here (omega (arith, parent-before, w.node));
            stands = subst (λ (z : Entry). Stands p k W s (length p) z.node z) (sym is) (subst (λ (z : ℕ). Stands p k W s (length p) z E) (sym stands.node) stands);
            line = subst (λ (z : ℕ). Line p k W s zs a z) (sym here) line;
            first = λ j i lj li m. rw here (omega (arith, parent-before, w.first j i lj li m));
            reach = λ u a b l. rw here (near u (rw here at a) b);
            clear = λ r j i a b lj li m g. none_between r j i (rw here at a) (omega arith) lj li m g;
          }
        where
          here : node_at zs a ≡ up
          here = ap (λ (z : Entry). z.node) is ∙ stands.node

          near : (u : ℕ) → up ≤ u → u < s → under p up u ≡ true
          near u a b = under-within p (length p) o up v u w.node (properly-under p up v (parent-properly v pos w.node)) a (omega arith)

      -- Where the entry below is the parent's.
      pub standing-met : below.node ≡ up → Standing p k W s (set ys (d - 1) (closed_into below (full_entry k e) (held e))) (d - 1)
      unfolding Line
      standing-met m =
          whole (set ys (d - 1) E) (d - 1) E
          (omega (arith, length-set ys (d - 1) E, w.place)) (get_or-set_same ys (d - 1) E (fresh 0) (omega (arith, w.place)))
          (stands-closed p o k words W bound s up v e below w.node passed (parent-child v pos) w.stands (subst (λ (z : ℕ). Stands p k W s v z below) m top_rung.stands))
          (line_ext s ys (set ys (d - 1) E) (d - 1) up (λ i l. sym (get_or-set_other ys (d - 1) i E (fresh 0) (λ (z : i ≡ d - 1). omega arith)))
          (subst (λ (z : ℕ). Line p k W s ys (d - 1) z) m the_line.1))
        where
          E : Entry
          E = closed_into below (full_entry k e) (held e)

      -- Where it is not: the parent is opened in the top's place.
      pub standing-new : (below.node ≡ up → ⊥) → Standing p k W s (set ys d (closed_into (fresh up) (full_entry k e) (held e))) d
      unfolding share
      standing-new ne =
          whole (set ys d E) d E
          (omega (arith, length-set ys d E, w.place)) (get_or-set_same ys d E (fresh 0) w.place)
          (stands-closed p o k words W bound s up v e (fresh up) w.node passed (parent-child v pos) w.stands (stands-fresh p o k words W bound s v up empty))
          (line_ext s ys (set ys d E) d up (λ i l. sym (get_or-set_other ys d i E (fresh 0) (λ (z : i ≡ d). omega arith)))
          (let z : suc (d - 1) ≡ d = omega arith in subst (λ (a : ℕ). Line p k W s ys a up) z (line_lift s v w.node pos ys (d - 1) ne the_line)))
        where
          E : Entry
          E = closed_into (fresh up) (full_entry k e) (held e)

          empty : (j i : ℕ) → j < 8 → i < length (W j) → (leb s (occ W j i) && (under p up (occ W j i) && not (under p v (occ W j i)))) ≡ false
          empty j i lj li =
              bool_false _ (λ z. not_at (under p v (occ W j i)) (and_right (under p up (occ W j i)) _ (and_right (leb s (occ W j i)) _ z))
              (gap s v w.node pos below top_rung ne j i lj li (leb-true s (occ W j i) (and_left _ _ z)) (and_left _ _ (and_right (leb s (occ W j i)) _ z))))
