-- A node comes: it is put on the top or added to it, and nodes at which nothing occurs are passed over. Assumes nothing.
--   standing-begun     the root alone is open, and nothing was met
--   standing-next      nodes at which nothing occurs are passed over
--   standing-added     x is the top: what occurs at x is added to its own counts
--   standing_pushed    x is under the top: it is put on it
-- How deep the stack is: Depth. Letters: p parents; k words, W their lists; s the first node met, r the next reach; ys stack, d the top's place; x the node that comes, a how often each
-- word occurs there; b, e entries, c node, j word.
use Prim.Native.Nat.{ℕ, zero, suc, ◌+◌, ◌≤◌, ◌<◌}
use mathlib.Core.Path.{◌≡◌, refl, sym, ap, subst, ◌∙◌}
use mathlib.Core.List.{List}
use mathlib.Core.Bool.{Bool, true, false, not, cond, ◌&&◌}
use mathlib.Core.Logic.{⊎_elim}
use native.Mathlib.Nat.{not-le_of_lt}
use native.Mathlib.Omega.{arith}
use lib.Dec.{leb, eqb}
use borrow.Author.Tests.{le-leb, lt-leb, leb-true, eq-eqb, eqb-true, eqb-false}
use lib.ListN.{length, get_or, set, length-set, replicate}
use lib.Seq.{get_or-set_same, get_or-set_other, set-set}
use Rattle.seq.specs.Lists.{tally, EachBelow}
use Rattle.seq.proofs.Laws.Bools.{bool_cases, bool_ext, bool_false, and_left, and_right, and_false-right}
use Rattle.tree.specs.Tree.{under}
use Rattle.tree.specs.Plain.{Preorder, Down}
use Rattle.tree.proofs.Laws.Lines.{under_self}
use Rattle.tree.proofs.Laws.Under.{under_le, under_all, under_trans, parents-before}
use Rattle.tree.proofs.Laws.Ways.{properly-of, properly-under}
use Rattle.answers.specs.Answers.{own}
use Rattle.answers.proofs.Laws.Own.{own_self}
use Rattle.engine.specs.declared.Entry.{Entry}
use Rattle.engine.specs.Inner.Entries.{fresh, sums}
use Rattle.engine.specs.Inner.Meaning.{occ, share, share_by, Stands, Rung, Line, entry_at, node_at, Standing}
use Rattle.engine.proofs.Laws.Entries.{zeros-at, sums_at}
use Rattle.engine.proofs.Laws.Shares.{tally-same, tally-two, none-under, stands_ext, stands-fresh}
use Rattle.engine.proofs.Laws.Closing.{line_ext}

and_none : (t : Bool) → (t && false) ≡ false
and_none t = and_false-right t false refl

module _ (p : List ℕ) (o : Preorder p (length p)) (k : ℕ) (words : k ≤ 8) (W : ℕ → List ℕ) (bound : (j : ℕ) → j < 8 → EachBelow (length p) (W j)) where
  down : Down p (length p)
  down = parents-before p (length p) o

  -- The same of the first k lists.
  firsts : (j : ℕ) → j < k → EachBelow (length p) (W j)
  firsts j l = bound j (omega arith)

  -- ---- the begin
  pub standing-begun : (r : ℕ) (ys : List Entry) → 0 < length p → 0 < length ys → entry_at ys 0 ≡ fresh 0 → ((j i : ℕ) → j < 8 → i < length (W j) → occ W j i < r) →
      Standing p k W r ys 0
  unfolding Line fresh share
  standing-begun r ys n l is before = record {
    place = l;
    node = rw root n;
    stands = subst (λ (z : Entry). Stands p k W r (length p) z.node z) (sym is) (stands-fresh p o k words W bound r (length p) 0 (λ j i lj li. rw (lt-leb r (occ W j i) (before j i lj li))));
    line = root;
    first = λ j i lj li m. absurd (not-le_of_lt (before j i lj li) m);
    reach = λ u a b h. rw root (under_all p (length p) down u h);
    clear = λ q j i a b lj li m g. not-le_of_lt (before j i lj li) m;
  }
    where
      root : node_at ys 0 ≡ 0
      root = ap (λ (z : Entry). z.node) is

  -- ---- nodes at which nothing occurs are passed over
  module _ (s r : ℕ) (h : r ≤ s) (skip : (j i : ℕ) → j < 8 → i < length (W j) → r ≤ occ W j i → s ≤ occ W j i) where
    same-share : (c v j i : ℕ) → j < 8 → i < length (W j) → share p s c v (occ W j i) ≡ share p r c v (occ W j i)
    unfolding share
    same-share c v j i lj li =
        ap (λ (z : Bool). z && (under p v (occ W j i) && not (under p c (occ W j i))))
        (bool_ext (leb s (occ W j i)) (leb r (occ W j i))
        (λ z. le-leb r (occ W j i) (omega (arith, leb-true s (occ W j i) z)))
        (λ z. le-leb s (occ W j i) (skip j i lj li (leb-true r (occ W j i) z))))

    line-next : (ys : List Entry) (d c : ℕ) → Line p k W s ys d c → Line p k W r ys d c
    unfolding Line
    line-next ys zero c w = w
    line-next ys (suc d) c w = (
      record {
        above = w.0.above;
        bare = λ q j i a l lj li m g. w.0.bare q j i a l lj li (skip j i lj li m) g;
        stands = stands_ext p o k words W bound s r c c (node_at ys d) (entry_at ys d) (same-share c (node_at ys d)) w.0.stands;
      },
      line-next ys d (node_at ys d) w.1,
    )

    pub standing-next : (ys : List Entry) (d : ℕ) → Standing p k W s ys d → Standing p k W r ys d
    standing-next ys d w = record {
      place = w.place;
      node = w.node;
      stands = stands_ext p o k words W bound s r (length p) (length p) (node_at ys d) (entry_at ys d) (same-share (length p) (node_at ys d)) w.stands;
      line = line-next ys d (node_at ys d) w.line;
      first = λ j i lj li m. w.first j i lj li (skip j i lj li m);
      reach = λ u a b l. w.reach u a (omega arith) l;
      clear = λ q j i a b lj li m g. w.clear q j i a (omega arith) lj li (skip j i lj li m) g;
    }

  -- ---- x is opened on the top
  module _ (x : ℕ) (ys : List Entry) (d : ℕ) (w : Standing p k W (suc x) ys d) (lx : x < length p) (over : node_at ys d < x) (room : suc d < length ys) where
    -- Nothing that was met is under x.
    bare-x : (j i : ℕ) → j < 8 → i < length (W j) → suc x ≤ occ W j i → under p x (occ W j i) ≡ true → ⊥
    bare-x j i lj li m g = w.clear x j i over (omega arith) lj li m g

    the_rung : Rung p k W (suc x) (entry_at ys d) x
    unfolding share
    the_rung = record {
      above = properly-of p (node_at ys d) x (w.reach x (omega arith) (omega arith) lx) (λ (z : node_at ys d ≡ x). omega arith);
      bare = λ q j i a l lj li m g. absurd (w.clear q j i l (suc_le q (under_le p (length p) down q x lx (properly-under p q x a))) lj li m g);
      stands = stands_ext p o k words W bound (suc x) (suc x) (length p) x (node_at ys d) (entry_at ys d) same w.stands;
    }
      where
        suc_le : (q : ℕ) → q ≤ x → q < suc x
        suc_le q l = omega arith

        same : (j i : ℕ) → j < 8 → i < length (W j) → share p (suc x) (length p) (node_at ys d) (occ W j i) ≡ share p (suc x) x (node_at ys d) (occ W j i)
        same j i lj li =
            ⊎_elim
            (λ m. rw (none-under p o k words W bound (occ W j i) (bound j lj i li), bool_false (under p x (occ W j i)) (bare-x j i lj li (leb-true (suc x) (occ W j i) m))))
            (λ m. rw m)
            (bool_cases (leb (suc x) (occ W j i)))

    standing-opened : Standing p k W (suc x) (set ys (suc d) (fresh x)) (suc d)
    unfolding Line share fresh
    standing-opened = record {
      place = omega (arith, length-set ys (suc d) (fresh x));
      node = rw top lx;
      stands = subst (λ (z : Entry). Stands p k W (suc x) (length p) z.node z) (sym new) (stands-fresh p o k words W bound (suc x) (length p) x empty);
      line = (
        subst (λ (z : Entry). Rung p k W (suc x) z (node_at zs (suc d))) (sym here) (rw top the_rung),
        subst (λ (z : Entry). Line p k W (suc x) zs d z.node) (sym here) (line_ext p o k words W bound (suc x) ys zs d (node_at ys d) (λ i l. sym (other i (omega arith))) w.line),
      );
      first = λ j i lj li m. rw top (omega arith);
      reach = λ u a b l. let z : u ≡ x = omega (arith, top) in rw (z, top) (under_self p x);
      clear = λ q j i a b lj li m g. not-le_of_lt (rw top at a) (omega arith);
    }
      where
        zs : List Entry
        zs = set ys (suc d) (fresh x)

        other : (i : ℕ) → i < suc d → entry_at zs i ≡ entry_at ys i
        other i l = get_or-set_other ys (suc d) i (fresh x) (fresh 0) (λ (z : i ≡ suc d). omega arith)

        here : entry_at zs d ≡ entry_at ys d
        here = other d (omega arith)

        new : entry_at zs (suc d) ≡ fresh x
        new = get_or-set_same ys (suc d) (fresh x) (fresh 0) room

        top : node_at zs (suc d) ≡ x
        top = ap (λ (z : Entry). z.node) new

        empty : (j i : ℕ) → j < 8 → i < length (W j) → share p (suc x) (length p) x (occ W j i) ≡ false
        empty j i lj li = bool_false _ (λ z. bare-x j i lj li (leb-true (suc x) (occ W j i) (and_left _ _ z)) (and_left _ _ (and_right (leb (suc x) (occ W j i)) _ z)))

  -- ---- the top, which is x, takes what occurs at x
  module _ (x : ℕ) (lx : x < length p) where
    -- At x itself, and elsewhere.
    met_at : (u : ℕ) → (x ≡ u → ⊥) → leb (suc x) u ≡ leb x u
    met_at u ne = bool_ext (leb (suc x) u) (leb x u) (λ z. le-leb x u (omega (arith, leb-true (suc x) u z))) (λ z. le-leb (suc x) u (omega (arith, leb-true x u z, ne)))

    -- A share of what is not under a node above x does not see x.
    share-mark : (c v u : ℕ) → under p c x ≡ true → share p (suc x) c v u ≡ share p x c v u
    unfolding share
    share-mark c v u g =
        ⊎_elim
        (λ z. let e : x ≡ u = eqb-true x u z in rw (← e, g, and_none (under p v x), and_none (leb (suc x) x), and_none (leb x x)))
        (λ z. ap (λ (t : Bool). t && (under p v u && not (under p c u))) (met_at u (eqb-false x u z)))
        (bool_cases (eqb x u))

    line-mark : (ys : List Entry) (d c : ℕ) → c < length p → under p c x ≡ true → Line p k W (suc x) ys d c → Line p k W x ys d c
    unfolding Line
    line-mark ys zero c lc g w = w
    line-mark ys (suc d) c lc g w =
        let l : node_at ys d ≤ c = under_le p (length p) down (node_at ys d) c lc (properly-under p (node_at ys d) c w.0.above) in (
          record {
            above = w.0.above;
            bare = λ q j i a h lj li m f. ⊎_elim
                (λ z. subst (λ (u : ℕ). under p c u ≡ true) (eqb-true x (occ W j i) z) g)
                (λ z. w.0.bare q j i a h lj li (omega (arith, m, eqb-false x (occ W j i) z)) f)
                (bool_cases (eqb x (occ W j i)));
            stands = stands_ext p o k words W bound (suc x) x c c (node_at ys d) (entry_at ys d) (λ j i lj li. share-mark c (node_at ys d) (occ W j i) g) w.0.stands;
          },
          line-mark ys d (node_at ys d) (omega arith) (under_trans p (length p) o (node_at ys d) c x lx (properly-under p (node_at ys d) c w.0.above) g) w.1,
        )

    -- The own share of x grows by what occurs at x, and the covered share stays.
    own-mark : (t : Bool) (u : ℕ) → (x ≡ u → t ≡ true) → ◌≡◌ {A = ℕ} (cond (share p x (length p) x u && t) 1 0) (cond (share p (suc x) (length p) x u && t) 1 0 + cond (eqb x u) 1 0)
    unfolding share
    own-mark t u h =
        ⊎_elim
        (λ z. let e : x ≡ u = eqb-true x u z in
        rw (h e, ← e, le-leb x x (omega arith), lt-leb (suc x) x (omega arith), under_self p x, none-under p o k words W bound x lx, eq-eqb x x refl))
        (λ z. rw (met_at u (eqb-false x u z), z) (omega arith))
        (bool_cases (eqb x u))

    covered-mark : (t : Bool) (u : ℕ) → (x ≡ u → t ≡ false) → (share p (suc x) (length p) x u && t) ≡ (share p x (length p) x u && t)
    unfolding share
    covered-mark t u h =
        ⊎_elim
        (λ z. rw (h (eqb-true x u z)) (and_none (share p (suc x) (length p) x u) ∙ sym (and_none (share p x (length p) x u))))
        (λ z. rw (met_at u (eqb-false x u z)))
        (bool_cases (eqb x u))

    stands-marked : (e m : Entry) → Stands p k W (suc x) (length p) x e → m.node ≡ x → m.covered ≡ e.covered →
        ((j : ℕ) → j < 8 → get_or m.own j 0 ≡ get_or e.own j 0 + tally (eqb x) (W j)) → Stands p k W x (length p) x m
    unfolding share_by
    stands-marked e m w node same more = record {
      node = node;
      own = λ j l. more j l ∙ ap (λ (z : ℕ). z + tally (eqb x) (W j)) (w.own j l)
          ∙ sym (tally-two (λ u. share p x (length p) x u && own p k W x u) (λ u. share p (suc x) (length p) x u && own p k W x u) (eqb x) (W j)
          (λ i b. own-mark (own p k W x (occ W j i)) (occ W j i) (λ z. ap (own p k W x) (sym z) ∙ own_self p o k W firsts x lx)));
      covered = λ j l. ap (λ (z : List ℕ). get_or z j 0) same ∙ w.covered j l
          ∙ tally-same (λ u. share p (suc x) (length p) x u && not (own p k W x u)) (λ u. share p x (length p) x u && not (own p k W x u)) (W j)
          (λ i b. covered-mark (not (own p k W x (occ W j i))) (occ W j i) (λ z. ap not (ap (own p k W x) (sym z) ∙ own_self p o k W firsts x lx)));
    }

    standing-marked : (ys : List Entry) (d : ℕ) (m : Entry) → Standing p k W (suc x) ys d → node_at ys d ≡ x → m.node ≡ x → m.covered ≡ (entry_at ys d).covered →
        ((j : ℕ) → j < 8 → get_or m.own j 0 ≡ get_or (entry_at ys d).own j 0 + tally (eqb x) (W j)) → Standing p k W x (set ys d m) d
    standing-marked ys d m w top node same more =
        record {
          place = omega (arith, length-set ys d m, w.place);
          node = rw here lx;
          stands = subst (λ (z : Entry). Stands p k W x (length p) z.node z) (sym new) (subst (λ (z : ℕ). Stands p k W x (length p) z m) (sym node)
              (stands-marked (entry_at ys d) m (subst (λ (z : ℕ). Stands p k W (suc x) (length p) z (entry_at ys d)) top w.stands) node same more));
          line = rw here (line_ext p o k words W bound x ys (set ys d m) d x (λ i l. sym (get_or-set_other ys d i m (fresh 0) (λ (z : i ≡ d). omega arith)))
              (line-mark ys d x lx (under_self p x) (subst (λ (z : ℕ). Line p k W (suc x) ys d z) top w.line)));
          first = λ j i lj li h. rw here h;
          reach = λ u a b l. absurd (not-le_of_lt b (rw here at a));
          clear = λ q j i a b lj li h g. not-le_of_lt b (omega (arith, rw here at a));
        }
      where
        new : entry_at (set ys d m) d ≡ m
        new = get_or-set_same ys d m (fresh 0) w.place

        here : node_at (set ys d m) d ≡ x
        here = ap (λ (z : Entry). z.node) new ∙ node

    -- ---- x comes
    module _ (ys : List Entry) (d : ℕ) (w : Standing p k W (suc x) ys d) (a : List ℕ) (comes : (j : ℕ) → j < 8 → get_or a j 0 ≡ tally (eqb x) (W j)) where
      pub standing-added : node_at ys d ≡ x → Standing p k W x (set ys d (record { node = x; own = sums (entry_at ys d).own a; covered = (entry_at ys d).covered })) d
      standing-added top =
          standing-marked ys d (record { node = x; own = sums (entry_at ys d).own a; covered = (entry_at ys d).covered }) w top refl refl
          (λ j l. sums_at (entry_at ys d).own a j l ∙ ap (λ (n : ℕ). get_or (entry_at ys d).own j 0 + n) (comes j l))

      pub standing_pushed : node_at ys d < x → suc d < length ys → Standing p k W x (set ys (suc d) (record { node = x; own = a; covered = replicate 8 0 })) (suc d)
      unfolding fresh
      standing_pushed over room =
          subst (λ (l : List Entry). Standing p k W x l (suc d)) (set-set ys (suc d) (fresh x) A)
          (standing-marked zs (suc d) A (standing-opened x ys d w lx over room) (ap (λ (z : Entry). z.node) new) refl (ap (λ (z : Entry). z.covered) (sym new))
          (λ j l. omega (arith, comes j l, none j l)))
        where
          A : Entry
          A = record { node = x; own = a; covered = replicate 8 0 }

          zs : List Entry
          zs = set ys (suc d) (fresh x)

          new : entry_at zs (suc d) ≡ fresh x
          new = get_or-set_same ys (suc d) (fresh x) (fresh 0) room

          none : (j : ℕ) → j < 8 → get_or (entry_at zs (suc d)).own j 0 ≡ 0
          none j l = ap (λ (z : Entry). get_or z.own j 0) new ∙ zeros-at j l
