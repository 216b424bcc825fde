-- Shares of occurrences, and the entries that stand for them. Assumes nothing.
--   tally-same, tally-two, tally-none   two tests that agree on a list's entries; a test in two; a test that fails
--   share_le                    no share is larger than its list
--   none-under                  nothing is under n
--   top-share, top-held, top-own   all that is under a node that is no longer reached has been met
--   stands-full, stands-elca, stands-slca, stands-answers   what a final entry says of its node
--   stands_ext                  an entry stands for every share with the same occurrences
--   stands-fresh                a new entry, where nothing was met
--   stands-closed               closing a node into its parent
-- Letters: p parents; k words, W their lists; s the first node met; v node, q its parent, u under it, c node; e, b entries, j word, i place in a list.
use Prim.Native.Nat.{ℕ, suc, ◌+◌, ◌≤◌, ◌<◌}
use mathlib.Core.Path.{◌≡◌, refl, sym, ap, ap₂, ◌∙◌}
use mathlib.Core.List.{List, [], ◌∷◌}
use mathlib.Core.Bool.{Bool, true, false, not, cond, ◌&&◌}
use mathlib.Core.Logic.{⊎_elim}
use native.Mathlib.Omega.{arith}
use lib.Dec.{leb, ltb, eqb}
use borrow.Author.Tests.{le-leb, leb-true, lt-ltb, ltb-true, eq-eqb, eqb-true}
use lib.ListN.{length, get_or}
use Rattle.seq.specs.Lists.{tally, some_of, EachBelow}
use Rattle.seq.specs.Below.{every_below}
use Rattle.seq.proofs.Laws.Bools.{bool_cases, bool_ext, bool_false, and_left, and_right, and_both, and_false-right, not_at}
use Rattle.seq.proofs.Laws.Lists as Under
use Rattle.seq.proofs.Laws.Lists.{some_of-of, some_of-tally, tally_le}
use Rattle.seq.proofs.Laws.Below.{every_ext, every-at, every_of_lem}
use Rattle.tree.specs.Tree.{under, properly, child}
use Rattle.tree.specs.Plain.{Preorder, Down}
use Rattle.tree.proofs.Laws.Under.{under_le, under-not, under_trans, parents-before}
use Rattle.tree.proofs.Laws.Children.{child-under}
use Rattle.tree.proofs.Laws.Ways.{properly-under}
use Rattle.index.specs.Index.{count_under}
use Rattle.answers.specs.Answers.{full, own, own_count, elca, slca}
use Rattle.answers.proofs.Laws.Full.{full_at, full-counts}
use Rattle.answers.proofs.Laws.Own.{own-child, own-under, own-none, own_of}
use Rattle.answers.proofs.Laws.Plain.{slca-full, slca-none, slca-of}
use Rattle.engine.specs.declared.Entry.{Entry}
use Rattle.engine.specs.Inner.Entries.{fresh, held, each_some, full_entry, answering, closed_into}
use Rattle.engine.specs.Inner.Meaning.{occ, share, share_by, Stands}
use Rattle.engine.proofs.Laws.Entries.{zeros-at, sums_at, each-some-at, each-some-of, closed-node, closed-own, closed-covered}

-- ---- tallies
pub tally-same : (f g : ℕ → Bool) (l : List ℕ) → ((i : ℕ) → i < length l → f (get_or l i 0) ≡ g (get_or l i 0)) → tally f l ≡ tally g l
unfolding tally
tally-same f g [] h = refl
tally-same f g (x ∷ l) h = ap₂ ◌+◌ (ap (λ (t : Bool). cond t 1 0) (h 0 (omega arith))) (tally-same f g l (λ i b. h (suc i) (omega arith)))

pub tally-two : (f g h : ℕ → Bool) (l : List ℕ) →
    ((i : ℕ) → i < length l → ◌≡◌ {A = ℕ} (cond (f (get_or l i 0)) 1 0) (cond (g (get_or l i 0)) 1 0 + cond (h (get_or l i 0)) 1 0)) → tally f l ≡ tally g l + tally h l
unfolding tally
tally-two f g h [] e = refl
tally-two f g h (x ∷ l) e = omega (arith, e 0 (omega arith), tally-two f g h l (λ i b. e (suc i) (omega arith)))

pub tally-none : (f : ℕ → Bool) (l : List ℕ) → ((i : ℕ) → i < length l → f (get_or l i 0) ≡ false) → tally f l ≡ 0
unfolding tally
tally-none f [] h = refl
tally-none f (x ∷ l) h = rw (h 0 (omega arith)) (omega (arith, tally-none f l (λ i b. h (suc i) (omega arith))))

and-true : (t : Bool) → (t && true) ≡ t
and-true true = refl
and-true false = refl

and_none : (t : Bool) → (t && false) ≡ false
and_none t = and_false-right t false refl

-- A test and its opposite, within another.
cond_test : (a t : Bool) → ◌≡◌ {A = ℕ} (cond a 1 0) (cond (a && t) 1 0 + cond (a && not t) 1 0)
cond_test true true = refl
cond_test true false = refl
cond_test false t = refl

-- A share in two: a stands for being met, q and v for being under two nodes of which the second is under the first, n for being under nothing.
split-bits : (a q v n t : Bool) → n ≡ false → (v ≡ true → a ≡ true) → (v ≡ true → q ≡ true) →
    ◌≡◌ {A = ℕ} (cond ((a && (q && not n)) && t) 1 0) (cond ((a && (q && not v)) && t) 1 0 + cond (v && t) 1 0)
split-bits a q true n t hn ha hq = rw (hn, ha refl, hq refl) (omega arith)
split-bits a q false n t hn ha hq = rw hn (omega arith)

pub share_le : (p : List ℕ) (W : ℕ → List ℕ) (s c v : ℕ) (t : ℕ → Bool) (j : ℕ) → share_by p W s c v t j ≤ length (W j)
unfolding share_by
share_le p W s c v t j = tally_le (λ u. share p s c v u && t u) (W j)

module _ (p : List ℕ) (o : Preorder p (length p)) (k : ℕ) (words : k ≤ 8) (W : ℕ → List ℕ) (bound : (j : ℕ) → j < 8 → EachBelow (length p) (W j)) where
  down : Down p (length p)
  down = parents-before p (length p) o

  -- The same of the first k lists.
  firsts : (j : ℕ) → j < k → EachBelow (length p) (W j)
  firsts j l = bound j (omega arith)

  -- Nothing is under n.
  pub none-under : (u : ℕ) → u < length p → under p (length p) u ≡ false
  none-under u l = under-not p (length p) down (length p) u l l

  -- Of a node from s on, all that is under it has been met.
  pub top-share : (s v u : ℕ) → u < length p → s ≤ v → share p s (length p) v u ≡ under p v u
  unfolding share
  top-share s v u l h =
      ⊎_elim (λ q. rw (q, none-under u l, le-leb s u (omega (arith, under_le p (length p) down v u l q))))
      (λ q. rw q (and_none (leb s u)))
      (bool_cases (under p v u))

  module _ (s v : ℕ) (e : Entry) (h : s ≤ v) (w : Stands p k W s (length p) v e) where
    -- What a final entry has counted is the count under its node.
    pub top-held : (j : ℕ) → j < 8 → get_or (held e) j 0 ≡ count_under p (W j) v
    unfolding count_under share_by
    top-held j l =
        sums_at e.own e.covered j l
        ∙ ap₂ ◌+◌ (w.own j l) (w.covered j l)
        ∙ sym (tally-two (under p v) (λ u. share p s (length p) v u && own p k W v u) (λ u. share p s (length p) v u && not (own p k W v u)) (W j)
        (λ i b. rw (← top-share s v (occ W j i) (bound j l i b) h) (cond_test (share p s (length p) v (occ W j i)) (own p k W v (occ W j i)))))

    pub top-own : (j : ℕ) → j < 8 → get_or e.own j 0 ≡ own_count p k W v j
    unfolding own_count share_by
    top-own j l =
        w.own j l
        ∙ tally-same (λ u. share p s (length p) v u && own p k W v u) (own p k W v) (W j)
        (λ i b. rw (top-share s v (occ W j i) (bound j l i b) h) (own-only (occ W j i)))
      where
        own-only : (u : ℕ) → (under p v u && own p k W v u) ≡ own p k W v u
        own-only u = ⊎_elim (λ q. rw (q, own-under p k W v u q)) (λ q. rw q (and_none (under p v u))) (bool_cases (own p k W v u))

    -- A final entry is full exactly where its node is.
    pub stands-full : full_entry k e ≡ full p k W v
    unfolding each_some
    stands-full = every_ext k _ _ (λ j l. ap (ltb 0) (top-held j (omega arith))) ∙ sym (full-counts p k W v)

    -- A final entry with something of its own of every word is an ELCA's, and an ELCA's has.
    pub stands-elca : each_some k e.own ≡ elca p k W v
    unfolding elca
    stands-elca = bool_ext _ _ listed own_ones
      where
        own_ones : (full p k W v && every_below k (λ j. leb 1 (own_count p k W v j))) ≡ true → each_some k e.own ≡ true
        own_ones q = each-some-of k e.own (λ j l. omega (arith, top-own j (omega arith), leb-true 1 (own_count p k W v j) (every-at k _ (and_right (full p k W v) _ q) j l)))

        listed : each_some k e.own ≡ true → (full p k W v && every_below k (λ j. leb 1 (own_count p k W v j))) ≡ true
        listed q =
            and_both _ _
            (full-counts p k W v ∙ every_of_lem k _ (λ j l. lt-ltb 0 (count_under p (W j) v) (omega (
              arith,
              top-held j (omega arith),
              sums_at e.own e.covered j (omega arith),
              each-some-at k e.own q j l,
            ))))
            (every_of_lem k _ (λ j l. le-leb 1 (own_count p k W v j) (omega (arith, top-own j (omega arith), each-some-at k e.own q j l))))

    -- A final full entry with nothing covered of word 0 is an SLCA's, and an SLCA's has nothing covered: one stack serves both searches.
    module _ (some : 0 < k) where
      none-covered : slca p k W v ≡ true → get_or e.covered 0 0 ≡ 0
      unfolding share_by
      none-covered z = w.covered 0 (omega arith) ∙ tally-none (λ u. share p s (length p) v u && not (own p k W v u)) (W 0) (λ i b. bool_false _ (λ g. kept i b g))
        where
          kept : (i : ℕ) → i < length (W 0) → (share p s (length p) v (occ W 0 i) && not (own p k W v (occ W 0 i))) ≡ true → ⊥
          kept i b g =
              not_at (own p k W v (occ W 0 i)) (and_right (share p s (length p) v (occ W 0 i)) _ g)
              (own_of p k W v (occ W 0 i) (sym (top-share s v (occ W 0 i) (firsts 0 some i b) h) ∙ and_left _ _ g) (λ u l a f x. slca-none p k W v z u l a f))

      none-full : get_or e.covered 0 0 ≡ 0 → (u : ℕ) → u < length p → properly p v u ≡ true → full p k W u ≡ true → ⊥
      unfolding share_by
      none-full z u l a f =
          let r : Under.Entry (under p u) (W 0) = full_at p k W u f 0 some in
          let y : ℕ = occ W 0 r.at in
          let ly : y < length p = firsts 0 some r.at r.below in
          let over : under p v y ≡ true = under_trans p (length p) o v u y ly (properly-under p v u a) r.passes in
          let other : own p k W v y ≡ false = bool_false (own p k W v y) (λ g. own-none p k W v y g u l a f r.passes) in
          let hit : some_of (λ x. share p s (length p) v x && not (own p k W v x)) (W 0) ≡ true =
          some_of-of (λ x. share p s (length p) v x && not (own p k W v x)) (W 0) r.at r.below (and_both _ _ (top-share s v y ly h ∙ over) (ap not other))
          in
          let more : 0 < tally (λ x. share p s (length p) v x && not (own p k W v x)) (W 0) =
          ltb-true 0 _ (sym (some_of-tally (λ x. share p s (length p) v x && not (own p k W v x)) (W 0)) ∙ hit)
          in
          omega (arith, w.covered 0 (omega arith))

      pub stands-slca : (full_entry k e && eqb (get_or e.covered 0 0) 0) ≡ slca p k W v
      stands-slca =
          bool_ext _ _
          (λ z. slca-of p k W v (sym stands-full ∙ and_left _ _ z) (none-full (eqb-true (get_or e.covered 0 0) 0 (and_right (full_entry k e) _ z))))
          (λ z. and_both _ _ (stands-full ∙ slca-full p k W v z) (eq-eqb (get_or e.covered 0 0) 0 (none-covered z)))

      -- A final entry tells whether its node is an answer.
      pub stands-answers : (smallest : Bool) → answering smallest k e ≡ cond smallest (slca p k W v) (elca p k W v)
      unfolding answering
      stands-answers true = stands-slca
      stands-answers false = stands-elca

  -- ---- an entry stands for every share with the same occurrences
  pub stands_ext : (s s' c c' v : ℕ) (e : Entry) → ((j i : ℕ) → j < 8 → i < length (W j) → share p s c v (occ W j i) ≡ share p s' c' v (occ W j i)) →
      Stands p k W s c v e → Stands p k W s' c' v e
  unfolding share_by
  stands_ext s s' c c' v e h w = record {
    node = w.node;
    own = λ j l. w.own j l
        ∙ tally-same (λ u. share p s c v u && own p k W v u) (λ u. share p s' c' v u && own p k W v u) (W j) (λ i b. ap (λ (t : Bool). t && own p k W v (occ W j i)) (h j i l b));
    covered = λ j l. w.covered j l
        ∙ tally-same (λ u. share p s c v u && not (own p k W v u)) (λ u. share p s' c' v u && not (own p k W v u)) (W j)
        (λ i b. ap (λ (t : Bool). t && not (own p k W v (occ W j i))) (h j i l b));
  }

  -- ---- a new entry
  pub stands-fresh : (s c v : ℕ) → ((j i : ℕ) → j < 8 → i < length (W j) → share p s c v (occ W j i) ≡ false) → Stands p k W s c v (fresh v)
  unfolding fresh share_by
  stands-fresh s c v h = record {
    node = refl;
    own = λ j l. zeros-at j l ∙ sym (tally-none _ (W j) (λ i b. rw (h j i l b)));
    covered = λ j l. zeros-at j l ∙ sym (tally-none _ (W j) (λ i b. rw (h j i l b)));
  }

  -- ---- closing v into its parent q
  module _ (s q v : ℕ) (e b : Entry) (lv : v < length p) (h : s ≤ v) (isChild : child p q v ≡ true) (we : Stands p k W s (length p) v e) (wb : Stands p k W s v q b) where
    parent-over : (u : ℕ) → u < length p → under p v u ≡ true → under p q u ≡ true
    parent-over u l g = under_trans p (length p) o q v u l (properly-under p q v (child-under p (length p) down q v lv isChild)) g

    held-tally : (j : ℕ) → j < 8 → get_or (held e) j 0 ≡ tally (under p v) (W j)
    unfolding count_under
    held-tally j l = top-held s v e h we j l

    -- q's share in two: what is not under v, and what is.
    share-split : (t : Bool) (u : ℕ) → u < length p → ◌≡◌ {A = ℕ} (cond (share p s (length p) q u && t) 1 0) (cond (share p s v q u && t) 1 0 + cond (under p v u && t) 1 0)
    unfolding share
    share-split t u l =
        split-bits (leb s u) (under p q u) (under p v u) (under p (length p) u) t (none-under u l)
        (λ g. le-leb s u (omega (arith, under_le p (length p) down v u l g))) (parent-over u l)

    -- Of a test that is z at all that is under v, q has counted what it had, and all that v held where z is true.
    share-more : (t : ℕ → Bool) (z : Bool) → ((u : ℕ) → u < length p → under p v u ≡ true → t u ≡ z) → (j : ℕ) → j < 8 →
        share_by p W s (length p) q t j ≡ share_by p W s v q t j + cond z (get_or (held e) j 0) 0
    unfolding share_by
    share-more t z same j l =
        tally-two (λ u. share p s (length p) q u && t u) (λ u. share p s v q u && t u) (λ u. under p v u && t u) (W j) (λ i b. share-split (t (occ W j i)) (occ W j i) (bound j l i b))
        ∙ ap (λ (m : ℕ). tally (λ u. share p s v q u && t u) (W j) + m)
        (tally-same (λ u. under p v u && t u) (λ u. under p v u && z) (W j) (λ i b. at-v (occ W j i) (bound j l i b)) ∙ all_or_none z)
      where
        at-v : (u : ℕ) → u < length p → (under p v u && t u) ≡ (under p v u && z)
        at-v u lu = ⊎_elim (λ g. rw (g, same u lu g)) (λ g. rw g) (bool_cases (under p v u))

        all_or_none : (z : Bool) → tally (λ u. under p v u && z) (W j) ≡ cond z (get_or (held e) j 0) 0
        all_or_none true = tally-same (λ u. under p v u && true) (under p v) (W j) (λ i b. and-true (under p v (occ W j i))) ∙ sym (held-tally j l)
        all_or_none false = tally-none (λ u. under p v u && false) (W j) (λ i b. and_none (under p v (occ W j i)))

    own-under-v : (u : ℕ) → u < length p → under p v u ≡ true → own p k W q u ≡ not (full p k W v)
    own-under-v u l g = own-child p o k W firsts q v u lv l isChild g

    -- The parent's entry then stands for all that was met under the parent.
    pub stands-closed : Stands p k W s (length p) q (closed_into b (full_entry k e) (held e))
    stands-closed = rw (stands-full s v e h we) (closed (full p k W v) refl)
      where
        closed : (f : Bool) → full p k W v ≡ f → Stands p k W s (length p) q (closed_into b f (held e))
        closed f is = record {
          node = closed-node b (held e) f ∙ wb.node;
          own = λ j l. closed-own b (held e) f j l ∙ ap₂ ◌+◌ (wb.own j l) (flip f (get_or (held e) j 0))
              ∙ sym (share-more (own p k W q) (not f) (λ u m g. own-under-v u m g ∙ ap not is) j l);
          covered = λ j l. closed-covered b (held e) f j l ∙ ap₂ ◌+◌ (wb.covered j l) refl
              ∙ sym (share-more (λ u. not (own p k W q u)) f (λ u m g. ap not (own-under-v u m g) ∙ twice f is) j l);
        }
          where
            flip : (f : Bool) (m : ℕ) → cond f 0 m ≡ cond (not f) m 0
            flip true m = refl
            flip false m = refl

            twice : (f : Bool) → full p k W v ≡ f → not (not (full p k W v)) ≡ f
            twice true z = rw z
            twice false z = rw z
