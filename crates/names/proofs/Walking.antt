-- The two walks down the tree of names: `find` to a leaf, `slot` to the place of a new inner node.
--   way-right, way-left   the place of the link that bits take
--   link-number           a number stands for the link that it is the number of
--   ahead n w k           == how far the bits below the link k can still rise: 0 at a leaf
--   Step, rep_step        a turn at an inner node: what the next link leads to
--   Walk, Walks, walk-*   the loop of `find`
--   Down, Downs, down-*   the loop of `slot`
--   put_right, put-left   what `put` leaves
-- Letters as in specs/Inner/Tree; p the place of the link that a walk is at. Assumes nothing.
use Prim.Native.Nat.{ℕ, suc, zero-le, ◌+◌, ◌*◌, ◌-◌, ◌/◌, ◌%◌, ◌≤◌, ◌<◌}
use mathlib.Core.Path.{◌≡◌, refl, sym, ap, subst, ◌∙◌}
use mathlib.Core.Logic.{⊎_elim}
use mathlib.Core.List.{List}
use mathlib.Core.Bool.{Bool, true, false, cond}
use native.Mathlib.Omega.{arith}
use lib.Dec.{eqb}
use lib.ListN.{get_or}
use borrow.Author.Tests.{eq-eqb, ne_eqb}
use Rattle.std.proofs.lemmas.Bool.Decides.{nat_tests}
use Rattle.seq.proofs.Laws.Bools.{bool_cases}
use Rattle.names.specs.Inner.Tree.{Tree, leaf, fork, bits, Rep, rep_leaf, rep_fork, find, Top, top_leaf, top_fork, Grow, new_left, new_right, go_left, go_right}
use Rattle.names.specs.declared.link.Link.{Link}
use Rattle.names.specs.declared.link.Link.TheVariants.{Leaf, Inner}
use Rattle.names.specs.Inner.Calls.{name_bit, link_of, number_of, way_of, Found, Grown, Slotted, linked, Put}
use Rattle.names.proofs.Shape.{find-left, find-right}

module _ (n : ℕ) (β : ℕ → Bool) (w : List ℕ) (u i : ℕ) (e : i ≡ get_or w (2 * n + u) 0) where
  pub way-right : β i ≡ true → n + u ≡ way_of n β w u
  unfolding way_of
  way-right f = rw (sym e, f)

  pub way-left : β i ≡ false → u ≡ way_of n β w u
  unfolding way_of
  way-left f = rw (sym e, f)

-- ---- links
-- A number stands for the link that it is the number of.
pub link-number : (l : Link) → link_of (number_of l) ≡ l
unfolding link_of
link-number (Leaf v) = grind (arith, nat_tests)
link-number (Inner u) = grind (arith, nat_tests)

leaf_link : (k v : ℕ) → k ≡ 2 * v → link_of k ≡ Leaf v
leaf_link k v e = ap link_of e ∙ link-number (Leaf v)

fork_link : (k u : ℕ) → k ≡ 2 * u + 1 → link_of k ≡ Inner u
fork_link k u e = ap link_of e ∙ link-number (Inner u)

-- ---- how far bits can rise
unfoldable pub ahead : ℕ → List ℕ → ℕ → ℕ
ahead n w k = cond (eqb (k % 2) 1) (bits - get_or w (2 * n + k / 2) 0) 0

ahead-leaf : (n : ℕ) (w : List ℕ) (k v : ℕ) → k ≡ 2 * v → ahead n w k ≡ 0
unfolding ahead
ahead-leaf n w k v e = rw (ne_eqb (k % 2) 1 (omega arith))

ahead_fork : (n : ℕ) (w : List ℕ) (k u b : ℕ) → k ≡ 2 * u + 1 → b ≡ get_or w (2 * n + u) 0 → ahead n w k ≡ bits - b
unfolding ahead
ahead_fork n w k u b e f = rw (eq-eqb (k % 2) 1 (omega arith)) (ap (λ (i : ℕ). bits - i) (ap (λ (i : ℕ). get_or w (2 * n + i) 0) half ∙ sym f))
  where
    half : k / 2 ≡ u
    half = omega arith

ahead_le : {n m k : ℕ} {w : List ℕ} {T : Tree} → Rep n w m k T → ahead n w k ≤ bits - m
ahead_le {n} {m} {k} {w} (rep_leaf {v = v} e l) = rw (ahead-leaf n w k v e) zero-le
ahead_le {n} {m} {k} {w} (rep_fork {u = u} {b = b} e z l eb a c x y) = rw (ahead_fork n w k u b e eb) (omega arith)

-- ---- a turn
-- The inner node u that the link k leads to, told by bit b, and what the bits' way leads to from there.
pub record Step (n : ℕ) (w : List ℕ) (β : ℕ → Bool) (T : Tree) (k u : ℕ) : Type 0 where
  pub node : u < n
  pub from : ℕ
  pub next : Tree
  pub holds : Rep n w from (get_or w (way_of n β w u) 0) next
  pub leads : find β next ≡ find β T
  pub less : ahead n w (get_or w (way_of n β w u) 0) < ahead n w k
  pub small : way_of n β w u < 2 * n
  pub top : (d : ℕ) → d ≤ get_or w (2 * n + u) 0 → Top d T
  pub grow : (d v p q : ℕ) → get_or w (2 * n + u) 0 < d → Grown n β d v (way_of n β w u) next q → Grown n β d v p T q

module _ {n : ℕ} {w : List ℕ} (β : ℕ → Bool) where
  fork_step : {k u b : ℕ} {l r : Tree} → u < n → b ≡ get_or w (2 * n + u) 0 → b < bits → ahead n w k ≡ bits - b → Rep n w (suc b) (get_or w u 0) l → Rep n w (suc b) (get_or w (n + u) 0) r →
      Step n w β (fork u b l r) k u
  fork_step {k = k} {u = u} {b = b} {l = l} {r = r} lu eb bb a x y = ⊎_elim right left (bool_cases (β b))
    where
      first : (d : ℕ) → d ≤ get_or w (2 * n + u) 0 → Top d (fork u b l r)
      first d h = top_fork {b = b} (omega (arith, eb))

      right : β b ≡ true → Step n w β (fork u b l r) k u
      right q = record {
        node = lu;
        from = suc b;
        next = r;
        holds = rw (sym way) y;
        leads = sym (find-right β u b l r q);
        less = rw (sym way, a) (omega (arith, ahead_le y));
        small = rw (sym way) (omega arith);
        top = first;
        grow = λ d v p i h g. record { tree = fork u b l g.tree; grows = go_right {b = b} (omega (arith, eb)) q (subst (λ (j : ℕ). Grow n β d v j r i g.tree) (sym way) g.grows) };
      }
        where
          way : n + u ≡ way_of n β w u
          way = way-right n β w u b eb q

      left : β b ≡ false → Step n w β (fork u b l r) k u
      left q = record {
        node = lu;
        from = suc b;
        next = l;
        holds = rw (sym way) x;
        leads = sym (find-left β u b l r q);
        less = rw (sym way, a) (omega (arith, ahead_le x));
        small = rw (sym way) (omega arith);
        top = first;
        grow = λ d v p i h g. record { tree = fork u b g.tree r; grows = go_left {b = b} (omega (arith, eb)) q (subst (λ (j : ℕ). Grow n β d v j l i g.tree) (sym way) g.grows) };
      }
        where
          way : u ≡ way_of n β w u
          way = way-left n β w u b eb q

  pub rep_step : {m k x : ℕ} {T : Tree} → Rep n w m k T → link_of k ≡ Inner x → Step n w β T k x
  rep_step {k = k} (rep_leaf {v = v} e l) o = let f = leaf_link k v e in absurd (cc)
  rep_step {k = k} {x = x} (rep_fork {u = u} {b = b} {l = l} {r = r} e z lu eb a c y y') o =
      let f = fork_link k u e in
      let same : u ≡ x = cc in
      subst (λ (i : ℕ). Step n w β (fork u b l r) k i) same (fork_step lu eb c (ahead_fork n w k u b e eb) y y')

  pub rep-end : {m k x : ℕ} {T : Tree} → Rep n w m k T → link_of k ≡ Leaf x → T ≡ leaf x
  rep-end {k = k} (rep_leaf {v = v} e l) o = let f = leaf_link k v e in cc
  rep-end {k = k} (rep_fork {u = u} e z lu eb a c y y') o = let f = fork_link k u e in absurd (cc)

-- What a turn at the link k to the inner node u asks, and that it brings the walk nearer to its end.
pub record Turn (n : ℕ) (w : List ℕ) (β : ℕ → Bool) (k u : ℕ) : Type 0 where
  pub node : u < n
  pub less : (p : ℕ) → p ≡ way_of n β w u → ahead n w (get_or w p 0) < ahead n w k

turn-of : {n k u : ℕ} {w : List ℕ} {β : ℕ → Bool} {T : Tree} → Step n w β T k u → Turn n w β k u
turn-of s = record { node = s.node; less = λ p e. rw e s.less }

-- ---- to a leaf
-- The link k leads to a part of T in which the bits lead to the same leaf.
pub record Walk (n : ℕ) (w : List ℕ) (β : ℕ → Bool) (T : Tree) (k : ℕ) : Type 0 where
  pub from : ℕ
  pub part : Tree
  pub holds : Rep n w from k part
  pub leads : find β part ≡ find β T

-- So does the link at the place p, whichever tree the rows hold.
pub record Walks (n : ℕ) (w : List ℕ) (β : ℕ → Bool) (p : ℕ) : Type 0 where
  pub small : p < 2 * n
  pub walk : (T : Tree) → Rep n w 0 (get_or w 0 0) T → Walk n w β T (get_or w p 0)

-- There is a node.
rep-some : {n m k : ℕ} {w : List ℕ} {T : Tree} → Rep n w m k T → 0 < n
rep-some (rep_leaf e l) = omega arith
rep-some (rep_fork e z l eb a c x y) = omega arith

pub walks_start : (n : ℕ) (w : List ℕ) (β : ℕ → Bool) (T : Tree) → Rep n w 0 (get_or w 0 0) T → Walks n w β 0
walks_start n w β T r = record { small = omega (arith, rep-some r); walk = λ T r. record { from = 0; part = T; holds = r; leads = refl } }

module _ {n : ℕ} {w : List ℕ} {β : ℕ → Bool} {p : ℕ} (s : Walks n w β p) where
  module _ (S : Tree) (held : Rep n w 0 (get_or w 0 0) S) (u : ℕ) (o : link_of (get_or w p 0) ≡ Inner u) where
    pub walks_turn : Turn n w β (get_or w p 0) u
    walks_turn = turn-of (rep_step β (s.walk S held).holds o)

    pub walks_step : (q : ℕ) → q ≡ way_of n β w u → Walks n w β q
    walks_step q e = record { small = rw e (rep_step β (s.walk S held).holds o).small; walk = λ T r. moved T r }
      where
        moved : (T : Tree) → Rep n w 0 (get_or w 0 0) T → Walk n w β T (get_or w q 0)
        moved T r =
            let y : Walk n w β T (get_or w p 0) = s.walk T r in
            let z : Step n w β y.part (get_or w p 0) u = rep_step β y.holds o in
            record { from = z.from; part = z.next; holds = rw e z.holds; leads = z.leads ∙ y.leads }

pub walks_end : {n : ℕ} {w x : List ℕ} {p : ℕ} → Walks n w (name_bit x) p → (v : ℕ) → link_of (get_or w p 0) ≡ Leaf v → Found x w n v
unfolding find
walks_end {n} {w} {x} {p} s v h = record { leads = λ T q. at_leaf T q }
  where
    at_leaf : (T : Tree) → Rep n w 0 (get_or w 0 0) T → v ≡ find (name_bit x) T
    at_leaf T q =
        let y : Walk n w (name_bit x) T (get_or w p 0) = s.walk T q in
        sym (ap (find (name_bit x)) (rep-end (name_bit x) y.holds h)) ∙ y.leads

-- ---- to the place of a new inner node
-- The link at the place p leads to a part of T; where that part grows, T grows.
pub record Down (n : ℕ) (w : List ℕ) (β : ℕ → Bool) (d v : ℕ) (T : Tree) (p : ℕ) : Type 0 where
  pub from : ℕ
  pub part : Tree
  pub holds : Rep n w from (get_or w p 0) part
  pub back : (q : ℕ) → Grown n β d v p part q → Grown n β d v 0 T q

pub record Downs (n : ℕ) (w : List ℕ) (β : ℕ → Bool) (d p : ℕ) : Type 0 where
  pub small : p < 2 * n
  pub down : (v : ℕ) (T : Tree) → Rep n w 0 (get_or w 0 0) T → Down n w β d v T p

pub downs-start : (n : ℕ) (w : List ℕ) (β : ℕ → Bool) (d : ℕ) (T : Tree) → Rep n w 0 (get_or w 0 0) T → Downs n w β d 0
downs-start n w β d T r = record {
  small = omega (arith, rep-some r);
  down = λ v T q. record { from = 0; part = T; holds = q; back = λ i g. g };
}

module _ {n : ℕ} {w : List ℕ} {β : ℕ → Bool} {d p : ℕ} (s : Downs n w β d p) where
  -- The tree grows here, where all bits from here on are d or more.
  grown-here : (v : ℕ) (T : Tree) → Top d T → Grown n β d v p T p
  grown-here v T h =
      ⊎_elim (λ e. record { tree = fork v d T (leaf v); grows = new_right h e }) (λ e. record { tree = fork v d (leaf v) T; grows = new_left h e }) (bool_cases (β d))

  module _ (S : Tree) (held : Rep n w 0 (get_or w 0 0) S) (u : ℕ) (o : link_of (get_or w p 0) ≡ Inner u) where
    pub downs-turn : Turn n w β (get_or w p 0) u
    downs-turn = turn-of (rep_step β (s.down 0 S held).holds o)

    pub downs-step : get_or w (2 * n + u) 0 < d → (q : ℕ) → q ≡ way_of n β w u → Downs n w β d q
    downs-step h q e = record { small = rw e (rep_step β (s.down 0 S held).holds o).small; down = λ v T r. moved v T r }
      where
        moved : (v : ℕ) (T : Tree) → Rep n w 0 (get_or w 0 0) T → Down n w β d v T q
        moved v T r =
            let y : Down n w β d v T p = s.down v T r in
            let z : Step n w β y.part (get_or w p 0) u = rep_step β y.holds o in
            record { from = z.from; part = z.next; holds = rw e z.holds; back = λ i g. y.back i (z.grow d v p i h (subst (λ (j : ℕ). Grown n β d v j z.next i) e g)) }

module _ {n : ℕ} {w x : List ℕ} {d p : ℕ} (s : Downs n w (name_bit x) d p) where
  pub downs-stop : (u : ℕ) → link_of (get_or w p 0) ≡ Inner u → d ≤ get_or w (2 * n + u) 0 → Slotted x w n d p
  downs-stop u h l = record { small = s.small; grown = λ v T r. here v T r }
    where
      here : (v : ℕ) (T : Tree) → Rep n w 0 (get_or w 0 0) T → Grown n (name_bit x) d v 0 T p
      here v T r = let y : Down n w (name_bit x) d v T p = s.down v T r in y.back p (grown-here s v y.part ((rep_step (name_bit x) y.holds h).top d l))

  pub downs-end : (i : ℕ) → link_of (get_or w p 0) ≡ Leaf i → Slotted x w n d p
  downs-end i h = record { small = s.small; grown = λ v T r. here v T r }
    where
      here : (v : ℕ) (T : Tree) → Rep n w 0 (get_or w 0 0) T → Grown n (name_bit x) d v 0 T p
      here v T r =
          let y : Down n w (name_bit x) d v T p = s.down v T r in
          y.back p (grown-here s v y.part (rw (rep-end (name_bit x) y.holds h) top_leaf))

-- ---- the new inner node is put there
module _ (x w : List ℕ) (n v d q : ℕ) (s : Slotted x w n d q) (w' : List ℕ) where
  pub put_right : name_bit x d ≡ true → w' ≡ linked n v q d (n + v) v w → Put x w n v d w'
  put_right b e = record { place = q; link = s.small; grown = s.grown v; rows = rw b e }

  pub put-left : name_bit x d ≡ false → w' ≡ linked n v q d v (n + v) w → Put x w n v d w'
  put-left b e = record { place = q; link = s.small; grown = s.grown v; rows = rw b e }
