-- The nodes of a document are a lawful tree: each parent stands before its child, on the line of the node before it, and is an element; levels are those of the tree.
--   parents-down    each node's parent stands before it
--   nodes-kept      each node keeps the rules of 01, but for the limit of levels
--   tree-lawful     with at most 64 levels the tree is lawful: the tree check finds nothing
-- Letters: ns nodes, P their parents, M their marks, v the number of a part's first node, N its nodes, R the nodes after it; else as in `profile`. Assumes nothing.
use Prim.Native.Nat.{ℕ, zero, suc, ◌+◌, ◌-◌, ◌≤◌, ◌<◌}
use mathlib.Core.Path.{◌≡◌, refl, sym, ap, subst, ◌∙◌}
use mathlib.Core.Logic.{◌⊎◌, inl, inr, ⊎_elim}
use mathlib.Core.List.{List, [], ◌∷◌, ◌++◌, map, append_assoc, append-nil}
use mathlib.Core.Bool.{Bool, true, false, cond, ◌||◌, false≢true}
use mathlib.Core.Option.{none, some}
use native.Mathlib.Omega.{arith}
use lib.Dec.{ltb, leb}
use lib.ListN.{length, length-map, get_or, drop, length-append}
use borrow.Author.Tests.{ltb-true, ltb-false}
use Rattle.seq.proofs.Laws.Bools.{bool_cases}
use Rattle.tree.specs.Tree.{parent, level}
use Rattle.tree.specs.Rules.{tree_bad}
use Rattle.tree.specs.Plain.{Under, itself, above, Down, NodeKept}
use Rattle.tree.proofs.Laws.Lines.{level-root, level-suc}
use Rattle.tree.proofs.Laws.Under.{under-of-plain}
use Rattle.tree.proofs.Laws.Rules.{lawful-each, lawful-accepted}
use Rattle.profile.specs.Bytes.{'<', '>', is_name}
use Rattle.profile.specs.Grammar.{Element, empty_tag, tags, Items, end, element, reference, comment, Document, element_then, items_then, end_tag_then, miscs_then, text}
use Rattle.profile.specs.Limits.{Key, keys_of, first_over}
use Rattle.profile.proofs.Markup.{none-some}
use Rattle.profile.proofs.TagTurns.{drop-next}
use Rattle.profile.proofs.Check.{keys_length}
use Rattle.profile.specs.Tree.{Node, node, Held, nothing, held, data_node, run_then, element_nodes, items_nodes, place_in, tree}
use Rattle.reader.specs.Read.{parents_of}
use Rattle.reader.specs.Inner.{mark_of}

-- ---- rows of a list of nodes
abbrev pub marks_of : List Node → List ℕ
marks_of ns = map (λ (a : Node). mark_of a.name) ns

abbrev pub levels_of : List Node → List ℕ
levels_of ns = map (λ (a : Node). a.level) ns

-- The entry of the node that stands first after v others.
entry_at : (f : Node → ℕ) (ns : List Node) (v : ℕ) (a : Node) (R : List Node) → drop v ns ≡ a ∷ R → get_or (map f ns) v 0 ≡ f a
entry_at f [] zero a R e = absurd (nil-cons e)
  where
    nil-cons : ◌≡◌ {A = List Node} [] (a ∷ R) → ⊥
    nil-cons e = let z : 0 ≡ suc (length R) = ap length e in omega arith
entry_at f [] (suc v) a R e = absurd (nil-cons e)
  where
    nil-cons : ◌≡◌ {A = List Node} [] (a ∷ R) → ⊥
    nil-cons e = let z : 0 ≡ suc (length R) = ap length e in omega arith
entry_at f (b ∷ ns) zero a R e = first (b ∷ ns) (a ∷ R) e
  where
    first : (x y : List Node) → x ≡ y → get_or (map f x) 0 0 ≡ get_or (map f y) 0 0
    first x y e = ap (λ z. get_or (map f z) 0 0) e
entry_at f (b ∷ ns) (suc v) a R e = entry_at f ns v a R e

-- Behind a part.
drop-part : (ns : List Node) (v : ℕ) (N R : List Node) → drop v ns ≡ N ++ R → drop (v + length N) ns ≡ R
drop-part ns v [] R e = ap (λ i. drop i ns) same ∙ e
  where
    same : v + 0 ≡ v
    same = omega arith
drop-part ns v (a ∷ N) R e = ap (λ i. drop i ns) same ∙ drop-part ns (suc v) N R (drop-next v ns a (N ++ R) e)
  where
    same : v + suc (length N) ≡ suc v + length N
    same = omega arith

-- What is above a node above u is above u.
under-on : (p : List ℕ) (v w u : ℕ) → Under p v w → Under p w u → Under p v u
under-on p v w u a b = go u b
  where
    go : (u : ℕ) → Under p w u → Under p v u
    go u itself = a
    go (suc u) (above c) = above (go (parent p (suc u)) c)

-- ---- what holds of each node
module _ (ns : List Node) where
  abbrev P : List ℕ
  P = parents_of ns

  abbrev M : List ℕ
  M = marks_of ns

  abbrev W : List ℕ
  W = levels_of ns

  -- The parent of the node after u: at or above u, an element, one level higher.
  pub record Hangs (u par lev : ℕ) : Type 0 where
    pub before : par ≤ u
    pub line : Under P par u
    pub marked : get_or M par 0 ≡ 1
    pub level : suc (get_or W par 0) ≡ lev

  -- Node k hangs so, or is the root.
  pub record Fact (k : ℕ) : Type 0 where
    pub root : k ≡ 0 → (get_or P 0 0 ≡ 0) × ((get_or M 0 0 ≡ 1) × (get_or W 0 0 ≡ 1))
    pub child : (u : ℕ) → k ≡ suc u → Hangs u (get_or P k 0) (get_or W k 0)

  -- The facts of the part N, from v on.
  abbrev Facts : ℕ → List Node → Type 0
  Facts v N = (k : ℕ) → v ≤ k → k < v + length N → Fact k

  -- A part, and then another.
  facts_two : (v : ℕ) (N R : List Node) → Facts v N → Facts (v + length N) R → Facts v (N ++ R)
  facts_two v N R f g k l h =
      ⊎_elim (λ (q : k < v + length N). f k l q) (λ (q : v + length N ≤ k). g k q (omega (arith, h, length-append N R))) (below_or k (v + length N))
    where
      below_or : (a b : ℕ) → (a < b) ⊎ (b ≤ a)
      below_or a b = ⊎_elim (λ q. inl (ltb-true a b q)) (λ q. inr (ltb-false a b q)) (bool_cases (ltb a b))

  facts_nil : (v : ℕ) → Facts v []
  facts_nil v k l h = absurd (no h)
    where
      no : k < v + 0 → ⊥
      no h = omega (arith, l, h)

  facts_one : (v : ℕ) (a : Node) → Fact v → Facts v (a ∷ [])
  facts_one v a f k l h = subst Fact same f
    where
      same : v ≡ k
      same = omega (arith, l, h)

  -- A node that hangs.
  hung : (u : ℕ) (a : Node) (R : List Node) → drop (suc u) ns ≡ a ∷ R → Hangs u a.parent a.level → Fact (suc u)
  hung u a R e h =
      record {
        root = λ z. absurd (no z);
        child = λ w z.
            let s : u ≡ w = omega (arith, z) in
            subst (λ i. Hangs i (get_or P (suc u) 0) (get_or W (suc u) 0)) s
            (subst (λ i. Hangs u i (get_or W (suc u) 0)) (sym (entry_at (λ (a : Node). a.parent) ns (suc u) a R e))
            (subst (λ i. Hangs u a.parent i) (sym (entry_at (λ (a : Node). a.level) ns (suc u) a R e)) h));
      }
    where
      no : suc u ≡ 0 → ⊥
      no z = omega arith

  -- Under its parent.
  below : (u : ℕ) (a : Node) (R : List Node) → drop (suc u) ns ≡ a ∷ R → Under P a.parent (suc u)
  below u a R e = above (subst (λ i. Under P a.parent i) (sym (entry_at (λ (a : Node). a.parent) ns (suc u) a R e)) itself)

  -- The data held makes one node or none.
  record DataKept (par u : ℕ) (N : List Node) : Type 0 where
    facts : Facts (suc u) N
    last : Under P par (u + length N)
    after : par ≤ u + length N

  data_kept : (h : Held) (par lev u : ℕ) (R : List Node) → Hangs u par lev → drop (suc u) ns ≡ data_node h par lev ++ R → DataKept par u (data_node h par lev)
  data_kept nothing par lev u R g e = record { facts = facts_nil (suc u); last = subst (Under P par) same g.line; after = omega (arith, g.before) }
    where
      same : u ≡ u + 0
      same = omega arith
  data_kept (held f l none) par lev u R g e = record { facts = facts_nil (suc u); last = subst (Under P par) same g.line; after = omega (arith, g.before) }
    where
      same : u ≡ u + 0
      same = omega arith
  data_kept (held f l (some c)) par lev u R g e =
      record {
        facts = facts_one (suc u) (node par lev [] f l c) (hung u (node par lev [] f l c) R e g);
        last = subst (Under P par) same (below u (node par lev [] f l c) R e);
        after = omega (arith, g.before);
      }
    where
      same : suc u ≡ u + 1
      same = omega arith

  -- The parent of the next node, further on.
  hangs-on : (par lev u w : ℕ) → Hangs u par lev → par ≤ w → Under P par w → Hangs w par lev
  hangs-on par lev u w g l h = record { before = l; line = h; marked = g.marked; level = g.level }

  -- The nodes from v on are kept, and the last of them is under v.
  record PartKept (v : ℕ) (N : List Node) : Type 0 where
    facts : Facts v N
    last : Under P v (v + length N - 1)
    some-node : 1 ≤ length N

  marked-name : (n : List ℕ) → is_name n ≡ true → mark_of n ≡ 1
  unfolding is_name
  marked-name [] h = absurd (false≢true h)
  marked-name (x ∷ n) h = refl

  one-back : (v : ℕ) → v ≡ v + 1 - 1
  one-back v = omega arith

  -- An element's own node comes first.
  record Head (par lev : ℕ) (E : List Node) : Type 0 where
    first : Node
    others : List Node
    is : E ≡ first ∷ others
    parent : first.parent ≡ par
    level : first.level ≡ lev
    named : mark_of first.name ≡ 1

  -- The own node of an element with content, and then its content.
  module _ (v par lev : ℕ) (own : Node) (N R : List Node) (d : drop v ns ≡ own ∷ (N ++ R)) where
    tags-hangs : own.level ≡ lev → mark_of own.name ≡ 1 → Hangs v v (suc lev)
    tags-hangs l m =
        record {
          before = omega arith;
          line = itself;
          marked = entry_at (λ (a : Node). mark_of a.name) ns v own (N ++ R) d ∙ m;
          level = ap suc (entry_at (λ (a : Node). a.level) ns v own (N ++ R) d ∙ l);
        }

    tags-kept : Fact v → DataKept v v N → PartKept v (own ∷ N)
    tags-kept f inner =
        record {
          facts = facts_two v (own ∷ []) N (facts_one v own f) (subst (λ w. Facts w N) one inner.facts);
          last = subst (Under P v) same inner.last;
          some-node = omega arith;
        }
      where
        one : suc v ≡ v + 1
        one = omega arith

        same : v + length N ≡ v + suc (length N) - 1
        same = omega arith

  -- Data, an element and the content after it, in the element par.
  module _ (par lev w v : ℕ) (q : v ≡ suc w) (g : Hangs w par lev) (D E I R : List Node) (d : drop v ns ≡ (D ++ (E ++ I)) ++ R) (hd : Head par lev E) where
    split : drop v ns ≡ D ++ (E ++ (I ++ R))
    split = d ∙ append_assoc D (E ++ I) R ∙ ap (λ l. D ++ l) (append_assoc E I R)

    at-element : drop (v + length D) ns ≡ E ++ (I ++ R)
    at-element = drop-part ns v D (E ++ (I ++ R)) split

    at_rest : drop (v + length D + length E) ns ≡ I ++ R
    at_rest = drop-part ns (v + length D) E (I ++ R) at-element

    number : suc (w + length D) ≡ v + length D
    number = omega (arith, q)

    at_own : drop (suc (w + length D)) ns ≡ hd.first ∷ (hd.others ++ (I ++ R))
    at_own = ap (λ k. drop k ns) number ∙ at-element ∙ ap (λ l. l ++ (I ++ R)) hd.is

    own-hangs : DataKept par w D → Hangs (w + length D) hd.first.parent hd.first.level
    own-hangs k =
        subst (λ i. Hangs (w + length D) i hd.first.level) (sym hd.parent)
        (subst (λ i. Hangs (w + length D) par i) (sym hd.level) (hangs-on par lev w (w + length D) g k.after k.last))

    own-fact : DataKept par w D → Fact (v + length D)
    own-fact k = subst Fact number (hung (w + length D) hd.first (hd.others ++ (I ++ R)) at_own (own-hangs k))

    above-own : Under P par (v + length D)
    above-own =
        subst (λ i. Under P par i) number
        (subst (λ i. Under P i (suc (w + length D))) hd.parent (below (w + length D) hd.first (hd.others ++ (I ++ R)) at_own))

    rest-hangs : DataKept par w D → PartKept (v + length D) E → Hangs (w + length D + length E) par lev
    rest-hangs k m =
        hangs-on par lev w (w + length D + length E) g (omega (arith, k.after))
        (subst (Under P par) here (under-on P par (v + length D) (v + length D + length E - 1) above-own m.last))
      where
        here : v + length D + length E - 1 ≡ w + length D + length E
        here = omega (arith, q)

    element-then : DataKept par w D → PartKept (v + length D) E → DataKept par (w + length D + length E) I → DataKept par w (D ++ (E ++ I))
    element-then k m r =
        record {
          facts =
              facts_two (suc w) D (E ++ I) k.facts
              (subst (λ i. Facts i (E ++ I)) start
              (facts_two (v + length D) E I m.facts (subst (λ i. Facts i I) behind r.facts)));
          last = subst (Under P par) whole r.last;
          after = omega (arith, r.after, whole);
        }
      where
        start : v + length D ≡ suc w + length D
        start = omega (arith, q)

        behind : suc (w + length D + length E) ≡ v + length D + length E
        behind = omega (arith, q)

        whole : w + length D + length E + length I ≡ w + length (D ++ (E ++ I))
        whole = omega (arith, length-append D (E ++ I), length-append E I)

  data_from : (h : Held) (par lev w v : ℕ) → v ≡ suc w → (R : List Node) → Hangs w par lev → drop v ns ≡ data_node h par lev ++ R → DataKept par w (data_node h par lev)
  data_from h par lev w v q R g d = data_kept h par lev w R g (ap (λ i. drop i ns) (sym q) ∙ d)

  module _ (place : List ℕ → ℕ) where
    element-head : (e : Element) (par lev v : ℕ) (t : List ℕ) → Head par lev (element_nodes place e par lev v t)
    unfolding element_nodes
    element-head (empty_tag n s) par lev v t = record { first = _; others = []; is = refl; parent = refl; level = refl; named = marked-name n.bytes n.keeps }
    element-head (tags n s r i s') par lev v t = record { first = _; others = _; is = refl; parent = refl; level = refl; named = marked-name n.bytes n.keeps }

    next-number : (w v a b : ℕ) → v ≡ suc w → v + a + b ≡ suc (w + a + b)
    next-number w v a b q = omega (arith, q)

    mutual
      unfolding element_nodes items_nodes

      -- An element whose own node is kept.
      element-kept : (e : Element) (par lev v : ℕ) (t : List ℕ) (R : List Node) → Fact v → drop v ns ≡ element_nodes place e par lev v t ++ R →
          PartKept v (element_nodes place e par lev v t)
      element-kept (empty_tag n s) par lev v t R f d =
          record {
            facts = facts_one v (node par lev n.bytes (place (element_then (empty_tag n s) t)) (place ('>' ∷ t)) (place ('>' ∷ t))) f;
            last = subst (Under P v) (one-back v) itself;
            some-node = omega arith;
          }
      element-kept (tags n s r i s') par lev v t R f d =
          let u = '<' ∷ end_tag_then n.bytes s' t in
          let h = run_then place nothing r.bytes (items_then i u) in
          let own = node par lev n.bytes (place (element_then (tags n s r i s') t)) (place ('>' ∷ t)) (place ('>' ∷ (r.bytes ++ items_then i u))) in
          let N = items_nodes place i v (suc lev) (suc v) h u in
          tags-kept v par lev own N R d f
          (items_kept i v (suc lev) v (suc v) refl h u R (tags-hangs v par lev own N R d refl (marked-name n.bytes n.keeps)) (drop-next v ns own (N ++ R) d))

      -- Content from the node v on, which is the one after w, in the element par.
      items_kept : (i : Items) (par lev w v : ℕ) → v ≡ suc w → (h : Held) (t : List ℕ) (R : List Node) → Hangs w par lev →
          drop v ns ≡ items_nodes place i par lev v h t ++ R → DataKept par w (items_nodes place i par lev v h t)
      items_kept end par lev w v q h t R g d = data_from h par lev w v q R g d
      items_kept (element e r i) par lev w v q h t R g d =
          let D = data_node h par lev in
          let z = r.bytes ++ items_then i t in
          let E = element_nodes place e par lev (v + length D) z in
          let h' = run_then place nothing r.bytes (items_then i t) in
          let I = items_nodes place i par lev (v + length D + length E) h' t in
          let hd = element-head e par lev (v + length D) z in
          let k = data_from h par lev w v q (E ++ (I ++ R)) g (split par lev w v q g D E I R d hd) in
          let m = element-kept e par lev (v + length D) z (I ++ R) (own-fact par lev w v q g D E I R d hd k) (at-element par lev w v q g D E I R d hd) in
          element-then par lev w v q g D E I R d hd k m
          (items_kept i par lev (w + length D + length E) (v + length D + length E) (next-number w v (length D) (length E) q) h' t R
          (rest-hangs par lev w v q g D E I R d hd k m) (at_rest par lev w v q g D E I R d hd))
      items_kept (reference e r i) par lev w v q h t R g d = items_kept i par lev w v q _ t R g d
      items_kept (comment b r i) par lev w v q h t R g d = items_kept i par lev w v q _ t R g d

-- ---- the tree of a document
module _ (d : Document) where
  abbrev nodes : List Node
  nodes = tree d

  root-head : Head nodes 0 1 nodes
  unfolding tree
  root-head = element-head nodes (place_in (text d)) d.root 0 1 0 (miscs_then d.epilog [])

  root-fact : Fact nodes 0
  root-fact =
      record {
        root = λ z. (at (λ (a : Node). a.parent) ∙ root-head.parent, (at (λ (a : Node). mark_of a.name) ∙ root-head.named, at (λ (a : Node). a.level) ∙ root-head.level));
        child = λ u z. absurd (no u z);
      }
    where
      at : (f : Node → ℕ) → get_or (map f nodes) 0 0 ≡ f root-head.first
      at f = entry_at f nodes 0 root-head.first root-head.others root-head.is

      no : (u : ℕ) → 0 ≡ suc u → ⊥
      no u z = omega arith

  all-kept : PartKept nodes 0 nodes
  unfolding tree
  all-kept = element-kept nodes (place_in (text d)) d.root 0 1 0 (miscs_then d.epilog []) [] root-fact (sym (append-nil nodes))

  abbrev parents : List ℕ
  parents = parents_of nodes

  size_is : length parents ≡ length nodes
  size_is = length-map nodes (λ (a : Node). a.parent)

  fact : (k : ℕ) → k < length nodes → Fact nodes k
  fact k l = all-kept.facts k (omega arith) (omega (arith, l))

  down : Down parents (length nodes)
  down i l = ((fact (suc i) l).child i refl).before

  -- A node's level in the tree is the one that it was given.
  level-is : (m k : ℕ) → k ≤ m → k < length nodes → level parents k ≡ get_or (levels_of nodes) k 0
  level-is zero zero l h = level-root parents ∙ sym ((fact 0 h).root refl).1.1
  level-is zero (suc k) l h = absurd (no l)
    where
      no : suc k ≤ 0 → ⊥
      no l = omega arith
  level-is (suc m) zero l h = level-root parents ∙ sym ((fact 0 h).root refl).1.1
  level-is (suc m) (suc k) l h =
      level-suc parents (length nodes) down k h ∙
      ap suc (level-is m (get_or parents (suc k) 0) (omega (arith, l, hangs.before)) (omega (arith, h, hangs.before))) ∙ hangs.level
    where
      hangs : Hangs nodes k (get_or parents (suc k) 0) (get_or (levels_of nodes) (suc k) 0)
      hangs = (fact (suc k) h).child k refl

-- No node is over the limit of levels.
none_over : (L N : ℕ) (ks : List Key) (v i : ℕ) → first_over L N v ks ≡ none → i < length ks → get_or (map (λ (k : Key). k.level) ks) i 0 ≤ L
unfolding first_over
none_over L N [] v i e l = absurd (no l)
  where
    no : i < 0 → ⊥
    no l = omega arith
none_over L N (k ∷ ks) v i e l = by_test (ltb L k.level) (leb N v) refl e i l (none_over L N ks (suc v))
  where
    by_test : (a b : Bool) → ltb L k.level ≡ a → cond (a || b) (some v) (first_over L N (suc v) ks) ≡ none → (i : ℕ) → i < suc (length ks) →
        ((i : ℕ) → first_over L N (suc v) ks ≡ none → i < length ks → get_or (map (λ (k : Key). k.level) ks) i 0 ≤ L) →
        get_or (k.level ∷ map (λ (k : Key). k.level) ks) i 0 ≤ L
    by_test true b q e i l r = absurd (none-some v (some v) e refl)
    by_test false true q e i l r = absurd (none-some v (some v) e refl)
    by_test false false q e zero l r = ltb-false L k.level q
    by_test false false q e (suc i) l r = r i e (omega (arith, l))

key-levels : (ns : List Node) → map (λ (k : Key). k.level) (keys_of ns) ≡ levels_of ns
key-levels [] = refl
key-levels (a ∷ ns) = ap (λ l. a.level ∷ l) (key-levels ns)

-- Whatever numbers the tags are, if those of elements are not 0.
pub tree-lawful : (d : Document) (t : List ℕ) → first_over 64 65536 0 (keys_of (tree d)) ≡ none → length t ≡ length (tree d) →
    ((k : ℕ) → k < length (tree d) → get_or (marks_of (tree d)) k 0 ≡ 1 → get_or t k 0 ≡ 0 → ⊥) → tree_bad (parents_of (tree d)) t ≡ length (parents_of (tree d))
tree-lawful d t o s m = lawful-accepted (parents_of (tree d)) t (lawful-each (parents_of (tree d)) t λ i l. kept i (omega (arith, l, size_is d)))
  where
    n : ℕ
    n = length (tree d)

    levels : (i : ℕ) → i < n → level (parents d) i ≤ 64
    levels i l =
        omega (
          arith,
          level-is d i i (omega arith) l,
          none_over 64 65536 (keys_of (tree d)) 0 i o (omega (arith, l, keys_length (tree d))),
          ap (λ z. get_or z i 0) (key-levels (tree d)),
        )

    kept : (i : ℕ) → i < n → NodeKept (parents d) t i
    kept i l =
        record {
          root = λ z. ap (λ k. get_or (parents d) k 0) z ∙ ((fact d 0 (omega (arith, l))).root refl).0;
          preorder = λ j z. under-of-plain (parents d) n (down d) (get_or (parents d) i 0) j (omega (arith, l, z)) ((fact d i l).child j z).line;
          levels = levels i l;
          tagged = omega (arith, l, s);
          root_tag = λ z e. m 0 (omega (arith, l)) ((fact d 0 (omega (arith, l))).root refl).1.0 (ap (λ k. get_or t k 0) (sym z) ∙ e);
          no_text_parent = λ j z e. m (get_or (parents d) i 0) (omega (arith, l, z, ((fact d i l).child j z).before)) ((fact d i l).child j z).marked e;
        }
