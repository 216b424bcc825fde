-- The store of the second pass against the memory of `profile`'s reader.
--   held_in c d        == the data held, d, solid from its byte c on where it makes a node
--   Named T ns         == each node's name is the one that stands behind its first place, or none where its mark is 0
--   Mirror m S         == the store S is the memory m: its rows are the nodes so far over R
--   mirror-…           each piece does to the one what it does to the other
-- Letters as in specs/Inner; R the rows at the beginning, each n long; m memory, t the text from the place `at` on, q the piece at its head. Assumes nothing.
use Prim.Native.Nat.{ℕ, zero, suc, ◌+◌, ◌-◌, ◌≤◌, ◌<◌}
use mathlib.Core.Path.{◌≡◌, refl, sym, ap, ap₂, subst, ◌∙◌}
use mathlib.Core.List.{List, [], ◌∷◌, ◌++◌, map, append-nil}
use mathlib.Core.Bool.{Bool, true, false, cond, ◌||◌, false≢true}
use mathlib.Core.Option.{none, some}
use native.Mathlib.Omega.{arith}
use native.Mathlib.Numerals.{add-one}
use lib.Dec.{eqb, ltb}
use lib.ListN.{length, get_or, set, length-append}
use lib.Seq.{get_or-set_same, get_or-set_other}
use borrow.Author.Tests.{ltb-true, lt-ltb}
use borrow.Author.Count.{below_more}
use Rattle.std.specs.Prelude.{Option, None, Some}
use Rattle.seq.proofs.Laws.Bools.{bool_ext, cond-true, cond-false}
use Rattle.profile.specs.Spans.{name_at}
use Rattle.profile.specs.Tree.{Node, node, Held, nothing, held, data_node}
use Rattle.profile.specs.Reader.{Memory, top, popped, end_at, flushed, from_mark, opened, emptied, closed}
use Rattle.profile.specs.Reader as reader
use Rattle.profile.specs.Pieces.{DATA, START, EMPTY, CLOSE, COMMENT}
use Rattle.profile.specs.Pieces as pieces
use Rattle.profile.specs.Turns as turns
use Rattle.profile.specs.Notes.{stretched, marked, with_run, holding, noted_data, noted}
use Rattle.markup.specs.Pieces.{piece_from}
use Rattle.reader.specs.declared.build.Held.{Held as Data}
use Rattle.names.specs.Names.{name_of}
use Rattle.reader.specs.Inner.{Rows, put_node, end_node, State, Store, path_in, blank, first_in, last_in, solid_in, above, flushed_met, flushed_rows, longer, data_store, mark_of, mark}
use Rattle.reader.proofs.Calls.{solid-met, thin_met, solid-rows, thin_rows, data_outside, data_inside}
use Rattle.reader.proofs.Rows.{map_snoc, map-end_at, Sized, written, written-put, written-end}
use Rattle.profile.proofs.Went.{end_at-length}

-- ---- the open elements
pub path-length : (O : List ℕ) (d : ℕ) → length (path_in O d) ≡ d
unfolding path_in
path-length O zero = refl
path-length O (suc d) = ap suc (path-length O d)

path-set : (O : List ℕ) (d v e : ℕ) → e ≤ d → path_in (set O d v) e ≡ path_in O e
unfolding path_in
path-set O d v zero l = refl
path-set O d v (suc e) l = ap₂ (λ x q. x ∷ q) (get_or-set_other O d e v 0 (λ z. omega arith)) (path-set O d v e (omega arith))

path-push : (O : List ℕ) (d v : ℕ) → d < length O → path_in (set O d v) (d + 1) ≡ v ∷ path_in O d
path-push O d v l = ap (path_in (set O d v)) (add-one d) ∙ pushed
  where
    pushed : path_in (set O d v) (suc d) ≡ v ∷ path_in O d
    pushed = unfold path_in in ap₂ (λ x q. x ∷ q) (get_or-set_same O d v 0 l) (path-set O d v d (omega arith))

path-pop : (O : List ℕ) (d : ℕ) → popped (path_in O d) ≡ path_in O (d - 1)
unfolding path_in
path-pop O zero = refl
path-pop O (suc d) = ap (path_in O) back
  where
    back : d ≡ suc d - 1
    back = omega arith

pub top_below : (O : List ℕ) (d k : ℕ) → 1 ≤ d → ((e : ℕ) → e < d → get_or O e 0 < k) → top (path_in O d) < k
unfolding path_in
top_below O zero k l h = absurd (none_open l)
  where
    none_open : 1 ≤ 0 → ⊥
    none_open l = omega arith
top_below O (suc d) k l h = h d (omega arith)

pub top_le : (O : List ℕ) (d k : ℕ) → ((e : ℕ) → e < d → get_or O e 0 < k) → top (path_in O d) ≤ k
unfolding path_in
top_le O zero k h = omega arith
top_le O (suc d) k h = omega (arith, h d (omega arith))

-- ---- the data held
abbrev held_in : ℕ → Option Data → Held
held_in c None = nothing
held_in c (Some h) = held h.first h.last (cond h.solid (some c) none)

data_solid : (c : ℕ) (d : Option Data) (v k : ℕ) → solid_in d ≡ true → data_node (held_in c d) v k ≡ node v k [] (first_in d) (last_in d) c ∷ []
data_solid c None v k e = absurd (false≢true e)
data_solid c (Some h) v k e = ap (λ b. data_node (held h.first h.last (cond b (some c) none)) v k) e

data_thin : (c : ℕ) (d : Option Data) (v k : ℕ) → solid_in d ≡ false → data_node (held_in c d) v k ≡ []
data_thin c None v k e = refl
data_thin c (Some h) v k e = ap (λ b. data_node (held h.first h.last (cond b (some c) none)) v k) e

ltb-add : (j w z : ℕ) → ltb (j + w) (j + z) ≡ ltb w z
ltb-add j w z =
    bool_ext (ltb (j + w) (j + z)) (ltb w z) (λ e. lt-ltb w z (omega (arith, ltb-true (j + w) (j + z) e)))
    (λ e. lt-ltb (j + w) (j + z) (omega (arith, ltb-true w z e)))

run-held : (c : ℕ) (d : Option Data) (j : ℕ) (q : pieces.Piece) →
    with_run (held_in c d) j q.middle q.size ≡ held_in (cond (solid_in d) c (j + q.middle)) (Some (longer j (piece_from j q) d))
unfolding with_run
run-held c None j q = rw (ltb-add j q.middle q.size) (by_test (ltb q.middle q.size))
  where
    by_test : (a : Bool) →
        cond a (marked (stretched nothing j (j + q.size - 1)) (j + q.middle)) (stretched nothing j (j + q.size - 1)) ≡
        held j (j + q.size - 1) (cond a (some (j + q.middle)) none)
    by_test true = refl
    by_test false = refl
run-held c (Some h) j q = rw (ltb-add j q.middle q.size) (by_test (ltb q.middle q.size) h.solid)
  where
    by_test : (a b : Bool) →
        cond a (marked (stretched (held h.first h.last (cond b (some c) none)) j (j + q.size - 1)) (j + q.middle)) (stretched (held h.first h.last (cond b (some c) none)) j (j + q.size - 1)) ≡
        held h.first (j + q.size - 1) (cond (b || a) (some (cond b c (j + q.middle))) none)
    by_test true true = refl
    by_test true false = refl
    by_test false true = refl
    by_test false false = refl

-- ---- what is noted
module _ (at : ℕ) (t : List ℕ) (q : pieces.Piece) (m : Memory) where
  noted_data_lem : q.kind ≡ DATA → noted at t q m ≡ noted_data at q m m.path
  unfolding noted
  noted_data_lem k = cond-true (eqb q.kind DATA) (ap (λ i. eqb i DATA) k) _ _

  pub noted-close : q.kind ≡ CLOSE → noted at t q m ≡ closed (at + q.size - 1) (reader.marked at m)
  unfolding noted
  noted-close k =
      cond-false (eqb q.kind DATA) (ap (λ i. eqb i DATA) k) _ _ ∙ cond-true (eqb q.kind CLOSE) (ap (λ i. eqb i CLOSE) k) _ _

  pub noted-start : q.kind ≡ START → noted at t q m ≡ opened (turns.name_of t q) (at + q.size - 1) (reader.marked at m)
  unfolding noted
  noted-start k =
      cond-false (eqb q.kind DATA) (ap (λ i. eqb i DATA) k) _ _ ∙ cond-false (eqb q.kind CLOSE) (ap (λ i. eqb i CLOSE) k) _ _ ∙
      cond-true (eqb q.kind START) (ap (λ i. eqb i START) k) _ _

  pub noted-empty : q.kind ≡ EMPTY → noted at t q m ≡ emptied (turns.name_of t q) (at + q.size - 1) (reader.marked at m)
  unfolding noted
  noted-empty k =
      cond-false (eqb q.kind DATA) (ap (λ i. eqb i DATA) k) _ _ ∙ cond-false (eqb q.kind CLOSE) (ap (λ i. eqb i CLOSE) k) _ _ ∙
      cond-false (eqb q.kind START) (ap (λ i. eqb i START) k) _ _ ∙ cond-true (eqb q.kind EMPTY) (ap (λ i. eqb i EMPTY) k) _ _

  noted-comment : q.kind ≡ COMMENT → noted at t q m ≡ reader.marked at m
  unfolding noted
  noted-comment k =
      cond-false (eqb q.kind DATA) (ap (λ i. eqb i DATA) k) _ _ ∙ cond-false (eqb q.kind CLOSE) (ap (λ i. eqb i CLOSE) k) _ _ ∙
      cond-false (eqb q.kind START) (ap (λ i. eqb i START) k) _ _ ∙ cond-false (eqb q.kind EMPTY) (ap (λ i. eqb i EMPTY) k) _ _ ∙
      cond-true (eqb q.kind COMMENT) (ap (λ i. eqb i COMMENT) k) (reader.marked at m) m

-- ---- names
pub Named : List ℕ → List Node → Type 0
Named T ns = map (λ a. a.name) ns ≡ map (λ a. name_of T (mark a) a.first) ns

pub named-nil : (T : List ℕ) → Named T []
unfolding Named
named-nil T = refl

pub named-is : (T : List ℕ) (ns : List Node) → Named T ns → map (λ a. a.name) ns ≡ map (λ a. name_of T (mark a) a.first) ns
unfolding Named
named-is T ns e = e

named_more : (T : List ℕ) (ns : List Node) (a : Node) → Named T ns → a.name ≡ name_of T (mark a) a.first → Named T (ns ++ (a ∷ []))
unfolding Named
named_more T ns a w e =
    map_snoc (λ a. a.name) ns a ∙ ap₂ (λ l x. l ++ (x ∷ [])) w e ∙ sym (map_snoc (λ a. name_of T (mark a) a.first) ns a)

named-end_at : (T : List ℕ) (v l : ℕ) (ns : List Node) → Named T ns → Named T (end_at v l ns)
unfolding Named
named-end_at T v l ns w =
    map-end_at (λ a. a.name) (λ a l. refl) v l ns ∙ w ∙ sym (map-end_at (λ a. name_of T (mark a) a.first) (λ a l. refl) v l ns)

-- ---- the store and the memory
module _ (T : List ℕ) (R : Rows) where
  pub record Mirror (m : Memory) (S : Store) : Type 0 where
    pub met : S.state.met ≡ length m.nodes
    pub rows : S.rows ≡ written m.nodes R
    pub path : m.path ≡ path_in S.opens S.state.depth
    pub solid : ℕ
    pub held : m.held ≡ held_in solid S.state.held
    pub outside : S.state.depth ≡ 0 → solid_in S.state.held ≡ false
    pub below : (e : ℕ) → e < S.state.depth → get_or S.opens e 0 < S.state.met
    pub names : Named T m.nodes

module _ (T : List ℕ) (n : ℕ) (R : Rows) (sized : Sized n R) where
  module _ (m : Memory) (S : Store) (w : Mirror T R m S) where
    -- ---- the node of the data held
    level : ℕ
    level = suc (length m.path)

    data_of : Node
    data_of = node (top m.path) level [] (first_in S.state.held) (last_in S.state.held) w.solid

    solid-nodes : solid_in S.state.held ≡ true → flushed m ≡ m.nodes ++ (data_of ∷ [])
    unfolding data_of level
    solid-nodes e =
        ap (λ l. m.nodes ++ l)
        (ap (λ h. data_node h (top m.path) level) w.held ∙
        data_solid w.solid S.state.held (top m.path) level e)

    pub thin_nodes : solid_in S.state.held ≡ false → flushed m ≡ m.nodes
    unfolding level
    thin_nodes e =
        ap (λ l. m.nodes ++ l)
        (ap (λ h. data_node h (top m.path) level) w.held ∙
        data_thin w.solid S.state.held (top m.path) level e) ∙
        append-nil m.nodes

    top-is : above S ≡ top m.path
    top-is = ap top (sym w.path)

    pub mirror-met : flushed_met S.state ≡ length (flushed m)
    mirror-met = by_test (solid_in S.state.held) refl
      where
        by_test : (b : Bool) → solid_in S.state.held ≡ b → flushed_met S.state ≡ length (flushed m)
        by_test true e = omega (arith, solid-met S.state e, w.met, ap length (solid-nodes e), length-append m.nodes (data_of ∷ []))
        by_test false e = thin_met S.state e ∙ w.met ∙ sym (ap length (thin_nodes e))

    pub met_le : S.state.met ≤ flushed_met S.state
    unfolding flushed_met
    met_le = by_test (solid_in S.state.held)
      where
        by_test : (b : Bool) → S.state.met ≤ cond b (S.state.met + 1) S.state.met
        by_test true = omega arith
        by_test false = omega arith

    module _ (fits : length (flushed m) ≤ n) where
      flush-rows : flushed_rows S.state (above S) S.rows ≡ written (flushed m) R
      flush-rows = by_test (solid_in S.state.held) refl
        where
          by_test : (b : Bool) → solid_in S.state.held ≡ b → flushed_rows S.state (above S) S.rows ≡ written (flushed m) R
          by_test true e =
              solid-rows S.state (above S) S.rows e ∙
              ap₂ (λ v R. put_node S.state.met v 0 (first_in S.state.held) (last_in S.state.held) R) top-is w.rows ∙ put ∙ ap (λ l. written l R) (sym (solid-nodes e))
            where
              room : S.state.met < n
              room = omega (arith, solid-met S.state e, mirror-met)

              put : put_node S.state.met (top m.path) 0 (first_in S.state.held) (last_in S.state.held) (written m.nodes R) ≡ written (m.nodes ++ (data_of ∷ [])) R
              put = unfold data_of in written-put n R sized m.nodes S.state.met w.met room data_of
          by_test false e = thin_rows S.state (above S) S.rows e ∙ w.rows ∙ ap (λ l. written l R) (sym (thin_nodes e))

      flush-names : Named T (flushed m)
      flush-names = by_test (solid_in S.state.held) refl
        where
          by_test : (b : Bool) → solid_in S.state.held ≡ b → Named T (flushed m)
          by_test true e = subst (Named T) (sym (solid-nodes e)) (named_more T m.nodes data_of w.names (unfold data_of name_of in refl))
          by_test false e = subst (Named T) (sym (thin_nodes e)) w.names

      -- ---- a start tag or an empty-element tag
      module _ (at l : ℕ) (nm : List ℕ) (name : nm ≡ name_at T (at + 1)) (marked-one : mark_of nm ≡ 1) (room : suc (length (flushed m)) ≤ n) where
        own : Node
        own = from_mark nm l (reader.marked at m)

        tag-rows : put_node (flushed_met S.state) (above S) 1 at l (flushed_rows S.state (above S) S.rows) ≡ written (flushed m ++ (own ∷ [])) R
        tag-rows =
            ap₂ (λ v R. put_node (flushed_met S.state) v 1 at l R) top-is flush-rows ∙
            ap (λ k. put_node (flushed_met S.state) (top m.path) k at l (written (flushed m) R)) (sym marked-one) ∙
            (unfold own in written-put n R sized (flushed m) (flushed_met S.state) mirror-met (omega (arith, mirror-met)) own)

        tag_names : Named T (flushed m ++ (own ∷ []))
        tag_names = named_more T (flushed m) own flush-names (unfold own name_of in name ∙ sym (ap (λ k. cond (eqb k 0) [] (name_at T (at + 1))) marked-one))

        tag-met : flushed_met S.state + 1 ≡ length (flushed m ++ (own ∷ []))
        tag-met = omega (arith, mirror-met, length-append (flushed m) (own ∷ []))

        pub mirror-opened : S.state.depth < length S.opens →
            Mirror T R (opened nm l (reader.marked at m))
            (record {
              state = blank (S.state.depth + 1) (flushed_met S.state + 1);
              opens = set S.opens S.state.depth (flushed_met S.state);
              rows = put_node (flushed_met S.state) (above S) 1 at l (flushed_rows S.state (above S) S.rows);
            })
        unfolding own
        mirror-opened deep =
            record {
              met = tag-met;
              rows = tag-rows;
              path =
                  ap (λ q. length (flushed m) ∷ q) w.path ∙ ap (λ v. v ∷ path_in S.opens S.state.depth) (sym mirror-met) ∙
                  sym (path-push S.opens S.state.depth (flushed_met S.state) deep);
              solid = 0;
              held = refl;
              outside = λ e. refl;
              below =
                  below_more (λ e. get_or (set S.opens S.state.depth (flushed_met S.state)) e 0 < flushed_met S.state + 1) S.state.depth
                  (λ e h. omega (arith, get_or-set_other S.opens S.state.depth e (flushed_met S.state) 0 (λ z. omega arith), w.below e h, met_le))
                  (omega (arith, get_or-set_same S.opens S.state.depth (flushed_met S.state) 0 deep));
              names = tag_names;
            }

        pub mirror-emptied :
            Mirror T R (emptied nm l (reader.marked at m))
            (record {
              state = blank S.state.depth (flushed_met S.state + 1);
              opens = S.opens;
              rows = put_node (flushed_met S.state) (above S) 1 at l (flushed_rows S.state (above S) S.rows);
            })
        unfolding own
        mirror-emptied =
            record {
              met = tag-met;
              rows = tag-rows;
              path = w.path;
              solid = 0;
              held = refl;
              outside = λ e. refl;
              below = λ e h. omega (arith, w.below e h, met_le);
              names = tag_names;
            }

      -- ---- an end tag
      pub mirror-closed : (at l : ℕ) → 1 ≤ S.state.depth →
          Mirror T R (closed l (reader.marked at m))
          (record {
            state = blank (S.state.depth - 1) (flushed_met S.state);
            opens = S.opens;
            rows = end_node (above S) l (flushed_rows S.state (above S) S.rows);
          })
      mirror-closed at l some_open =
          record {
            met = mirror-met ∙ sym (end_at-length (top m.path) l (flushed m));
            rows = ap₂ (λ v R. end_node v l R) top-is flush-rows ∙ written-end n R sized (flushed m) (top m.path) l inner;
            path = ap popped w.path ∙ path-pop S.opens S.state.depth;
            solid = 0;
            held = refl;
            outside = λ e. refl;
            below = λ e h. omega (arith, w.below e (omega arith), met_le);
            names = named-end_at T (top m.path) l (flushed m) flush-names;
          }
        where
          inner : top m.path < length (flushed m)
          inner =
              omega (arith, top-is, top_below S.opens S.state.depth S.state.met some_open w.below, met_le, mirror-met)

    -- ---- comments
    pub mirror-comment : (at : ℕ) (t : List ℕ) (q : pieces.Piece) → q.kind ≡ COMMENT → Mirror T R (noted at t q m) S
    mirror-comment at t q k = subst (λ m. Mirror T R m S) (sym (noted-comment at t q m k)) same
      where
        same : Mirror T R (reader.marked at m) S
        same =
            record {
              met = w.met;
              rows = w.rows;
              path = w.path;
              solid = w.solid;
              held = w.held;
              outside = w.outside;
              below = w.below;
              names = w.names;
            }

    -- ---- data
    pub mirror_data : (at : ℕ) (t : List ℕ) (q : pieces.Piece) → q.kind ≡ DATA → Mirror T R (noted at t q m) (data_store at (piece_from at q) S)
    mirror_data at t q k = by-depth S.state.depth refl
      where
        s : State
        s = S.state

        by-depth : (d : ℕ) → s.depth ≡ d → Mirror T R (noted at t q m) (data_store at (piece_from at q) S)
        by-depth zero e =
            subst (Mirror T R (noted at t q m)) (data_outside at (piece_from at q) S e)
            (subst (λ m. Mirror T R m S) (sym (noted_data_lem at t q m k ∙ ap (noted_data at q m) none_open)) w)
          where
            none_open : m.path ≡ []
            none_open = w.path ∙ ap (path_in S.opens) e ∙ unfold path_in in refl
        by-depth (suc d) e =
            subst (Mirror T R (noted at t q m)) (data_inside at (piece_from at q) S (λ z. omega arith) (longer at (piece_from at q) s.held) refl)
            (subst (λ m. Mirror T R m next) (sym (noted_data_lem at t q m k ∙ ap (noted_data at q m) some_open)) inner)
          where
            some_open : m.path ≡ get_or S.opens d 0 ∷ path_in S.opens d
            some_open = w.path ∙ ap (path_in S.opens) e ∙ unfold path_in in refl

            next : Store
            next =
                record {
                  state = record { depth = s.depth; met = s.met; held = Some (longer at (piece_from at q) s.held) };
                  opens = S.opens;
                  rows = S.rows;
                }

            inner : Mirror T R (holding (with_run m.held at q.middle q.size) m) next
            inner =
                record {
                  met = w.met;
                  rows = w.rows;
                  path = w.path;
                  solid = cond (solid_in s.held) w.solid (at + q.middle);
                  held = ap (λ h. with_run h at q.middle q.size) w.held ∙ run-held w.solid s.held at q;
                  outside = λ z. absurd (never z);
                  below = w.below;
                  names = w.names;
                }
              where
                never : s.depth ≡ 0 → ⊥
                never z = omega arith
