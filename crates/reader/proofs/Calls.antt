-- What the functions of the second pass need of each other, and that their results are what specs/Inner says.
--   top-…, flush-…, data-…, tag-…, turn-…   for the function of that name
-- Letters as in specs/Inner. Assumes nothing.
use Prim.Native.Nat.{ℕ, zero, suc, ◌+◌, ◌-◌, ◌≤◌, ◌<◌}
use mathlib.Core.Path.{◌≡◌, refl, sym, ap, subst, ◌∙◌}
use mathlib.Core.List.{List}
use mathlib.Core.Bool.{Bool, true, false, cond, ◌||◌}
use native.Mathlib.Omega.{arith}
use Rattle.std.specs.Prelude.{Option, None, Some}
use lib.Dec.{ltb}
use lib.ListN.{length, get_or, set, length-set}
use borrow.Author.Tests.{eq-eqb, ne_eqb}
use Rattle.profile.specs.Reader.{top}
use Rattle.markup.specs.declared.Kind.{Kind}
use Rattle.markup.specs.declared.Kind.TheVariants.{End, Data, Comment, Start, Empty, Close, Nothing}
use Rattle.markup.specs.declared.Piece.{Piece}
use Rattle.reader.specs.declared.build.Builder.{Builder}
use Rattle.reader.specs.declared.build.Held.{Held}
use Rattle.reader.specs.Inner.{Rows, Even, put_node, end_node, State, Store, SameRows, path_in, first_in, last_in, solid_in, above, add_node, NodePre, Room, flushed_met, flushed_rows, flushed_store, longer, data_state, data_store, node_store, close_store, tag_of, tag_store, turn_of, turn_store, TagPre}

-- ---- the rows that are borrowed
pub rows_still : {a b c : Builder} → SameRows a b → SameRows b c → SameRows a c
rows_still s t = record { parents = t.parents ∙ s.parents; marks = t.marks ∙ s.marks; firsts = t.firsts ∙ s.firsts; lasts = t.lasts ∙ s.lasts }

-- ---- the innermost open element
pub top-none : (O : List ℕ) (d : ℕ) → d ≡ 0 → 0 ≡ top (path_in O d)
unfolding path_in
top-none O d e = ap (λ d. top (path_in O d)) (sym e)

pub some_open : (d : ℕ) → (d ≡ 0 → ⊥) → 1 ≤ d
some_open zero z = absurd (z refl)
some_open (suc d) z = omega arith

pub top-some : (O : List ℕ) (d : ℕ) → (d ≡ 0 → ⊥) → get_or O (d - 1) 0 ≡ top (path_in O d)
unfolding path_in
top-some O zero z = absurd (z refl)
top-some O (suc d) z = ap (λ i. get_or O i 0) back
  where
    back : suc d - 1 ≡ d
    back = omega arith

-- ---- the data held
module _ (s : State) where
  pub solid-met : solid_in s.held ≡ true → flushed_met s ≡ s.met + 1
  unfolding flushed_met
  solid-met e = ap (λ b. cond b (s.met + 1) s.met) e

  pub thin_met : solid_in s.held ≡ false → flushed_met s ≡ s.met
  unfolding flushed_met
  thin_met e = ap (λ b. cond b (s.met + 1) s.met) e

  module _ (par : ℕ) (R : Rows) where
    pub solid-rows : solid_in s.held ≡ true → flushed_rows s par R ≡ put_node s.met par 0 (first_in s.held) (last_in s.held) R
    unfolding flushed_rows
    solid-rows e = ap (λ b. cond b (put_node s.met par 0 (first_in s.held) (last_in s.held) R) R) e

    pub thin_rows : solid_in s.held ≡ false → flushed_rows s par R ≡ R
    unfolding flushed_rows
    thin_rows e = ap (λ b. cond b (put_node s.met par 0 (first_in s.held) (last_in s.held) R) R) e

-- What `flush` leaves: no data is held then.
module _ (S : Store) (d : Option Held) (e : d ≡ None) where
  abbrev emptied : Option Held → Store
  emptied d = record { state = record { depth = S.state.depth; met = S.state.met; held = d }; opens = S.opens; rows = S.rows }

  pub flush_thin : solid_in S.state.held ≡ false → emptied d ≡ flushed_store S
  unfolding flushed_met flushed_rows
  flush_thin f = rw (e, f)

  pub flush-solid : (h : Held) → S.state.held ≡ Some h → h.solid ≡ true → add_node 0 h.first h.last (emptied d) ≡ flushed_store S
  unfolding flushed_met flushed_rows
  flush-solid h i f = rw (e, i, f)

  pub flush-node : Room S → (h : Held) → S.state.held ≡ Some h → h.solid ≡ true → NodePre h.first h.last (emptied d)
  flush-node w h i f =
      record {
        even = w.even;
        deep = w.deep;
        node = omega (arith, w.room, solid-met S.state (ap solid_in i ∙ f));
        above = w.above;
        first = omega (arith, w.first, ap first_in i);
        last = omega (arith, w.last, ap last_in i);
      }

-- ---- rows keep their lengths
put_node-even : (v par k f l : ℕ) (R : Rows) → Even R → Even (put_node v par k f l R)
put_node-even v par k f l R e =
    record {
      few = omega (arith, length-set R.parents v par, e.few);
      marks = length-set R.marks v k ∙ e.marks ∙ sym (length-set R.parents v par);
      firsts = length-set R.firsts v f ∙ e.firsts ∙ sym (length-set R.parents v par);
      lasts = length-set R.lasts v l ∙ e.lasts ∙ sym (length-set R.parents v par);
    }

pub flushed-even : (s : State) (par : ℕ) (R : Rows) → Even R → Even (flushed_rows s par R)
unfolding flushed_rows
flushed-even s par R e = by_test (solid_in s.held)
  where
    by_test : (b : Bool) → Even (cond b (put_node s.met par 0 (first_in s.held) (last_in s.held) R) R)
    by_test true = put_node-even s.met par 0 (first_in s.held) (last_in s.held) R e
    by_test false = e

pub flushed-long : (s : State) (par : ℕ) (R : Rows) → length (flushed_rows s par R).parents ≡ length R.parents
unfolding flushed_rows
flushed-long s par R = by_test (solid_in s.held)
  where
    by_test : (b : Bool) → length (cond b (put_node s.met par 0 (first_in s.held) (last_in s.held) R) R).parents ≡ length R.parents
    by_test true = length-set R.parents s.met par
    by_test false = refl

-- ---- data
module _ (at : ℕ) (p : Piece) where
  -- The data held with more.
  pub longer-new : (d : Option Held) → d ≡ None → record { first = at; last = p.end - 1; solid = ltb p.middle p.end } ≡ longer at p d
  longer-new d e = rw e

  pub longer-old : (d : Option Held) (h : Held) → d ≡ Some h → (b : Bool) → b ≡ (h.solid || ltb p.middle p.end) →
      record { first = h.first; last = p.end - 1; solid = b } ≡ longer at p d
  longer-old d h e b f = rw (e, f)

  module _ (S : Store) where
    pub data_outside : S.state.depth ≡ 0 → S ≡ data_store at p S
    unfolding data_state
    data_outside e = rw (eq-eqb S.state.depth 0 e)

    pub data_inside : (S.state.depth ≡ 0 → ⊥) → (h : Held) → h ≡ longer at p S.state.held →
        record { state = record { depth = S.state.depth; met = S.state.met; held = Some h }; opens = S.opens; rows = S.rows } ≡ data_store at p S
    unfolding data_state
    data_inside e h f = rw (f, ne_eqb S.state.depth 0 e)

-- ---- tags
module _ (S : Store) where
  module _ (at : ℕ) (p : Piece) where
    pub tag-close : p.kind ≡ Close → close_store p S ≡ tag_store at p S
    unfolding tag_of
    tag-close k = rw k

    -- A start tag opens its element, an empty-element tag does not.
    pub tag-start : p.kind ≡ Start → node_store (S.state.depth + 1) (set S.opens S.state.depth (flushed_met S.state)) at p S ≡ tag_store at p S
    unfolding tag_of
    tag-start k = rw k

    pub tag-empty : (p.kind ≡ Close → ⊥) → (p.kind ≡ Start → ⊥) → node_store S.state.depth S.opens at p S ≡ tag_store at p S
    unfolding tag_of
    tag-empty c s = by_kind p.kind c s
      where
        by_kind : (k : Kind) → (k ≡ Close → ⊥) → (k ≡ Start → ⊥) → node_store S.state.depth S.opens at p S ≡ tag_of k at p S
        by_kind End c s = refl
        by_kind Data c s = refl
        by_kind Comment c s = refl
        by_kind Start c s = absurd (s refl)
        by_kind Empty c s = refl
        by_kind Close c s = absurd (c refl)
        by_kind Nothing c s = refl

    -- The steps of `tag`: the data is written, F; then the element's last place, or its node, G, which is open then or not.
    module _ (F : Store) (e : F ≡ flushed_store S) where
      pub node-asks : TagPre at p S → (p.kind ≡ Close → ⊥) → NodePre at (p.end - 1) F
      node-asks pre k = subst (NodePre at (p.end - 1)) (sym e)
          (record {
            even = flushed-even S.state (above S) S.rows pre.ready.even;
            deep = pre.ready.deep;
            node = omega (arith, pre.node k, flushed-long S.state (above S) S.rows);
            above = pre.ready.above;
            first = omega (arith, pre.moves, pre.fits);
            last = omega (arith, pre.moves, pre.fits);
          })

      pub close-node : TagPre at p S → p.kind ≡ Close → above F < length F.rows.lasts
      close-node pre k = subst (λ F. above F < length F.rows.lasts) (sym e)
          (omega (arith, pre.closes k, flushed-long S.state (above S) S.rows, (flushed-even S.state (above S) S.rows pre.ready.even).lasts))

      abbrev closing : ℕ → Store → Store
      closing v F =
          record { state = record { depth = F.state.depth - 1; met = F.state.met; held = F.state.held }; opens = F.opens; rows = end_node v (p.end - 1) F.rows }

      pub tag-closed : (v : ℕ) → v ≡ above F → p.kind ≡ Close → closing v F ≡ tag_store at p S
      tag-closed v q k = ap (λ v. closing v F) q ∙ ap (λ F. closing (above F) F) e ∙ tag-close k

      abbrev opening : ℕ → Store → Store
      opening v G =
          record { state = record { depth = G.state.depth + 1; met = G.state.met; held = G.state.held }; opens = set G.opens G.state.depth v; rows = G.rows }

      module _ (G : Store) (g : G ≡ add_node 1 at (p.end - 1) F) where
        pub tag-opened : p.kind ≡ Start → opening F.state.met G ≡ tag_store at p S
        tag-opened s = ap (opening F.state.met) g ∙ ap (λ F. opening F.state.met (add_node 1 at (p.end - 1) F)) e ∙ tag-start s

        pub tag-emptied : (p.kind ≡ Close → ⊥) → (p.kind ≡ Start → ⊥) → G ≡ tag_store at p S
        tag-emptied k s = g ∙ ap (add_node 1 at (p.end - 1)) e ∙ tag-empty k s

  -- ---- one piece
  module _ (at : ℕ) (p : Piece) where
    pub turn_data_lem : p.kind ≡ Data → data_store at p S ≡ turn_store at p S
    unfolding turn_of
    turn_data_lem k = rw k

    pub turn-comment : p.kind ≡ Comment → S ≡ turn_store at p S
    unfolding turn_of
    turn-comment k = rw k

    pub turn-tag : (p.kind ≡ Data → ⊥) → (p.kind ≡ Comment → ⊥) → tag_store at p S ≡ turn_store at p S
    unfolding turn_of
    turn-tag d c = by_kind p.kind d c
      where
        by_kind : (k : Kind) → (k ≡ Data → ⊥) → (k ≡ Comment → ⊥) → tag_store at p S ≡ turn_of k at p S
        by_kind End d c = refl
        by_kind Data d c = absurd (d refl)
        by_kind Comment d c = absurd (c refl)
        by_kind Start d c = refl
        by_kind Empty d c = refl
        by_kind Close d c = refl
        by_kind Nothing d c = refl

  -- Only data has a use for the middle of a piece.
  pub turn-middle : (at : ℕ) (k : Kind) (b : Bool) (m m' e : ℕ) → (k ≡ Data → m ≡ m') →
      turn_store at (record { kind = k; whole = b; middle = m; end = e }) S ≡ turn_store at (record { kind = k; whole = b; middle = m'; end = e }) S
  unfolding turn_of tag_of
  turn-middle at End b m m' e h = refl
  turn-middle at Data b m m' e h = ap (λ i. data_store at (record { kind = Data; whole = b; middle = i; end = e }) S) (h refl)
  turn-middle at Comment b m m' e h = refl
  turn-middle at Start b m m' e h = refl
  turn-middle at Empty b m m' e h = refl
  turn-middle at Close b m m' e h = refl
  turn-middle at Nothing b m m' e h = refl
