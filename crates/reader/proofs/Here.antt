-- Where the second pass stands between two pieces of a text that is accepted: the invariant of its loop.
--   Here T R at S            == at the place `at` the store S is the memory of `profile`'s reader, which goes on to the tree of the text
--   here-start, here_end     at the beginning; at the end the rows are the tree
--   here-pre, here-step      what a turn needs, and that it comes to stand behind the piece
--   here-moves, here-long    a piece is not empty and ends in the text; the rows keep their lengths
--   turn-…                   the same of the piece as it is skimmed: it is whole, so the two agree
-- Letters as in specs/Inner; R the rows at the beginning, n how long they are. Assumes nothing.
use Prim.Native.Nat.{ℕ, suc, ◌+◌, ◌-◌, ◌≤◌, ◌<◌}
use mathlib.Core.Path.{◌≡◌, refl, sym, ap, ap₂, subst, ◌∙◌}
use mathlib.Core.Logic.{⊎_elim, inl, inr}
use mathlib.Core.List.{List, [], ◌∷◌, ◌++◌, map}
use mathlib.Core.Bool.{Bool, true, false, cond, false≢true}
use mathlib.Core.Option.{some}
use native.Mathlib.Omega.{arith}
use native.Mathlib.Numerals.{add-one}
use lib.Dec.{eqb}
use lib.ListN.{length, drop, length-append, length-drop, length-set}
use lib.Seq.{drop-drop}
use borrow.Author.Tests.{eq-eqb, ne_eqb, eqb-true, eqb-false}
use Rattle.std.specs.Prelude.{Option, None, Some}
use Rattle.profile.specs.Spans.{name_at}
use Rattle.profile.specs.Machine.{Place, before, b0, between, accepting}
use Rattle.profile.specs.Tree.{Node}
use Rattle.profile.specs.Reader.{Memory, Reading, flushed, from_mark, fresh, read, tree_of}
use Rattle.profile.specs.Reader as reader
use Rattle.profile.specs.Check.{whole, broken, check, reply_to}
use Rattle.profile.specs.Pieces.{END, DATA, COMMENT, START, EMPTY, CLOSE, piece_of}
use Rattle.profile.specs.Pieces as pieces
use Rattle.profile.specs.Turns as turns
use Rattle.profile.specs.Notes.{noted}
use Rattle.profile.proofs.Check.{tally_of, keys_length}
use Rattle.profile.proofs.Turns.{close-kind, tag-kind}
use Rattle.profile.proofs.PieceLaws.{piece_cases, piece_le}
use Rattle.profile.proofs.Went.{Stands, Went, went, stands-start, stands_le, flushed-length, broken-whole}
use Rattle.markup.specs.declared.Piece.{Piece}
use Rattle.markup.specs.declared.Kind.TheVariants.{End, Data, Comment, Start, Empty, Close}
use Rattle.markup.specs.Pieces.{number, kind_of, piece_from, piece_at}
use Rattle.markup.proofs.Numbers.{of_number}
use Rattle.skim.specs.Skim.{skim_at}
use Rattle.skim.proofs.Laws.{Agrees, skim_whole}
use Rattle.reader.specs.declared.build.Held.{Held}
use Rattle.names.specs.Names.{names}
use Rattle.reader.specs.Inner.{Rows, rows, State, Store, path_in, blank, first_in, last_in, flushed_met, longer, data_state, tag_store, turn_store, Room, TurnPre, mark_of, mark, BuildPre, Built}
use Rattle.reader.proofs.Calls.{tag-close, tag-start, tag-empty, turn_data_lem, turn-comment, turn-tag, turn-middle}
use Rattle.reader.proofs.Rows.{Sized, written-nil, written-sized, written_all}
use Rattle.reader.proofs.Depth.{Follows, follows_start, follows_end, follows_data, follows_room, follows_tag, follows_some, follows_close, follows_rest, few}
use Rattle.reader.proofs.Names.{IsTag, tag-named, name-behind, names-map}
use Rattle.reader.proofs.Mirror.{top_below, top_le, noted-close, noted-start, noted-empty, named-nil, named-is, Mirror, thin_nodes, mirror-met, met_le, mirror-opened, mirror-emptied, mirror-closed, mirror-comment, mirror_data}

-- ---- the end of a text
end-only : (t : List ℕ) → (piece_of t).kind ≡ END → t ≡ []
end-only =
    piece_cases (λ t q. q.kind ≡ END → t ≡ []) (λ e. refl) (λ x t a e. absurd (other e)) (λ t e. absurd (other e)) (λ t e. absurd (other (sym (close-kind t) ∙ e)))
    (λ x t h e. absurd (⊎_elim (λ k. other (sym k ∙ e)) (λ k. other (sym k ∙ e)) (tag-kind (x ∷ t)))) (λ t e. absurd (other e))
  where
    other : {k : ℕ} → suc k ≡ END → ⊥
    other e = omega arith

-- A whole piece is one of these, or the tag of an element's beginning.
tag-only : (t : List ℕ) → (piece_of t).whole ≡ true → ((piece_of t).kind ≡ END → ⊥) → ((piece_of t).kind ≡ DATA → ⊥) → ((piece_of t).kind ≡ COMMENT → ⊥) →
    ((piece_of t).kind ≡ CLOSE → ⊥) → IsTag (piece_of t)
tag-only =
    piece_cases (λ t q. q.whole ≡ true → (q.kind ≡ END → ⊥) → (q.kind ≡ DATA → ⊥) → (q.kind ≡ COMMENT → ⊥) → (q.kind ≡ CLOSE → ⊥) → IsTag q)
    (λ w e d c k. absurd (e refl)) (λ x t a w e d c k. absurd (d refl)) (λ t w e d c k. absurd (c refl)) (λ t w e d c k. absurd (k (close-kind t)))
    (λ x t h w e d c k. tag-kind (x ∷ t)) (λ t w e d c k. absurd (false≢true w))

-- ---- kinds and their numbers
module _ (n : ℕ) where
  to-end : n ≡ END → kind_of n ≡ End
  unfolding kind_of
  to-end e = ap kind_of e

  to-data : n ≡ DATA → kind_of n ≡ Data
  unfolding kind_of
  to-data e = ap kind_of e

  to-comment : n ≡ COMMENT → kind_of n ≡ Comment
  unfolding kind_of
  to-comment e = ap kind_of e

  to-start : n ≡ START → kind_of n ≡ Start
  unfolding kind_of
  to-start e = ap kind_of e

  to-empty : n ≡ EMPTY → kind_of n ≡ Empty
  unfolding kind_of
  to-empty e = ap kind_of e

  to-close : n ≡ CLOSE → kind_of n ≡ Close
  unfolding kind_of
  to-close e = ap kind_of e

  from-end : kind_of n ≡ End → n ≡ END
  unfolding number
  from-end e = of_number n End (λ z. cc) e

  from-data : kind_of n ≡ Data → n ≡ DATA
  unfolding number
  from-data e = of_number n Data (λ z. cc) e

  from-comment : kind_of n ≡ Comment → n ≡ COMMENT
  unfolding number
  from-comment e = of_number n Comment (λ z. cc) e

  from-start : kind_of n ≡ Start → n ≡ START
  unfolding number
  from-start e = of_number n Start (λ z. cc) e

  from-close : kind_of n ≡ Close → n ≡ CLOSE
  unfolding number
  from-close e = of_number n Close (λ z. cc) e

-- ---- the data of a piece
module _ (at : ℕ) (p : Piece) (s : State) (k : ℕ) where
  data_depth : (data_state at p s).depth ≡ s.depth
  unfolding data_state
  data_depth = by_test (eqb s.depth 0)
    where
      by_test : (b : Bool) → (cond b s (record { depth = s.depth; met = s.met; held = Some (longer at p s.held) })).depth ≡ s.depth
      by_test true = refl
      by_test false = refl

  data_first : first_in s.held ≤ k → at ≤ k → first_in (data_state at p s).held ≤ k
  unfolding data_state
  data_first f a = by_test (eqb s.depth 0) s.held f
    where
      by_test : (b : Bool) (d : Option Held) → first_in d ≤ k → first_in (cond {A = State} b (record { depth = s.depth; met = s.met; held = d }) (record { depth = s.depth; met = s.met; held = Some (longer at p d) })).held ≤ k
      by_test true d f = f
      by_test false None f = a
      by_test false (Some h) f = f

  data_last : last_in s.held ≤ k → p.end ≤ k → last_in (data_state at p s).held ≤ k
  unfolding data_state
  data_last l e = by_test (eqb s.depth 0) s.held l
    where
      by_test : (b : Bool) (d : Option Held) → last_in d ≤ k → last_in (cond {A = State} b (record { depth = s.depth; met = s.met; held = d }) (record { depth = s.depth; met = s.met; held = Some (longer at p d) })).held ≤ k
      by_test true d l = l
      by_test false None l = omega arith
      by_test false (Some h) l = omega arith

-- ---- the loop
module _ (T : List ℕ) (R : Rows) where
  pub record Here (at : ℕ) (S : Store) : Type 0 where
    pub place : Place
    pub memory : Memory
    pub stands : Stands 64 65536 (length R.parents) place memory at (drop at T)
    pub tree : tree_of T ≡ (read at (some (between b0 place)) memory (drop at T)).memory.nodes
    pub mirror : Mirror T R memory S
    pub depth : Follows 64 65536 (length R.parents) S.state.depth at (drop at T)
    pub within : at ≤ length T
    pub first : first_in S.state.held ≤ length T
    pub last : last_in S.state.held ≤ length T
    pub opens : length S.opens ≡ 64
    pub deep : S.state.depth ≤ 64

module _ (T : List ℕ) (R : Rows) (pre : BuildPre T R) where
  abbrev n : ℕ
  n = length R.parents

  sized : Sized n R
  sized = record { parents = refl; marks = pre.marks; firsts = pre.firsts; lasts = pre.lasts }

  few-nodes : n ≤ 65536
  few-nodes = few 64 65536 n T 0 (between b0 before) (turns.tally 0 0 false) (omega arith) (unfold reply_to in pre.nodes)

  here-blank : (O : List ℕ) → length O ≡ 64 → Here T R 0 (record { state = blank 0 0; opens = O; rows = R })
  here-blank O l =
      record {
        place = before;
        memory = fresh;
        stands = stands-start 64 65536 n T pre.nodes;
        tree = unfold tree_of in refl;
        mirror =
            record {
              met = refl;
              rows = sym (written-nil R);
              path = unfold path_in in refl;
              solid = 0;
              held = refl;
              outside = λ e. refl;
              below = λ e h. absurd (none_below e h);
              names = named-nil T;
            };
        depth = follows_start 64 65536 n T (unfold reply_to in pre.nodes);
        within = omega arith;
        first = omega arith;
        last = omega arith;
        opens = l;
        deep = omega arith;
      }
    where
      none_below : (e : ℕ) → e < 0 → ⊥
      none_below e h = omega arith

  pub here-start : (s : State) (O : List ℕ) → s ≡ blank 0 0 → length O ≡ 64 → Here T R 0 (record { state = s; opens = O; rows = R })
  here-start s O e l = subst (λ s. Here T R 0 (record { state = s; opens = O; rows = R })) (sym e) (here-blank O l)

  module _ (at : ℕ) (S : Store) (w : Here T R at S) where
    abbrev t : List ℕ
    t = drop at T

    abbrev q : pieces.Piece
    q = piece_of t

    room-now : length (flushed w.memory) ≤ n
    room-now = stands_le 64 65536 n w.place w.memory at t w.stands

    nodes_le : length w.memory.nodes ≤ n
    nodes_le = omega (arith, room-now, flushed-length w.memory)

    pub here-long : Sized (length R.parents) S.rows
    here-long = subst (Sized n) (sym w.mirror.rows) (written-sized n R sized w.memory.nodes nodes_le)

    -- ---- the end
    module _ (k : q.kind ≡ END) where
      ended : t ≡ []
      ended = end-only t k

      tree_is : tree_of T ≡ w.memory.nodes
      tree_is = w.tree ∙ ap (λ t. (read at (some (between b0 w.place)) w.memory t).memory.nodes) ended ∙ unfold read in refl

      -- No element is open, so no data is held.
      all-met : length w.memory.nodes ≡ n
      all-met =
          omega (
            arith,
            by_end (accepting (some (between b0 w.place))) (unfold check in (ap (check 64 65536 at (between b0 w.place) (tally_of w.memory)) (sym ended) ∙ w.stands.checking)),
            keys_length (flushed w.memory),
            ap length (thin_nodes T n R sized w.memory S w.mirror (w.mirror.outside none_open)),
          )
        where
          none_open : S.state.depth ≡ 0
          none_open = follows_end 64 65536 n S.state.depth at (subst (Follows 64 65536 n S.state.depth at) ended w.depth)

          whole_is : (a b : ℕ) → whole a ≡ whole b → a ≡ b
          whole_is a b e = cc

          by_end : (b : Bool) → cond b (whole (tally_of w.memory).met) (broken at) ≡ whole n → (tally_of w.memory).met ≡ n
          by_end true e = whole_is (tally_of w.memory).met n e
          by_end false e = absurd (broken-whole at n e)

      tree-rows : S.rows ≡ rows (map (λ a. a.parent) (tree_of T)) (map mark (tree_of T)) (map (λ a. a.first) (tree_of T)) (map (λ a. a.last) (tree_of T))
      tree-rows =
          w.mirror.rows ∙ written_all n R sized w.memory.nodes all-met ∙
          ap (λ ns. rows (map (λ a. a.parent) ns) (map mark ns) (map (λ a. a.first) ns) (map (λ a. a.last) ns)) (sym tree_is)

      tree-names : map (λ a. a.name) (tree_of T) ≡ names T (map mark (tree_of T)) (map (λ a. a.first) (tree_of T))
      tree-names =
          ap (map (λ (a : Node). a.name)) tree_is ∙ named-is T w.memory.nodes w.mirror.names ∙ sym (names-map T w.memory.nodes) ∙
          ap (λ ns. names T (map mark ns) (map (λ a. a.first) ns)) (sym tree_is)

      pub here_end : Built T S.rows
      here_end =
          record {
            parents = ap (λ (R : Rows). R.parents) tree-rows;
            marks = ap (λ (R : Rows). R.marks) tree-rows;
            firsts = ap (λ (R : Rows). R.firsts) tree-rows;
            lasts = ap (λ (R : Rows). R.lasts) tree-rows;
            names = tree-names ∙ sym (ap (λ (R : Rows). names T R.marks R.firsts) tree-rows);
          }

    -- ---- behind the next piece
    module _ (more : q.kind ≡ END → ⊥) where
      gone : Went 64 65536 n w.place w.memory at t q
      gone = went 64 65536 n w.place w.memory at t w.stands more

      abbrev m' : Memory
      m' = noted at t q w.memory

      pub here-moves : 1 ≤ q.size
      here-moves = gone.moves

      pub here-within : at + q.size ≤ length T
      here-within = omega (arith, piece_le t, length-drop at T, w.within)

      -- A tag's node fits the rows.
      tag_fits : IsTag q → suc (length (flushed w.memory)) ≤ n
      tag_fits k = omega (arith, ⊎_elim opening emptying k, stands_le 64 65536 n gone.place m' (at + q.size) (drop q.size t) gone.stands, flushed-length m')
        where
          one_more : (a : Node) → length (flushed w.memory ++ (a ∷ [])) ≡ suc (length (flushed w.memory))
          one_more a = omega (arith, length-append (flushed w.memory) (a ∷ []))

          opening : q.kind ≡ START → length m'.nodes ≡ suc (length (flushed w.memory))
          opening k =
              ap (λ (m : Memory). length m.nodes) (noted-start at t q w.memory k) ∙
              one_more (from_mark (turns.name_of t q) (at + q.size - 1) (reader.marked at w.memory))

          emptying : q.kind ≡ EMPTY → length m'.nodes ≡ suc (length (flushed w.memory))
          emptying k =
              ap (λ (m : Memory). length m.nodes) (noted-empty at t q w.memory k) ∙
              one_more (from_mark (turns.name_of t q) (at + q.size - 1) (reader.marked at w.memory))

      start-room : q.kind ≡ START → S.state.depth < length S.opens
      start-room k = omega (arith, follows_room 64 65536 n S.state.depth at t w.depth (inl k), w.opens)

      close-some : q.kind ≡ CLOSE → 1 ≤ S.state.depth
      close-some k = follows_some 64 65536 n S.state.depth at t w.depth k

      met-fits : flushed_met S.state ≤ n
      met-fits = omega (arith, mirror-met T n R sized w.memory S w.mirror, room-now)

      met-before : S.state.met ≤ flushed_met S.state
      met-before = met_le T n R sized w.memory S w.mirror

      ready : Room S
      ready =
          record {
            even =
                record {
                  few = omega (arith, few-nodes, here-long.parents);
                  marks = here-long.marks ∙ sym here-long.parents;
                  firsts = here-long.firsts ∙ sym here-long.parents;
                  lasts = here-long.lasts ∙ sym here-long.parents;
                };
            deep = omega (arith, w.deep, w.opens);
            room = omega (arith, met-fits, here-long.parents);
            above = omega (arith, top_le S.opens S.state.depth S.state.met w.mirror.below, met-before, met-fits, few-nodes);
            first = omega (arith, w.first, pre.short);
            last = omega (arith, w.last, pre.short);
          }

      -- whatever its middle
      pub here-pre : (m : ℕ) → TurnPre at (record { kind = kind_of q.kind; whole = q.whole; middle = m; end = at + q.size }) S
      here-pre m =
          record {
            moves = omega (arith, here-moves);
            tag = λ d c.
                record {
                  ready = ready;
                  moves = omega (arith, here-moves);
                  fits = omega (arith, here-within, pre.short);
                  inside = λ k. close-some (from-close _ k);
                  closes = λ k.
                      omega (arith, top_below S.opens S.state.depth S.state.met (close-some (from-close _ k)) w.mirror.below, met-before, met-fits, here-long.parents);
                  node = λ k. omega (arith, tag_fits (tag-only t gone.whole-piece more (λ e. d (to-data _ e)) (λ e. c (to-comment _ e)) (λ e. k (to-close _ e))), mirror-met T n R sized w.memory S w.mirror, here-long.parents);
                  opens = λ k. start-room (from-start _ k);
                };
          }

      -- ---- the turn
      record Turned (S' : Store) : Type 0 where
        mirror : Mirror T R m' S'
        depth : Follows 64 65536 n S'.state.depth (at + q.size) (drop q.size t)
        first : first_in S'.state.held ≤ length T
        last : last_in S'.state.held ≤ length T
        opens : length S'.opens ≡ 64
        deep : S'.state.depth ≤ 64

      abbrev p : Piece
      p = piece_from at q

      as_noted : (m : Memory) (S' : Store) → m' ≡ m → Mirror T R m S' → Mirror T R m' S'
      as_noted m S' e x = subst (λ m. Mirror T R m S') (sym e) x

      turned_data : q.kind ≡ DATA → Turned (turn_store at p S)
      turned_data k =
          subst Turned (turn_data_lem S at p (to-data _ k))
          (record {
            mirror = mirror_data T n R sized w.memory S w.mirror at t q k;
            depth = subst (λ d. Follows 64 65536 n d (at + q.size) (drop q.size t)) (sym (data_depth at p S.state 0)) (follows_data 64 65536 n S.state.depth at t w.depth k);
            first = data_first at p S.state (length T) w.first w.within;
            last = data_last at p S.state (length T) w.last here-within;
            opens = w.opens;
            deep = omega (arith, data_depth at p S.state 0, w.deep);
          })

      module _ (k : IsTag q) where
        name-is : turns.name_of t q ≡ name_at T (at + 1)
        name-is = (tag-named t k).name ∙ name-behind T at

        name-mark : mark_of (turns.name_of t q) ≡ 1
        name-mark = (tag-named t k).marked

      turned-close : q.kind ≡ CLOSE → Turned (tag_store at p S)
      turned-close k =
          subst Turned (tag-close S at p (to-close _ k))
          (record {
            mirror =
                as_noted _ _ (noted-close at t q w.memory k)
                (mirror-closed T n R sized w.memory S w.mirror room-now at (at + q.size - 1) (close-some k));
            depth = follows_close 64 65536 n S.state.depth at t w.depth k;
            first = omega arith;
            last = omega arith;
            opens = w.opens;
            deep = omega (arith, w.deep);
          })

      turned-start : q.kind ≡ START → Turned (tag_store at p S)
      turned-start k =
          subst Turned (tag-start S at p (to-start _ k))
          (record {
            mirror =
                as_noted _ _ (noted-start at t q w.memory k)
                (mirror-opened T n R sized w.memory S w.mirror room-now at (at + q.size - 1) (turns.name_of t q) (name-is (inl k)) (name-mark (inl k))
                (tag_fits (inl k)) (start-room k));
            depth =
                subst (λ d. Follows 64 65536 n d (at + q.size) (drop q.size t))
                (ap (λ b. cond b (suc S.state.depth) S.state.depth) (eq-eqb q.kind START k) ∙ sym (add-one S.state.depth))
                (follows_tag 64 65536 n S.state.depth at t w.depth (inl k));
            first = omega arith;
            last = omega arith;
            opens = length-set S.opens S.state.depth (flushed_met S.state) ∙ w.opens;
            deep = omega (arith, follows_room 64 65536 n S.state.depth at t w.depth (inl k));
          })

      turned-empty : q.kind ≡ EMPTY → Turned (tag_store at p S)
      turned-empty k =
          subst Turned (let f = to-empty _ k in tag-empty S at p (λ e. cc) (λ e. cc))
          (record {
            mirror =
                as_noted _ _ (noted-empty at t q w.memory k)
                (mirror-emptied T n R sized w.memory S w.mirror room-now at (at + q.size - 1) (turns.name_of t q) (name-is (inr k)) (name-mark (inr k))
                (tag_fits (inr k)));
            depth =
                subst (λ d. Follows 64 65536 n d (at + q.size) (drop q.size t))
                (ap (λ b. cond b (suc S.state.depth) S.state.depth) (ne_eqb q.kind START not_start))
                (follows_tag 64 65536 n S.state.depth at t w.depth (inr k));
            first = omega arith;
            last = omega arith;
            opens = w.opens;
            deep = w.deep;
          })
        where
          not_start : q.kind ≡ START → ⊥
          not_start e = omega arith

      turned-comment : q.kind ≡ COMMENT → Turned (turn_store at p S)
      turned-comment k =
          subst Turned (turn-comment S at p (to-comment _ k))
          (record {
            mirror = mirror-comment T n R sized w.memory S w.mirror at t q k;
            depth = follows_rest 64 65536 n S.state.depth at t w.depth more (λ e. omega arith) (λ e. omega arith) (λ e. omega arith) (λ e. omega arith);
            first = w.first;
            last = w.last;
            opens = w.opens;
            deep = w.deep;
          })

      turned-tag : (q.kind ≡ DATA → ⊥) → (q.kind ≡ COMMENT → ⊥) → Turned (tag_store at p S)
      turned-tag d c = by_kind (eqb q.kind CLOSE) refl
        where
          by_kind : (b : Bool) → eqb q.kind CLOSE ≡ b → Turned (tag_store at p S)
          by_kind true e = turned-close (eqb-true q.kind CLOSE e)
          by_kind false e = ⊎_elim turned-start turned-empty (tag-only t gone.whole-piece more d c (eqb-false q.kind CLOSE e))

      turned : Turned (turn_store at p S)
      turned = by_kind (eqb q.kind DATA) (eqb q.kind COMMENT) refl refl
        where
          by_kind : (a b : Bool) → eqb q.kind DATA ≡ a → eqb q.kind COMMENT ≡ b → Turned (turn_store at p S)
          by_kind true b ea eb = turned_data (eqb-true q.kind DATA ea)
          by_kind false true ea eb = turned-comment (eqb-true q.kind COMMENT eb)
          by_kind false false ea eb =
              subst Turned (turn-tag S at p (λ e. eqb-false q.kind DATA ea (from-data _ e)) (λ e. eqb-false q.kind COMMENT eb (from-comment _ e)))
              (turned-tag (eqb-false q.kind DATA ea) (eqb-false q.kind COMMENT eb))

      pub here-step : Here T R (at + q.size) (turn_store at p S)
      here-step =
          record {
            place = gone.place;
            memory = m';
            stands = subst (Stands 64 65536 n gone.place m' (at + q.size)) (drop-drop q.size at T) gone.stands;
            tree =
                w.tree ∙ ap (λ (r : Reading). r.memory.nodes) gone.reading ∙
                ap (λ t. (read (at + q.size) (some (between b0 gone.place)) m' t).memory.nodes) (drop-drop q.size at T);
            mirror = turned.mirror;
            depth = subst (Follows 64 65536 n (turn_store at p S).state.depth (at + q.size)) (drop-drop q.size at T) turned.depth;
            within = here-within;
            first = turned.first;
            last = turned.last;
            opens = turned.opens;
            deep = turned.deep;
          }

    -- ---- the same of the piece as the code has it
    here-whole : q.whole ≡ true
    here-whole = by_kind (eqb q.kind END) refl
      where
        by_kind : (b : Bool) → eqb q.kind END ≡ b → q.whole ≡ true
        by_kind true e = ap (λ t. (piece_of t).whole) (end-only t (eqb-true q.kind END e)) ∙ unfold piece_of in refl
        by_kind false e = (gone (eqb-false q.kind END e)).whole-piece

    module _ (p : Piece) (e : p ≡ skim_at T at) where
      agrees : Agrees p (piece_from at q)
      agrees = subst (λ p. Agrees p (piece_from at q)) (sym e) (unfold piece_at in skim_whole T at here-whole)

      kind-is : p.kind ≡ kind_of q.kind
      kind-is = agrees.kind

      end_is : p.end ≡ at + q.size
      end_is = agrees.end

      -- It is the piece of the profile but for its middle.
      piece_is : p ≡ record { kind = kind_of q.kind; whole = q.whole; middle = p.middle; end = at + q.size }
      piece_is = ap₂ (λ k b. record { kind = k; whole = b; middle = p.middle; end = p.end }) kind-is agrees.whole ∙ ap (λ i. record { kind = kind_of q.kind; whole = q.whole; middle = p.middle; end = i }) end_is

      turn_is : turn_store at p S ≡ turn_store at (piece_from at q) S
      turn_is = ap (λ p. turn_store at p S) piece_is ∙ turn-middle S at (kind_of q.kind) q.whole p.middle (at + q.middle) (at + q.size) agrees.middle

      pub turn-ends : p.kind ≡ End → Built T S.rows
      turn-ends k = here_end (from-end _ (sym kind-is ∙ k))

      module _ (more : p.kind ≡ End → ⊥) where
        goes_on_lem : q.kind ≡ END → ⊥
        goes_on_lem k = more (kind-is ∙ to-end _ k)

        pub turn-pre : TurnPre at p S
        turn-pre = subst (λ p. TurnPre at p S) (sym piece_is) (here-pre goes_on_lem p.middle)

        pub turn-less : length T - p.end < length T - at
        turn-less = omega (arith, end_is, here-moves goes_on_lem, here-within goes_on_lem)

        pub turn-again : (S' : Store) → S' ≡ turn_store at p S → Here T R p.end S'
        turn-again S' f =
            subst (λ i. Here T R i S') (sym end_is) (subst (Here T R (at + q.size)) (sym (f ∙ turn_is)) (here-step goes_on_lem))
