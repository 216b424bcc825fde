-- A turn of `take_all`, as `take_up` makes it: what its calls ask, and what it leaves.
--   name-cut, name-is, name-none, name-some, name-ends   what `skip` has gone over is the name at a place
--   named_lately                    the row of the names met lately may change
--   walk-pre, found-leader          the rows hold a tree, and the leaf found is an earlier node with a number
--   turned_data, turned-empty, turned-first, turned_same, turned-new   the five ways to number a node
-- Letters as in specs/Inner/Calls: x the name of v, p the place of the name found, y the leaf found. Assumes nothing.
use Prim.Native.Nat.{ℕ, ◌+◌, ◌*◌, ◌-◌, ◌≤◌, ◌<◌}
use mathlib.Core.Path.{◌≡◌, refl, sym, ap, subst, ◌∙◌}
use mathlib.Core.List.{List, [], ◌∷◌}
use mathlib.Core.Bool.{cond}
use native.Mathlib.Omega.{arith}
use lib.ListN.{length, get_or, set, take, drop, length-drop, length-set}
use lib.Seq.{get_or-set_other}
use Rattle.seq.specs.Lists.{EachBelow}
use Rattle.profile.specs.Bytes.{name_char}
use Rattle.profile.specs.Classes.{within, NAMECHARS}
use Rattle.profile.specs.Spans.{span, name_at}
use Rattle.profile.specs.Tags.{known}
use Rattle.profile.proofs.Laws.Spans.{each-drop, span_le}
use Rattle.profile.proofs.Classes.{span-name_char}
use Rattle.names.specs.Inner.Tree.{find}
use Rattle.names.specs.declared.Numberer.{Numberer}
use Rattle.names.specs.declared.lookup.Tree as lookup
use Rattle.names.specs.Inner.Calls.{name_bit, name_here, Name, NamesDiffer, Twin, WalkPre, Found, Grown, Put, linked, Leader, Index, State, TurnPre, Turned, NamedPre}
use Rattle.names.proofs.Shape.{find_in}
use Rattle.names.proofs.Comparing.{name-long, name-here}
use Rattle.names.proofs.Numbering.{state_data, state-empty, state-same, state-new}
use Rattle.names.proofs.Adding.{index-first, unseen, index-new, put-long, put_rest}

-- ---- the name that is cut out of the text
module _ (t : List ℕ) (o r : ℕ) (b : EachBelow 256 t) (e : r ≡ o + span (within NAMECHARS) (drop o t)) where
  name-size : r - o ≡ span name_char (drop o t)
  name-size = omega (arith, span-name_char (drop o t) (each-drop 256 t o b))

  pub name-cut : take (r - o) (drop o t) ≡ name_at t o
  name-cut = ap (λ (k : ℕ). take k (drop o t)) name-size

  pub name-is : length t ≤ 16777216 → Name (take (r - o) (drop o t))
  name-is l = rw name-cut (name-here t o l)

  pub name-none : r ≡ o → length (name_at t o) ≡ 0
  name-none f = omega (arith, name-size, name-long t o)

  pub name-some : (r ≡ o → ⊥) → length (take (r - o) (drop o t)) ≡ 0 → ⊥
  name-some f h = f (omega (arith, e, h, ap length name-cut, name-size, name-long t o))

  pub name-ends : (r ≡ o → ⊥) → r ≤ length t
  name-ends f = omega (arith, e, f, span_le (within NAMECHARS) (drop o t), length-drop o t)

-- Which nodes were met lately says nothing of what is numbered.
pub named_lately : (x : List ℕ) (b : Numberer) (w : lookup.Tree) (v : ℕ) (l : List ℕ) → NamedPre x b w v → NamedPre x (record b { lately = l }) w v
named_lately x b w v l p = record {
  ready = record { turn = p.ready.turn; n = p.ready.n; bytes = p.ready.bytes };
  marked = p.marked;
  name = p.name;
  here = p.here;
  some = p.some;
}

-- ---- the tree
module _ (t fs : List ℕ) (v c : ℕ) (ts w : List ℕ) (pre : TurnPre t fs v c ts w) (some : c ≡ 0 → ⊥) where
  index-here : Index t fs (length ts) v pre.state.seen ts w
  index-here = subst (λ (n : ℕ). Index t fs n v pre.state.seen ts w) (sym pre.state.long) (pre.state.index some)

  pub walk-pre : (n : ℕ) → n ≡ length ts → WalkPre w n
  walk-pre n e = rw e (record { few = pre.fit.few; long = pre.fit.long; tree = index-here.tree; holds = index-here.holds })

  pub found-leader : (x : List ℕ) (y n : ℕ) → n ≡ length ts → Found x w n y → Leader v ts y
  found-leader x y n e g =
      let f : Found x w (length ts) y = subst (λ (n : ℕ). Found x w n y) e g in
      index-here.leader y (rw (f.leads index-here.tree index-here.holds) (find_in (name_bit x) index-here.tree))

-- ---- the five ways
module _ (t fs : List ℕ) (v c : ℕ) (ts w : List ℕ) (l : v < length ts) where
  pub turned_data : get_or ts v 0 ≡ 0 → Turned t fs v c ts w ts w c
  turned_data e = record { moves = λ ms w₀ s. state_data t fs ms w₀ v ts w c s l e }

  module _ (marked : get_or ts v 0 ≡ 0 → ⊥) (x : List ℕ) (ex : x ≡ name_here t fs v) where
    size : length (name_here t fs v) ≡ length x
    size = ap length (sym ex)

    pub turned-empty : length x ≡ 0 → Turned t fs v c ts w (set ts v 0) w c
    turned-empty e = record { moves = λ ms w₀ s. state-empty t fs ms w₀ v ts w c s l marked (size ∙ e) }

    module _ (some : length x ≡ 0 → ⊥) where
      long : 0 < length (name_here t fs v)
      long = omega (arith, size)

      pub turned-first : c ≡ 0 → 0 < length w → Turned t fs v c ts w (set ts v 1) (set w 0 (2 * v)) 1
      turned-first e lw = record { moves = moved }
        where
          none : (l : List (List ℕ)) → length l ≡ 0 → l ≡ []
          none [] h = refl
          none (x ∷ l) h = absurd (omega (arith, h))

          moved : (ms w₀ : List ℕ) → State t fs ms w₀ v ts w c → State t fs ms w₀ (v + 1) (set ts v 1) (set w 0 (2 * v)) 1
          moved ms w₀ s =
              state-new t fs ms w₀ v ts w c s l marked long (unfold known in ap (λ (n : List (List ℕ)). known n (name_here t fs v)) empty) (set w 0 (2 * v)) 1
              (omega arith) (length-set w 0 (2 * v)) (λ i h. get_or-set_other w 0 i (2 * v) 0 (λ g. absurd (omega (arith, g, s.long))))
              (index-first t fs (length ms) v s.seen ts w empty (omega (arith, s.long)) l lw)
            where
              empty : s.seen ≡ []
              empty = none s.seen (sym s.counted ∙ e)

      pub turned_same : (r : ℕ) → Twin x t fs ts v r → Turned t fs v c ts w (set ts v r) w c
      turned_same r T = record {
        moves = λ ms w₀ s. rw T.number (state-same t fs ms w₀ v ts w c s l marked long T.node T.before (λ e. T.some (T.number ∙ e)) (sym ex ∙ T.name));
      }

      module _ (old : c ≡ 0 → ⊥) (y p : ℕ) (ep : p ≡ get_or fs y 0 + 1) (n : ℕ) (en : n ≡ length ts) (found-at : Found x w n y) where
        f : Found x w (length ts) y
        f = subst (λ (n : ℕ). Found x w n y) en found-at

        module _ (ms w₀ : List ℕ) (s : State t fs ms w₀ v ts w c) where
          abbrev index : Index t fs (length ms) v s.seen ts w
          index = s.index old

          found : y ≡ find (name_bit (name_here t fs v)) index.tree
          found =
              f.leads index.tree (rw s.long index.holds) ∙ ap (λ (z : List ℕ). find (name_bit z) index.tree) ex

        module _ (d : ℕ) (diff : NamesDiffer x (name_at t p) d) (w' : List ℕ) (put-at : Put x w n v d w') (fit : 3 * length ts ≤ length w) where
          put : Put x w (length ts) v d w'
          put = subst (λ (n : ℕ). Put x w n v d w') en put-at

          differ : NamesDiffer (name_here t fs v) (name_here t fs y) d
          differ = rw (sym ex, sym ep) diff

          pub turned-new : Turned t fs v c ts w (set ts v (c + 1)) w' (c + 1)
          turned-new = record { moves = moved }
            where
              moved : (ms w₀ : List ℕ) → State t fs ms w₀ v ts w c → State t fs ms w₀ (v + 1) (set ts v (c + 1)) w' (c + 1)
              moved ms w₀ s =
                  state-new t fs ms w₀ v ts w c s l marked long (unseen t fs (length ms) v s.seen ts w ix d y differ (found ms w₀ s)) w' (c + 1) refl
                  long-rows rest-rows
                  (index-new t fs (length ms) v s.seen ts w ix d y differ (found ms w₀ s) here.place grown (omega (arith, s.few, old)) (omega (arith, s.long)) (omega (arith, s.long)) (c + 1) (omega (arith, s.counted)) l w' rows)
                where
                  ix : Index t fs (length ms) v s.seen ts w
                  ix = s.index old

                  here : Put x w (length ms) v d w'
                  here = subst (λ (n : ℕ). Put x w n v d w') s.long put

                  grown : Grown (length ms) (name_bit (name_here t fs v)) d v 0 ix.tree here.place
                  grown = subst (λ (z : List ℕ). Grown (length ms) (name_bit z) d v 0 ix.tree here.place) ex (here.grown ix.tree ix.holds)

                  rows : w' ≡ cond (name_bit (name_here t fs v) d) (linked (length ms) v here.place d (length ms + v) v w) (linked (length ms) v here.place d v (length ms + v) w)
                  rows =
                      here.rows
                      ∙ ap (λ (z : List ℕ). cond (name_bit z d) (linked (length ms) v here.place d (length ms + v) v w) (linked (length ms) v here.place d v (length ms + v) w)) ex

                  long-rows : length w' ≡ length w
                  long-rows = put-long (length ms) v here.place d w (omega (arith, s.long)) here.link (name_bit (name_here t fs v) d) w' rows

                  rest-rows : (i : ℕ) → 3 * length ms ≤ i → get_or w' i 0 ≡ get_or w i 0
                  rest-rows = put_rest (length ms) v here.place d w (omega (arith, s.long)) here.link (name_bit (name_here t fs v) d) w' rows
