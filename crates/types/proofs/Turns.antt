-- Taking up one node: its number is that of the last child taken up of the nodes of its parent's type, if that one has its tag, else its own; and its kin are found
-- through that one, as it stands between them and the node.
--   lone                       where that child has another tag, or there is none, no node of v's type was taken up: v is its number
--   number-found               else that child is of v's type
--   kin-met                    a kin of v that was taken up has one parent with that child
--   taking_step                a turn keeps what the loop knows (Taking)
-- Letters: p parents, t tags, n nodes, m elements; at, where the order begins; last, where the row of last children begins; w rows, w₀ as they were lent, w' after the
-- turn; i a places, o a the node at place a, v the node at hand, c its cell, b the child noted there, N the number of v's type. Assumes nothing.
use Prim.Native.Nat.{ℕ, ◌+◌, ◌/◌, ◌%◌, ◌≤◌, ◌<◌}
use mathlib.Core.Path.{◌≡◌, sym, ap, ◌∙◌, subst}
use mathlib.Core.Logic.{inl, inr, ⊎_elim}
use mathlib.Core.List.{List}
use mathlib.Core.Bool.{true}
use native.Mathlib.Nat.{eq-or-lt_of_le}
use native.Mathlib.Omega.{arith}
use lib.ListN.{length, get_or, set, length-set}
use lib.Seq.{get_or-set_same, get_or-set_other}
use Rattle.tree.specs.Tree.{parent, level}
use Rattle.tree.specs.Plain.{Down}
use Rattle.tree.proofs.Laws.Under.{preorder-down}
use Rattle.tree.proofs.Laws.Children.{parent-less}
use Rattle.answers.specs.Classes.{same_type}
use Rattle.answers.proofs.Laws.Types.{same_type_tag, same_type_level, twin-repeats}
use Rattle.types.specs.Inner.Order.{tag, Element, entry, Stands, Before}
use Rattle.types.specs.Inner.Numbers.{type_number, number_in, flag_in, cell_of, taken_before, noted, TakenUp, first, further, twins, NumberPre}
use Rattle.types.proofs.Kin.{Kin, twin-of, parent_between}
use Rattle.types.proofs.Numbers.{number_same, number-lowest, number_le, number-node, number_type, number_self, number-element, group, group-same, group_type, group-level}
use Rattle.types.proofs.Nearby.{before-less, order-earlier, order-tag}
use Rattle.types.proofs.Taking.{Late, Taking, Turn, Taken, place-node, turn_at, taken_step}

module _ (p t : List ℕ) (m at last : ℕ) (w₀ : List ℕ) (pre : NumberPre p t m at last w₀) where
  abbrev o : ℕ → ℕ
  o = entry w₀ at

  down : Down p (length p)
  down = preorder-down p (length p) pre.tree.preorder

  node : (a : ℕ) → a < m → o a < length p
  node = place-node p t m at last w₀ pre

  module _ (w : List ℕ) (i : ℕ) (s : Taking p t m at last w₀ w i) (h : i < m) (v : ℕ) (turn : Turn p t last o w i v) where
    abbrev N : ℕ
    N = type_number p t v

    abbrev c : ℕ
    c = cell_of p last v w

    abbrev b : ℕ
    b = taken_before p last v w

    abbrev w₁ : List ℕ
    w₁ = noted p last v w

    -- ---- what was taken up before
    some : 0 < v
    some = turn.element.not_root

    here : v < length p
    here = turn.node

    level-of : (a : ℕ) → a < i → group p t (o a) ≡ group p t v → level p (o a) ≡ level p v
    level-of a l e = group-level p t down (o a) v (pre.order.elements a (omega arith)).not_root some (node a (omega arith)) here e

    -- Between a node of v's group and tag and v itself, the children of the group have v's tag.
    late_tag : (a : ℕ) → a < i → group p t (o a) ≡ group p t v → tag t (o a) ≡ tag t v → Late p t o i (group p t v) b → tag t b ≡ tag t v
    late_tag a l e f r = omega (arith, ap (tag t) r.is, ap (tag t) turn.here, f, low, high)
      where
        level_late : level p (o r.place) ≡ level p v
        level_late = level-of r.place r.taken r.child

        low : tag t (o a) ≤ tag t (o r.place)
        low = order-tag p t m at w₀ pre.order a r.place (r.latest a l e) (omega (arith, r.taken)) (level-of a l e ∙ sym level_late)

        high : tag t (o r.place) ≤ tag t (o i)
        high = order-tag p t m at w₀ pre.order r.place i (omega (arith, r.taken)) h (level_late ∙ ap (level p) turn.here)

    met : (a : ℕ) → a < i → group p t (o a) ≡ group p t v → tag t (o a) ≡ tag t v → (b ≡ 0 → ⊥) × (tag t b ≡ tag t v)
    met a l e f = ⊎_elim (λ r. absurd (r.none a l e)) (λ r. (found r, late_tag a l e f r)) turn.before
      where
        found : Late p t o i (group p t v) b → b ≡ 0 → ⊥
        found r z = omega (arith, r.is, (pre.order.elements r.place (omega (arith, r.taken))).not_root)

    first-element : Element t N
    first-element = number-element p t down pre.tagged v turn.element

    -- The lowest node of the type was taken up, if it is another one.
    first_taken : N < v → Stands i at w₀ N
    first_taken z =
        order-earlier p t m at w₀ pre.order i h N first-element
        (subst (Before p t N) turn.here (inr (same_type_level p t N v (number_type p t v here), inr (same_type_tag p t N v (number_type p t v here), z))))

    lone : ((b ≡ 0 → ⊥) × (tag t b ≡ tag t v) → ⊥) → N ≡ v
    lone apart = ⊎_elim (λ z. z) (λ z. absurd (apart (through (first_taken z)))) (eq-or-lt_of_le (number_le p t v))
      where
        of-group : group p t N ≡ group p t v
        of-group = group-same p t down N v first-element.not_root some (number-node p t v here) here (number_type p t v here)

        through : Stands i at w₀ N → (b ≡ 0 → ⊥) × (tag t b ≡ tag t v)
        through r =
            met r.place r.within (ap (group p t) r.is ∙ of-group) (ap (tag t) r.is ∙ same_type_tag p t N v (number_type p t v here))

    -- ---- v noted, with its own number
    cell-behind : length p ≤ c
    cell-behind = omega (arith, turn.cell, pre.behind)

    above : parent p v < length p
    above = omega (arith, parent-less p (length p) down v some here, here)

    cell_in : c < length w
    cell_in = omega (arith, turn.cell, number-node p t (parent p v) above, s.long, pre.there)

    room : length p ≤ length w
    room = omega (arith, s.long, pre.here)

    cell_other : c ≡ v → ⊥
    cell_other z = omega (arith, cell-behind, here)

    long₁ : length w₁ ≡ length w
    long₁ = length-set (set w c v) v v ∙ length-set w c v

    cell₁ : get_or w₁ c 0 ≡ v
    cell₁ = get_or-set_other (set w c v) v c v 0 cell_other ∙ get_or-set_same w c v 0 cell_in

    own₁ : get_or w₁ v 0 ≡ v
    own₁ = get_or-set_same (set w c v) v v 0 (omega (arith, length-set w c v, room, here))

    else₁ : (y : ℕ) → (y ≡ v → ⊥) → (y ≡ c → ⊥) → get_or w₁ y 0 ≡ get_or w y 0
    else₁ y nv nc = get_or-set_other (set w c v) v y v 0 nv ∙ get_or-set_other w c y v 0 nc

    -- The first row holds no cell, and no node is behind it.
    below-cell : (u : ℕ) → u < length p → u ≡ c → ⊥
    below-cell u l z = omega (arith, cell-behind)

    beyond-node : (y u : ℕ) → length p ≤ y → u < length p → y ≡ u → ⊥
    beyond-node y u l lu z = omega arith

    as_first : ((b ≡ 0 → ⊥) × (tag t b ≡ tag t v) → ⊥) → Taken p t last o i v w w₁
    as_first apart = record {
      long = long₁;
      cell = cell₁;
      beyond = λ y l nc. else₁ y (beyond-node y v l here) nc;
      others = λ u l nv nn. else₁ u nv (below-cell u l);
      number = number₁;
      first = ap (number_in w₁) own ∙ number₁;
      flag = omega (arith, own₁, here, pre.few);
      flagged = λ ne. absurd (ne own);
      kin = λ a l k. absurd (apart (met a l (ap (type_number p t) k.parents) (sym k.tags)));
    }
      where
        own : N ≡ v
        own = lone apart

        number₁ : number_in w₁ v ≡ N
        number₁ = omega (arith, own₁, own, here, pre.few)

    -- ---- the child noted has v's tag
    module _ (ne : b ≡ 0 → ⊥) (te : tag t b ≡ tag t v) where
      partner : Late p t o i (group p t v) b
      partner = ⊎_elim (λ r. absurd (ne r.is)) (λ r. r) turn.before

      late_in : partner.place < m
      late_in = omega (arith, partner.taken)

      b-node : b < length p
      b-node = omega (arith, partner.is, node partner.place late_in)

      b_type : same_type p t b v ≡ true
      b_type = group_type p t down b v (omega arith) some b-node here (ap (group p t) partner.is ∙ partner.child) te

      b-level : level p b ≡ level p v
      b-level = same_type_level p t b v b_type

      b_lower : b < v
      b_lower =
          omega (
            arith,
            partner.is,
            turn.here,
            before-less p t (o partner.place) (o i) (pre.order.rising partner.place i partner.taken h)
                (ap (level p) (sym partner.is) ∙ b-level ∙ ap (level p) turn.here) (ap (tag t) (sym partner.is) ∙ te ∙ ap (tag t) turn.here),
          )

      lower : N < v
      lower = omega (arith, number-lowest p t v b b_type, b_lower)

      not_own : N ≡ v → ⊥
      not_own z = omega (arith, lower)

      first-node : N < length p
      first-node = number-node p t v here

      number-found : number_in w₁ b ≡ N
      number-found =
          ap (λ (x : ℕ). x % 65536) (else₁ b b-other (below-cell b b-node)) ∙ ap (number_in w) partner.is ∙ s.typed partner.place partner.taken
          ∙ ap (type_number p t) (sym partner.is) ∙ number_same p t b v b_type
        where
          b-other : b ≡ v → ⊥
          b-other z = omega (arith, b_lower)

      first-typed : number_in w N ≡ N
      first-typed =
          let r : Stands i at w₀ N = first_taken lower in
          ap (number_in w) (sym r.is) ∙ s.typed r.place r.within ∙ ap (type_number p t) r.is ∙ number_self p t v here

      kin-met : (a : ℕ) → a < i → Kin p t (o a) v → parent p b ≡ parent p v
      kin-met a l k = ⊎_elim same further_on (eq-or-lt_of_le (partner.latest a l of-group))
        where
          of-group : group p t (o a) ≡ group p t v
          of-group = ap (type_number p t) k.parents

          same : a ≡ partner.place → parent p b ≡ parent p v
          same z = ap (parent p) (partner.is ∙ ap o (sym z)) ∙ k.parents

          further_on : a < partner.place → parent p b ≡ parent p v
          further_on z = parent_between p (length p) pre.tree.preorder (o a) b v k.one before b_lower here k.parents b-level
            where
              before : o a < b
              before =
                  omega (
                    arith,
                    partner.is,
                    before-less p t (o a) (o partner.place) (pre.order.rising a partner.place z late_in)
                        (level-of a l of-group ∙ sym b-level ∙ ap (level p) partner.is) (sym k.tags ∙ sym te ∙ ap (tag t) partner.is),
                  )

      -- v has the number of its type.
      abbrev w₂ : List ℕ
      w₂ = set w₁ v N

      own₂ : get_or w₂ v 0 ≡ N
      own₂ = get_or-set_same w₁ v N 0 (omega (arith, long₁, room, here))

      else₂ : (y : ℕ) → (y ≡ v → ⊥) → (y ≡ c → ⊥) → get_or w₂ y 0 ≡ get_or w y 0
      else₂ y nv nc = get_or-set_other w₁ v y N 0 nv ∙ else₁ y nv nc

      cell₂ : get_or w₂ c 0 ≡ v
      cell₂ = get_or-set_other w₁ v c N 0 cell_other ∙ cell₁

      first₂ : get_or w₂ N 0 ≡ get_or w N 0
      first₂ = else₂ N not_own (below-cell N first-node)

      as_further : (parent p b ≡ parent p v → ⊥) → Taken p t last o i v w w₂
      as_further apart = record {
        long = length-set w₁ v N ∙ long₁;
        cell = cell₂;
        beyond = λ y l nc. else₂ y (beyond-node y v l here) nc;
        others = λ u l nv nn. else₂ u nv (below-cell u l);
        number = omega (arith, own₂, first-node, pre.few);
        first = ap (λ (x : ℕ). x % 65536) first₂ ∙ first-typed;
        flag = omega (arith, own₂, first-node, pre.few);
        flagged = λ z. inl (ap (λ (x : ℕ). x / 65536) first₂);
        kin = λ a l k. absurd (apart (kin-met a l k));
      }

      -- The type is flagged.
      abbrev w₃ : List ℕ
      w₃ = set w₂ N (N + 65536)

      first₃ : get_or w₃ N 0 ≡ N + 65536
      first₃ = get_or-set_same w₂ N (N + 65536) 0 (omega (arith, length-set w₁ v N, long₁, room, first-node))

      else₃ : (y : ℕ) → (y ≡ N → ⊥) → get_or w₃ y 0 ≡ get_or w₂ y 0
      else₃ y nn = get_or-set_other w₂ N y (N + 65536) 0 nn

      own₃ : get_or w₃ v 0 ≡ N
      own₃ = else₃ v (λ z. not_own (sym z)) ∙ own₂

      flag₃ : flag_in w₃ N ≡ 1
      flag₃ = omega (arith, first₃, first-node, pre.few)

      as_twins : parent p b ≡ parent p v → Taken p t last o i v w w₃
      as_twins e = record {
        long = length-set w₂ N (N + 65536) ∙ length-set w₁ v N ∙ long₁;
        cell = else₃ c (λ (z : c ≡ N). omega (arith, cell-behind, first-node)) ∙ cell₂;
        beyond = λ y l nc. else₃ y (beyond-node y N l first-node) ∙ else₂ y (beyond-node y v l here) nc;
        others = λ u l nv nn. else₃ u nn ∙ else₂ u nv (below-cell u l);
        number = omega (arith, own₃, first-node, pre.few);
        first = omega (arith, first₃, first-node, pre.few);
        flag = omega (arith, own₃, first-node, pre.few);
        flagged = λ z. inr (flag₃, twin-repeats p t v here (twin-of p t v b b-node akin));
        kin = λ a l k. flag₃;
      }
        where
          akin : Kin p t v b
          akin = record { one = some; two = omega arith; other = λ (z : b ≡ v). omega (arith, b_lower); parents = sym e; tags = te }

  -- ---- the turn
  module _ (w : List ℕ) (i : ℕ) (s : Taking p t m at last w₀ w i) (h : i < m) (v : ℕ) (ev : v ≡ entry w at i) where
    turn : Turn p t last o w i v
    turn = turn_at p t m at last w₀ pre w i s h v ev

    turn-taken : (w' : List ℕ) → TakenUp p t last v w w' → Taken p t last o i v w w'
    turn-taken w' (first z e) =
        subst (Taken p t last o i v w) (sym e) (as_first w i s h v turn (λ k. ⊎_elim (λ y. k.0 y) (λ y. y k.1) z))
    turn-taken w' (further ne te apart e) =
        subst (Taken p t last o i v w)
        (sym (e ∙ ap (λ (x : ℕ). set (noted p last v w) v x) (number-found w i s h v turn ne te))) (as_further w i s h v turn ne te apart)
    turn-taken w' (twins ne te same e) =
        subst (Taken p t last o i v w)
        (sym (e ∙ ap (λ (x : ℕ). set (set (noted p last v w) v x) x (x + 65536)) (number-found w i s h v turn ne te))) (as_twins w i s h v turn ne te same)

    pub taking_step : (w' : List ℕ) → TakenUp p t last v w w' → Taking p t m at last w₀ w' (i + 1)
    taking_step w' k = taken_step p t m at last w₀ pre w i s h v ev w' (turn-taken w' k)
