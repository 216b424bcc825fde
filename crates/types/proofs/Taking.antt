-- Taking the elements up in order: what the loop knows, and how a turn keeps it.
-- A parent comes before its children, so its type has its number by then. The children of the nodes of one type have one level, so those with one tag come one
-- after the other: a node's type is found through the last child taken up of the nodes of its parent's type. What a turn does to the rows is in Turns, and what is
-- known at last in Ending.
--   Taking         what the loop knows after i places
--   Turn           what is known of the node at hand
--   Taken          what a turn has to do to the rows
-- Letters: p parents, t tags, n nodes, m elements; at, where the order begins; last, where the row of last children begins; w rows, w₀ as they were lent, w' after a
-- turn; i s q a places, o s the node at place s, v u nodes, T a type's number. Assumes nothing.
use Prim.Native.Nat.{ℕ, zero-le, ◌+◌, ◌/◌, ◌%◌, ◌≤◌, ◌<◌}
use mathlib.Core.Path.{◌≡◌, refl, sym, ap, ◌∙◌, subst}
use mathlib.Core.Logic.{◌⊎◌, inl, inr, ⊎_elim}
use mathlib.Core.List.{List}
use mathlib.Core.Bool.{true}
use native.Mathlib.Nat.{le_antisymm}
use native.Mathlib.Omega.{arith}
use lib.Dec.{eqb}
use borrow.Author.Tests.{eqb-true, eqb-false}
use lib.ListN.{length, get_or}
use Rattle.seq.proofs.Laws.Bools.{bool_cases}
use Rattle.seq.proofs.Laws.Numbers.{less_or}
use Rattle.tree.specs.Tree.{parent, level}
use Rattle.tree.specs.Plain.{Down}
use Rattle.tree.proofs.Laws.Under.{preorder-down}
use Rattle.tree.proofs.Laws.Children.{parent-less}
use Rattle.answers.specs.Classes.{same_type, repeats}
use Rattle.answers.proofs.Laws.Types.{same_type_tag, same_type_level, repeats-same}
use Rattle.types.specs.Inner.Order.{tag, Element, entry, Stands}
use Rattle.types.specs.Inner.Numbers.{type_number, number_in, flag_in, cell_of, taken_before, TakeUpPre, NumberPre}
use Rattle.types.proofs.Kin.{Kin, kin-back}
use Rattle.types.proofs.Numbers.{number_same, number_le, number-node, number_type, number_self, number_is, number-root, number-element, group, group_type, parent-solid, parent-level}
use Rattle.types.proofs.Nearby.{before-less, order-earlier}

-- The last child taken up of the nodes of type T stands at a place, and it is x.
pub record Late (p t : List ℕ) (o : ℕ → ℕ) (i T x : ℕ) : Type 0 where
  pub place : ℕ
  pub taken : place < i
  pub is : x ≡ o place
  pub child : group p t (o place) ≡ T
  pub latest : (q : ℕ) → q < i → group p t (o q) ≡ T → q ≤ place

-- No child of a node of type T is taken up, and x is 0.
pub record Never (p t : List ℕ) (o : ℕ → ℕ) (i T x : ℕ) : Type 0 where
  pub is : x ≡ 0
  pub none : (q : ℕ) → q < i → group p t (o q) ≡ T → ⊥

abbrev pub Noted : List ℕ → List ℕ → (ℕ → ℕ) → ℕ → ℕ → ℕ → Type 0
Noted p t o i T x = Never p t o i T x ⊎ Late p t o i T x

pub record Taking (p t : List ℕ) (m at last : ℕ) (w₀ w : List ℕ) (i : ℕ) : Type 0 where
  pub within : i ≤ m
  pub long : length w ≡ length w₀
  -- the order stays
  pub source : (s : ℕ) → s < m → entry w at s ≡ entry w₀ at s
  pub root : get_or w 0 0 ≡ 0
  pub texts : (v : ℕ) → v < length p → tag t v ≡ 0 → get_or w v 0 ≡ 0
  -- what is taken up has its type's number
  pub typed : (q : ℕ) → q < i → number_in w (entry w₀ at q) ≡ type_number p t (entry w₀ at q)
  pub lasts : (T : ℕ) → T < length p → Noted p t (entry w₀ at) i T (get_or w (last + T) 0)
  pub binary : (q : ℕ) → q < i → (flag_in w (entry w₀ at q) ≡ 0) ⊎ (flag_in w (entry w₀ at q) ≡ 1)
  -- what is flagged is of a type that repeats
  pub sound : (q : ℕ) → q < i → flag_in w (entry w₀ at q) ≡ 1 → repeats p t (entry w₀ at q) ≡ true
  -- of two nodes taken up that are kin, the type is flagged
  pub complete : (s q : ℕ) → s < i → q < i → Kin p t (entry w₀ at s) (entry w₀ at q) → flag_in w (type_number p t (entry w₀ at s)) ≡ 1

-- v stands at place i, its parent's type has its number, and the row of last children is read there.
pub record Turn (p t : List ℕ) (last : ℕ) (o : ℕ → ℕ) (w : List ℕ) (i v : ℕ) : Type 0 where
  pub here : v ≡ o i
  pub element : Element t v
  pub node : v < length p
  pub cell : cell_of p last v w ≡ last + group p t v
  pub before : Noted p t o i (group p t v) (taken_before p last v w)

-- The cell is v, v has its type's number, and no other entry is touched but that of the type, which is flagged if it was found to repeat.
pub record Taken (p t : List ℕ) (last : ℕ) (o : ℕ → ℕ) (i v : ℕ) (w w' : List ℕ) : Type 0 where
  pub long : length w' ≡ length w
  pub cell : get_or w' (cell_of p last v w) 0 ≡ v
  pub beyond : (y : ℕ) → length p ≤ y → (y ≡ cell_of p last v w → ⊥) → get_or w' y 0 ≡ get_or w y 0
  pub others : (u : ℕ) → u < length p → (u ≡ v → ⊥) → (u ≡ type_number p t v → ⊥) → get_or w' u 0 ≡ get_or w u 0
  pub number : number_in w' v ≡ type_number p t v
  pub first : number_in w' (type_number p t v) ≡ type_number p t v
  pub flag : flag_in w' v ≡ 0
  pub flagged : (type_number p t v ≡ v → ⊥) → (flag_in w' (type_number p t v) ≡ flag_in w (type_number p t v)) ⊎
      ((flag_in w' (type_number p t v) ≡ 1) × (repeats p t v ≡ true))
  pub kin : (s : ℕ) → s < i → Kin p t (o s) v → flag_in w' (type_number p t v) ≡ 1

module _ (p t : List ℕ) (m at last : ℕ) (w₀ : List ℕ) (pre : NumberPre p t m at last w₀) where
  -- The node at a place.
  abbrev o : ℕ → ℕ
  o = entry w₀ at

  down : Down p (length p)
  down = preorder-down p (length p) pre.tree.preorder

  pub place-node : (s : ℕ) → s < m → o s < length p
  place-node s l = omega (arith, pre.tagged, (pre.order.elements s l).node)

  pub taking-start : Taking p t m at last w₀ w₀ 0
  taking-start = record {
    within = zero-le;
    long = refl;
    source = λ s l. refl;
    root = pre.root;
    texts = pre.texts;
    typed = λ q h. absurd (none q h);
    lasts = λ T l. inl (record { is = pre.untaken T l; none = λ q h. absurd (none q h) });
    binary = λ q h. absurd (none q h);
    sound = λ q h. absurd (none q h);
    complete = λ s q h. absurd (none s h);
  }
    where
      none : (q : ℕ) → q < 0 → ⊥
      none q h = omega arith

  -- v is the node at hand, as the code has it.
  module _ (w : List ℕ) (i : ℕ) (s : Taking p t m at last w₀ w i) (h : i < m) (v : ℕ) (ev : v ≡ entry w at i) where
    is-here : v ≡ o i
    is-here = ev ∙ s.source i h

    element : Element t v
    element = subst (Element t) (sym is-here) (pre.order.elements i h)

    here : v < length p
    here = omega (arith, pre.tagged, element.node)

    above : parent p v < v
    above = parent-less p (length p) down v element.not_root here

    -- The parent is the root, or it was taken up before.
    parent-typed : number_in w (parent p v) ≡ group p t v
    parent-typed = ⊎_elim (λ z. numbered z) (λ (z : parent p v ≤ 0). at-root (omega arith)) (less_or 0 (parent p v))
      where
        at-root : parent p v ≡ 0 → number_in w (parent p v) ≡ group p t v
        at-root z = omega (arith, ap (λ (x : ℕ). get_or w x 0) z, s.root, ap (type_number p t) z, number-root p t)

        up : 0 < parent p v → Element t (parent p v)
        up z = record { not_root = z; node = omega (arith, pre.tagged, above, here); solid = parent-solid p t pre.tree v element.not_root here }

        numbered : 0 < parent p v → number_in w (parent p v) ≡ group p t v
        numbered z =
            let b : Stands i at w₀ (parent p v) =
            order-earlier p t m at w₀ pre.order i h (parent p v) (up z)
            (inl (subst (λ (x : ℕ). level p (parent p v) < level p x) is-here (parent-level p t down v element.not_root here))) in
            ap (number_in w) (sym b.is) ∙ s.typed b.place b.within ∙ ap (type_number p t) b.is

    pub turn_at : Turn p t last o w i v
    turn_at = record {
      here = is-here;
      element = element;
      node = here;
      cell = cell;
      before =
          subst (Noted p t o i (group p t v)) (ap (λ (y : ℕ). get_or w y 0) (sym cell))
          (s.lasts (group p t v) (number-node p t (parent p v) (omega (arith, above, here))));
    }
      where
        cell : cell_of p last v w ≡ last + group p t v
        cell = ap (λ (x : ℕ). last + x) parent-typed

    differs : (a : ℕ) → a < i → o a ≡ v → ⊥
    differs a l e = different (pre.order.once a i (omega arith) h (e ∙ is-here))
      where
        different : a ≡ i → ⊥
        different z = omega arith

    pub take-pre : TakeUpPre p t last v w
    take-pre = record {
      few = pre.few;
      node = here;
      tagged = pre.tagged;
      size = omega (arith, s.long, pre.size);
      behind = pre.behind;
      lasts = omega (arith, s.long, pre.there);
      above = omega (arith, above, here);
      typed = omega (arith, parent-typed, number-node p t (parent p v) (omega (arith, above, here)));
      known = ⊎_elim (λ r. omega (arith, r.is, pre.some)) (λ r. omega (arith, r.is, place-node r.place (omega (arith, r.taken)))) turn_at.before;
      other = λ e. ⊎_elim (λ r. nowhere r e) (λ r. differs r.place r.taken (sym r.is ∙ e)) turn_at.before;
      numbered = λ ne. ⊎_elim (λ r. absurd (ne r.is)) (λ r. numbered r) turn_at.before;
    }
      where
        nowhere : Never p t o i (group p t v) (taken_before p last v w) → taken_before p last v w ≡ v → ⊥
        nowhere r e = omega (arith, r.is, element.not_root)

        numbered : Late p t o i (group p t v) (taken_before p last v w) → number_in w (taken_before p last v w) < length p
        numbered r =
            omega (arith, ap (number_in w) r.is, s.typed r.place r.taken, number-node p t (o r.place) (place-node r.place (omega (arith, r.taken))))

    -- ---- the turn
    module _ (w' : List ℕ) (k : Taken p t last o i v w w') where
      now : (a : ℕ) → a < i + 1 → i ≤ a → o a ≡ v
      now a l b = ap o (le_antisymm (omega arith) b) ∙ sym is-here

      -- A node of v's type that was taken up before has a lower number.
      lower : (a : ℕ) → a < i → same_type p t (o a) v ≡ true → o a < v
      lower a l e =
          omega (
            arith,
            is-here,
            before-less p t (o a) (o i) (pre.order.rising a i l h)
                (same_type_level p t (o a) v e ∙ ap (level p) is-here) (same_type_tag p t (o a) v e ∙ ap (tag t) is-here),
          )

      -- The entry of a node taken up before is that of v's type, or it stays.
      kept : (a : ℕ) → a < i → (o a ≡ type_number p t v) ⊎ (get_or w' (o a) 0 ≡ get_or w (o a) 0)
      kept a l =
          ⊎_elim (λ e. inl (eqb-true (o a) (type_number p t v) e))
          (λ e. inr (k.others (o a) (place-node a (omega arith)) (differs a l) (eqb-false (o a) (type_number p t v) e))) (bool_cases (eqb (o a) (type_number p t v)))

      of_type : (u : ℕ) → u ≡ type_number p t v → same_type p t u v ≡ true
      of_type u e = subst (λ (x : ℕ). same_type p t x v ≡ true) (sym e) (number_type p t v here)

      flag-kept : (a : ℕ) → a < i → (flag_in w' (o a) ≡ flag_in w (o a)) ⊎ ((flag_in w' (o a) ≡ 1) × (repeats p t (o a) ≡ true))
      flag-kept a l =
          ⊎_elim (λ e. ⊎_elim (λ z. inl (ap (flag_in w') e ∙ z ∙ ap (flag_in w) (sym e)))
          (λ z. inr (ap (flag_in w') e ∙ z.0, repeats-same p t (o a) v (of_type (o a) e) ∙ z.1)) (k.flagged (λ y. differs a l (e ∙ y))))
          (λ e. inl (ap (λ (x : ℕ). x / 65536) e)) (kept a l)

      -- A type that is flagged stays so.
      flag_one : (a : ℕ) → a < i → flag_in w (type_number p t (o a)) ≡ 1 → flag_in w' (type_number p t (o a)) ≡ 1
      flag_one a l f =
          ⊎_elim (λ q. same (eqb-true (type_number p t (o a)) (type_number p t v) q)) (λ q. other (eqb-false (type_number p t (o a)) (type_number p t v) q))
          (bool_cases (eqb (type_number p t (o a)) (type_number p t v)))
        where
          node : o a < length p
          node = place-node a (omega arith)

          same : type_number p t (o a) ≡ type_number p t v → flag_in w' (type_number p t (o a)) ≡ 1
          same e = ap (flag_in w') e ∙ ⊎_elim (λ z. z ∙ ap (flag_in w) (sym e) ∙ f) (λ z. z.0) (k.flagged low)
            where
              low : type_number p t v ≡ v → ⊥
              low z = omega (arith, e, lower a l (number_is p t (o a) v node here e), number_le p t (o a))

          other : (type_number p t (o a) ≡ type_number p t v → ⊥) → flag_in w' (type_number p t (o a)) ≡ 1
          other ne =
              ap (λ (x : ℕ). x / 65536) (k.others (type_number p t (o a)) (number-node p t (o a) node)
              (λ z. ne (sym (number_self p t (o a) node) ∙ ap (type_number p t) z)) ne) ∙ f

      typed' : (a : ℕ) → a < i + 1 → number_in w' (o a) ≡ type_number p t (o a)
      typed' a l =
          ⊎_elim
          (λ c. ⊎_elim (λ e. ap (number_in w') e ∙ k.first ∙ sym (number_self p t v here) ∙ ap (type_number p t) (sym e))
          (λ e. ap (λ (x : ℕ). x % 65536) e ∙ s.typed a c) (kept a c))
          (λ c. ap (number_in w') (now a l c) ∙ k.number ∙ ap (type_number p t) (sym (now a l c)))
          (less_or a i)

      binary' : (a : ℕ) → a < i + 1 → (flag_in w' (o a) ≡ 0) ⊎ (flag_in w' (o a) ≡ 1)
      binary' a l =
          ⊎_elim (λ c. ⊎_elim (λ z. ⊎_elim (λ y. inl (z ∙ y)) (λ y. inr (z ∙ y)) (s.binary a c)) (λ z. inr z.0) (flag-kept a c))
          (λ c. inl (ap (flag_in w') (now a l c) ∙ k.flag)) (less_or a i)

      sound' : (a : ℕ) → a < i + 1 → flag_in w' (o a) ≡ 1 → repeats p t (o a) ≡ true
      sound' a l f =
          ⊎_elim (λ c. ⊎_elim (λ z. s.sound a c (sym z ∙ f)) (λ z. z.1) (flag-kept a c)) (λ c. absurd (unflagged (ap (flag_in w') (now a l c)))) (less_or a i)
        where
          unflagged : flag_in w' (o a) ≡ flag_in w' v → ⊥
          unflagged z = omega (arith, z, f, k.flag)

      -- Kin are of one type.
      kin-number : (a : ℕ) → a < i → Kin p t (o a) v → type_number p t (o a) ≡ type_number p t v
      kin-number a l z =
          number_same p t (o a) v
          (group_type p t down (o a) v z.one z.two (place-node a (omega arith)) here (ap (type_number p t) z.parents) (sym z.tags))

      complete' : (a q : ℕ) → a < i + 1 → q < i + 1 → Kin p t (o a) (o q) → flag_in w' (type_number p t (o a)) ≡ 1
      complete' a q la lq z =
          ⊎_elim
          (λ ca. ⊎_elim (λ cq. flag_one a ca (s.complete a q ca cq z))
          (λ cq. along a ca (subst (Kin p t (o a)) (now q lq cq) z)) (less_or q i))
          (λ ca. ap (λ (x : ℕ). flag_in w' (type_number p t x)) (now a la ca)
          ∙ ⊎_elim (λ cq. k.kin q cq (kin-back p t v (o q) (subst (λ (x : ℕ). Kin p t x (o q)) (now a la ca) z)))
          (λ cq. absurd (z.other (now q lq cq ∙ sym (now a la ca)))) (less_or q i))
          (less_or a i)
        where
          along : (a : ℕ) → a < i → Kin p t (o a) v → flag_in w' (type_number p t (o a)) ≡ 1
          along a l z = ap (flag_in w') (kin-number a l z) ∙ k.kin a l z

      lasts' : (T : ℕ) → T < length p → Noted p t o (i + 1) T (get_or w' (last + T) 0)
      lasts' T l =
          ⊎_elim (λ e. inr (latest (eqb-true T (group p t v) e))) (λ e. elsewhere (eqb-false T (group p t v) e)) (bool_cases (eqb T (group p t v)))
        where
          latest : T ≡ group p t v → Late p t o (i + 1) T (get_or w' (last + T) 0)
          latest e = record {
            place = i;
            taken = omega arith;
            is = ap (λ (x : ℕ). get_or w' (last + x) 0) e ∙ ap (λ (y : ℕ). get_or w' y 0) (sym turn_at.cell) ∙ k.cell ∙ is-here;
            child = ap (group p t) (sym is-here) ∙ sym e;
            latest = λ q a c. omega arith;
          }

          same : (T ≡ group p t v → ⊥) → get_or w' (last + T) 0 ≡ get_or w (last + T) 0
          same ne = k.beyond (last + T) (omega (arith, pre.behind)) (λ (z : last + T ≡ cell_of p last v w). ne (omega (arith, turn_at.cell)))

          not-mine : (T ≡ group p t v → ⊥) → (q : ℕ) → q < i + 1 → i ≤ q → group p t (o q) ≡ T → ⊥
          not-mine ne q a b e = ne (sym e ∙ ap (group p t) (now q a b))

          elsewhere : (T ≡ group p t v → ⊥) → Noted p t o (i + 1) T (get_or w' (last + T) 0)
          elsewhere ne =
              ⊎_elim
              (λ r. inl (record { is = same ne ∙ r.is; none = λ q a e. ⊎_elim (λ c. r.none q c e) (λ c. not-mine ne q a c e) (less_or q i) }))
              (λ r. inr (record {
                place = r.place;
                taken = omega (arith, r.taken);
                is = same ne ∙ r.is;
                child = r.child;
                latest = λ q a e. ⊎_elim (λ c. r.latest q c e) (λ c. absurd (not-mine ne q a c e)) (less_or q i);
              }))
              (s.lasts T l)

      first-element : Element t (type_number p t v)
      first-element = number-element p t down pre.tagged v element

      pub taken_step : Taking p t m at last w₀ w' (i + 1)
      taken_step = record {
        within = omega arith;
        long = k.long ∙ s.long;
        source = λ a l. k.beyond (at + a) (omega (arith, pre.after)) (away a l) ∙ s.source a l;
        root =
            k.others 0 (omega (arith, pre.some)) (λ (z : 0 ≡ v). omega (arith, element.not_root))
            (λ (z : 0 ≡ type_number p t v). omega (arith, first-element.not_root)) ∙ s.root;
        texts = λ u l e.
            k.others u l (λ z. element.solid (ap (tag t) (sym z) ∙ e)) (λ z. first-element.solid (ap (tag t) (sym z) ∙ e)) ∙ s.texts u l e;
        typed = typed';
        lasts = lasts';
        binary = binary';
        sound = sound';
        complete = complete';
      }
        where
          group-node : group p t v < length p
          group-node = number-node p t (parent p v) (omega (arith, above, here))

          away : (a : ℕ) → a < m → at + a ≡ cell_of p last v w → ⊥
          away a l e =
              ⊎_elim (λ (z : at + length p ≤ last). omega (arith, turn_at.cell, group-node, pre.fewer))
              (λ (z : last + length p ≤ at). omega (arith, turn_at.cell, group-node, pre.fewer)) pre.apart
