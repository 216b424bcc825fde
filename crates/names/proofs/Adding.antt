-- The tree of names with one name more.
--   index-first            the first name is a tree of one leaf
--   unseen                 a name that differs from that of the leaf found is new
--   index-new              the rows that `put` leaves hold the tree with a leaf for it
--   put-long, put_rest     and nothing behind the rows has changed
-- Letters as in specs/Inner/Calls; β the new name's bits. Assumes nothing.
use Prim.Native.Nat.{ℕ, suc, ◌+◌, ◌*◌, ◌≤◌, ◌<◌}
use mathlib.Core.Path.{◌≡◌, refl, sym, ap, subst, ◌∙◌}
use mathlib.Core.Logic.{⊎_elim}
use mathlib.Core.List.{List, [], ◌∷◌, ◌++◌}
use mathlib.Core.Bool.{Bool, true, false, cond, false≢true}
use native.Mathlib.Omega.{arith}
use lib.ListN.{length, get_or, set, length-set}
use lib.Seq.{get_or-set_same, get_or-set_other}
use Rattle.seq.proofs.Laws.Bools.{bool_cases, bool_false}
use Rattle.profile.specs.Tags.{known}
use Rattle.profile.proofs.Laws.Tags.{known_cases}
use Rattle.names.specs.Inner.Tree.{leaf, In, itself, Has, apart_leaf, Rep, rep_leaf, told_leaf, find}
use Rattle.names.specs.Inner.Calls.{name_bit, name_here, NamesDiffer, Grown, linked, Leader, LeafOf, Index}
use Rattle.names.proofs.Shape.{rep_has, Kept, rep-keeps, find-same}
use Rattle.names.proofs.Growing.{none-leaf, grow_in, grow-new, grow-old, grow-has, grow-apart, Differs, grow-told}
use Rattle.names.proofs.Linking.{At, at_top, at_left, at_right, grow-at, Outside, Ready, grow-rep}

-- ---- the first name
pub index-first : (t fs : List ℕ) (n v : ℕ) (seen : List (List ℕ)) (ts w : List ℕ) → seen ≡ [] → v < n → v < length ts → 0 < length w →
    Index t fs n (v + 1) (seen ++ (name_here t fs v ∷ [])) (set ts v 1) (set w 0 (2 * v))
unfolding known
index-first t fs n v seen ts w e lv lt lw = record {
  tree = leaf v;
  holds = rep_leaf (get_or-set_same w 0 (2 * v) 0 lw) lv;
  apart = apart_leaf;
  told = told_leaf;
  old = λ u h. absurd (none-leaf h);
  leader = only;
  every = λ x k. ⊎_elim (λ q. record { node = v; leaf = itself; name = q }) (λ q. absurd (false≢true (sym (ap (λ (l : List (List ℕ)). known l x) e) ∙ q))) (known_cases seen x (name_here t fs v) k);
}
  where
    only : (y : ℕ) → In y (leaf v) → Leader (v + 1) (set ts v 1) y
    only y itself = record { before = omega arith; numbered = λ q. absurd (omega (arith, q, get_or-set_same ts v 1 0 lt)) }

-- ---- the rows
length-linked : (n v q d near far : ℕ) (w : List ℕ) → length (linked n v q d near far w) ≡ length w
unfolding linked
length-linked n v q d near far w = simp length-set

-- The new inner node's entries are written.
written : ℕ → ℕ → ℕ → ℕ → ℕ → ℕ → List ℕ → List ℕ
written n v q d near far w = set (set (set w (2 * n + v) d) near (2 * v)) far (get_or w q 0)

linked-is : (n v q d near far : ℕ) (w : List ℕ) → linked n v q d near far w ≡ set (written n v q d near far w) q (2 * v + 1)
unfolding linked written
linked-is n v q d near far w = refl

length-written : (n v q d near far : ℕ) (w : List ℕ) → length (written n v q d near far w) ≡ length w
unfolding written
length-written n v q d near far w = simp length-set

module _ (n v q d near far : ℕ) (w : List ℕ) where
  abbrev w₁ : List ℕ
  w₁ = set w (2 * n + v) d

  abbrev w₂ : List ℕ
  w₂ = set w₁ near (2 * v)

  written-stays : (p : ℕ) → (p ≡ 2 * n + v → ⊥) → (p ≡ near → ⊥) → (p ≡ far → ⊥) → get_or (written n v q d near far w) p 0 ≡ get_or w p 0
  unfolding written
  written-stays p a b c =
      get_or-set_other w₂ far p (get_or w q 0) 0 c ∙ get_or-set_other w₁ near p (2 * v) 0 b ∙ get_or-set_other w (2 * n + v) p d 0 a

  written-bit : 2 * n + v < length w → (2 * n + v ≡ near → ⊥) → (2 * n + v ≡ far → ⊥) → get_or (written n v q d near far w) (2 * n + v) 0 ≡ d
  unfolding written
  written-bit l a b =
      get_or-set_other w₂ far (2 * n + v) (get_or w q 0) 0 b ∙ get_or-set_other w₁ near (2 * n + v) (2 * v) 0 a ∙ get_or-set_same w (2 * n + v) d 0 l

  written-near : near < length w → (near ≡ far → ⊥) → get_or (written n v q d near far w) near 0 ≡ 2 * v
  unfolding written
  written-near l a = get_or-set_other w₂ far near (get_or w q 0) 0 a ∙ get_or-set_same w₁ near (2 * v) 0 (rw (length-set w (2 * n + v) d) l)

  written-far : far < length w → get_or (written n v q d near far w) far 0 ≡ get_or w q 0
  unfolding written
  written-far l = get_or-set_same w₂ far (get_or w q 0) 0 (rw (length-set w₁ near (2 * v), length-set w (2 * n + v) d) l)

linked-rest : (n v q d near far : ℕ) (w : List ℕ) → v < n → q < 2 * n → near < 2 * n → far < 2 * n → (i : ℕ) → 3 * n ≤ i → get_or (linked n v q d near far w) i 0 ≡ get_or w i 0
linked-rest n v q d near far w lv lq ln lf i l =
    ap (λ (k : List ℕ). get_or k i 0) (linked-is n v q d near far w) ∙ get_or-set_other (written n v q d near far w) q i (2 * v + 1) 0 (λ e. absurd (omega (arith, e)))
    ∙ written-stays n v q d near far w i (λ e. absurd (omega (arith, e))) (λ e. absurd (omega (arith, e))) (λ e. absurd (omega (arith, e)))

-- What `put` leaves is as long as the rows were, and the same behind them.
module _ (n v q d : ℕ) (w : List ℕ) (lv : v < n) (lq : q < 2 * n) where
  pub put-long : (b : Bool) (w' : List ℕ) → w' ≡ cond b (linked n v q d (n + v) v w) (linked n v q d v (n + v) w) → length w' ≡ length w
  put-long true w' e = ap length e ∙ length-linked n v q d (n + v) v w
  put-long false w' e = ap length e ∙ length-linked n v q d v (n + v) w

  pub put_rest : (b : Bool) (w' : List ℕ) → w' ≡ cond b (linked n v q d (n + v) v w) (linked n v q d v (n + v) w) → (i : ℕ) → 3 * n ≤ i → get_or w' i 0 ≡ get_or w i 0
  put_rest true w' e i l = ap (λ (k : List ℕ). get_or k i 0) e ∙ linked-rest n v q d (n + v) v w lv lq (omega arith) (omega arith) i l
  put_rest false w' e i l = ap (λ (k : List ℕ). get_or k i 0) e ∙ linked-rest n v q d v (n + v) w lv lq (omega arith) (omega arith) i l

-- ---- a new name
module _ (t fs : List ℕ) (n v : ℕ) (seen : List (List ℕ)) (ts w : List ℕ) (x : Index t fs n v seen ts w) (d : ℕ) (y : ℕ)
    (f : NamesDiffer (name_here t fs v) (name_here t fs y) d) (ey : y ≡ find (name_bit (name_here t fs v)) x.tree) where
  abbrev β : ℕ → Bool
  β = name_bit (name_here t fs v)

  abbrev bit : ℕ → ℕ → Bool
  bit z = name_bit (name_here t fs z)

  pub unseen : known seen (name_here t fs v) ≡ false
  unseen = bool_false (known seen (name_here t fs v)) λ k. no (x.every (name_here t fs v) k)
    where
      no : LeafOf t fs x.tree (name_here t fs v) → ⊥
      no z = f.differs (ap (λ (a : List ℕ). name_bit a d) (sym z.name ∙ ap (name_here t fs) (sym (ey ∙ find-same β z.node x.told z.leaf (λ i. ap (λ (a : List ℕ). name_bit a i) (sym z.name))))))

  differs : Differs bit v d (find β x.tree)
  differs = subst (Differs bit v d) ey (record { alike = f.alike; apart = f.differs })

  module _ (q : ℕ) (G : Grown n β d v 0 x.tree q) (sv : 0 < v) (lv : v < n) (lw : 3 * n ≤ length w) where
    -- No entry of v is at q.
    record Other : Type 0 where
      pub not_left : q ≡ v → ⊥
      pub not_right : q ≡ n + v → ⊥
      pub small : q < 2 * n

    other : Other
    other = from (grow-at G.grows)
      where
        from : At n 0 x.tree q → Other
        from (at_top e) = record { not_left = λ g. absurd (omega (arith, e, g)); not_right = λ g. absurd (omega (arith, e, g)); small = omega (arith, e) }
        from (at_left u h e) = record {
          not_left = λ g. absurd (omega (arith, e, g, x.old u h));
          not_right = λ g. absurd (omega (arith, e, g, x.old u h));
          small = omega (arith, e, x.old u h);
        }
        from (at_right u h e) = record {
          not_left = λ g. absurd (omega (arith, e, g));
          not_right = λ g. absurd (omega (arith, e, g, x.old u h));
          small = omega (arith, e, x.old u h);
        }

    outside : Outside n v 0 x.tree
    outside = record {
      small = omega arith;
      not_left = λ e. absurd (omega (arith, e));
      not_right = λ e. absurd (omega (arith, e));
      off_left = λ u h e. absurd (omega (arith, e, (rep_has x.holds h).some));
      off_right = λ u h e. absurd (omega (arith, e));
    }

    fresh : Has v x.tree → ⊥
    fresh h = absurd (omega (arith, x.old v h))

    -- The rows with the new inner node hold the old tree.
    module _ (near far : ℕ) (side : (p : ℕ) → (p ≡ v → ⊥) → (p ≡ n + v → ⊥) → (p ≡ near → ⊥) × (p ≡ far → ⊥)) where
      abbrev made : List ℕ
      made = written n v q d near far w

      stays : (p : ℕ) → (p ≡ v → ⊥) → (p ≡ n + v → ⊥) → (p ≡ 2 * n + v → ⊥) → get_or made p 0 ≡ get_or w p 0
      stays p a b c = written-stays n v q d near far w p c (side p a b).0 (side p a b).1

      held : Rep n made 0 (get_or made 0 0) x.tree
      held = rw (stays 0 (λ e. absurd (omega (arith, e))) (λ e. absurd (omega (arith, e))) (λ e. absurd (omega (arith, e)))) (rep-keeps kept x.holds)
        where
          kept : (u : ℕ) → Has u x.tree → Kept n w made u
          kept u h =
              let o : u < v = x.old u h in
              record {
                left = stays u (λ e. absurd (omega (arith, e))) (λ e. absurd (omega (arith, e))) (λ e. absurd (omega (arith, e)));
                right = stays (n + u) (λ e. absurd (omega (arith, e))) (λ e. absurd (omega (arith, e))) (λ e. absurd (omega (arith, e)));
                bit = stays (2 * n + u) (λ e. absurd (omega (arith, e))) (λ e. absurd (omega (arith, e))) (λ e. absurd (omega (arith, e)));
              }

      bit-made : d ≡ get_or made (2 * n + v) 0
      bit-made =
          let s : (2 * n + v ≡ near → ⊥) × (2 * n + v ≡ far → ⊥) = side (2 * n + v) (λ e. absurd (omega (arith, e))) (λ e. absurd (omega (arith, e))) in
          sym (written-bit n v q d near far w (omega arith) s.0 s.1)

      place-made : get_or made q 0 ≡ get_or w q 0
      place-made = stays q other.not_left other.not_right (λ e. absurd (omega (arith, e, other.small)))

      grown : Ready n v d made β q → Rep n (linked n v q d near far w) 0 (get_or (linked n v q d near far w) 0 0) G.tree
      grown r =
          rw (linked-is n v q d near far w) (grow-rep G.grows r (omega arith) held x.apart fresh outside x.told (λ e. differs.apart (sym e)))

    sides : (p : ℕ) → (p ≡ v → ⊥) → (p ≡ n + v → ⊥) → (p ≡ v → ⊥) × (p ≡ n + v → ⊥)
    sides p a b = (a, b)

    sides_turned : (p : ℕ) → (p ≡ v → ⊥) → (p ≡ n + v → ⊥) → (p ≡ n + v → ⊥) × (p ≡ v → ⊥)
    sides_turned p a b = (b, a)

    rows_left : β d ≡ false → Rep n (linked n v q d v (n + v) w) 0 (get_or (linked n v q d v (n + v) w) 0 0) G.tree
    rows_left e = grown v (n + v) sides (record {
      some = sv;
      below = lv;
      few = f.few;
      within = omega (arith, length-written n v q d v (n + v) w, other.small);
      bit = bit-made v (n + v) sides;
      near_left = λ h. written-near n v q d v (n + v) w (omega arith) (λ g. absurd (omega (arith, g)));
      far_right = λ h. written-far n v q d v (n + v) w (omega arith) ∙ sym (place-made v (n + v) sides);
      near_right = λ h. absurd (false≢true (sym e ∙ h));
      far_left = λ h. absurd (false≢true (sym e ∙ h));
    })

    rows_right : β d ≡ true → Rep n (linked n v q d (n + v) v w) 0 (get_or (linked n v q d (n + v) v w) 0 0) G.tree
    rows_right e = grown (n + v) v sides_turned (record {
      some = sv;
      below = lv;
      few = f.few;
      within = omega (arith, length-written n v q d (n + v) v w, other.small);
      bit = bit-made (n + v) v sides_turned;
      near_left = λ h. absurd (false≢true (sym h ∙ e));
      far_right = λ h. absurd (false≢true (sym h ∙ e));
      near_right = λ h. written-near n v q d (n + v) v w (omega arith) (λ g. absurd (omega (arith, g)));
      far_left = λ h. written-far n v q d (n + v) v w (omega arith) ∙ sym (place-made (n + v) v sides_turned);
    })

    pub index-new : (c' : ℕ) → c' ≡ suc (length seen) → v < length ts → (w' : List ℕ) → w' ≡ cond (β d) (linked n v q d (n + v) v w) (linked n v q d v (n + v) w) →
        Index t fs n (v + 1) (seen ++ (name_here t fs v ∷ [])) (set ts v c') w'
    index-new c' ec lt w' ew = record {
      tree = G.tree;
      holds = rw ew (⊎_elim (λ e. rw e (rows_right e)) (λ e. rw e (rows_left e)) (bool_cases (β d)));
      apart = grow-apart G.grows fresh x.apart;
      told = grow-told bit v d G.grows x.told differs;
      old = λ u h. ⊎_elim (λ (e : u ≡ v). omega (arith, e)) (λ e. omega (arith, x.old u e)) (grow-has G.grows h);
      leader = λ z h. ⊎_elim (λ e. newest z e) (λ e. older z e) (grow_in G.grows h);
      every = λ a k. ⊎_elim (λ e. record { node = v; leaf = grow-new G.grows; name = e }) (λ e. kept a (x.every a e)) (known_cases seen a (name_here t fs v) k);
    }
      where
        newest : (z : ℕ) → z ≡ v → Leader (v + 1) (set ts v c') z
        newest z e = subst (Leader (v + 1) (set ts v c')) (sym e) (record { before = omega arith; numbered = λ q. absurd (omega (arith, q, ec, get_or-set_same ts v c' 0 lt)) })

        older : (z : ℕ) → In z x.tree → Leader (v + 1) (set ts v c') z
        older z h =
            let r : Leader v ts z = x.leader z h in
            record { before = omega (arith, r.before); numbered = λ q. r.numbered (sym (get_or-set_other ts v z c' 0 (λ e. absurd (omega (arith, e, r.before)))) ∙ q) }

        kept : (a : List ℕ) → LeafOf t fs x.tree a → LeafOf t fs G.tree a
        kept a z = record { node = z.node; leaf = grow-old G.grows z.leaf; name = z.name }
