-- The rows of a tree with one leaf more: the new inner node v is written first, where no other node has its entries, and then the link at the place q leads to it.
--   At n s T q, grow-at   the place q is s, or that of a link of an inner node of T
--   Outside n v s T       == the place s is that of a link, and no entry of v or of an inner node of T
--   Ready n v d w β q     == the new inner node stands in the rows, with the leaf v on the side of its bit and what is at q on the other
--   grow-rep              once the link at q leads to v, the rows hold the grown tree
-- Letters as in specs/Inner/Tree. Assumes nothing.
use Prim.Native.Nat.{ℕ, ◌+◌, ◌*◌, ◌≤◌, ◌<◌}
use mathlib.Core.Path.{◌≡◌, refl, sym, ap, subst, ◌∙◌}
use mathlib.Core.List.{List}
use mathlib.Core.Bool.{Bool, true, false}
use native.Mathlib.Omega.{arith}
use lib.ListN.{length, get_or, set}
use lib.Seq.{get_or-set_same, get_or-set_other}
use Rattle.names.specs.Inner.Tree.{Tree, fork, Has, top, has_left, has_right, Apart, apart_fork, bits, Rep, rep_leaf, rep_fork, Told, told_fork, find, Grow, new_left, new_right, go_left, go_right}
use Rattle.names.proofs.Shape.{Inner, rep_has, Kept, rep-keeps, rep-from, find-left, find-right, top-past}
use Rattle.names.proofs.Growing.{has_other}

-- ---- the place of the new link
pub data At (n s : ℕ) (T : Tree) (q : ℕ) : Type 0 where
  at_top : q ≡ s → At n s T q
  at_left : (x : ℕ) → Has x T → q ≡ x → At n s T q
  at_right : (x : ℕ) → Has x T → q ≡ n + x → At n s T q

at_left_lem : {n s u b q : ℕ} {l r : Tree} → At n u l q → At n s (fork u b l r) q
at_left_lem {u = u} (at_top e) = at_left u top e
at_left_lem (at_left x h e) = at_left x (has_left h) e
at_left_lem (at_right x h e) = at_right x (has_left h) e

at_right_lem : {n s u b q : ℕ} {l r : Tree} → At n (n + u) r q → At n s (fork u b l r) q
at_right_lem {u = u} (at_top e) = at_right u top e
at_right_lem (at_left x h e) = at_left x (has_right h) e
at_right_lem (at_right x h e) = at_right x (has_right h) e

pub grow-at : {n d v : ℕ} {β : ℕ → Bool} {s q : ℕ} {T N : Tree} → Grow n β d v s T q N → At n s T q
grow-at (new_left t e) = at_top refl
grow-at (new_right t e) = at_top refl
grow-at (go_left l e g) = at_left_lem (grow-at g)
grow-at (go_right l e g) = at_right_lem (grow-at g)

pub record Outside (n v s : ℕ) (T : Tree) : Type 0 where
  pub small : s < 2 * n
  pub not_left : s ≡ v → ⊥
  pub not_right : s ≡ n + v → ⊥
  pub off_left : (x : ℕ) → Has x T → s ≡ x → ⊥
  pub off_right : (x : ℕ) → Has x T → s ≡ n + x → ⊥

-- The place s is not q, where q is below s's own node.
outside-not : {n v s q : ℕ} {T : Tree} → Outside n v s T → {x : ℕ} → At n x T q → (s ≡ x → ⊥) → s ≡ q → ⊥
outside-not o (at_top e) f z = f (z ∙ e)
outside-not o (at_left x h e) f z = o.off_left x h (z ∙ e)
outside-not o (at_right x h e) f z = o.off_right x h (z ∙ e)

-- What is known where the tree under an inner node u is l, and q is on that side.
module _ {n u q m k : ℕ} {w : List ℕ} {l : Tree} (ul : Inner n u) (r : Rep n w m k l) (no : Has u l → ⊥) where
  -- No entry of another node z that is none of l is at q.
  side_left : At n u l q → (z : ℕ) → z < n → (Has z l → ⊥) → (z ≡ u → ⊥) → (q ≡ z → ⊥) × (q ≡ n + z → ⊥)
  side_left (at_top e) z lz nz ne = (λ f. ne (sym f ∙ e), λ f. absurd (omega (arith, e, f, ul.below)))
  side_left (at_left x h e) z lz nz ne =
      (λ f. nz (subst (λ (i : ℕ). Has i l) (sym e ∙ f) h), λ f. absurd (omega (arith, e, f, (rep_has r h).below)))
  side_left (at_right x h e) z lz nz ne = (λ f. absurd (omega (arith, e, f)), λ f. nz (subst (λ (i : ℕ). Has i l) (same f) h))
    where
      same : q ≡ n + z → x ≡ z
      same f = omega (arith, e, f)

  side_right : At n (n + u) l q → (z : ℕ) → z < n → (Has z l → ⊥) → (z ≡ u → ⊥) → (q ≡ z → ⊥) × (q ≡ n + z → ⊥)
  side_right (at_top e) z lz nz ne = (λ f. absurd (omega (arith, e, f)), λ f. ne (omega (arith, e, f)))
  side_right (at_left x h e) z lz nz ne =
      (λ f. nz (subst (λ (i : ℕ). Has i l) (sym e ∙ f) h), λ f. absurd (omega (arith, e, f, (rep_has r h).below)))
  side_right (at_right x h e) z lz nz ne = (λ f. absurd (omega (arith, e, f)), λ f. nz (subst (λ (i : ℕ). Has i l) (same f) h))
    where
      same : q ≡ n + z → x ≡ z
      same f = omega (arith, e, f)

  -- Nor is the other link of u.
  other-left : At n u l q → q ≡ n + u → ⊥
  other-left (at_top e) f = absurd (omega (arith, e, f, ul.below))
  other-left (at_left x h e) f = absurd (omega (arith, e, f, (rep_has r h).below))
  other-left (at_right x h e) f = no (subst (λ (i : ℕ). Has i l) (same f) h)
    where
      same : q ≡ n + u → x ≡ u
      same f = omega (arith, e, f)

  other-right : At n (n + u) l q → q ≡ u → ⊥
  other-right (at_top e) f = absurd (omega (arith, e, f, ul.below))
  other-right (at_left x h e) f = no (subst (λ (i : ℕ). Has i l) (sym e ∙ f) h)
  other-right (at_right x h e) f = absurd (omega (arith, e, f, ul.below))

at_small : {n s q m k : ℕ} {w : List ℕ} {T : Tree} → s < 2 * n → Rep n w m k T → At n s T q → q < 2 * n
at_small l r (at_top e) = omega (arith, e)
at_small l r (at_left x h e) = omega (arith, e, (rep_has r h).below)
at_small l r (at_right x h e) = omega (arith, e, (rep_has r h).below)

-- ---- the new link
pub record Ready (n v d : ℕ) (w : List ℕ) (β : ℕ → Bool) (q : ℕ) : Type 0 where
  pub some : 0 < v
  pub below : v < n
  pub few : d < bits
  pub within : q < length w
  pub bit : d ≡ get_or w (2 * n + v) 0
  pub near_left : β d ≡ false → get_or w v 0 ≡ 2 * v
  pub far_right : β d ≡ false → get_or w (n + v) 0 ≡ get_or w q 0
  pub near_right : β d ≡ true → get_or w (n + v) 0 ≡ 2 * v
  pub far_left : β d ≡ true → get_or w v 0 ≡ get_or w q 0

kept_at : (n q z : ℕ) (w : List ℕ) (u : ℕ) → u < n → q < 2 * n → (q ≡ u → ⊥) → (q ≡ n + u → ⊥) → Kept n w (set w q z) u
kept_at n q z w u l s a b = record {
  left = get_or-set_other w q u z 0 (λ e. a (sym e));
  right = get_or-set_other w q (n + u) z 0 (λ e. b (sym e));
  bit = get_or-set_other w q (2 * n + u) z 0 (λ e. absurd (omega (arith, e)));
}

pub grow-rep : {n d v : ℕ} {β : ℕ → Bool} {s q m : ℕ} {w : List ℕ} {bit : ℕ → ℕ → Bool} {T N : Tree} → Grow n β d v s T q N → Ready n v d w β q → m ≤ d →
    Rep n w m (get_or w s 0) T → Apart T → (Has v T → ⊥) → Outside n v s T → Told bit T → (bit (find β T) d ≡ β d → ⊥) →
    Rep n (set w q (2 * v + 1)) m (get_or (set w q (2 * v + 1)) s 0) N
grow-rep {n} {d} {v} {β} {s} {w = w} {T = T} (new_left t e) y md r a f o told ne =
    rep_fork {l = _} {r = T} (get_or-set_same w s _ 0 y.within) y.some y.below (y.bit ∙ sym own.bit) md y.few (rep_leaf (own.left ∙ y.near_left e) y.below)
    (rw (own.right ∙ y.far_right e) (rep-keeps (λ u h. kept_at n s _ w u (rep_has r h).below o.small (o.off_left u h) (o.off_right u h)) (rep-from r (top-past β told t ne))))
  where
    own : Kept n w (set w s (2 * v + 1)) v
    own = kept_at n s _ w v y.below o.small o.not_left o.not_right
grow-rep {n} {d} {v} {β} {s} {w = w} {T = T} (new_right t e) y md r a f o told ne =
    rep_fork {l = T} {r = _} (get_or-set_same w s _ 0 y.within) y.some y.below (y.bit ∙ sym own.bit) md y.few
    (rw (own.left ∙ y.far_left e) (rep-keeps (λ u h. kept_at n s _ w u (rep_has r h).below o.small (o.off_left u h) (o.off_right u h)) (rep-from r (top-past β told t ne))))
    (rep_leaf (own.right ∙ y.near_right e) y.below)
  where
    own : Kept n w (set w s (2 * v + 1)) v
    own = kept_at n s _ w v y.below o.small o.not_left o.not_right
grow-rep {n} {d} {v} {β} {s} {q} {w = w} {bit = bit} (go_left {u = u} {b = b} {l = l} {r = r} {l' = l'} lt e g) y md (rep_fork ek z lu eb mb bb x x') (apart_fork p p' disjoint al ar) f o (told_fork zs os like tl te) ne =
    rep_fork {l = l'} {r = r} (get_or-set_other w q s _ 0 (outside-not under (grow-at g) (o.off_left u top)) ∙ ek) z lu (eb ∙ sym own) mb bb
    (grow-rep g y lt x al (λ h. f (has_left h)) inside tl (λ i. ne (ap (λ (k : ℕ). bit k d) (find-left β u b l r e) ∙ i)))
    (rw other (rep-keeps (λ i h. kept_at n q _ w i (rep_has x' h).below small (off i h).0 (off i h).1) x'))
  where
    here : Inner n u
    here = record { some = z; below = lu }

    under : Outside n v s l
    under = record { small = o.small; not_left = o.not_left; not_right = o.not_right; off_left = λ i h. o.off_left i (has_left h); off_right = λ i h. o.off_right i (has_left h) }

    inside : Outside n v u l
    inside = record {
      small = omega arith;
      not_left = has_other (fork u b l r) top f;
      not_right = λ i. absurd (omega (arith, i));
      off_left = λ i h j. p (subst (λ (k : ℕ). Has k l) (sym j) h);
      off_right = λ i h j. absurd (omega (arith, j));
    }

    small : q < 2 * n
    small = at_small inside.small x (grow-at g)

    off : (i : ℕ) → Has i r → (q ≡ i → ⊥) × (q ≡ n + i → ⊥)
    off i h = side_left here x p (grow-at g) i (rep_has x' h).below (λ j. disjoint i j h) (λ j. p' (subst (λ (k : ℕ). Has k r) j h))

    own : get_or (set w q (2 * v + 1)) (2 * n + u) 0 ≡ get_or w (2 * n + u) 0
    own = get_or-set_other w q (2 * n + u) _ 0 (λ j. absurd (omega (arith, j, small)))

    other : get_or (set w q (2 * v + 1)) (n + u) 0 ≡ get_or w (n + u) 0
    other = get_or-set_other w q (n + u) _ 0 (λ j. other-left here x p (grow-at g) (sym j))
grow-rep {n} {d} {v} {β} {s} {q} {w = w} {bit = bit} (go_right {u = u} {b = b} {l = l} {r = r} {r' = r'} lt e g) y md (rep_fork ek z lu eb mb bb x x') (apart_fork p p' disjoint al ar) f o (told_fork zs os like tl te) ne =
    rep_fork {l = l} {r = r'} (get_or-set_other w q s _ 0 (outside-not under (grow-at g) (o.off_right u top)) ∙ ek) z lu (eb ∙ sym own) mb bb
    (rw other (rep-keeps (λ i h. kept_at n q _ w i (rep_has x h).below small (off i h).0 (off i h).1) x))
    (grow-rep g y lt x' ar (λ h. f (has_right h)) inside te (λ i. ne (ap (λ (k : ℕ). bit k d) (find-right β u b l r e) ∙ i)))
  where
    here : Inner n u
    here = record { some = z; below = lu }

    under : Outside n v s r
    under = record { small = o.small; not_left = o.not_left; not_right = o.not_right; off_left = λ i h. o.off_left i (has_right h); off_right = λ i h. o.off_right i (has_right h) }

    inside : Outside n v (n + u) r
    inside = record {
      small = omega arith;
      not_left = λ i. absurd (omega (arith, i, y.below));
      not_right = λ i. has_other (fork u b l r) top f (omega (arith, i));
      off_left = λ i h j. absurd (omega (arith, j, (rep_has x' h).below));
      off_right = λ i h j. p' (subst (λ (k : ℕ). Has k r) (same i j) h);
    }
      where
        same : (i : ℕ) → n + u ≡ n + i → i ≡ u
        same i j = omega (arith, j)

    small : q < 2 * n
    small = at_small inside.small x' (grow-at g)

    off : (i : ℕ) → Has i l → (q ≡ i → ⊥) × (q ≡ n + i → ⊥)
    off i h = side_right here x' p' (grow-at g) i (rep_has x h).below (λ j. disjoint i h j) (λ j. p (subst (λ (k : ℕ). Has k l) j h))

    own : get_or (set w q (2 * v + 1)) (2 * n + u) 0 ≡ get_or w (2 * n + u) 0
    own = get_or-set_other w q (2 * n + u) _ 0 (λ j. absurd (omega (arith, j, small)))

    other : get_or (set w q (2 * v + 1)) u 0 ≡ get_or w u 0
    other = get_or-set_other w q u _ 0 (λ j. other-right here x' p' (grow-at g) (sym j))
