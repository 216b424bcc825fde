-- A tree with one leaf more.
--   grow_in, grow-new, grow-old   its leaves are the old ones and the new one
--   grow-has                      its inner nodes are the old ones and the new one
--   grow-apart, grow-told         it is a tree of names again
--   At n s T q, grow-at           the place q is s, or an entry of an inner node of T
--   grow-rep                      and the rows hold it once the link at q leads to the new inner node
-- Letters as in specs/Inner/Tree: the new leaf v has the bits β, and first differs in bit d from the leaf y that its bits lead to. Assumes nothing.
use Prim.Native.Nat.{ℕ, suc, ◌<◌}
use mathlib.Core.Path.{◌≡◌, refl, sym, ap, subst, ◌∙◌}
use mathlib.Core.Logic.{◌⊎◌, inl, inr, ⊎_elim}
use mathlib.Core.Bool.{Bool, true, false}
use native.Mathlib.Omega.{arith}
use Rattle.names.specs.Inner.Tree.{Tree, leaf, fork, In, itself, in_left, in_right, Has, top, has_left, has_right, Apart, apart_leaf, apart_fork, Told, told_leaf, told_fork, find, Top, Grow, new_left, new_right, go_left, go_right}
use Rattle.names.proofs.Shape.{find-left, find-right, find_in, top-past, told-alike}

-- ---- leaves
pub grow_in : {n d v : ℕ} {β : ℕ → Bool} {s q y : ℕ} {T N : Tree} → Grow n β d v s T q N → In y N → (y ≡ v) ⊎ In y T
grow_in (new_left t e) (in_left itself) = inl refl
grow_in (new_left t e) (in_right h) = inr h
grow_in (new_right t e) (in_left h) = inr h
grow_in (new_right t e) (in_right itself) = inl refl
grow_in (go_left l e g) (in_left h) = ⊎_elim (λ q. inl q) (λ q. inr (in_left q)) (grow_in g h)
grow_in (go_left l e g) (in_right h) = inr (in_right h)
grow_in (go_right l e g) (in_left h) = inr (in_left h)
grow_in (go_right l e g) (in_right h) = ⊎_elim (λ q. inl q) (λ q. inr (in_right q)) (grow_in g h)

pub grow-new : {n d v : ℕ} {β : ℕ → Bool} {s q : ℕ} {T N : Tree} → Grow n β d v s T q N → In v N
grow-new (new_left t e) = in_left itself
grow-new (new_right t e) = in_right itself
grow-new (go_left l e g) = in_left (grow-new g)
grow-new (go_right l e g) = in_right (grow-new g)

pub grow-old : {n d v : ℕ} {β : ℕ → Bool} {s q y : ℕ} {T N : Tree} → Grow n β d v s T q N → In y T → In y N
grow-old (new_left t e) h = in_right h
grow-old (new_right t e) h = in_left h
grow-old (go_left l e g) (in_left h) = in_left (grow-old g h)
grow-old (go_left l e g) (in_right h) = in_right h
grow-old (go_right l e g) (in_left h) = in_left h
grow-old (go_right l e g) (in_right h) = in_right (grow-old g h)

-- ---- inner nodes
pub grow-has : {n d v : ℕ} {β : ℕ → Bool} {s q x : ℕ} {T N : Tree} → Grow n β d v s T q N → Has x N → (x ≡ v) ⊎ Has x T
grow-has (new_left t e) top = inl refl
grow-has (new_left t e) (has_left h) = elim h [ ]
grow-has (new_left t e) (has_right h) = inr h
grow-has (new_right t e) top = inl refl
grow-has (new_right t e) (has_left h) = inr h
grow-has (new_right t e) (has_right h) = elim h [ ]
grow-has (go_left l e g) top = inr top
grow-has (go_left l e g) (has_left h) = ⊎_elim (λ q. inl q) (λ q. inr (has_left q)) (grow-has g h)
grow-has (go_left l e g) (has_right h) = inr (has_right h)
grow-has (go_right l e g) top = inr top
grow-has (go_right l e g) (has_left h) = inr (has_left h)
grow-has (go_right l e g) (has_right h) = ⊎_elim (λ q. inl q) (λ q. inr (has_right q)) (grow-has g h)

-- Where x is told from v, x is an inner node of the old tree.
grow_had : {n d v : ℕ} {β : ℕ → Bool} {s q x : ℕ} {T N : Tree} → Grow n β d v s T q N → (x ≡ v → ⊥) → Has x N → Has x T
grow_had g ne h = ⊎_elim (λ q. absurd (ne q)) (λ q. q) (grow-has g h)

pub none-leaf : {x v : ℕ} → Has x (leaf v) → ⊥
none-leaf = elim [ ]

-- An inner node is none that is not one.
pub has_other : {u v : ℕ} (T : Tree) → Has u T → (Has v T → ⊥) → u ≡ v → ⊥
has_other T h f e = f (subst (λ (k : ℕ). Has k T) e h)

pub grow-apart : {n d v : ℕ} {β : ℕ → Bool} {s q : ℕ} {T N : Tree} → Grow n β d v s T q N → (Has v T → ⊥) → Apart T → Apart N
grow-apart (new_left t e) f a = apart_fork none-leaf f (λ x h i. none-leaf h) apart_leaf a
grow-apart (new_right t e) f a = apart_fork f none-leaf (λ x h i. none-leaf i) a apart_leaf
grow-apart (go_left {u = u} {b = b} {l = l} {r = r} lt e g) f (apart_fork p q o x y) =
    apart_fork (λ h. p (grow_had g (has_other (fork u b l r) top f) h)) q
    (λ k h i. ⊎_elim (λ z. f (has_right (subst (λ (k : ℕ). Has k r) z i))) (λ z. o k z i) (grow-has g h)) (grow-apart g (λ h. f (has_left h)) x) y
grow-apart (go_right {u = u} {b = b} {l = l} {r = r} lt e g) f (apart_fork p q o x y) =
    apart_fork p (λ h. q (grow_had g (has_other (fork u b l r) top f) h))
    (λ k h i. ⊎_elim (λ z. f (has_left (subst (λ (k : ℕ). Has k l) z h))) (λ z. o k h z) (grow-has g i)) x (grow-apart g (λ h. f (has_right h)) y)

-- ---- bits
-- Two tests that are not the same.
other-true : (a b : Bool) → (a ≡ b → ⊥) → a ≡ false → b ≡ true
other-true a true h e = refl
other-true a false h e = absurd (h e)

other-false : (a b : Bool) → (a ≡ b → ⊥) → a ≡ true → b ≡ false
other-false a true h e = absurd (h e)
other-false a false h e = refl

module _ (bit : ℕ → ℕ → Bool) (v d : ℕ) where
  -- v first differs from y in bit d.
  pub record Differs (y : ℕ) : Type 0 where
    pub alike : (i : ℕ) → i < d → bit v i ≡ bit y i
    pub apart : bit v d ≡ bit y d → ⊥

  pub grow-told : {n s q : ℕ} {T N : Tree} → Grow n (bit v) d v s T q N → Told bit T → Differs (find (bit v) T) → Told bit N
  grow-told {T = T} (new_left t e) o f = told_fork zeros ones same told_leaf o
    where
      above : Top (suc d) T
      above = top-past (bit v) o t (λ z. f.apart (sym z))

      zeros : (y : ℕ) → In y (leaf v) → bit y d ≡ false
      zeros y itself = e

      ones : (y : ℕ) → In y T → bit y d ≡ true
      ones y h = told-alike o above h (find_in (bit v) T) d (omega arith) ∙ other-true (bit v d) _ f.apart e

      with-v : (y : ℕ) → In y (fork v d (leaf v) T) → (i : ℕ) → i < d → bit v i ≡ bit y i
      with-v y (in_left itself) i l = refl
      with-v y (in_right h) i l = f.alike i l ∙ told-alike o above (find_in (bit v) T) h i (omega arith)

      same : (y z : ℕ) → In y (fork v d (leaf v) T) → In z (fork v d (leaf v) T) → (i : ℕ) → i < d → bit y i ≡ bit z i
      same y z g h i l = sym (with-v y g i l) ∙ with-v z h i l
  grow-told {T = T} (new_right t e) o f = told_fork zeros ones same o told_leaf
    where
      above : Top (suc d) T
      above = top-past (bit v) o t (λ z. f.apart (sym z))

      zeros : (y : ℕ) → In y T → bit y d ≡ false
      zeros y h = told-alike o above h (find_in (bit v) T) d (omega arith) ∙ other-false (bit v d) _ f.apart e

      ones : (y : ℕ) → In y (leaf v) → bit y d ≡ true
      ones y itself = e

      with-v : (y : ℕ) → In y (fork v d T (leaf v)) → (i : ℕ) → i < d → bit v i ≡ bit y i
      with-v y (in_left h) i l = f.alike i l ∙ told-alike o above (find_in (bit v) T) h i (omega arith)
      with-v y (in_right itself) i l = refl

      same : (y z : ℕ) → In y (fork v d T (leaf v)) → In z (fork v d T (leaf v)) → (i : ℕ) → i < d → bit y i ≡ bit z i
      same y z g h i l = sym (with-v y g i l) ∙ with-v z h i l
  grow-told {T = T} (go_left {u = u} {b = b} {l = l} {r = r} {l' = l'} lt e g) (told_fork zs os al x y) f = told_fork zeros os same (grow-told g x (subst Differs (find-left (bit v) u b l r e) f)) y
    where
      zeros : (z : ℕ) → In z l' → bit z b ≡ false
      zeros z h = ⊎_elim (λ q. ap (λ (k : ℕ). bit k b) q ∙ e) (λ q. zs z q) (grow_in g h)

      with-v : (z : ℕ) → In z (fork u b l' r) → (i : ℕ) → i < b → bit v i ≡ bit z i
      with-v z h i k =
          ⊎_elim (λ q. ap (λ (j : ℕ). bit j i) (sym q)) (λ q. f.alike i (omega arith) ∙ al _ z (find_in (bit v) (fork u b l r)) q i k)
          (grow_in {s = 0} (go_left lt e g) h)

      same : (y z : ℕ) → In y (fork u b l' r) → In z (fork u b l' r) → (i : ℕ) → i < b → bit y i ≡ bit z i
      same y z g h i l = sym (with-v y g i l) ∙ with-v z h i l
  grow-told {T = T} (go_right {u = u} {b = b} {l = l} {r = r} {r' = r'} lt e g) (told_fork zs os al x y) f = told_fork zs ones same x (grow-told g y (subst Differs (find-right (bit v) u b l r e) f))
    where
      ones : (z : ℕ) → In z r' → bit z b ≡ true
      ones z h = ⊎_elim (λ q. ap (λ (k : ℕ). bit k b) q ∙ e) (λ q. os z q) (grow_in g h)

      with-v : (z : ℕ) → In z (fork u b l r') → (i : ℕ) → i < b → bit v i ≡ bit z i
      with-v z h i k =
          ⊎_elim (λ q. ap (λ (j : ℕ). bit j i) (sym q)) (λ q. f.alike i (omega arith) ∙ al _ z (find_in (bit v) (fork u b l r)) q i k)
          (grow_in {s = 0} (go_right lt e g) h)

      same : (y z : ℕ) → In y (fork u b l r') → In z (fork u b l r') → (i : ℕ) → i < b → bit y i ≡ bit z i
      same y z g h i l = sym (with-v y g i l) ∙ with-v z h i l
