-- Trees of names in their rows: what a change of one entry leaves as it was, and the leaf that a name leads to.
--   rep_has            inner nodes are numbers above 0 and below n
--   rep-keeps          rows that are the same at a tree's inner nodes hold the same tree
--   rep-from           the bits of a tree from another bit on
--   find_in            the leaf that bits lead to is one
--   find-same          a leaf's own bits lead to it
--   top-past           a tree is not told by a bit in which the leaf found differs
--   told-alike         above its first bit all leaves of a tree are alike
-- Letters as in specs/Inner/Tree. Assumes nothing.
use Prim.Native.Nat.{ℕ, suc, ◌+◌, ◌*◌, ◌≤◌, ◌<◌}
use mathlib.Core.Path.{◌≡◌, refl, sym, ap, ◌∙◌}
use mathlib.Core.Logic.{⊎_elim}
use mathlib.Core.List.{List}
use mathlib.Core.Bool.{Bool, true, false}
use native.Mathlib.Nat.{eq-or-lt_of_le}
use native.Mathlib.Omega.{arith}
use lib.ListN.{get_or}
use Rattle.seq.proofs.Laws.Bools.{bool_cases}
use Rattle.names.specs.Inner.Tree.{Tree, leaf, fork, In, itself, in_left, in_right, Has, top, has_left, has_right, Rep, rep_leaf, rep_fork, Told, told_leaf, told_fork, find, Top, top_leaf, top_fork}

-- ---- the rows
pub record Inner (n u : ℕ) : Type 0 where
  pub some : 0 < u
  pub below : u < n

pub rep_has : {n : ℕ} {w : List ℕ} {m k u : ℕ} {T : Tree} → Rep n w m k T → Has u T → Inner n u
rep_has (rep_leaf e l) h = elim h [ ]
rep_has (rep_fork e z l eb a c x y) top = record { some = z; below = l }
rep_has (rep_fork e z l eb a c x y) (has_left h) = rep_has x h
rep_has (rep_fork e z l eb a c x y) (has_right h) = rep_has y h

-- The rows are the same at u.
pub record Kept (n : ℕ) (w w' : List ℕ) (u : ℕ) : Type 0 where
  pub left : get_or w' u 0 ≡ get_or w u 0
  pub right : get_or w' (n + u) 0 ≡ get_or w (n + u) 0
  pub bit : get_or w' (2 * n + u) 0 ≡ get_or w (2 * n + u) 0

pub rep-keeps : {n : ℕ} {w w' : List ℕ} {m k : ℕ} {T : Tree} → ((u : ℕ) → Has u T → Kept n w w' u) → Rep n w m k T → Rep n w' m k T
rep-keeps h (rep_leaf e l) = rep_leaf e l
rep-keeps h (rep_fork {u = u} {l = p} {r = q} e z l eb a c x y) =
    rep_fork {l = p} {r = q} e z l (eb ∙ sym (h u top).bit) a c (rw (h u top).left (rep-keeps (λ v i. h v (has_left i)) x))
    (rw (h u top).right (rep-keeps (λ v i. h v (has_right i)) y))

pub rep-from : {n m k d : ℕ} {w : List ℕ} {T : Tree} → Rep n w m k T → Top d T → Rep n w d k T
rep-from (rep_leaf e l) t = rep_leaf e l
rep-from (rep_fork e z l eb a c x y) (top_fork t) = rep_fork e z l eb t c x y

-- ---- the leaf that bits lead to
pub find-left : (β : ℕ → Bool) (u b : ℕ) (l r : Tree) → β b ≡ false → find β (fork u b l r) ≡ find β l
unfolding find
find-left β u b l r e = rw e

pub find-right : (β : ℕ → Bool) (u b : ℕ) (l r : Tree) → β b ≡ true → find β (fork u b l r) ≡ find β r
unfolding find
find-right β u b l r e = rw e

pub find_in : (β : ℕ → Bool) (T : Tree) → In (find β T) T
unfolding find
find_in β (leaf v) = itself
find_in β (fork u b l r) = ⊎_elim (λ q. rw q (in_right (find_in β r))) (λ q. rw q (in_left (find_in β l))) (bool_cases (β b))

pub find-same : {bit : ℕ → ℕ → Bool} {T : Tree} (β : ℕ → Bool) (z : ℕ) → Told bit T → In z T → ((i : ℕ) → β i ≡ bit z i) → find β T ≡ z
unfolding find
find-same β z told_leaf itself h = refl
find-same β z (told_fork {u} {b} {l} {r} f t a x y) (in_left i) h = find-left β u b l r (h b ∙ f z i) ∙ find-same β z x i h
find-same β z (told_fork {u} {b} {l} {r} f t a x y) (in_right i) h = find-right β u b l r (h b ∙ t z i) ∙ find-same β z y i h

pub top-past : {bit : ℕ → ℕ → Bool} {d : ℕ} {T : Tree} (β : ℕ → Bool) → Told bit T → Top d T → (bit (find β T) d ≡ β d → ⊥) → Top (suc d) T
top-past β told_leaf top_leaf e = top_leaf
top-past {bit} {d} β (told_fork {u} {b} {l} {r} f t a x y) (top_fork h) e = ⊎_elim no (λ q. top_fork q) (eq-or-lt_of_le h)
  where
    no : d ≡ b → Top (suc d) (fork u b l r)
    no q =
        absurd (e (rw q
        (⊎_elim
        (λ p. ap (λ (z : ℕ). bit z b) (find-right β u b l r p) ∙ t (find β r) (find_in β r) ∙ sym p)
        (λ p. ap (λ (z : ℕ). bit z b) (find-left β u b l r p) ∙ f (find β l) (find_in β l) ∙ sym p) (bool_cases (β b)))))

pub told-alike : {bit : ℕ → ℕ → Bool} {d y z : ℕ} {T : Tree} → Told bit T → Top (suc d) T → In y T → In z T → (i : ℕ) → i ≤ d → bit y i ≡ bit z i
told-alike told_leaf t itself itself i l = refl
told-alike {y = y} {z = z} (told_fork f t a l r) (top_fork h) p q i g = a y z p q i (omega arith)
