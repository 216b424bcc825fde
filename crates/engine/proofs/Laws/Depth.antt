-- How deep the stack is: not deeper than the level of its top's node, so that a tree of 64 levels needs no more than 64 entries. Assumes nothing.
--   level-properly      a proper descendant has a higher level
--   line-depth, depth   as many entries are below the top as it has proper ancestors, or fewer
--   depth-next          there is a place for a node that comes under the top
-- Letters: p parents; k words, W their lists; s the first node met; ys stack, d the top's place; u under w, c, x nodes.
use Prim.Native.Nat.{ℕ, zero, suc, ◌≤◌, ◌<◌}
use mathlib.Core.Path.{◌≡◌, sym, ◌∙◌}
use mathlib.Core.List.{List}
use mathlib.Core.Bool.{true}
use mathlib.Core.Logic.{⊎_elim}
use native.Mathlib.Omega.{arith}
use borrow.Author.Tests.{eqb-true}
use lib.ListN.{length}
use Rattle.seq.proofs.Laws.Numbers.{rise}
use Rattle.tree.specs.Tree.{parent, under, properly, level}
use Rattle.tree.specs.Plain.{Preorder, Down}
use Rattle.tree.proofs.Laws.Lines.{under-root, under_cases, level-root, level-suc}
use Rattle.tree.proofs.Laws.Under.{under_le, parents-before}
use Rattle.tree.proofs.Laws.Ways.{properly-of, properly-under, properly_ne, properly-parent}
use Rattle.engine.specs.declared.Entry.{Entry}
use Rattle.engine.specs.Inner.Meaning.{Line, node_at, Standing}

module _ (p : List ℕ) (o : Preorder p (length p)) (k : ℕ) (W : ℕ → List ℕ) where
  down : Down p (length p)
  down = parents-before p (length p) o

  -- ---- levels
  level-under : (w u : ℕ) → u < length p → under p w u ≡ true → level p w ≤ level p u
  level-under w =
      rise (λ (u : ℕ). u < length p → under p w u ≡ true → level p w ≤ level p u)
      (λ l e. let z : w ≡ 0 = eqb-true w 0 (sym (under-root p w) ∙ e) in rw z (omega arith))
      (λ u ih l e. ⊎_elim
      (λ (z : w ≡ suc u). rw z (omega arith))
      (λ z. omega (arith, level-suc p (length p) down u l, ih (parent p (suc u)) (down u l) (omega (arith, down u l)) z))
      (under_cases p (length p) down w u l e))

  pub level-properly : (w u : ℕ) → u < length p → properly p w u ≡ true → level p w < level p u
  level-properly w zero l e = absurd (properly_ne p w 0 e (eqb-true w 0 (sym (under-root p w) ∙ properly-under p w 0 e)))
  level-properly w (suc u) l e = omega (arith, level-suc p (length p) down u l, level-under w (parent p (suc u)) (omega (arith, down u l)) (properly-parent p (length p) down w u l e))

  level-some : (u : ℕ) → u < length p → 0 < level p u
  level-some zero l = omega (arith, level-root p)
  level-some (suc u) l = omega (arith, level-suc p (length p) down u l)

  -- ---- the stack
  pub line-depth : (s : ℕ) (ys : List Entry) (d c : ℕ) → c < length p → Line p k W s ys d c → d < level p c
  unfolding Line
  line-depth s ys zero c l w = level-some c l
  line-depth s ys (suc d) c l w =
      let h : node_at ys d ≤ c = under_le p (length p) down (node_at ys d) c l (properly-under p (node_at ys d) c w.0.above) in
      omega (arith, line-depth s ys d (node_at ys d) (omega arith) w.1, level-properly (node_at ys d) c l w.0.above)

  pub depth : (s : ℕ) (ys : List Entry) (d : ℕ) → Standing p k W s ys d → d < level p (node_at ys d)
  depth s ys d w = line-depth s ys d (node_at ys d) w.node w.line

  -- A node that comes under the top is deeper, so there is a place for it.
  pub depth-next : (x : ℕ) (ys : List Entry) (d : ℕ) → Standing p k W (suc x) ys d → x < length p → node_at ys d < x → suc d < level p x
  depth-next x ys d w lx over =
      omega (
        arith,
        depth (suc x) ys d w,
        level-properly (node_at ys d) x lx (properly-of p (node_at ys d) x (w.reach x (omega arith) (omega arith) lx) (λ (z : node_at ys d ≡ x). omega arith)),
      )
