-- The walks over the nodes: what the loops know, and how a turn keeps it. Assumes nothing.
--   Growing   the loop that counts children
--   Passing   the loop that passes the closest entity down
-- Letters: p parents, t tags, n nodes, w a row; v u nodes, c child.
use Prim.Native.Nat.{ℕ, zero, suc, ◌+◌, ◌≤◌, ◌<◌}
use mathlib.Core.Path.{◌≡◌, sym, ap, ap₂, ◌∙◌}
use mathlib.Core.Logic.{⊎_elim}
use mathlib.Core.List.{List}
use mathlib.Core.Bool.{Bool, cond}
use native.Mathlib.Numerals.{add-one}
use native.Mathlib.Omega.{arith}
use lib.Dec.{eqb}
use borrow.Author.Tests.{eq-eqb, ne_eqb, eqb-true, eqb-false}
use lib.ListN.{length, get_or, set, length-set}
use lib.Seq.{get_or-set_same, get_or-set_other}
use Rattle.seq.proofs.Laws.Bools.{bool_cases}
use Rattle.seq.proofs.Laws.Loops.{filled_more}
use Rattle.tree.specs.Tree.{parent}
use Rattle.tree.specs.Plain.{Down}
use Rattle.tree.proofs.Laws.Children.{child-of, parent-less}
use Rattle.answers.specs.Classes.{entity, closest}
use Rattle.answers.proofs.Laws.Not.{closest-first, closest-suc}
use Rattle.types.specs.Repeated.{repeat_flag}
use Rattle.entities.specs.Inner.{code_to, grown, entity_by, closest_by, Holds, TreePre, codes}
use Rattle.entities.proofs.Codes.{code-start, code-child, code_other, code-few, entity-code}

-- ---- counting children
pub record Growing (p t w : List ℕ) (c : ℕ) : Type 0 where
  pub some : 1 ≤ c
  pub within : c ≤ length p
  -- the children below c are passed
  pub row : Holds (length p) (code_to p t c) w

pub growing_start : (p t w : List ℕ) → TreePre p t (repeat_flag p t) w → Growing p t w 1
growing_start p t w pre = record {
  some = omega arith;
  within = pre.some;
  row = record { long = pre.row.long; holds = λ v l. pre.row.holds v l ∙ sym (code-start p t v) };
}

module _ (p t w₀ w : List ℕ) (c : ℕ) (pre : TreePre p t (repeat_flag p t) w₀) (s : Growing p t w c) (h : c < length p) where
  -- u is the parent of c, as the code has it.
  module _ (u : ℕ) (e : u ≡ parent p c) where
    grow-node : u < length p
    grow-node = omega (arith, parent-less p (length p) pre.down c s.some h)

    grow-place : u < length w
    grow-place = omega (arith, s.row.long, grow-node)

    pub grow-few : get_or w u 0 ≤ 5
    grow-few = omega (arith, s.row.holds u grow-node, code-few p t u c)

    pub growing_step : (r : ℕ) → r ≡ grown (get_or w u 0) (get_or t c 0) → Growing p t (set w u r) (c + 1)
    growing_step r er = record {
      some = omega arith;
      within = omega arith;
      row = record {
        long = length-set w u r ∙ s.row.long;
        holds = λ v l. ⊎_elim (λ q. here v (eqb-true v u q)) (λ q. there v l (eqb-false v u q)) (bool_cases (eqb v u)) ∙ ap (λ (z : ℕ). code_to p t z v) (sym (add-one c));
      };
    }
      where
        here : (v : ℕ) → v ≡ u → get_or (set w u r) v 0 ≡ code_to p t (suc c) v
        here v q =
            ap (λ (z : ℕ). get_or (set w u r) z 0) q ∙ get_or-set_same w u r 0 grow-place ∙ er ∙ ap (λ (z : ℕ). grown z (get_or t c 0)) (s.row.holds u grow-node ∙ ap (code_to p t c) (sym q))
            ∙ sym (code-child p t v c (child-of p v c s.some ∙ eq-eqb v (parent p c) (q ∙ e)))

        there : (v : ℕ) → v < length p → (v ≡ u → ⊥) → get_or (set w u r) v 0 ≡ code_to p t (suc c) v
        there v l ne =
            get_or-set_other w u v r 0 ne ∙ s.row.holds v l ∙ sym (code_other p t v c (child-of p v c s.some ∙ ne_eqb v (parent p c) (λ q. ne (q ∙ sym e))))

-- ---- passing the closest entity down
closest-at : (p : List ℕ) → Down p (length p) → (t : List ℕ) (v : ℕ) → 0 < v → v < length p → closest p t v ≡ cond (entity p t v) v (closest p t (parent p v))
closest-at p d t zero z l = absurd (no_less z)
  where
    no_less : 0 < 0 → ⊥
    no_less q = omega arith
closest-at p d t (suc u) z l = closest-suc p (length p) d t u l

pub record Passing (p t w : List ℕ) (v : ℕ) : Type 0 where
  pub some : 1 ≤ v
  pub within : v ≤ length p
  pub long : length w ≡ length p
  -- the nodes below v have their closest entity, the others their code
  pub done : (u : ℕ) → u < v → get_or w u 0 ≡ closest p t u
  pub rest : (u : ℕ) → v ≤ u → u < length p → get_or w u 0 ≡ codes p t u

module _ (p t w₀ : List ℕ) (pre : TreePre p t (codes p t) w₀) where
  pass-first : 0 < length w₀
  pass-first = omega (arith, pre.some, pre.row.long)

  pub passing-start : Passing p t (set w₀ 0 0) 1
  passing-start = record {
    some = omega arith;
    within = pre.some;
    long = length-set w₀ 0 0 ∙ pre.row.long;
    done = λ u l. ap (λ (z : ℕ). get_or (set w₀ 0 0) z 0) (none u l) ∙ get_or-set_same w₀ 0 0 0 pass-first ∙ sym (ap (closest p t) (none u l) ∙ closest-first p t);
    rest = λ u l h. get_or-set_other w₀ 0 u 0 0 (λ (q : u ≡ 0). omega arith) ∙ pre.row.holds u h;
  }
    where
      none : (u : ℕ) → u < 1 → u ≡ 0
      none u l = omega arith

  module _ (w : List ℕ) (v : ℕ) (s : Passing p t w v) (h : v < length p) where
    pass-place : v < length w
    pass-place = omega (arith, s.long)

    -- x is what stands at v afterwards.
    stepped : (x : ℕ) → x ≡ closest p t v → Passing p t (set w v x) (v + 1)
    stepped x e = record {
      some = omega arith;
      within = omega arith;
      long = length-set w v x ∙ s.long;
      done = filled_more (closest p t) w v x s.done pass-place e;
      rest = λ u l k. get_or-set_other w v u x 0 (λ (q : u ≡ v). omega arith) ∙ s.rest u (omega arith) k;
    }

    -- u is the parent of v, as the code has it.
    module _ (u : ℕ) (eu : u ≡ parent p v) where
      pass-less : u < v
      pass-less = omega (arith, parent-less p (length p) pre.down v s.some h)

      pub passing_step : (x : ℕ) → x ≡ closest_by (get_or t v 0) (get_or w v 0) v (get_or w u 0) → Passing p t (set w v x) (v + 1)
      unfolding closest_by
      passing_step x e =
          stepped x
          (e ∙ ap₂ (λ (b : Bool) (z : ℕ). cond b v z) (ap (entity_by (get_or t v 0)) (s.rest v (omega arith) h) ∙ entity-code p t v) (s.done u pass-less ∙ ap (closest p t) eu)
          ∙ sym (closest-at p pre.down t v s.some h))
