-- Laws of the output's lines. Assumes nothing.
use Prim.Native.Nat.{ℕ, suc, min, ◌+◌, ◌<◌}
use mathlib.Core.Path.{◌≡◌, refl, sym, ap, ◌∙◌}
use mathlib.Core.List.{List, [], ◌∷◌, ◌++◌, append-nil, append_assoc}
use mathlib.Core.Bool.{Bool, true, false, cond}
use native.Mathlib.Nat.{suc-ne-zero, not-suc-le-zero}
use native.Mathlib.Omega.{arith}
use borrow.Author.Tests.{eq-eqb, ne_eqb, eqb-true, eqb-false}
use lib.Dec.{eqb}
use lib.ListN.{length, get_or, take}
use lib.Seq.{take-suc}
use native.Mathlib.Numerals.{add-one}
use Rattle.index.specs.declared.Reply.{Reply}
use Rattle.text.specs.Text.{decimal}
use Rattle.text.proofs.Laws.Buffers.{take_min}
use Rattle.report.specs.Lines.{line_text, node_lines, answer_text, listed_by}

module _ (name : List ℕ) (r : Reply) where
  pub nodes-none : node_lines name r [] ≡ []
  unfolding node_lines
  nodes-none = refl

  -- One node more.
  pub nodes-more : (l : List ℕ) (v : ℕ) → node_lines name r (l ++ (v ∷ [])) ≡ node_lines name r l ++ line_text name r (decimal v)
  unfolding node_lines
  nodes-more [] v = append-nil (line_text name r (decimal v))
  nodes-more (x ∷ l) v =
      ap (λ (t : List ℕ). line_text name r (decimal x) ++ t) (nodes-more l v)
      ∙ sym (append_assoc (line_text name r (decimal x)) (node_lines name r l) (line_text name r (decimal v)))

  -- One node more, behind what is there.
  pub nodes-step : (a l : List ℕ) (i : ℕ) → i < length l →
      a ++ node_lines name r (take (i + 1) l) ≡ (a ++ node_lines name r (take i l)) ++ line_text name r (decimal (get_or l i 0))
  nodes-step a l i h =
      ap (λ (t : List ℕ). a ++ node_lines name r t) (ap (λ (k : ℕ). take k l) (add-one i) ∙ take-suc l i 0 h)
      ∙ ap (λ (t : List ℕ). a ++ t) (nodes-more (take i l) (get_or l i 0))
      ∙ sym (append_assoc a (node_lines name r (take i l)) (line_text name r (decimal (get_or l i 0))))

  -- The line that stands alone where there is no node.
  pub alone : List ℕ → List ℕ
  alone [] = line_text name r []
  alone (v ∷ l) = []

  pub alone-none : (l : List ℕ) → eqb (length l) 0 ≡ true → line_text name r [] ≡ alone l
  unfolding alone
  alone-none [] e = refl
  alone-none (v ∷ l) e = absurd (suc-ne-zero _ (eqb-true (suc (length l)) 0 e))

  pub alone-some : (l : List ℕ) → eqb (length l) 0 ≡ false → [] ≡ alone l
  unfolding alone
  alone-some [] e = absurd (eqb-false 0 0 e refl)
  alone-some (v ∷ l) e = refl

  pub answer-parts : (l : List ℕ) → alone l ++ node_lines name r l ≡ answer_text name r l
  unfolding alone answer_text node_lines
  answer-parts [] = append-nil (line_text name r [])
  answer-parts (v ∷ l) = refl

  pub answer-none : (l : List ℕ) → [] ≡ l → line_text name r [] ≡ answer_text name r l
  unfolding answer_text
  answer-none l e = ap (answer_text name r) e

  pub answer-some : (l : List ℕ) → 0 < length l → node_lines name r l ≡ answer_text name r l
  unfolding answer_text
  answer-some [] h = absurd (not-suc-le-zero h)
  answer-some (v ∷ l) h = refl

-- Of nodes as many are listed as the reply says and as there are; under a refusal none.
pub shown-accepted : (r : Reply) (nodes : List ℕ) (m : ℕ) → r.refusal ≡ 0 → m ≡ min (length nodes) r.total → take m nodes ≡ listed_by r (take r.total nodes)
unfolding listed_by
shown-accepted r nodes m e h =
    take_min r.total m nodes (omega arith) ∙ sym (ap (λ (b : Bool). cond b (take r.total nodes) []) (eq-eqb r.refusal 0 e))

pub shown-refused : (r : Reply) (nodes : List ℕ) → (r.refusal ≡ 0 → ⊥) → [] ≡ listed_by r nodes
unfolding listed_by
shown-refused r nodes e = sym (ap (λ (b : Bool). cond b nodes []) (ne_eqb r.refusal 0 e))
