-- The whole output, by what reading the input gives. Assumes nothing.
-- Letters: s input; t the table's numbers of words and nodes; cs cells lent, cs' cells after reading.
use Prim.Native.Nat.{ℕ, ◌+◌, ◌*◌, ◌≤◌}
use mathlib.Core.Path.{◌≡◌, sym, ap, ap₂, ◌∙◌}
use mathlib.Core.List.{List, ◌++◌}
use native.Mathlib.Nat.{mul-le-mul_right, mul-le-mul_left}
use native.Mathlib.Omega.{arith}
use lib.ListN.{length, take, replicate}
use Rattle.text.specs.declared.Writer.{Writer}
use Rattle.text.specs.Buffers.{front, Wrote, Added}
use Rattle.text.proofs.Laws.Adding.{added-step, added-all}
use Rattle.text.proofs.Laws.Buffers.{front-take}
use Rattle.sheet.specs.declared.Shape.{Shape}
use Rattle.std.specs.Prelude.{Result, Ok}
use Rattle.sheet.specs.declared.Broken.{Broken}
use Rattle.sheet.specs.Promises.{read_of, cells_read}
use Rattle.sheet.proofs.Laws.Reading.{Taking, taken_at}
use Rattle.rows.specs.Output.{answers_text, head_text, table_output}
use Rattle.rows.proofs.Laws.Output.{output-table}
use Rattle.rows.specs.Inner.{table_in}

-- ---- a table
module _ (s : List ℕ) (t : Shape) (r : Result Shape Broken) (e : r ≡ read_of s) (f : r ≡ Ok t) (cs' : List ℕ) (h : cs' ≡ front (cells_read s) (replicate 4608 0)) where
  taking : Taking s t
  taking = taken_at s t (sym e ∙ f)

  pub table-words : t.p + t.q ≤ 8
  table-words = taking.words

  pub table_product : t.n * (2 + 2 * (t.p + t.q)) ≤ 4608
  table_product =
      omega (
        arith,
        mul-le-mul_right {m = t.n} {n = 256} (2 + 2 * (t.p + t.q)) taking.nodes,
        mul-le-mul_left {m = 2 + 2 * (t.p + t.q)} {n = 18} 256 (omega (arith, table-words)),
      )

  cells : take (t.n * (2 + 2 * (t.p + t.q))) cs' ≡ cells_read s
  cells = ap₂ take (sym taking.size) h ∙ front-take (cells_read s) (replicate 4608 0) (omega (arith, taking.size, table_product))

  pub table-nodes : t.n ≤ 256
  table-nodes = taking.nodes

  pub table-full : length (take (t.n * (2 + 2 * (t.p + t.q))) cs') ≡ t.n * (2 + 2 * (t.p + t.q))
  table-full = ap length cells ∙ taking.size

  pub output-taken : head_text ++ answers_text (table_in t (take (t.n * (2 + 2 * (t.p + t.q))) cs')) ≡ table_output s
  output-taken =
      ap (λ (x : List ℕ). head_text ++ answers_text (table_in t x)) cells ∙ ap (λ x. head_text ++ answers_text x) (sym taking.table)
      ∙ output-table s t r e f

-- ---- the writer of the output
-- What has been added behind a text h makes the text x.
pub record Rest (h x : List ℕ) (w w' : Writer ℕ) : Type 0 where
  pub text : List ℕ
  pub added : Added text w w'
  pub whole : h ++ text ≡ x

-- What stands in the buffer at the end.
pub output-end : (h x y : List ℕ) (w w' w'' : Writer ℕ) → w.at ≡ 0 → Added h w w' → Rest h x w' w'' → (w''.out.ghost_name ≡ w.out.ghost_name → y ≡ w''.out.now) → Wrote x w.out.now y w''.at
output-end h x y w w' w'' e a r f =
    let all : Added x w w'' = added-step h r.text x w w' w'' a r.added (sym r.whole) in
    let k : Wrote x w.out.now w''.out.now w''.at = added-all x w w'' e all in
    record { holds = f all.same ∙ k.holds; next = k.next }
