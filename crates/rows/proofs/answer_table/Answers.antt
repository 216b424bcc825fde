-- `rows::answer_table` meets its contract: the header line, and then the line of INPUT or the lines of the three searches.
use Prim.Native.Nat.{ℕ}
use mathlib.Core.Path.{refl, sym, ap, ◌∙◌}
use mathlib.Core.List.{◌++◌}
use native.Mathlib.Omega.{arith}
use lib.Seq.{length-take-le}
use Rattle.std.proofs.Common.{rules}
use Rattle.text.specs.Text.{bytes}
use Rattle.rows.specs.Output.{head_text, input_text, table_output}
use Rattle.rows.proofs.Laws.Output.{output-broken}
use Rattle.rows.proofs.Tabled.{table-words, table_product, table-nodes, table-full, output-taken, Rest, output-end}
use Rattle.rows.proofs.answer_table.Goals as goal
use Rattle.rows.proofs.answer_table.Goals.{in-Err, in-Ok}

pub overflow_add-m : goal.overflow_add-m
overflow_add-m c = omega (arith, table-words _ _ _ c.read_table-read.ensures.read c.in-Ok.is _ c.read_table-read.ensures.cells)

pub overflow_mul-m : goal.overflow_mul-m
overflow_mul-m c = omega (arith, table-words _ _ _ c.read_table-read.ensures.read c.in-Ok.is _ c.read_table-read.ensures.cells)

pub overflow_add-m-in-Ok : goal.overflow_add-m-in-Ok
overflow_add-m-in-Ok c = omega (arith, table-words _ _ _ c.read_table-read.ensures.read c.in-Ok.is _ c.read_table-read.ensures.cells)

pub overflow_mul-m-in-Ok : goal.overflow_mul-m-in-Ok
overflow_mul-m-in-Ok c = omega (arith, table_product _ _ _ c.read_table-read.ensures.read c.in-Ok.is _ c.read_table-read.ensures.cells)

pub slice_bounds-cells-end : goal.slice_bounds-cells-end
slice_bounds-cells-end c =
    omega (arith, table_product _ _ _ c.read_table-read.ensures.read c.in-Ok.is _ c.read_table-read.ensures.cells, c.read_table-read.auto.cells)

pub slice_bounds-cells-end-in-Ok : goal.slice_bounds-cells-end-in-Ok
slice_bounds-cells-end-in-Ok c =
    sym (length-take-le _ _ (omega (arith, table_product _ _ _ c.read_table-read.ensures.read c.in-Ok.is _ c.read_table-read.ensures.cells, c.read_table-read.auto.cells)))

pub invariant_of-put_answers : goal.invariant_of-put_answers
invariant_of-put_answers c = record {
  few_words = table-words _ _ _ c.read_table-read.ensures.read c.in-Ok.is _ c.read_table-read.ensures.cells;
  few_nodes = table-nodes _ _ _ c.read_table-read.ensures.read c.in-Ok.is _ c.read_table-read.ensures.cells;
  full = table-full _ _ _ c.read_table-read.ensures.read c.in-Ok.is _ c.read_table-read.ensures.cells;
}

pub returns : goal.returns
unfolding bytes head_text input_text
returns c =
    let rest : Rest head_text (table_output c.args.input.now) c.put_all.new.self c.match-read.out = elim c.match-read.branch [
      | in-Err w ↦ rw w.out-is (record {
        text = _;
        added = w.put_bare.ensures;
        whole = ap (λ (n : ℕ). head_text ++ input_text n) w.place_of.ensures ∙ output-broken _ _ _ c.read_table-read.ensures.read w.in-Err.is;
      })
      | in-Ok w ↦ rw w.out-is (record {
        text = _;
        added = w.put_answers.ensures;
        whole = output-taken _ _ _ c.read_table-read.ensures.read w.in-Ok.is _ c.read_table-read.ensures.cells;
      })
    ] in
    output-end _ _ _ _ _ _ refl c.put_all.ensures rest (λ n. search rules)
