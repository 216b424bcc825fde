-- The whole output, by what reading the input gives, and that no second outcome fits `answer_table`. Assumes nothing.
-- Letters: s input; t the table's numbers of words and nodes; r what reading gives.
use Prim.Native.Nat.{ℕ}
use mathlib.Core.Path.{◌≡◌, refl, sym, ap, ◌∙◌}
use mathlib.Core.List.{List, ◌++◌}
use mathlib.Core.Bool.{Bool, true, false, cond}
use lib.Dec.{ltb}
use lib.ListN.{length}
use Rattle.text.specs.Text.{lines}
use Rattle.text.specs.Buffers.{Wrote}
use Rattle.text.proofs.Laws.Buffers.{Same}
use Rattle.sheet.specs.declared.Shape.{Shape}
use Rattle.std.specs.Prelude.{Result, Ok, Err}
use Rattle.sheet.specs.declared.Broken.{Broken}
use Rattle.sheet.specs.declared.Broken.TheVariants.{TooLong, Line}
use Rattle.sheet.specs.Table.{broken, table_of}
use Rattle.sheet.specs.Promises.{read_lines, read_of}
use Rattle.rows.specs.Output.{place_of, answers_text, head_text, input_text, lines_output, table_output}

-- What follows the header line.
read_text : List ℕ → Result Shape Broken → List ℕ
read_text s (Err b) = input_text (place_of b)
read_text s (Ok t) = answers_text (table_of (lines s))

read-cond : (s : List ℕ) (b : Bool) (x y : Result Shape Broken) → cond b (read_text s x) (read_text s y) ≡ read_text s (cond b x y)
read-cond s true x y = refl
read-cond s false x y = refl

output-read : (s : List ℕ) → table_output s ≡ head_text ++ read_text s (read_of s)
unfolding table_output lines_output read_of read_lines read_text
output-read s =
    ap (λ (x : List ℕ). head_text ++ x)
    (ap (cond (ltb 16384 (length s)) (input_text 0)) (read-cond s (ltb (broken (lines s)) (length (lines s))) (Err (Line _)) (Ok _))
    ∙ read-cond s (ltb 16384 (length s)) (Err TooLong) _)

pub output-broken : (s : List ℕ) (b : Broken) (r : Result Shape Broken) → r ≡ read_of s → r ≡ Err b → head_text ++ input_text (place_of b) ≡ table_output s
unfolding read_text
output-broken s b r e f = sym (output-read s ∙ ap (λ (x : Result Shape Broken). head_text ++ read_text s x) (sym e ∙ f))

pub output-table : (s : List ℕ) (t : Shape) (r : Result Shape Broken) → r ≡ read_of s → r ≡ Ok t → head_text ++ answers_text (table_of (lines s)) ≡ table_output s
unfolding read_text
output-table s t r e f = sym (output-read s ∙ ap (λ (x : Result Shape Broken). head_text ++ read_text s x) (sym e ∙ f))

-- ---- no second outcome fits
pub answer_unique : (s o a b : List ℕ) (r r' : ℕ) → Wrote (table_output s) o a r → Wrote (table_output s) o b r' → Same a b r r'
answer_unique s o a b r r' x y = record { buffer = x.holds ∙ sym y.holds; next = x.next ∙ sym y.next }
