-- Laws of Whole. Assumes nothing.
--   output-held    an array of 16,384 bytes holds the whole output of any input
--   whole_length, whole-within   the output is that front of the array, and lies within it
--   whole_unique   no second outcome fits `answer_whole`
-- Letters: s input; o the array lent, a b the array at the end, r q how many bytes of it are the output.
use Prim.Native.Nat.{ℕ, ◌≤◌}
use mathlib.Core.Path.{◌≡◌, sym, ap, ap₂, ◌∙◌}
use mathlib.Core.List.{List, ◌++◌}
use native.Mathlib.Omega.{arith}
use lib.ListN.{length, take, drop, length-take, take-append-drop}
use Rattle.seq.proofs.Laws.Memory.{drop-over}
use Rattle.text.specs.Buffers.{Wrote}
use Rattle.text.proofs.Laws.Buffers.{Same, front_fits, front-take}
use Rattle.rows.specs.Output.{table_output}
use Rattle.table_laws.proofs.Meaning.{output-fits}
use Rattle.whole.specs.Promises.{Whole}

pub output-held : (s o a : List ℕ) (r : ℕ) → 16384 ≤ length o → Wrote (table_output s) o a r → Whole s o a r
output-held s o a r h w = record {
  size = here;
  whole = ap₂ take here w.holds ∙ front-take (table_output s) o fits;
  rest = ap (drop r) (w.holds ∙ front_fits (table_output s) o fits) ∙ drop-over r (table_output s) o (omega (arith, here));
}
  where
    fits : length (table_output s) ≤ length o
    fits = omega (arith, output-fits s)

    here : r ≡ length (table_output s)
    here = omega (arith, w.next, fits)

module _ (s o a : List ℕ) (r : ℕ) (w : Whole s o a r) where
  pub whole_length : r ≡ length (take r a)
  whole_length = w.size ∙ sym (ap length w.whole)

  pub whole-within : r ≤ length a
  whole-within = omega (arith, whole_length, length-take r a)

-- What the array holds at the end: the output, and the rest as it was lent.
whole_is : (s o a : List ℕ) (r : ℕ) → Whole s o a r → a ≡ table_output s ++ drop r o
whole_is s o a r w = sym (take-append-drop r a) ∙ ap₂ ◌++◌ w.whole w.rest

pub whole_unique : (s o a b : List ℕ) (r q : ℕ) → Whole s o a r → Whole s o b q → Same a b r q
whole_unique s o a b r q x y = record {
  buffer = whole_is s o a r x ∙ ap (λ (n : ℕ). table_output s ++ drop n o) same ∙ sym (whole_is s o b q y);
  next = same;
}
  where
    same : r ≡ q
    same = x.size ∙ sym y.size
