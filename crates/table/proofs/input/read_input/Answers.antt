-- `table::input::read_input` is safe and ends: each read that tells of bytes brings one at least, and no more than there is room for.
use Rattle.std.proofs.Common.{arith, ◌≡◌, ℕ, zero, suc, ◌-◌, ◌≤◌, List, length, sym, ◌∙◌}
use Rattle.std.specs.Prelude.{Option, Some, Result, Ok, Err}
use Rattle.std.specs.Io.{ReadsAtMost}
use Rattle.std.specs.declared.io.Error.{Error}
use borrow.Rule.Slice.PartMut.{same_len_mid}
use Rattle.table.specs.Reading.{step_of}
use Rattle.table.proofs.input.read_input.Goals as goal

-- At least one byte, and at most as many as there is room for.
record Within (room n : ℕ) : Type 0 where
  pub some : 1 ≤ n
  pub most : n ≤ room

came-within : (part : List ℕ) (r : Result ℕ Error) (o : Option ℕ) (n : ℕ) → ReadsAtMost r part → Ok o ≡ step_of r → o ≡ Some n → Within (length part) n
unfolding step_of
came-within part (Err e) o n m f s = grind arith
came-within part (Ok zero) o n m f s = grind arith
came-within part (Ok (suc k)) o n m f s = let same : suc k ≡ n = grind arith in record { some = omega arith; most = omega (arith, m.0) }

pub overflow_add-at : goal.overflow_add-at
overflow_add-at g c =
    let came = came-within _ _ _ _ c.read-got.ensures.bound (sym c.in_ok-n.was ∙ c.step_of.ensures) c.in-Some.is in
    record { fits = omega (arith, came.most, c.read-got.auto.buf) }

pub loop-at-smaller : goal.loop-at-smaller
loop-at-smaller g c =
    let l = c.loop-at in
    let came = came-within _ _ _ _ c.read-got.ensures.bound (sym c.in_ok-n.was ∙ c.step_of.ensures) c.in-Some.is in
    let same = same_len_mid l.at (length l.buf - l.at) l.buf c.read-got.new.buf c.read-got.auto.buf in
    omega (arith, came, same)

pub loop-at-preserved : goal.loop-at-preserved
loop-at-preserved g c =
    let l = c.loop-at in
    let came = came-within _ _ _ _ c.read-got.ensures.bound (sym c.in_ok-n.was ∙ c.step_of.ensures) c.in-Some.is in
    let same = same_len_mid l.at (length l.buf - l.at) l.buf c.read-got.new.buf c.read-got.auto.buf in
    (omega (arith, came, same), omega (arith, same))
