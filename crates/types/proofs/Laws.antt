-- Laws of the flags of types that repeat, for callers. Assumes nothing.
--   repeat_kept       rows stay as lent where they do not fit
--   repeat_fits       when they fit
--   repeat_fit        where they fit, the flags and two rows of zeros stand over their front
--   repeat_unique     no second outcome fits the contract
-- Letters: p parents, t tags, w rows; v node.
use Prim.Native.Nat.{ℕ, ◌*◌, ◌≤◌, ◌<◌}
use mathlib.Core.Path.{◌≡◌, sym, ap₂, ◌∙◌}
use mathlib.Core.List.{List, [], ◌++◌}
use mathlib.Core.Bool.{Bool, true, false}
use native.Mathlib.Omega.{arith}
use borrow.Author.Tests.{le-leb, eq-eqb}
use lib.ListN.{length, take, drop, replicate, length-append, length-replicate, drop_of_length-le}
use lib.Seq.{length-take-le}
use Rattle.seq.specs.Below.{tabulate}
use Rattle.seq.specs.Memory.{over}
use Rattle.seq.proofs.Laws.Bools.{and_both}
use Rattle.seq.proofs.Laws.Gather.{length-tabulate}
use Rattle.tree.specs.Rules.{tree_bad}
use Rattle.tree.proofs.Laws.Rules.{lawful-of}
use Rattle.types.specs.Repeated.{repeat_flag, fits_types, flag_rows, repeat_rows, RepeatedFlagged}
use Rattle.types.specs.Inner.Numbers.{MakePre}

pub length-flag_rows : (p t : List ℕ) → length (flag_rows p t) ≡ length p * 3
unfolding flag_rows
length-flag_rows p t =
    omega (arith, length-append (tabulate (length p) (repeat_flag p t)) (replicate (length p * 2) 0), length-tabulate (length p) (repeat_flag p t), length-replicate {A = ℕ} (length p * 2) 0)

pub repeat_fits : (p t : List ℕ) (w : ℕ) → length p ≤ 65536 → length t ≡ length p → length p * 3 ≤ w → tree_bad p t ≡ length p → fits_types p t w ≡ true
unfolding fits_types
repeat_fits p t w few tagged room good =
    and_both _ _ (le-leb (length p) 65536 few)
    (and_both _ _ (eq-eqb (length t) (length p) tagged) (and_both _ _ (le-leb (length p * 3) w room) (eq-eqb (tree_bad p t) (length p) good)))

module _ (p t w : List ℕ) where
  pub repeat_kept : fits_types p t (length w) ≡ false → RepeatedFlagged p t w false w
  unfolding repeat_rows
  repeat_kept e = record { fits = sym e; rows = rw e }

  -- r is what the tree check says, as the code has it.
  module _ (r : ℕ) (er : r ≡ tree_bad p t) where
    module _ (few : length p ≤ 65536) (tagged : length t ≡ length p) (room : length p * 3 ≤ length w) (good : r ≡ length p) where
      fits : fits_types p t (length w) ≡ true
      fits = repeat_fits p t (length w) few tagged room (sym er ∙ good)

      pub repeat_pre : 0 < length p → MakePre p t (take (length p * 3) w)
      repeat_pre some = record {
        some = some;
        few = few;
        tagged = tagged;
        tree = lawful-of p t (omega arith);
        long = length-take-le (length p * 3) w room;
      }

      pub repeat_made : (a : List ℕ) → a ≡ flag_rows p t → RepeatedFlagged p t w true (a ++ drop (length p * 3) w)
      unfolding repeat_rows over
      repeat_made a e = record { fits = sym fits; rows = rw fits (ap₂ (λ (x : List ℕ) (z : ℕ). x ++ drop z w) e (sym (length-flag_rows p t))) }

      -- With no node there is nothing to write.
      pub repeat_empty : length p ≤ 0 → RepeatedFlagged p t w true w
      unfolding repeat_rows over
      repeat_empty z = record { fits = sym fits; rows = rw fits (sym (ap₂ (λ (x : List ℕ) (y : ℕ). x ++ drop y w) none (length-flag_rows p t ∙ zero-rows))) }
        where
          none : flag_rows p t ≡ []
          none = drop_of_length-le (flag_rows p t) {i = 0} (omega (arith, length-flag_rows p t))

          zero-rows : length p * 3 ≡ 0
          zero-rows = omega arith

-- ---- what the rows become
-- Where the call says true, the flags and two rows of zeros stand over the front of the rows.
pub repeat_fit : (p t w : List ℕ) → fits_types p t (length w) ≡ true → repeat_rows p t w ≡ over (flag_rows p t) w
unfolding repeat_rows
repeat_fit p t w e = rw e

pub repeat_unfit : (p t w : List ℕ) → fits_types p t (length w) ≡ false → repeat_rows p t w ≡ w
unfolding repeat_rows
repeat_unfit p t w e = rw e

-- ---- no second outcome fits
pub repeat_unique : (p t w : List ℕ) (r r' : Bool) (w' w'' : List ℕ) → RepeatedFlagged p t w r w' → RepeatedFlagged p t w r' w'' → (r ≡ r') × (w' ≡ w'')
repeat_unique p t w r r' w' w'' a b = (a.fits ∙ sym b.fits, a.rows ∙ sym b.rows)
