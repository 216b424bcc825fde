-- The end of `number`: the rows are cleared where all fits.
--   all-fit                         what `take_all` asks
--   rows_fit                        the rows are there to be cleared
--   rows-cleared, numbered          and then all is as promised
-- Letters as in specs/Names; w₁ work before it is cleared, w₂ its rows after. Assumes nothing.
use Prim.Native.Nat.{ℕ, ◌+◌, ◌*◌, ◌≤◌}
use mathlib.Core.Path.{◌≡◌, sym, ap, ap₂, ◌∙◌}
use mathlib.Core.List.{List, ◌++◌}
use mathlib.Core.Bool.{true}
use native.Mathlib.Omega.{arith}
use lib.ListN.{length, take, drop, replicate, length-drop}
use lib.Seq.{length-take-le, get_or-drop, ext_get_or}
use Rattle.seq.specs.Memory.{zeroed}
use Rattle.seq.proofs.Laws.Memory.{length-zeroed}
use Rattle.names.specs.Names.{fits, Numbered}
use Rattle.names.specs.Inner.Calls.{Fit, All}
use Rattle.names.proofs.Laws.{fits-at}

module _ (t fs ms w : List ℕ) (f : fits t fs ms w ≡ true) where
  pub all-fit : Fit t fs ms w
  all-fit = fits-at t fs ms w f

  module _ (ts w₁ : List ℕ) (a : All t fs ms w ts w₁) where
    pub rows_fit : 3 * length ms ≤ length w₁
    rows_fit = omega (arith, all-fit.long, a.rows)

    rows_taken : 3 * length ms ≡ length (take (3 * length ms) w₁)
    rows_taken = sym (length-take-le (3 * length ms) w₁ rows_fit)

    -- What is behind the rows is as it was.
    behind : drop (3 * length ms) w₁ ≡ drop (3 * length ms) w
    behind =
        ext_get_or 0 _ _ (omega (arith, length-drop (3 * length ms) w₁, length-drop (3 * length ms) w, a.rows))
        (λ i l. get_or-drop (3 * length ms) w₁ i 0 ∙ a.rest (3 * length ms + i) (omega arith) ∙ sym (get_or-drop (3 * length ms) w i 0))

    module _ (w₂ : List ℕ) (e : w₂ ≡ replicate (length (take (3 * length ms) w₁)) 0) where
      rows-cleared : w₂ ++ drop (3 * length ms) w₁ ≡ zeroed (3 * length ms) w
      unfolding zeroed
      rows-cleared = ap₂ (λ (x y : List ℕ). x ++ y) (e ∙ ap (λ (k : ℕ). replicate k 0) (sym rows_taken)) behind

      pub work-long : length (w₂ ++ drop (3 * length ms) w₁) ≡ length w
      work-long = ap length rows-cleared ∙ length-zeroed (3 * length ms) w all-fit.long

      pub numbered : Numbered t fs ms w ts (w₂ ++ drop (3 * length ms) w₁) true
      numbered = record { reply = sym f; tags = a.tags; work = rows-cleared }
