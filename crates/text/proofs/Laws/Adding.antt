-- Laws of Added: what a writer has put behind what was written. Assumes nothing.
--   added-start, added-step     nothing yet, and one addition after another: what a loop that writes piece by piece keeps
--   added-all, added-within     what has been added from the start of a buffer
--   added-read                  and can be read back
-- Letters: s, t what is added; w the writer before, w' after.
use Prim.Native.Nat.{ℕ, ◌+◌, ◌≤◌, ◌<◌}
use mathlib.Core.Path.{◌≡◌, refl, sym, ap, ◌∙◌}
use mathlib.Core.List.{List, [], ◌∷◌, ◌++◌}
use native.Mathlib.Numerals.{add-one}
use native.Mathlib.Omega.{arith}
use lib.ListN.{length, get_or, take}
use lib.Seq.{take-suc}
use Rattle.text.specs.Buffers.{Wrote, Added}
use Rattle.text.specs.declared.Writer.{Writer}
use Rattle.text.proofs.Laws.Buffers.{adds-nil, adds-append, adds_same, adds-all, adds-read, wrote_length}

-- One entry more of a list.
pub take_more : {A : Type 0} (l : List A) (i : ℕ) (x : A) → i < length l → x ≡ get_or l i x → take (i + 1) l ≡ take i l ++ (x ∷ [])
take_more l i x h e = ap (λ (k : ℕ). take k l) (add-one i) ∙ take-suc l i x h ∙ ap (λ y. take i l ++ (y ∷ [])) (sym e)

module _ {A : Type 0} where
  pub added-start : (w : Writer A) → Added [] w w
  added-start w = record { same = refl; adds = adds-nil w.out.now w.at }

  pub added-step : (s t st : List A) (w₀ w w' : Writer A) → Added s w₀ w → Added t w w' → st ≡ s ++ t → Added st w₀ w'
  added-step s t st w₀ w w' f g e = record {
    same = g.same ∙ f.same;
    adds = adds_same (s ++ t) st _ _ _ _ (sym e) (adds-append s t _ _ _ _ _ _ f.adds g.adds);
  }

  pub added_same : (s t : List A) (w w' : Writer A) → Added s w w' → s ≡ t → Added t w w'
  added_same s t w w' h e = rw e at h

  -- What has been added from the start: it is at the front, and the place is within the buffer.
  pub added-all : (t : List A) (w w' : Writer A) → w.at ≡ 0 → Added t w w' → Wrote t w.out.now w'.out.now w'.at
  added-all t w w' e h = adds-all t _ _ _ (rw e at h.adds)

  pub added-within : (t : List A) (w w' : Writer A) → w.at ≡ 0 → Added t w w' → w'.at ≤ length w'.out.now
  added-within t w w' e h = omega (arith, k.next, wrote_length _ _ _ _ k)
    where
      k : Wrote t w.out.now w'.out.now w'.at
      k = added-all t w w' e h

  -- Where there is room, it can be read back.
  pub added-read : (t : List A) (w w' : Writer A) → w.at ≡ 0 → length t ≤ length w.out.now → Added t w w' → take w'.at w'.out.now ≡ t
  added-read t w w' e l h = adds-read t _ _ _ l (rw e at h.adds)
