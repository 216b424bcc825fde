-- The reference that the bytes at a place may become (`meant`), by what stands there. Assumes nothing.
-- Letters: t text, i place.
use Prim.Native.Nat.{ℕ, ◌+◌, ◌≤◌, ◌<◌}
use mathlib.Core.Path.{◌≡◌, sym, ap, ◌∙◌}
use mathlib.Core.Logic.{⊎_elim}
use mathlib.Core.List.{List, [], ◌∷◌}
use mathlib.Core.Bool.{Bool, true, false, ◌&&◌}
use lib.Dec.{ltb}
use lib.ListN.{length, drop}
use borrow.Author.Tests.{ltb-true, ltb-false}
use Rattle.seq.proofs.Laws.Bools.{bool_cases}
use Rattle.octets.proofs.Laws.{at_within, at-past}
use Rattle.profile.specs.Bytes.{semicolon, starts_with}
use Rattle.profile.specs.Pieces.{meant}
use Rattle.markup.proofs.Reading.{row_at, row-end}

module _ (t : List ℕ) (i : ℕ) where
  abbrev pub stands : ℕ → Bool
  stands x = starts_with (x ∷ []) (drop i t)

  abbrev pub follows : ℕ → Bool
  follows x = starts_with (x ∷ []) (drop (i + 1) t)

  pair : starts_with (97 ∷ 112 ∷ []) (drop i t) ≡ (stands 97 && follows 112)
  unfolding starts_with
  pair = ⊎_elim (λ q. within (ltb-true i (length t) q)) (λ q. past (ltb-false i (length t) q)) (bool_cases (ltb i (length t)))
    where
      within : i < length t → starts_with (97 ∷ 112 ∷ []) (drop i t) ≡ (stands 97 && follows 112)
      within l = ap (starts_with (97 ∷ 112 ∷ [])) (row_at t i l) ∙ ap (λ b. b && follows 112) (sym (at_within 97 t i l))

      past : length t ≤ i → starts_with (97 ∷ 112 ∷ []) (drop i t) ≡ (stands 97 && follows 112)
      past l = ap (starts_with (97 ∷ 112 ∷ [])) (row-end t i l) ∙ ap (λ b. b && follows 112) (sym (at-past 97 t i l))

  module _ (e : stands 108 ≡ true) where
    pub meant-l : 108 ∷ 116 ∷ semicolon ∷ [] ≡ meant (drop i t)
    unfolding meant
    meant-l = rw e

  module _ (a : stands 108 ≡ false) where
    pub meant-g : stands 103 ≡ true → 103 ∷ 116 ∷ semicolon ∷ [] ≡ meant (drop i t)
    unfolding meant
    meant-g e = rw (a, e)

    module _ (b : stands 103 ≡ false) where
      pub meant-q : stands 113 ≡ true → 113 ∷ 117 ∷ 111 ∷ 116 ∷ semicolon ∷ [] ≡ meant (drop i t)
      unfolding meant
      meant-q e = rw (a, b, e)

      module _ (c : stands 113 ≡ false) where
        pub meant-ap : stands 97 ≡ true → follows 112 ≡ true → 97 ∷ 112 ∷ 111 ∷ 115 ∷ semicolon ∷ [] ≡ meant (drop i t)
        unfolding meant
        meant-ap e f = rw (a, b, c, pair, e, f)

        pub meant-other : (stands 97 && follows 112) ≡ false → 97 ∷ 109 ∷ 112 ∷ semicolon ∷ [] ≡ meant (drop i t)
        unfolding meant
        meant-other e = rw (a, b, c, pair, e)
