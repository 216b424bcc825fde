-- Laws for callers. What a piece is, is in `profile`, specs/Pieces. Assumes nothing.
--   piece-at_unique                 no second outcome fits `piece_at`
--   piece-past                      at the end of the text and past it
--   piece-first, piece-middle, piece-within     a piece begins at or before its middle, which is at or before its end, which is in the text
--   piece-on                        a whole piece within the text goes on by a byte at least
--   piece_number                    the number of its kind is what `profile` says
--   piece_kind, piece-some          the number of a kind is at most 6, and End stands nowhere within the text
-- Letters: t text, o place.
use Prim.Native.Nat.{ℕ, ◌+◌, ◌≤◌, ◌<◌}
use mathlib.Core.Path.{◌≡◌, sym, ap, ◌∙◌}
use mathlib.Core.List.{List}
use mathlib.Core.Bool.{true}
use native.Mathlib.Omega.{arith}
use lib.ListN.{length, get_or, drop, length-drop}
use Rattle.profile.specs.Pieces.{piece_of}
use Rattle.profile.proofs.PieceLaws.{piece_le, middle_le}
use Rattle.markup.specs.declared.Kind.TheVariants.{End}
use Rattle.markup.specs.declared.Piece.{Piece}
use Rattle.markup.specs.Pieces.{number, piece_at}
use Rattle.markup.proofs.Reading.{row_at}
use Rattle.markup.proofs.Numbers.{number-of}
use Rattle.markup.proofs.Pieces.{piece-end}
use Rattle.markup.proofs.Sizes.{size-some, kind-some, kind-most}

pub piece-at_unique : (t : List ℕ) (o : ℕ) (r r' : Piece) → r ≡ piece_at t o → r' ≡ piece_at t o → r ≡ r'
piece-at_unique t o r r' a b = a ∙ sym b

module _ (t : List ℕ) (o : ℕ) where
  pub piece-past : length t ≤ o → piece_at t o ≡ record { kind = End; whole = true; middle = o; end = o }
  piece-past l = sym (piece-end t o l)

  pub piece-first : o ≤ (piece_at t o).middle
  unfolding piece_at
  piece-first = omega arith

  pub piece-middle : (piece_at t o).middle ≤ (piece_at t o).end
  unfolding piece_at
  piece-middle = omega (arith, middle_le (drop o t))

  pub piece-within : o ≤ length t → (piece_at t o).end ≤ length t
  unfolding piece_at
  piece-within l = omega (arith, piece_le (drop o t), length-drop o t)

  pub piece-on : o < length t → (piece_at t o).whole ≡ true → o < (piece_at t o).end
  unfolding piece_at
  piece-on l w =
      omega (arith, ap (λ u. (piece_of u).size) (row_at t o l), size-some _ _ (ap (λ u. (piece_of u).whole) (sym (row_at t o l)) ∙ w))

  pub piece_number : number (piece_at t o).kind ≡ (piece_of (drop o t)).kind
  unfolding piece_at
  piece_number = number-of _ (kind-most (drop o t))

  pub piece_kind : number (piece_at t o).kind ≤ 6
  piece_kind = omega (arith, piece_number, kind-most (drop o t))

  pub piece-some : o < length t → 0 < number (piece_at t o).kind
  piece-some l = omega (arith, piece_number, ap (λ u. (piece_of u).kind) (row_at t o l), kind-some (get_or t o 0) (drop (o + 1) t))
