-- Laws for callers. Those of `piece_at` are in `markup`, proofs/Laws. Assumes nothing.
--   place-whole, place-broken               where a reader is after a piece that is whole, or not
--   new_unique, next_unique                 no second outcome fits `new`, `next`
--   next-within, next-on                    a reader within its text stays within it, and a whole piece there takes it on by a byte at least
-- Letters: r reader, p piece, o place.
use Prim.Native.Nat.{ℕ, ◌≤◌, ◌<◌}
use mathlib.Core.Path.{◌≡◌, sym, ap, ◌∙◌}
use mathlib.Core.Logic.{⊎_elim}
use mathlib.Core.List.{List}
use mathlib.Core.Bool.{Bool, true, false, cond}
use native.Mathlib.Omega.{arith}
use lib.ListN.{length}
use denote.Ref.{Bor}
use Rattle.seq.proofs.Laws.Bools.{bool_cases}
use Rattle.markup.specs.declared.Piece.{Piece}
use Rattle.markup.specs.Pieces.{piece_at}
use Rattle.markup.proofs.Laws.{piece-within, piece-on}
use Rattle.pieces.specs.declared.Reader.{Reader}
use Rattle.pieces.specs.Reading.{begun, place_after, Gives}

pub place-whole : (p : Piece) (o : ℕ) → p.whole ≡ true → p.end ≡ place_after p o
unfolding place_after
place-whole p o e = ap (λ (b : Bool). cond b p.end o) (sym e)

pub place-broken : (p : Piece) (o : ℕ) → p.whole ≡ false → o ≡ place_after p o
unfolding place_after
place-broken p o e = ap (λ (b : Bool). cond b p.end o) (sym e)

pub new_unique : (t : Bor (List ℕ)) (r r' : Reader) → r ≡ begun t → r' ≡ begun t → r ≡ r'
new_unique t r r' a b = a ∙ sym b

pub next_unique : (r : Reader) (p p' : Piece) (s s' : Reader) → Gives r p s → Gives r p' s' → (p ≡ p') × (s ≡ s')
next_unique r p p' s s' a b = (same, a.moved ∙ ap (λ z. record { text = r.text; at = place_after z r.at }) same ∙ sym b.moved)
  where
    same : p ≡ p'
    same = a.piece ∙ sym b.piece

module _ (r : Reader) (p : Piece) (s : Reader) (g : Gives r p s) where
  whole-on : p.whole ≡ true → s.at ≡ (piece_at r.text.now r.at).end
  whole-on w = ap (λ z. z.at) g.moved ∙ sym (place-whole p r.at w) ∙ ap (λ z. z.end) g.piece

  pub next-within : r.at ≤ length r.text.now → s.at ≤ length r.text.now
  next-within l =
      ⊎_elim
      (λ w. omega (arith, whole-on w, piece-within r.text.now r.at l))
      (λ w. omega (arith, ap (λ z. z.at) g.moved, place-broken p r.at w))
      (bool_cases p.whole)

  pub next-on : r.at < length r.text.now → p.whole ≡ true → r.at < s.at
  next-on l w = omega (arith, whole-on w, piece-on r.text.now r.at l (ap (λ z. z.whole) (sym g.piece) ∙ w))
