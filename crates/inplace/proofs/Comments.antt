-- The comment at a place of a text: one stands there exactly if the bytes `<!` do.
--   none_first, none_second, one_at   the ways out of `behind`
-- Letters: T text, i place, t the text from it on. Assumes nothing.
use Rattle.std.proofs.Common.{◌≡◌, ℕ, ◌+◌, ◌<◌, List, [], ◌∷◌, true, false, drop, refl, sym, ap, ◌∙◌, arith}
use mathlib.Core.Bool.{◌&&◌, false≢true}
use lib.Seq.{drop-drop}
use lib.Dec.{eqb}
use Rattle.seq.proofs.Laws.Bools.{and_both, and_false-left, and_false-right, and_left, and_right}
use Rattle.profile.specs.Bytes.{'!', '<', starts_with}
use Rattle.skim.specs.Skim.{skim_comment, skim_of, skim_at}
use Rattle.markup.specs.declared.Piece.{Piece}
use Rattle.words.specs.Reading.{gap}

abbrev opening : List ℕ
opening = '<' ∷ '!' ∷ []

-- What is skimmed at a comment is the comment.
skim_size : (t : List ℕ) → starts_with opening t ≡ true → (skim_of t).size ≡ (skim_comment t).size
unfolding starts_with skim_of
skim_size [] e = absurd (false≢true e)
skim_size (x ∷ t) e = rw (and_left (eqb x '<') (starts_with ('!' ∷ []) t) e, and_right (eqb x '<') (starts_with ('!' ∷ []) t) e)

gap_no : (t : List ℕ) → starts_with opening t ≡ false → gap t ≡ 0
unfolding gap
gap_no t e = rw e

gap_some : (t : List ℕ) → starts_with opening t ≡ true → gap t ≡ (skim_comment t).size
unfolding gap
gap_some t e = rw e

size : (t : List ℕ) → 0 < (skim_comment t).size
unfolding skim_comment
size t = omega arith

-- Both bytes are tested, one after the other.
two : (t : List ℕ) → starts_with opening t ≡ (starts_with ('<' ∷ []) t && starts_with ('!' ∷ []) (drop 1 t))
unfolding starts_with
two [] = refl
two (x ∷ []) = grind arith
two (x ∷ y ∷ t) = grind arith

module _ (T : List ℕ) (i : ℕ) where
  opens : starts_with opening (drop i T) ≡ (starts_with ('<' ∷ []) (drop i T) && starts_with ('!' ∷ []) (drop (i + 1) T))
  opens = two (drop i T) ∙ ap (λ t. starts_with ('<' ∷ []) (drop i T) && starts_with ('!' ∷ []) t) (drop-drop 1 i T)

  pub none_first : starts_with ('<' ∷ []) (drop i T) ≡ false → gap (drop i T) ≡ 0
  none_first e = gap_no (drop i T) (opens ∙ and_false-left _ _ e)

  pub none_second : starts_with ('!' ∷ []) (drop (i + 1) T) ≡ false → gap (drop i T) ≡ 0
  none_second e = gap_no (drop i T) (opens ∙ and_false-right _ _ e)

  pub one_at : starts_with ('<' ∷ []) (drop i T) ≡ true → starts_with ('!' ∷ []) (drop (i + 1) T) ≡ true → (p : Piece) → p ≡ skim_at T i → (i < p.end) × (p.end ≡ i + gap (drop i T))
  unfolding skim_at
  one_at a b p r = (omega (arith, there, gap_some (drop i T) o, size (drop i T)), there)
    where
      o : starts_with opening (drop i T) ≡ true
      o = opens ∙ and_both _ _ a b

      there : p.end ≡ i + gap (drop i T)
      there = ap (λ (z : Piece). z.end) r ∙ ap (λ (z : ℕ). i + z) (skim_size (drop i T) o ∙ sym (gap_some (drop i T) o))
