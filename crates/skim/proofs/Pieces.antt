-- The pieces, as the code has them, at the places of a text. Assumes nothing.
--   skimmed                                    a piece, by its fields
--   found_le, dashes_le                        where the last byte of a tag is found, and the dashes of a comment
--   tag-close, tag-empty, tag-start            a tag
--   skim_end, skim_data_lem, skim_comment_lem, skim_tag_lem
-- Letters: t text, o where the piece begins, m its middle, e where its last byte is looked for and found.
use Prim.Native.Nat.{ℕ, ◌+◌, ◌-◌, ◌≤◌, ◌<◌}
use mathlib.Core.Path.{◌≡◌, sym, ap, ap₂, ◌∙◌}
use mathlib.Core.List.{List, [], ◌∷◌}
use mathlib.Core.Bool.{Bool, true, false, cond}
use native.Mathlib.Omega.{arith}
use lib.Dec.{eqb}
use lib.ListN.{length, get_or, drop, length-drop, drop_of_length-le}
use lib.Seq.{drop-drop, get_or-drop}
use borrow.Author.Tests.{eq-eqb, ne_eqb}
use Rattle.profile.specs.Bytes.{'!', '-', '/', '<', '>', starts_with}
use Rattle.profile.specs.Spans.{span, other, low}
use Rattle.profile.specs.Pieces.{START, EMPTY, CLOSE}
use Rattle.profile.proofs.Laws.Spans.{span_le}
use Rattle.markup.specs.declared.Kind.{Kind}
use Rattle.markup.specs.declared.Kind.TheVariants.{End, Data, Comment, Start, Empty, Close}
use Rattle.markup.specs.declared.Piece.{Piece}
use Rattle.markup.specs.Pieces.{kind_of, piece_from}
use Rattle.markup.proofs.Reading.{row_at}
use Rattle.skim.specs.Skim.{until, skim_data, skim_comment, tag_kind, skim_tag, skim_of, skim_at}
use Rattle.skim.proofs.Rows.{until_le}

abbrev pub skimmed : Kind → ℕ → ℕ → Piece
skimmed k m e = record { kind = k; whole = true; middle = m; end = e }

-- ---- tags
module _ (t : List ℕ) (o e : ℕ) (l : o < length t) (p : e ≡ o + 1 + span (other '>') (drop (o + 1) t)) where
  pub found_le : e ≤ length t
  found_le = omega (arith, p, span_le (other '>') (drop (o + 1) t), length-drop (o + 1) t)

  rest : drop 1 (drop o t) ≡ drop (o + 1) t
  rest = drop-drop 1 o t

  last_byte : get_or (drop o t) (span (other '>') (drop 1 (drop o t))) 0 ≡ get_or t (e - 1) 0
  last_byte = get_or-drop o t (span (other '>') (drop 1 (drop o t))) 0 ∙ ap (λ i. get_or t i 0) place
    where
      place : o + span (other '>') (drop 1 (drop o t)) ≡ e - 1
      place = omega (arith, p, ap (span (other '>')) rest)

  kind-is : tag_kind (drop o t) ≡ cond (starts_with ('/' ∷ []) (drop (o + 1) t)) CLOSE (cond (eqb (get_or t (e - 1) 0) '/') EMPTY START)
  unfolding tag_kind
  kind-is = ap₂ (λ (a b : Bool). cond a CLOSE (cond b EMPTY START)) (ap (starts_with ('/' ∷ [])) rest) (ap (λ x. eqb x '/') last_byte)

  tag_is : (k : ℕ) → tag_kind (drop o t) ≡ k → skimmed (kind_of k) o (e + 1) ≡ piece_from o (skim_tag (drop o t))
  unfolding skim_tag
  tag_is k q = ap (λ k. skimmed (kind_of k) o (e + 1)) (sym q) ∙ ap₂ (skimmed (kind_of (tag_kind (drop o t)))) none size
    where
      none : o ≡ o + 0
      none = omega arith

      size : e + 1 ≡ o + (1 + span (other '>') (drop 1 (drop o t)) + 1)
      size = omega (arith, p, ap (span (other '>')) rest)

  pub tag-close : starts_with ('/' ∷ []) (drop (o + 1) t) ≡ true → skimmed Close o (e + 1) ≡ piece_from o (skim_tag (drop o t))
  unfolding kind_of
  tag-close a = tag_is CLOSE (kind-is ∙ ap (λ (b : Bool). cond b CLOSE (cond (eqb (get_or t (e - 1) 0) '/') EMPTY START)) a)

  module _ (a : starts_with ('/' ∷ []) (drop (o + 1) t) ≡ false) where
    pub tag-empty : get_or t (e - 1) 0 ≡ '/' → skimmed Empty o (e + 1) ≡ piece_from o (skim_tag (drop o t))
    unfolding kind_of
    tag-empty b = tag_is EMPTY (kind-is ∙ ap₂ (λ (a b : Bool). cond a CLOSE (cond b EMPTY START)) a (eq-eqb _ _ b))

    pub tag-start : (get_or t (e - 1) 0 ≡ '/' → ⊥) → skimmed Start o (e + 1) ≡ piece_from o (skim_tag (drop o t))
    unfolding kind_of
    tag-start b = tag_is START (kind-is ∙ ap₂ (λ (a b : Bool). cond a CLOSE (cond b EMPTY START)) a (ne_eqb _ _ b))

-- ---- a piece, by its first bytes
pub skim_end : (t : List ℕ) (o : ℕ) → length t ≤ o → skimmed End o o ≡ skim_at t o
unfolding skim_at skim_of kind_of
skim_end t o l = sym (ap (λ u. piece_from o (skim_of u)) (drop_of_length-le t l) ∙ ap (λ k. skimmed End k k) none)
  where
    none : o + 0 ≡ o
    none = omega arith

module _ (t : List ℕ) (o : ℕ) (l : o < length t) where
  pub skim_data_lem : (get_or t o 0 ≡ '<' → ⊥) → (m e : ℕ) → m ≡ o + span low (drop o t) → e ≡ m + span (other '<') (drop m t) → skimmed Data m e ≡ skim_at t o
  unfolding kind_of
  skim_data_lem h m e p q = ap₂ (skimmed Data) p far ∙ unfold skim_at skim_data in ap (piece_from o) (sym is)
    where
      data_of : (x : ℕ) (u : List ℕ) → eqb x '<' ≡ false → skim_of (x ∷ u) ≡ skim_data (x ∷ u)
      data_of x u e = unfold skim_of in rw e

      is : skim_of (drop o t) ≡ skim_data (drop o t)
      is = ap skim_of (row_at t o l) ∙ data_of (get_or t o 0) (drop (o + 1) t) (ne_eqb _ _ h) ∙ ap skim_data (sym (row_at t o l))

      solid : drop m t ≡ drop (span low (drop o t)) (drop o t)
      solid = ap (λ i. drop i t) p ∙ sym (drop-drop (span low (drop o t)) o t)

      far : e ≡ o + (span low (drop o t) + span (other '<') (drop (span low (drop o t)) (drop o t)))
      far = omega (arith, p, q, ap (span (other '<')) solid)

  pub dashes_le : (e : ℕ) → e ≡ o + 4 + until ('-' ∷ '-' ∷ []) (drop (o + 4) t) → e ≤ 3 + length t
  dashes_le e p = omega (arith, p, until_le ('-' ∷ '-' ∷ []) (drop (o + 4) t), length-drop (o + 4) t)

  module _ (h : get_or t o 0 ≡ '<') where
    markup-is : skim_of (drop o t) ≡ cond (starts_with ('!' ∷ []) (drop (o + 1) t)) (skim_comment (drop o t)) (skim_tag (drop o t))
    unfolding skim_of
    markup-is = ap skim_of row ∙ ap (λ u. cond (starts_with ('!' ∷ []) (drop (o + 1) t)) (skim_comment u) (skim_tag u)) (sym row)
      where
        row : drop o t ≡ '<' ∷ drop (o + 1) t
        row = row_at t o l ∙ ap (λ x. x ∷ drop (o + 1) t) h

    pub skim_comment_lem : starts_with ('!' ∷ []) (drop (o + 1) t) ≡ true → (e : ℕ) → e ≡ o + 4 + until ('-' ∷ '-' ∷ []) (drop (o + 4) t) →
        skimmed Comment o (e + 3) ≡ skim_at t o
    unfolding skim_at skim_comment kind_of
    skim_comment_lem b e p = ap₂ (skimmed Comment) none far ∙ ap (piece_from o) (sym is)
      where
        is : skim_of (drop o t) ≡ skim_comment (drop o t)
        is = markup-is ∙ ap (λ (b : Bool). cond b (skim_comment (drop o t)) (skim_tag (drop o t))) b

        none : o ≡ o + 0
        none = omega arith

        far : e + 3 ≡ o + (4 + until ('-' ∷ '-' ∷ []) (drop 4 (drop o t)) + 3)
        far = omega (arith, p, ap (until ('-' ∷ '-' ∷ [])) (drop-drop 4 o t))

    pub skim_tag_lem : starts_with ('!' ∷ []) (drop (o + 1) t) ≡ false → piece_from o (skim_tag (drop o t)) ≡ skim_at t o
    unfolding skim_at
    skim_tag_lem b = ap (piece_from o) (sym (markup-is ∙ ap (λ (b : Bool). cond b (skim_comment (drop o t)) (skim_tag (drop o t))) b))
