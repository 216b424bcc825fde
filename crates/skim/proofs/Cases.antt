-- Twenty-two texts, each with what is skimmed at its front: a table and a theorem. In ten the piece is whole, and its kind and its end are those of the profile;
-- in the others it is broken, and nothing is judged: a `<` alone is a start tag, and what does not end in the text ends behind it.
--   begins s k m e  == at the front of the text s a piece of the kind k is skimmed, with its middle at m and its end at e
--   fronts          the theorem: each text of the table begins so
-- Assumes nothing.
use Prim.Native.Nat.{ℕ}
use Prim.Native.String.{String}
use mathlib.Core.Path.{◌≡◌, refl}
use mathlib.Core.List.{List, [], ◌∷◌, map}
use mathlib.Core.Bool.{true}
use Rattle.profile.specs.Bytes.{starts_with}
use Rattle.profile.specs.Spans.{span, other, low}
use Rattle.profile.proofs.Cases.{bytes_of}
use Rattle.markup.specs.declared.Kind.{Kind}
use Rattle.markup.specs.declared.Kind.TheVariants.{End, Data, Comment, Start, Empty, Close}
use Rattle.markup.specs.declared.Piece.{Piece}
use Rattle.markup.specs.Pieces.{kind_of}
use Rattle.skim.specs.Skim.{until, skim_data, skim_comment, tag_kind, skim_tag, skim_of, skim_at}

pub record Case : Type 0 where
  pub text : String
  pub piece : Piece

abbrev pub begins : String → Kind → ℕ → ℕ → Case
begins s k m e = record { text = s; piece = record { kind = k; whole = true; middle = m; end = e } }

unfoldable pub table : List Case
table =
    begins "" End 0 0 ∷
    begins "  ab<" Data 2 4 ∷
    begins " \t\r\n" Data 4 4 ∷
    begins "]]&lt;>" Data 0 7 ∷
    begins "<!---->" Comment 0 7 ∷
    begins "<!--->-->" Comment 0 9 ∷
    begins "<!--<&]]>- -->" Comment 0 14 ∷
    begins "<a:b-1.c  \n>" Start 0 12 ∷
    begins "<a />" Empty 0 5 ∷
    begins "</a >" Close 0 5 ∷
    -- the broken ones
    begins "x]]>" Data 0 4 ∷
    begins "<!-->" Comment 0 8 ∷
    begins "<!DOCTYPE a>" Comment 0 15 ∷
    begins "<!-- a--b -->" Comment 0 9 ∷
    begins "<!" Comment 0 7 ∷
    begins "<a b>" Start 0 5 ∷
    begins "<a/ >" Start 0 5 ∷
    begins "<a" Start 0 3 ∷
    begins "</a/>" Close 0 5 ∷
    begins "</>" Close 0 3 ∷
    begins "<" Start 0 2 ∷
    begins "<?xml?>" Start 0 7 ∷
    []

pub fronts : map (λ c. skim_at (bytes_of c.text) 0) table ≡ map (λ c. c.piece) table
unfolding table bytes_of starts_with span other low until skim_data skim_comment tag_kind skim_tag skim_of kind_of skim_at
fronts = refl
