-- Thirty-six texts, worked out by hand from XML 1.0, each with the piece at its front: a table and a theorem.
--   begins s k b m e  == the text s begins with a piece of the kind k, whole or not, with its middle at m and its end at e
--   fronts            the theorem: each text of the table begins so
-- Assumes nothing.
use Prim.Native.Nat.{ℕ}
use Prim.Native.String.{String}
use mathlib.Core.Path.{◌≡◌, refl}
use mathlib.Core.List.{List, [], ◌∷◌, map}
use mathlib.Core.Bool.{Bool, true, false}
use Rattle.profile.specs.Bytes.{char, white, name_start, name_char, data_char, starts_with}
use Rattle.profile.specs.Spans.{span, common}
use Rattle.profile.specs.Machine.{run_byte, run_next}
use Rattle.profile.specs.Pieces.{meant, data_stop, close_stop, body_stop, comment_stop, name_size, tag_end, tag_piece, close_piece, markup_piece, piece_of}
use Rattle.profile.proofs.Cases.{bytes_of}
use Rattle.markup.specs.declared.Kind.{Kind}
use Rattle.markup.specs.declared.Kind.TheVariants.{End, Data, Comment, Start, Empty, Close, Nothing}
use Rattle.markup.specs.declared.Piece.{Piece}
use Rattle.markup.specs.Pieces.{kind_of, piece_at}

pub record Case : Type 0 where
  pub text : String
  pub piece : Piece

abbrev pub begins : String → Kind → Bool → ℕ → ℕ → Case
begins s k b m e = record { text = s; piece = record { kind = k; whole = b; middle = m; end = e } }

unfoldable pub table : List Case
table =
    begins "" End true 0 0 ∷
    begins "  ab<" Data true 2 4 ∷
    begins "  ab" Data true 2 4 ∷
    begins " \t\r\n" Data true 4 4 ∷
    begins "x]]>" Data false 0 3 ∷
    begins "x]]]>" Data false 0 4 ∷
    begins "x]>]]]" Data true 0 6 ∷
    begins "]]&lt;>" Data true 0 7 ∷
    begins "]] >" Data true 0 4 ∷
    begins "&apos;&quot;&gt;&amp;" Data true 0 21 ∷
    begins "&#65;" Data false 0 1 ∷
    begins "&ax;" Data false 0 2 ∷
    begins "&ap;" Data false 0 3 ∷
    begins "&am" Data false 0 3 ∷
    begins "&" Data false 0 1 ∷
    begins "<!---->" Comment true 2 7 ∷
    begins "<!--->-->" Comment true 2 9 ∷
    begins "<!-->" Comment false 2 5 ∷
    begins "<!-- a--b -->" Comment false 2 8 ∷
    begins "<!-- a --->" Comment false 2 9 ∷
    begins "<!-a" Comment false 2 3 ∷
    begins "<!--a-" Comment false 2 6 ∷
    begins "<!--<&]]>- -->" Comment true 2 14 ∷
    begins "<!DOCTYPE a>" Comment false 2 2 ∷
    begins "<a>" Start true 2 3 ∷
    begins "<a:b-1.c  \n>" Start true 8 12 ∷
    begins "<a b>" Start false 2 3 ∷
    begins "<a" Start false 2 2 ∷
    begins "<a />" Empty true 2 5 ∷
    begins "<a/ >" Empty false 2 3 ∷
    begins "</a >" Close true 3 5 ∷
    begins "</ a>" Close false 2 2 ∷
    begins "</a b>" Close false 3 4 ∷
    begins "<" Nothing false 1 1 ∷
    begins "< a>" Nothing false 1 1 ∷
    begins "<?xml?>" Nothing false 1 1 ∷
    []

pub fronts : map (λ c. piece_at (bytes_of c.text) 0) table ≡ map (λ c. c.piece) table
unfolding table bytes_of char white name_start name_char data_char starts_with span common run_byte run_next meant data_stop close_stop body_stop comment_stop name_size tag_end tag_piece close_piece markup_piece piece_of kind_of piece_at
fronts = refl
