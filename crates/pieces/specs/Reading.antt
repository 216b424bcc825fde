-- A reader of pieces: what it holds, and what a call gives.
--   begun text       == the reader at the front of a text
--   place_after p at  == the place after the piece p that began at `at`: behind it where it is whole, else where it began
--   Gives r p r'     == the reader r gives the piece p, the one at its place, and is then r': the same text, behind the piece if it is whole
-- At the end of the text the piece is End, which is whole and of no bytes, so that the reader stays. Letters: r reader, p piece. Assumes nothing.
use Rattle.std.specs.Prelude.{ℕ, ◌≡◌, List, cond}
use Rattle.std.specs.Borrow.{Bor}
use Rattle.markup.specs.declared.Piece.{Piece}
use Rattle.markup.specs.Pieces.{piece_at}
use Rattle.pieces.specs.declared.Reader.{Reader}

abbrev pub begun : Bor (List ℕ) → Reader
begun text = record { text = text; at = 0 }

unfoldable pub place_after : Piece → ℕ → ℕ
place_after p at = cond p.whole p.end at

pub record Gives (r : Reader) (p : Piece) (r' : Reader) : Type 0 where
  pub piece : p ≡ piece_at r.text.now r.at
  pub moved : r' ≡ record { text = r.text; at = place_after p r.at }
