-- The piece of markup at a place of a text. What a piece is, at the head of a row of bytes, is in `profile`, specs/Pieces, where its kind is a number.
--   number k          == the number of the kind k
--   kind_of n         == the kind of the number n
--   piece_from at p  == the piece p, begun at the place `at`: its middle and its end as places of the text
--   piece_at t at    == the piece of the text t at the place `at`; End where t ends at or before it
-- Letters: t text, p piece, k kind, n number. Assumes nothing.
use Rattle.std.specs.Prelude.{ℕ, ◌+◌, List, cond, eqb, drop}
use Rattle.profile.specs.Pieces.{END, DATA, COMMENT, START, EMPTY, CLOSE, NONE}
use Rattle.profile.specs.Pieces as pieces
use Rattle.markup.specs.declared.Kind.{Kind}
use Rattle.markup.specs.declared.Kind.TheVariants.{End, Data, Comment, Start, Empty, Close, Nothing}
use Rattle.markup.specs.declared.Piece.{Piece}

unfoldable pub number : Kind → ℕ
number End = END
number Data = DATA
number Comment = COMMENT
number Start = START
number Empty = EMPTY
number Close = CLOSE
number Nothing = NONE

unfoldable pub kind_of : ℕ → Kind
kind_of n =
    cond (eqb n END) End
    (cond (eqb n DATA) Data
    (cond (eqb n COMMENT) Comment
    (cond (eqb n START) Start
    (cond (eqb n EMPTY) Empty
    (cond (eqb n CLOSE) Close Nothing)))))

abbrev pub piece_from : ℕ → pieces.Piece → Piece
piece_from at p = record { kind = kind_of p.kind; whole = p.whole; middle = at + p.middle; end = at + p.size }

unfoldable pub piece_at : List ℕ → ℕ → Piece
piece_at t at = piece_from at (pieces.piece_of (drop at t))
