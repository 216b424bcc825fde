-- What the functions of this crate promise each other; no public contract cites it.
--   reached n b       == the place n, whole or not
--   reached_from at s  == where something that goes on as s says ends, begun at the place `at`
--   ended_piece k m r  == a piece of which a part is read last, that ends or breaks as r says
--   word_stop w t      == how far the word w stands at the head of t
--   named_piece t      == a start tag or an empty-element tag, t being what follows its `<`; NONE where no name follows
-- Letters: t w rows of bytes, k a kind, m a place, s as in `profile`, specs/Pieces. Assumes nothing.
use Rattle.std.specs.Prelude.{ℕ, ◌+◌, List, Bool, true, false, cond, eqb, length, Result, Ok, Err}
use Rattle.profile.specs.Spans.{common}
use Rattle.profile.specs.Pieces as pieces
use Rattle.profile.specs.Pieces.{Stop, stop, NONE, name_size, tag_piece}
use Rattle.markup.specs.declared.Kind.{Kind}
use Rattle.markup.specs.declared.Piece.{Piece}

abbrev pub reached : ℕ → Bool → Result ℕ ℕ
reached n b = cond b (Ok n) (Err n)

abbrev pub reached_from : ℕ → Stop → Result ℕ ℕ
reached_from at s = reached (at + s.size) s.whole

abbrev pub ended_piece : Kind → ℕ → Result ℕ ℕ → Piece
ended_piece k m (Ok n) = record { kind = k; whole = true; middle = m; end = n }
ended_piece k m (Err n) = record { kind = k; whole = false; middle = m; end = n }

abbrev pub word_stop : List ℕ → List ℕ → Stop
word_stop w t = stop (common w t) (eqb (common w t) (length w))

unfoldable pub named_piece : List ℕ → pieces.Piece
named_piece t = cond (eqb (name_size t) 0) (pieces.piece NONE 1 (stop 1 false)) (tag_piece t)
