-- The pieces of a text, one after the other.
--   Cut            == a piece and the place where it begins
--   cuts_from k j t == the pieces of the row t, which begins at the place j: up to the end, or to one that is not whole; at most k of them
--   cuts_of T       == the pieces of the text T, from place 0 on: as many as a reader gives that is called again and again
--   bytes_of T c    == the bytes of the piece c in the text T
--   noting T cs m  == the memory m after the pieces cs: each start tag opens an element, an end tag closes the one opened last, an empty-element
--                     tag makes one that is closed at once, and the data between two tags is one node (`profile`, specs/Notes)
-- Letters: T text, t the rest of it, j a place. Assumes nothing.
use Rattle.std.specs.Prelude.{ℕ, zero, suc, ◌+◌, List, [], ◌∷◌, ◌++◌, not, cond, ◌&&◌, eqb, length, take, drop}
use Rattle.profile.specs.Reader.{Memory}
use Rattle.profile.specs.Pieces.{END, Piece, piece_of}
use Rattle.profile.specs.Notes.{noted}

pub record Cut : Type 0 where
  pub place : ℕ
  pub piece : Piece

abbrev pub cut : ℕ → Piece → Cut
cut j q = record { place = j; piece = q }

unfoldable pub cuts_from : ℕ → ℕ → List ℕ → List Cut
cuts_from zero j t = []
cuts_from (suc k) j t =
    let q = piece_of t in
    cond (q.whole && not (eqb q.kind END)) (cut j q ∷ cuts_from k (j + q.size) (drop q.size t)) []

-- Each piece has a byte or more, so there are no more pieces than bytes.
unfoldable pub cuts_of : List ℕ → List Cut
cuts_of T = cuts_from (length T) 0 T

abbrev pub bytes_of : List ℕ → Cut → List ℕ
bytes_of T c = take c.piece.size (drop c.place T)

unfoldable pub joined : List ℕ → List Cut → List ℕ
joined T [] = []
joined T (c ∷ cs) = bytes_of T c ++ joined T cs

unfoldable pub noting : List ℕ → List Cut → Memory → Memory
noting T [] m = m
noting T (c ∷ cs) m = noting T cs (noted c.place (drop c.place T) c.piece m)
