-- A piece of markup told by its last byte alone, as a second pass can tell the pieces of a text that a first pass has judged.
--   until w t      == how many bytes stand in t before its first w
--   skim_data t     == data at the head of t
--   skim_comment t  == a comment at the head of t
--   tag_kind t      == the kind of a tag at the head of t;  skim_tag t: the tag
--   skim_of t       == the piece at the head of t
--   skim_at t at    == the piece of the text t at the place `at`
-- Nothing is judged: every piece is whole, and markup that does not end in the text ends behind it. The middle of markup is not looked for: it is where the
-- piece begins. Where a piece of the profile is whole, its kind and its end are these, and of data the middle too: proofs/Laws, `skim_whole`.
-- Letters: t a row of bytes, w a word. Assumes nothing.
use Rattle.std.specs.Prelude.{ℕ, suc, ◌+◌, List, [], ◌∷◌, true, cond, eqb, get_or, drop}
use Rattle.profile.specs.Bytes.{'!', '-', '/', '<', '>', starts_with}
use Rattle.profile.specs.Spans.{span, other, low}
use Rattle.profile.specs.Pieces.{stop, END, DATA, COMMENT, START, EMPTY, CLOSE, piece}
use Rattle.profile.specs.Pieces as pieces
use Rattle.markup.specs.declared.Piece.{Piece}
use Rattle.markup.specs.Pieces.{piece_from}

-- How many bytes stand in t before the first place at which w stands, or all of them where it stands nowhere.
unfoldable pub until : List ℕ → List ℕ → ℕ
until w [] = 0
until w (x ∷ t) = cond (starts_with w (x ∷ t)) 0 (suc (until w t))

-- Its middle is its first byte above 32, and it ends at the first `<` from there on; or either is the end of t.
unfoldable pub skim_data : List ℕ → pieces.Piece
skim_data t =
    let m = span low t in
    piece DATA m (stop (m + span (other '<') (drop m t)) true)

-- It ends three bytes on from the first `--` behind its opening of four bytes; where there is none, from the end of t, or of those four bytes if t is shorter.
unfoldable pub skim_comment : List ℕ → pieces.Piece
skim_comment t = piece COMMENT 0 (stop (4 + until ('-' ∷ '-' ∷ []) (drop 4 t) + 3) true)

-- An end tag where a `/` follows its `<`, else an empty-element tag where a `/` stands before its first `>`, or last in t where there is none; else a start tag.
unfoldable pub tag_kind : List ℕ → ℕ
tag_kind t = cond (starts_with ('/' ∷ []) (drop 1 t)) CLOSE (cond (eqb (get_or t (span (other '>') (drop 1 t)) 0) '/') EMPTY START)

-- It ends one byte on from the first `>` behind its `<`; or from the end of t, where there is none.
unfoldable pub skim_tag : List ℕ → pieces.Piece
skim_tag t = piece (tag_kind t) 0 (stop (1 + span (other '>') (drop 1 t) + 1) true)

-- At a `<` a comment where a `!` follows, else a tag; at any other byte data; and END where there is no byte.
unfoldable pub skim_of : List ℕ → pieces.Piece
skim_of [] = piece END 0 (stop 0 true)
skim_of (x ∷ t) = cond (eqb x '<') (cond (starts_with ('!' ∷ []) t) (skim_comment (x ∷ t)) (skim_tag (x ∷ t))) (skim_data (x ∷ t))

-- The same at a place of a text; End where the text ends at or before it.
unfoldable pub skim_at : List ℕ → ℕ → Piece
skim_at t at = piece_from at (skim_of (drop at t))
