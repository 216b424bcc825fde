-- One piece of markup, at the head of a row of bytes.
--   Stop            == how many bytes something goes on for, and whether it is whole then; else the next byte, or the end, breaks it
--   reference_stop t == of a reference, after its `&`;  data_stop k 0 t: of data after k brackets, to the next `<` or the end
--   comment_stop t   == of a comment, after its `<!`;   body_stop d t: of its body and its `-->`, after a `-` (d) or not
--   name_size t      == the size of the Name at the head of t, or 0 where there is none
--   Piece           == its kind; whether it is whole; its middle: of a tag the place after its name, of data its first byte that is no white
--                      space, or its size; its size: where it is not whole, the place of the byte that breaks it
--   piece_of t       == the piece at the head of t
-- A data run holds references too, and ends at the next `<` or with the text. A tag that breaks after its `/` counts as an empty-element tag,
-- else as a start tag. Whether a piece may stand where it does, and whether an end tag has the right name, is no question for one piece.
-- Letters: t a row of bytes, x a byte, k brackets, n s sizes. Assumes nothing.
use Rattle.std.specs.Prelude.{ℕ, zero, suc, ◌+◌, List, [], ◌∷◌, Bool, true, false, cond, eqb, length, drop}
use Rattle.profile.specs.Bytes.{'!', '&', '-', '/', semicolon, '<', '>', char, white, name_start, name_char, starts_with}
use Rattle.profile.specs.Spans.{span, common}
use Rattle.profile.specs.Machine.{Brackets, b0, run_byte, run_next}

pub record Stop : Type 0 where
  pub size : ℕ
  pub whole : Bool

abbrev pub stop : ℕ → Bool → Stop
stop n b = record { size = n; whole = b }

-- The same with n bytes more in front.
abbrev pub after : ℕ → Stop → Stop
after n s = stop (n + s.size) s.whole

-- ---- references and data
-- The reference that the bytes after an `&` may become, with its `;`: the first byte, or two, tell.
unfoldable pub meant : List ℕ → List ℕ
meant t =
    cond (starts_with (108 ∷ []) t) (108 ∷ 116 ∷ semicolon ∷ [])
    (cond (starts_with (103 ∷ []) t) (103 ∷ 116 ∷ semicolon ∷ [])
    (cond (starts_with (113 ∷ []) t) (113 ∷ 117 ∷ 111 ∷ 116 ∷ semicolon ∷ [])
    (cond (starts_with (97 ∷ 112 ∷ []) t) (97 ∷ 112 ∷ 111 ∷ 115 ∷ semicolon ∷ [])
    (97 ∷ 109 ∷ 112 ∷ semicolon ∷ []))))

abbrev pub reference_stop : List ℕ → Stop
reference_stop t = stop (common (meant t) t) (eqb (common (meant t) t) (length (meant t)))

-- The second number is how many bytes of a reference are still to be passed over.
unfoldable pub data_stop : Brackets → ℕ → List ℕ → Stop
data_stop k n [] = stop 0 true
data_stop k (suc n) (x ∷ t) = after 1 (data_stop k n t)
data_stop k zero (x ∷ t) =
    cond (eqb x '<') (stop 0 true)
    (cond (eqb x '&') (cond (reference_stop t).whole (after 1 (data_stop b0 (reference_stop t).size t)) (after 1 (reference_stop t)))
    (cond (run_byte k x) (after 1 (data_stop (run_next k x) 0 t)) (stop 0 false)))

-- ---- comments
unfoldable pub close_stop : List ℕ → Stop
close_stop [] = stop 0 false
close_stop (x ∷ t) = cond (eqb x '>') (stop 1 true) (stop 0 false)

unfoldable pub body_stop : Bool → List ℕ → Stop
body_stop d [] = stop 0 false
body_stop d (x ∷ t) =
    cond (eqb x '-') (after 1 (cond d (close_stop t) (body_stop true t)))
    (cond (char x) (after 1 (body_stop false t)) (stop 0 false))

unfoldable pub comment_stop : List ℕ → Stop
comment_stop t =
    let n = common ('-' ∷ '-' ∷ []) t in
    cond (eqb n 2) (after 2 (body_stop false (drop 2 t))) (stop n false)

-- ---- pieces
-- The numbers of the kinds.
abbrev pub END : ℕ
END = 0

abbrev pub DATA : ℕ
DATA = 1

abbrev pub COMMENT : ℕ
COMMENT = 2

abbrev pub START : ℕ
START = 3

abbrev pub EMPTY : ℕ
EMPTY = 4

abbrev pub CLOSE : ℕ
CLOSE = 5

abbrev pub NONE : ℕ
NONE = 6

pub record Piece : Type 0 where
  pub kind : ℕ
  pub whole : Bool
  pub middle : ℕ
  pub size : ℕ

abbrev pub piece : ℕ → ℕ → Stop → Piece
piece k m s = record { kind = k; whole = s.whole; middle = m; size = s.size }

unfoldable pub name_size : List ℕ → ℕ
name_size [] = 0
name_size (x ∷ t) = cond (name_start x) (suc (span name_char t)) 0

-- A start tag or an empty-element tag of which n bytes are read, the name's end being at m: t is what follows its white space.
unfoldable pub tag_end : ℕ → ℕ → List ℕ → Piece
tag_end m n [] = piece START m (stop n false)
tag_end m n (x ∷ t) =
    cond (eqb x '>') (piece START m (stop (suc n) true))
    (cond (eqb x '/') (piece EMPTY m (after (suc n) (close_stop t))) (piece START m (stop n false)))

-- t begins with the name.
unfoldable pub tag_piece : List ℕ → Piece
tag_piece t =
    let n = name_size t in
    let s = span white (drop n t) in
    tag_end (1 + n) (1 + n + s) (drop s (drop n t))

-- t is what follows the `</`.
unfoldable pub close_piece : List ℕ → Piece
close_piece t =
    let n = name_size t in
    let s = span white (drop n t) in
    cond (eqb n 0) (piece CLOSE 2 (stop 2 false)) (piece CLOSE (2 + n) (after (2 + n + s) (close_stop (drop s (drop n t)))))

-- t is what follows the `<`.
unfoldable pub markup_piece : List ℕ → Piece
markup_piece [] = piece NONE 1 (stop 1 false)
markup_piece (x ∷ t) =
    cond (eqb x '!') (piece COMMENT 2 (after 2 (comment_stop t)))
    (cond (eqb x '/') (close_piece t)
    (cond (name_start x) (tag_piece (x ∷ t)) (piece NONE 1 (stop 1 false))))

unfoldable pub piece_of : List ℕ → Piece
piece_of [] = piece END 0 (stop 0 true)
piece_of (x ∷ t) = cond (eqb x '<') (markup_piece t) (piece DATA (span white (x ∷ t)) (data_stop b0 0 (x ∷ t)))
