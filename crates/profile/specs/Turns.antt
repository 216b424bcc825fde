-- The reader that only counts, a piece at a time: what one piece does to the place and the tally, or the reply that it ends with.
--   Turn            == halt with a reply, or go on behind the piece with a place and a tally
--   follow r f      == the reply: that of a halt, or what f says of the place and the tally
--   turn p c j t    == the turn that the piece at the head of t gives, at the place p with the tally c, its first byte being at j
--   lawful p        == the name of each open element is a Name
-- That turn after turn comes to the same reply as byte after byte is in proofs/Turns. Letters: q a piece, n a name; L N the limits. Assumes nothing.
use Rattle.std.specs.Prelude.{ℕ, suc, ◌+◌, ◌-◌, pred, List, Bool, true, false, not, cond, ◌&&◌, ◌||◌, eqb, ltb, length, take, drop}
use Rattle.profile.specs.Bytes.{is_name}
use Rattle.profile.specs.Spans.{common}
use Rattle.profile.specs.Machine.{Place, before, after, inside, past}
use Rattle.profile.specs.Check.{Tally, Reply, whole, broken, over, full}
use Rattle.profile.specs.Pieces.{END, DATA, START, EMPTY, CLOSE, Piece, piece_of}

pub data Turn : Type 0 where
  halt : Reply → Turn
  go : Place → Tally → Turn

abbrev pub follow : Turn → (Place → Tally → Reply) → Reply
follow (halt r) f = r
follow (go p c) f = f p c

abbrev pub tally : ℕ → ℕ → Bool → Tally
tally m d b = record { met = m; depth = d; solid = b }

-- The name of a tag.
abbrev pub name_of : List ℕ → Piece → List ℕ
name_of t q = take (q.middle - 1) (drop 1 t)

-- The end of the text.
unfoldable pub turn_end : Place → Tally → ℕ → Turn
turn_end before c j = halt (broken j)
turn_end after c j = halt (whole c.met)
turn_end (inside n p) c j = halt (broken j)

-- The tally after data, which makes a node where it is the first since the last tag that is not all white space.
abbrev pub with_data : Tally → Piece → Tally
with_data c q = cond (ltb q.middle q.size) (tally (cond c.solid c.met (suc c.met)) c.depth true) c

-- Outside the root data must be white space.
abbrev pub turn_space : Place → Tally → ℕ → Piece → Turn
turn_space p c j q = cond (q.whole && eqb q.middle q.size) (go p c) (halt (broken (j + q.middle)))

abbrev pub tag_tally : Tally → Piece → Tally
tag_tally c q = tally (suc c.met) (cond (eqb q.kind START) (suc c.depth) c.depth) false

-- An end tag of the name n must come.
abbrev pub named : List ℕ → List ℕ → Piece → Bool
named n t q = eqb (common n (drop 2 t)) (length n) && eqb q.middle (2 + length n)

module _ (L N : ℕ) where
  unfoldable pub turn_data : Place → Tally → ℕ → Piece → Turn
  turn_data before c j q = turn_space before c j q
  turn_data after c j q = turn_space after c j q
  turn_data (inside n p) c j q =
      cond (ltb q.middle q.size && not c.solid && full L N c) (halt (over c.met))
      (cond q.whole (go (inside n p) (with_data c q)) (halt (broken (j + q.size))))

  -- A start tag or an empty-element tag where one may stand.
  abbrev pub turn_element : Place → Tally → ℕ → List ℕ → Piece → Turn
  turn_element p c j t q =
      cond q.whole
      (cond (full L N c) (halt (over c.met)) (go (cond (eqb q.kind START) (inside (name_of t q) p) (past p)) (tag_tally c q)))
      (halt (broken (j + q.size)))

  unfoldable pub turn_tag : Place → Tally → ℕ → List ℕ → Piece → Turn
  turn_tag before c j t q = turn_element before c j t q
  turn_tag after c j t q = halt (broken (j + 1))
  turn_tag (inside n p) c j t q = turn_element (inside n p) c j t q

  unfoldable pub turn_close : Place → Tally → ℕ → List ℕ → Piece → Turn
  turn_close before c j t q = halt (broken (j + 1))
  turn_close after c j t q = halt (broken (j + 1))
  turn_close (inside n p) c j t q =
      cond (named n t q)
      (cond q.whole (go (past p) (tally c.met (pred c.depth) false)) (halt (broken (j + q.size))))
      (halt (broken (j + (2 + common n (drop 2 t)))))

  -- By the kind; the last line is for comments, and for a `<` that begins no piece.
  unfoldable pub turn_by : Place → Tally → ℕ → List ℕ → Piece → Turn
  turn_by p c j t q =
      cond (eqb q.kind END) (turn_end p c j)
      (cond (eqb q.kind DATA) (turn_data p c j q)
      (cond (eqb q.kind CLOSE) (turn_close p c j t q)
      (cond (eqb q.kind START || eqb q.kind EMPTY) (turn_tag p c j t q)
      (cond q.whole (go p c) (halt (broken (j + q.size)))))))

  unfoldable pub turn : Place → Tally → ℕ → List ℕ → Turn
  turn p c j t = turn_by p c j t (piece_of t)

-- Each open element's name is a Name.
unfoldable pub lawful : Place → Bool
lawful before = true
lawful after = true
lawful (inside n p) = is_name n && lawful p
