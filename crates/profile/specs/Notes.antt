-- The reader with a memory of nodes, a piece at a time: what one whole piece adds to the memory.
--   stretched h j l   == the data held, h, going on to its last byte l; it begins at j where there was none
--   marked h c        == the data held, h, with c for its first byte that is no white space, unless it has one
--   with_run h j w z   == the data held, h, with a run of z bytes from j on, of which the first w are white space
--   noted j t q m     == the memory m after the whole piece q, at the head of t and at the place j
-- That it is what byte after byte adds is in proofs/Notes. Assumes nothing.
use Rattle.std.specs.Prelude.{ℕ, ◌+◌, ◌-◌, List, [], ◌∷◌, cond, eqb, ltb}
use mathlib.Core.Option.{none, some}
use Rattle.profile.specs.Tree.{Held, nothing, held}
use Rattle.profile.specs.Reader.{Memory, remember, opened, emptied, closed}
use Rattle.profile.specs.Reader as reader
use Rattle.profile.specs.Pieces.{DATA, START, EMPTY, CLOSE, COMMENT, Piece}
use Rattle.profile.specs.Turns.{name_of}

abbrev pub stretched : Held → ℕ → ℕ → Held
stretched nothing j l = held j l none
stretched (held f k o) j l = held f l o

abbrev pub marked : Held → ℕ → Held
marked nothing c = nothing
marked (held f l none) c = held f l (some c)
marked (held f l (some d)) c = held f l (some d)

unfoldable pub with_run : Held → ℕ → ℕ → ℕ → Held
with_run h j w z = cond (ltb w z) (marked (stretched h j (j + z - 1)) (j + w)) (stretched h j (j + z - 1))

abbrev pub holding : Held → Memory → Memory
holding h m = remember m.mark h m.path m.nodes

-- Data is held inside an element alone.
abbrev pub noted_data : ℕ → Piece → Memory → List ℕ → Memory
noted_data j q m [] = m
noted_data j q m (v ∷ path) = holding (with_run m.held j q.middle q.size) m

unfoldable pub noted : ℕ → List ℕ → Piece → Memory → Memory
noted j t q m =
    cond (eqb q.kind DATA) (noted_data j q m m.path)
    (cond (eqb q.kind CLOSE) (closed (j + q.size - 1) (reader.marked j m))
    (cond (eqb q.kind START) (opened (name_of t q) (j + q.size - 1) (reader.marked j m))
    (cond (eqb q.kind EMPTY) (emptied (name_of t q) (j + q.size - 1) (reader.marked j m))
    (cond (eqb q.kind COMMENT) (reader.marked j m) m))))
