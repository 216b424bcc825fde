-- The numbering of the names of a row of nodes.
--   name_of t m f      == the name of a node with the mark m, whose `<` stands in the text at the place f: none (the empty row) where the mark is 0
--   names t ms fs     == the names of all nodes, in order: one for each mark
--   fits t fs ms w    == at most 65,536 nodes and 16,777,216 bytes of text, a place for each node, and three entries of work for each node
--   Numbered t fs ms w ms' w' r   == what `number` promises: r says whether all fits; where it does, each mark has become its name's number, from 1 in order
--                        of first appearance, or 0 where there is no name, and the first three entries of work for each node are 0. Otherwise nothing has changed
-- Letters: t text, ms marks, fs places, w work; ms' w' the same afterwards. That no second outcome fits is in proofs/Laws. Assumes nothing.
use Rattle.std.specs.Prelude.{ℕ, ◌+◌, ◌*◌, ◌≡◌, List, [], ◌∷◌, Bool, cond, ◌&&◌, eqb, leb, length, get_or, drop}
use Rattle.seq.specs.Memory.{zeroed}
use Rattle.profile.specs.Spans.{name_at}
use Rattle.profile.specs.Tags.{tags_of}

unfoldable pub name_of : List ℕ → ℕ → ℕ → List ℕ
name_of t m f = cond (eqb m 0) [] (name_at t (f + 1))

unfoldable pub names : List ℕ → List ℕ → List ℕ → List (List ℕ)
names t [] fs = []
names t (m ∷ ms) fs = name_of t m (get_or fs 0 0) ∷ names t ms (drop 1 fs)

unfoldable pub fits : List ℕ → List ℕ → List ℕ → List ℕ → Bool
fits t fs ms w = leb (length ms) 65536 && leb (length ms) (length fs) && leb (3 * length ms) (length w) && leb (length t) 16777216

pub record Numbered (t fs ms w ms' w' : List ℕ) (r : Bool) : Type 0 where
  pub reply : r ≡ fits t fs ms w
  pub tags : ms' ≡ cond r (tags_of (names t ms fs)) ms
  pub work : w' ≡ cond r (zeroed (3 * length ms) w) w
