-- A whole piece at the head of a row that is not empty has a byte or more, and is not the end. That it is within the row, and its middle within it, is in `profile`,
-- proofs/PieceLaws. Assumes nothing.
--   size-some               its size
--   kind-some, kind-most    its kind
-- Letters: t a row of bytes, x a byte, m n sizes.
use Prim.Native.Nat.{ℕ, zero-le, ◌+◌, ◌≤◌, ◌<◌}
use mathlib.Core.Path.{◌≡◌}
use mathlib.Core.Logic.{⊎_elim}
use mathlib.Core.List.{List, [], ◌∷◌}
use mathlib.Core.Bool.{Bool, true, false, cond, false≢true}
use native.Mathlib.Omega.{arith}
use lib.Dec.{eqb}
use lib.ListN.{drop}
use Rattle.seq.proofs.Laws.Bools.{bool_cases}
use Rattle.profile.specs.Bytes.{'!', '&', '/', '<', '>', white, name_start}
use Rattle.profile.specs.Spans.{span}
use Rattle.profile.specs.Machine.{b0, run_byte}
use Rattle.profile.specs.Pieces.{Stop, stop, after, reference_stop, data_stop, Piece, name_size, tag_end, tag_piece, close_piece, markup_piece, piece_of}

-- ---- its size
tag_end-some : (m n : ℕ) (t : List ℕ) → n ≤ (tag_end m n t).size
unfolding tag_end
tag_end-some m n [] = omega arith
tag_end-some m n (x ∷ t) =
    ⊎_elim
    (λ q. rw q (omega arith))
    (λ q. rw q (⊎_elim (λ c. rw c (omega arith)) (λ c. rw c (omega arith)) (bool_cases (eqb x '/'))))
    (bool_cases (eqb x '>'))

tag-some : (t : List ℕ) → 0 < (tag_piece t).size
unfolding tag_piece
tag-some t = omega (arith, tag_end-some (1 + name_size t) (1 + name_size t + span white (drop (name_size t) t)) (drop (span white (drop (name_size t) t)) (drop (name_size t) t)))

close_piece-some : (t : List ℕ) → 0 < (close_piece t).size
unfolding close_piece
close_piece-some t = ⊎_elim (λ q. rw q (omega arith)) (λ q. rw q (omega arith)) (bool_cases (eqb (name_size t) 0))

markup-some : (t : List ℕ) → 0 < (markup_piece t).size
unfolding markup_piece
markup-some [] = omega arith
markup-some (x ∷ t) =
    ⊎_elim
    (λ q. rw q (omega arith))
    (λ q. rw q (⊎_elim
    (λ a. rw a (close_piece-some t))
    (λ a. rw a (⊎_elim (λ b. rw b (tag-some (x ∷ t))) (λ b. rw b (omega arith)) (bool_cases (name_start x))))
    (bool_cases (eqb x '/'))))
    (bool_cases (eqb x '!'))

-- A stop that is one of these and whole has a byte.
some_byte : (a b c : Bool) (u v w : Stop) → (cond a (cond b (after 1 u) (after 1 v)) (cond c (after 1 w) (stop 0 false))).whole ≡ true →
    0 < (cond a (cond b (after 1 u) (after 1 v)) (cond c (after 1 w) (stop 0 false))).size
some_byte true true c u v w h = omega arith
some_byte true false c u v w h = omega arith
some_byte false b true u v w h = omega arith
some_byte false b false u v w h = absurd (false≢true h)

data_some : (x : ℕ) (t : List ℕ) → eqb x '<' ≡ false → (data_stop b0 0 (x ∷ t)).whole ≡ true → 0 < (data_stop b0 0 (x ∷ t)).size
unfolding data_stop
data_some x t q h = rw q (some_byte (eqb x '&') (reference_stop t).whole (run_byte b0 x) _ _ _ (rw q at h))

pub size-some : (x : ℕ) (t : List ℕ) → (piece_of (x ∷ t)).whole ≡ true → 0 < (piece_of (x ∷ t)).size
unfolding piece_of
size-some x t w = ⊎_elim (λ q. rw q (markup-some t)) (λ q. rw q (data_some x t q (rw q at w))) (bool_cases (eqb x '<'))

-- ---- kinds
-- The number of a kind other than END.
record Kind (p : Piece) : Type 0 where
  some : 0 < p.kind
  most : p.kind ≤ 6

tag_end-kind : (m n : ℕ) (t : List ℕ) → Kind (tag_end m n t)
unfolding tag_end
tag_end-kind m n [] = record { some = omega arith; most = omega arith }
tag_end-kind m n (x ∷ t) =
    ⊎_elim
    (λ q. rw q (record { some = omega arith; most = omega arith }))
    (λ q. rw q (⊎_elim (λ c. rw c (record { some = omega arith; most = omega arith })) (λ c. rw c (record { some = omega arith; most = omega arith })) (bool_cases (eqb x '/'))))
    (bool_cases (eqb x '>'))

tag-kind : (t : List ℕ) → Kind (tag_piece t)
unfolding tag_piece
tag-kind t = tag_end-kind _ _ _

close_piece-kind : (t : List ℕ) → Kind (close_piece t)
unfolding close_piece
close_piece-kind t =
    ⊎_elim (λ q. rw q (record { some = omega arith; most = omega arith })) (λ q. rw q (record { some = omega arith; most = omega arith })) (bool_cases (eqb (name_size t) 0))

markup-kind : (t : List ℕ) → Kind (markup_piece t)
unfolding markup_piece
markup-kind [] = record { some = omega arith; most = omega arith }
markup-kind (x ∷ t) =
    ⊎_elim
    (λ q. rw q (record { some = omega arith; most = omega arith }))
    (λ q. rw q (⊎_elim
    (λ a. rw a (close_piece-kind t))
    (λ a. rw a (⊎_elim (λ b. rw b (tag-kind (x ∷ t))) (λ b. rw b (record { some = omega arith; most = omega arith })) (bool_cases (name_start x))))
    (bool_cases (eqb x '/'))))
    (bool_cases (eqb x '!'))

head-kind : (x : ℕ) (t : List ℕ) → Kind (piece_of (x ∷ t))
unfolding piece_of
head-kind x t = ⊎_elim (λ q. rw q (markup-kind t)) (λ q. rw q (record { some = omega arith; most = omega arith })) (bool_cases (eqb x '<'))

pub kind-some : (x : ℕ) (t : List ℕ) → 0 < (piece_of (x ∷ t)).kind
kind-some x t = (head-kind x t).some

pub kind-most : (t : List ℕ) → (piece_of t).kind ≤ 6
unfolding piece_of
kind-most [] = zero-le
kind-most (x ∷ t) = (head-kind x t).most
