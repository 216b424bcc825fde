-- How a comment's body goes on: over any Char but `-` at once, and at each `-`. Assumes nothing.
--   body_run                        over bytes of the body other than `-`
--   body_end, body-other            where it breaks
--   body_dash                       over a `-` that another byte follows
--   body-last, body-close           a `-` at the end of the text; two of them
-- Letters: t u rows of bytes, x y bytes, f a test of a byte.
use Prim.Native.Nat.{ℕ}
use mathlib.Core.Path.{◌≡◌, refl}
use mathlib.Core.List.{List, [], ◌∷◌}
use mathlib.Core.Bool.{Bool, true, false, ◌&&◌}
use lib.Dec.{eqb}
use lib.ListN.{drop}
use borrow.Author.Tests.{not-true}
use Rattle.seq.proofs.Laws.Bools.{and_left, and_right}
use Rattle.profile.specs.Bytes.{'-', char, commented}
use Rattle.profile.specs.Spans.{span}
use Rattle.profile.specs.Pieces.{stop, after, close_stop, body_stop}
use Rattle.markup.proofs.Reading.{after-add, run-over}

commented-char : (x : ℕ) → commented x ≡ true → char x ≡ true
unfolding commented
commented-char x h = and_left (char x) _ h

commented-other : (x : ℕ) → commented x ≡ true → eqb x '-' ≡ false
unfolding commented
commented-other x h = not-true (eqb x '-') (and_right (char x) _ h)

commented-none : (x : ℕ) → commented x ≡ false → eqb x '-' ≡ false → char x ≡ false
unfolding commented
commented-none x h e = strip (char x) (rw e at h)
  where
    strip : (c : Bool) → (c && true) ≡ false → c ≡ false
    strip true q = q
    strip false q = refl

body-byte : (x : ℕ) (t : List ℕ) → commented x ≡ true → body_stop false (x ∷ t) ≡ after 1 (body_stop false t)
unfolding body_stop
body-byte x t h = rw (commented-other x h, commented-char x h)

pub body_run : (f : ℕ → Bool) → ((x : ℕ) → f x ≡ true → commented x ≡ true) → (u : List ℕ) → body_stop false u ≡ after (span f u) (body_stop false (drop (span f u) u))
body_run f e u = run-over (body_stop false) f (λ x t q. body-byte x t (e x q)) u

pub body_end : body_stop false [] ≡ stop 0 false
unfolding body_stop
body_end = refl

pub body-other : (x : ℕ) (t : List ℕ) → commented x ≡ false → eqb x '-' ≡ false → body_stop false (x ∷ t) ≡ stop 0 false
unfolding body_stop
body-other x t h e = rw (e, commented-none x h e)

pub body-last : body_stop false ('-' ∷ []) ≡ after 1 (body_stop false [])
unfolding body_stop
body-last = refl

pub body_dash : (y : ℕ) (t : List ℕ) → eqb y '-' ≡ false → body_stop false ('-' ∷ y ∷ t) ≡ after 1 (body_stop false (y ∷ t))
unfolding body_stop
body_dash y t e = rw e

pub body-close : (t : List ℕ) → body_stop false ('-' ∷ '-' ∷ t) ≡ after 2 (close_stop t)
unfolding body_stop
body-close t = after-add 1 1 (close_stop t)
