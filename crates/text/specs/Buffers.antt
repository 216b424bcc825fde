-- What stands in a buffer that is written from its front. As much is written as fits.
--   front w o             == the buffer o with w written over its front, as far as w fits
--   Wrote w o out at      == the buffer lent was o, now is out: w is at its front, as far as it fits, and `at` is the next place
--   Adds t out at out' r  == t has been put behind whatever was written to a buffer up to the place `at`, and r is the next place;
--                            at a place past the buffer's end nothing is written, and the place stays
--   Added t w w'          == a writer that was w is now w', over the same buffer, and t has been put behind what was written
-- Letters: w what is written, o what was lent, t what is added. Laws are in proofs/Laws. Assumes nothing.
use Rattle.std.specs.Prelude.{ℕ, min, ◌<◌, ◌≡◌, List, ◌++◌, length, take, drop}
use Rattle.text.specs.declared.Writer.{Writer}

unfoldable pub front : {A : Type 0} → List A → List A → List A
front w o = take (length o) w ++ drop (length w) o

pub record Wrote {A : Type 0} (w o out : List A) (at : ℕ) : Type 0 where
  pub holds : out ≡ front w o
  pub next : at ≡ min (length w) (length o)

pub record Adds {A : Type 0} (t out : List A) (at : ℕ) (out' : List A) (r : ℕ) : Type 0 where
  pub adds : (w o : List A) → Wrote w o out at → Wrote (w ++ t) o out' r
  pub past_out : length out < at → out' ≡ out
  pub past_next : length out < at → r ≡ at

pub record Added {A : Type 0} (t : List A) (w w' : Writer A) : Type 0 where
  pub same : w'.out.ghost_name ≡ w.out.ghost_name
  pub adds : Adds t w.out.now w.at w'.out.now w'.at
