-- What the functions of the cursors give for one word is what the definitions say. Assumes nothing.
-- Letters: occ occurrences, f, e where a part of them begins and ends; c cursors, r reach, j word.
use Prim.Native.Nat.{ℕ, ◌+◌, ◌-◌, ◌<◌, ◌≤◌}
use mir.Val.{bool_byte}
use mathlib.Core.Path.{◌≡◌, refl}
use mathlib.Core.List.{List}
use mathlib.Core.Bool.{Bool, true, false, cond}
use native.Mathlib.Numerals.{add-one}
use borrow.Author.Tests.{lt-ltb, le-ltb}
use lib.ListN.{length, get_or}
use Rattle.seq.proofs.Laws.Loops.{Filling}
use Rattle.engine.specs.declared.cursors.Cursors.{Cursors}
use Rattle.engine.specs.Inner.Cursors.{coming, coming_row, last_left}
use Rattle.engine.proofs.Rows.{filled_row}

pub last_some : (occ : List ℕ) (f e : ℕ) → f < e → get_or occ (e - 1) 0 + 1 ≡ last_left occ f e
unfolding last_left
last_some occ f e l = rw (lt-ltb f e l, add-one)

-- `u32::from` of a test is its flag.
pub flag-from : (a b : Bool) → a ≡ b → bool_byte a ≡ cond b 1 0
flag-from true b e = rw (← e) refl
flag-from false b e = rw (← e) refl

pub last_none : (occ : List ℕ) (f e : ℕ) → e ≤ f → 0 ≡ last_left occ f e
unfolding last_left
last_none occ f e l = rw (le-ltb f e l)

-- A row of 8 that has been filled with what comes next.
pub coming-end : (c : Cursors) (r : ℕ) (d w : List ℕ) (j : ℕ) → Filling (coming c r) d w j → length d ≡ 8 → 8 ≤ j → w ≡ coming_row c r
unfolding coming_row
coming-end c r d w j s e l = filled_row (coming c r) d w j s e l
