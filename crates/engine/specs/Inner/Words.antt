-- What the functions of the cursors promise each other for one word.
-- Letters: occ occurrences; c cursors; j word; f, e where a part of the occurrences begins and ends; r reach, h head. Assumes nothing.
use Rattle.std.specs.Prelude.{ℕ, ◌-◌, ◌≤◌, ◌<◌, ◌≡◌, List, cond, length, get_or}
use Rattle.engine.specs.declared.cursors.Cursors.{Cursors}
use Rattle.engine.specs.Inner.Cursors.{head, up_to, last_left, stands}

pub record LastPre (occ : List ℕ) (f e : ℕ) : Type 0 where
  pub within : e ≤ length occ
  pub small : f < e → get_or occ (e - 1) 0 < 65536

pub record TakeWordPre (occ : List ℕ) (c : Cursors) (j f r : ℕ) : Type 0 where
  pub word : j < 8
  pub some : head c j ≡ r → 0 < up_to c j
  pub last : head c j ≡ r → LastPre occ f (up_to c j - 1)

-- Word j's two numbers after its occurrence at the node that comes next was taken; all others are as they were.
pub record WordTaken (occ : List ℕ) (c : Cursors) (j f r h : ℕ) (c' : Cursors) : Type 0 where
  pub result : h ≡ cond (stands c r j) (last_left occ f (up_to c j - 1)) (head c j)
  pub head_is : head c' j ≡ h
  pub up_to_is : up_to c' j ≡ cond (stands c r j) (up_to c j - 1) (up_to c j)
  pub others : (i : ℕ) → (i ≡ j → ⊥) → (head c' i ≡ head c i) × (up_to c' i ≡ up_to c i)
