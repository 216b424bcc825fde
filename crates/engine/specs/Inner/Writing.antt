-- What the functions that judge, write and climb promise each other.
-- Letters: k words, m row; s state, e the entry that is closed; o, w out and own; p parents, v node. Assumes nothing.
use Rattle.std.specs.Prelude.{ℕ, ◌+◌, ◌*◌, ◌≤◌, ◌<◌, ◌≡◌, List, Bool, true, false, not, cond, length, set}
use Rattle.tree.specs.Plain.{Down}
use Rattle.engine.specs.declared.Entry.{Entry}
use Rattle.engine.specs.declared.steps.State.{State}
use Rattle.engine.specs.declared.steps.Tally.{Tally}
use Rattle.engine.specs.Inner.Entries.{full_entry}
use Rattle.engine.specs.Inner.Steps.{number, fills, now, left_after, out_after, own_after, row_put, writing}

-- There is room for row m.
pub record PutPre (k m : ℕ) (smallest : Bool) (o w : List ℕ) : Type 0 where
  pub words : k ≤ 8
  pub small : m < 65536
  pub out : m < length o
  pub own : smallest ≡ false → m * k + k ≤ length w

pub record Put (e : Entry) (k m : ℕ) (smallest : Bool) (o w o' w' : List ℕ) : Type 0 where
  pub out : o' ≡ set o m e.node
  pub own : w' ≡ cond (not smallest) (row_put k m e.own w) w

pub record JudgePre (k : ℕ) (o w : List ℕ) (s : State) (e : Entry) (full : Bool) : Type 0 where
  pub words : k ≤ 8
  pub known : full ≡ full_entry k e
  pub more : number s.tally ≤ 65536
  pub left : writing k (now s) e ≡ true → 0 < number s.tally
  pub out : fills s.tally ≡ true → number s.tally ≤ length o
  pub own : fills s.tally ≡ true → s.smallest ≡ false → number s.tally * k ≤ length w

pub record Judged (k : ℕ) (o w : List ℕ) (s : State) (e : Entry) (m : Tally) (o' w' : List ℕ) : Type 0 where
  pub result : number m ≡ left_after k (now s) e
  pub fill : fills m ≡ fills s.tally
  pub out : o' ≡ out_after k (now s) e o
  pub own : w' ≡ own_after k (now s) e w

-- Parents stand before their children, and v is no root.
pub record ClimbPre (p : List ℕ) (v : ℕ) : Type 0 where
  pub down : Down p (length p)
  pub node : v < length p
  pub not_root : 0 < v
