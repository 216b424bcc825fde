-- What `answer_whole` promises. Laws are in proofs/Laws. Assumes nothing.
--   Whole s o out r  == the array lent was o, now is out: its first r bytes are the whole output for the input s, and later bytes are as lent
use Rattle.std.specs.Prelude.{ℕ, ◌≡◌, List, length, take, drop}
use Rattle.rows.specs.Output.{table_output}

pub record Whole (s o out : List ℕ) (r : ℕ) : Type 0 where
  pub size : r ≡ length (table_output s)
  pub whole : take r out ≡ table_output s
  pub rest : drop r out ≡ drop r o
