-- `octets::run` meets its contract: glue over Running.
use Prim.Native.Nat.{ℕ, ◌<◌}
use mathlib.Core.Path.{◌≡◌}
use mathlib.Core.Bool.{Bool}
use Rattle.octets.proofs.Running.{Run}
use Rattle.octets.proofs.run.Given as goal

abbrev pub invariant-loop-i : goal.invariant-loop-i
invariant-loop-i g l = (f : ℕ → Bool) → ((x : ℕ) (r : Bool) → x < 256 → goal.F-post g l.test x r → r ≡ f x) → Run f l.text l.at l.i
