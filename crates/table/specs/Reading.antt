-- What an answer of `read` means: an error, that it failed, and why; 0, that the input has ended; else how many bytes came. Assumes nothing.
use Rattle.std.specs.Prelude.{ℕ, zero, suc, Result, Ok, Err, Option, Some, None}
use Rattle.std.specs.declared.io.Error.{Error}

unfoldable pub step_of : Result ℕ Error → Result (Option ℕ) Error
step_of (Err e) = Err e
step_of (Ok zero) = Ok None
step_of (Ok (suc k)) = Ok (Some (suc k))
