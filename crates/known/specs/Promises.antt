-- What `admit` promises. Letters: I index; asks whether the empty answer is asked for; w work. Assumes nothing.
use Rattle.std.specs.Prelude.{ℕ, ◌≡◌, List, Bool}
use Rattle.index.specs.declared.Reply.{Reply}
use Rattle.index.specs.Index.{Index}
use Rattle.index.specs.Replies.{work_after}
use Rattle.known.specs.Known.{admit_reply}

-- Work was w and is w' at the end.
pub record Admitted (asks : Bool) (I : Index) (w : List ℕ) (r : Reply) (w' : List ℕ) : Type 0 where
  pub reply : r ≡ admit_reply asks I w
  pub work : w' ≡ work_after 8 I w
