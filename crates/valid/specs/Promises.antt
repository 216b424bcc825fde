-- What the search with NOT promises. Letters: I index; w, o what is lent as work and out. Assumes nothing.
use Rattle.std.specs.Prelude.{ℕ, ◌≡◌, List}
use Rattle.index.specs.declared.Reply.{Reply}
use Rattle.index.specs.Index.{Index}
use Rattle.index.specs.Replies.{work_after}
use Rattle.answers.specs.Searches.{valid_reply, valid_out}

pub record ValidSearched (I : Index) (w o : List ℕ) (r : Reply) (w' o' : List ℕ) : Type 0 where
  pub reply : r ≡ valid_reply I w o
  pub work : w' ≡ work_after 8 I w
  pub out : o' ≡ valid_out I w o
