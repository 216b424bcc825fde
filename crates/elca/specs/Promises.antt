-- What the ELCA search promises. Letters: I index; w, o, s what is lent as work, out and own. Assumes nothing.
use Rattle.std.specs.Prelude.{ℕ, ◌≡◌, List}
use Rattle.index.specs.declared.Reply.{Reply}
use Rattle.index.specs.Index.{Index}
use Rattle.index.specs.Replies.{work_after}
use Rattle.answers.specs.Searches.{elca_reply, elca_out, elca_own}

pub record ElcaSearched (I : Index) (w o s : List ℕ) (r : Reply) (w' o' s' : List ℕ) : Type 0 where
  pub reply : r ≡ elca_reply I w o s
  pub work : w' ≡ work_after 0 I w
  pub out : o' ≡ elca_out I w o s
  pub own : s' ≡ elca_own I w o s
