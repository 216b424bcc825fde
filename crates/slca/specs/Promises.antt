-- What the public functions of this crate promise. Letters: I index; w, o what is lent as work and out. Assumes nothing.
use Rattle.std.specs.Prelude.{ℕ, ◌≡◌, List}
use Rattle.index.specs.declared.Reply.{Reply}
use Rattle.index.specs.Index.{Index}
use Rattle.index.specs.Replies.{check_reply, work_after, kept_or}
use Rattle.answers.specs.Searches.{slca_reply, slca_out}
use Rattle.slca.specs.Marks.{slca_marks}

-- The index check, and where it accepts the marks over the front of work.
pub record Marked (I : Index) (w : List ℕ) (r : Reply) (w' : List ℕ) : Type 0 where
  pub reply : r ≡ check_reply I w
  pub work : w' ≡ kept_or (check_reply I w) (slca_marks I) (work_after 8 I w)

-- The search.
pub record SlcaSearched (I : Index) (w o : List ℕ) (r : Reply) (w' o' : List ℕ) : Type 0 where
  pub reply : r ≡ slca_reply I w o
  pub work : w' ≡ work_after 0 I w
  pub out : o' ≡ slca_out I w o
