-- The whole outcome of the searches without counts, as functions of what is lent (02, Q-3; 01, "Replies" and "Memory").
--   merge_elca_reply, merge_slca_reply   == the reply: never COUNT
--   merge_elca_out, merge_slca_out       == out after the call
--   merge_elca_own                     == own after the call
-- The stack after a call is the engine's (engine/specs/Search), and SIZE, TREE and LIST are the depot's check (depot/specs/Depot). Which nodes are listed, their own counts, and how both are written is as for the searches with counts (answers/specs/Searches).
-- Letters: I index; ys, o, w what is lent as stack, out and own. Assumes nothing.
use Rattle.std.specs.Prelude.{ℕ, ◌≡◌, List, ◌&&◌, length}
use Rattle.index.specs.declared.Reply.{Reply}
use Rattle.index.specs.Index.{Index}
use Rattle.index.specs.Replies.{kept_or}
use Rattle.depot.specs.Depot.{depot_checked}
use Rattle.answers.specs.Searches.{is_elca, is_slca, out_of, own_of, roomed, out_fits, own_fits}
use Rattle.engine.specs.declared.Entry.{Entry}
use Rattle.engine.specs.Search.{stack_after}

-- ---- ELCA
unfoldable pub merge_elca_reply : Index → List Entry → List ℕ → List ℕ → Reply
merge_elca_reply I ys o w = depot_checked I (length ys) (roomed I (is_elca I) (out_fits I (is_elca I) o && own_fits I (is_elca I) w))

unfoldable pub merge_elca_out : Index → List Entry → List ℕ → List ℕ → List ℕ
merge_elca_out I ys o w = kept_or (merge_elca_reply I ys o w) (out_of I (is_elca I)) o

unfoldable pub merge_elca_own : Index → List Entry → List ℕ → List ℕ → List ℕ
merge_elca_own I ys o w = kept_or (merge_elca_reply I ys o w) (own_of I (is_elca I)) w

pub record MergedElca (I : Index) (ys : List Entry) (o w : List ℕ) (r : Reply) (ys' : List Entry) (o' w' : List ℕ) : Type 0 where
  pub reply : r ≡ merge_elca_reply I ys o w
  pub stack : ys' ≡ stack_after I ys
  pub out : o' ≡ merge_elca_out I ys o w
  pub own : w' ≡ merge_elca_own I ys o w

-- ---- SLCA
unfoldable pub merge_slca_reply : Index → List Entry → List ℕ → Reply
merge_slca_reply I ys o = depot_checked I (length ys) (roomed I (is_slca I) (out_fits I (is_slca I) o))

unfoldable pub merge_slca_out : Index → List Entry → List ℕ → List ℕ
merge_slca_out I ys o = kept_or (merge_slca_reply I ys o) (out_of I (is_slca I)) o

pub record MergedSlca (I : Index) (ys : List Entry) (o : List ℕ) (r : Reply) (ys' : List Entry) (o' : List ℕ) : Type 0 where
  pub reply : r ≡ merge_slca_reply I ys o
  pub stack : ys' ≡ stack_after I ys
  pub out : o' ≡ merge_slca_out I ys o
