-- The whole outcome of a search without counts, for the smallest or for the exclusive ones, as functions of what is lent (02, Q-3; 01, "Replies" and "Memory").
--   blank                == an entry of zeros, all fields
--   stack_after I ys      == the stack after the call: SIZE touches nothing; else its first 64 entries are zero, the rest as it was
--   is_listed I b         == the test for the nodes that are listed
--   Searched I b …       == reply, stack, out and own: never COUNT
-- SIZE, TREE and LIST are the depot's check (depot/specs/Depot). Which nodes are listed, their own counts, and how both are written is as for the searches with counts (answers/specs/Searches).
-- Letters: I index, b whether the smallest are listed; ys, o, w what is lent as stack, out and own; r reply. Assumes nothing.
use Rattle.std.specs.Prelude.{ℕ, ◌≡◌, List, ◌++◌, Bool, cond, ◌&&◌, ◌||◌, length, drop, replicate}
use Rattle.index.specs.declared.Reply.{Reply}
use Rattle.index.specs.Index.{Index}
use Rattle.index.specs.Replies.{kept_or}
use Rattle.depot.specs.Depot.{depot_size_ok, depot_checked}
use Rattle.answers.specs.Searches.{is_elca, is_slca, out_of, own_of, roomed, out_fits, own_fits}
use Rattle.engine.specs.declared.Entry.{Entry}

-- ---- the stack
unfoldable pub blank : Entry
blank = record { node = 0; own = replicate 8 0; covered = replicate 8 0 }

-- The first m entries zero, the rest as it was.
unfoldable pub blanked : ℕ → List Entry → List Entry
blanked m ys = replicate m blank ++ drop m ys

unfoldable pub stack_after : Index → List Entry → List Entry
stack_after I ys = cond (depot_size_ok I (length ys)) (blanked 64 ys) ys

-- ---- a whole search
-- The test for the nodes that are listed: the smallest, or the exclusive ones.
abbrev pub is_listed : Index → Bool → ℕ → Bool
is_listed I b = cond b (is_slca I) (is_elca I)

-- The stack, out and own were ys, o and w, and are ys', o' and w'. Own takes no part where the smallest are listed.
pub record Searched (I : Index) (b : Bool) (ys : List Entry) (o w : List ℕ) (r : Reply) (ys' : List Entry) (o' w' : List ℕ) : Type 0 where
  pub reply : r ≡ depot_checked I (length ys) (roomed I (is_listed I b) (out_fits I (is_listed I b) o && (b || own_fits I (is_listed I b) w)))
  pub stack : ys' ≡ stack_after I ys
  pub out : o' ≡ kept_or r (out_of I (is_listed I b)) o
  pub own : w' ≡ cond b w (kept_or r (own_of I (is_listed I b)) w)
