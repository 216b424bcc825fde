-- What the steps of the search promise each other; no public contract cites it.
--   valid_flag p t k ends occ v   == 1 at a valid SLCA of the first k words, the later ones being negative; else 0
-- Letters: w, o what is lent as work and out; p parents, t tags, n nodes, k positive words; v node, j word. Assumes nothing.
use Rattle.std.specs.Prelude.{ℕ, ◌+◌, ◌-◌, ◌*◌, ◌≤◌, ◌<◌, ◌≡◌, List, ◌++◌, cond, eqb, length, get_or, take, replicate}
use Rattle.seq.specs.Below.{tabulate}
use Rattle.seq.specs.Memory.{zeroed}
use Rattle.tree.specs.Plain.{Lawful}
use Rattle.index.specs.declared.Reply.{Reply}
use Rattle.index.specs.Index.{word_list}
use Rattle.index.specs.Plain.{WordKept}
use Rattle.answers.specs.Answers.{slca}
use Rattle.answers.specs.Not.{negator, valid_slca}
use Rattle.listing.specs.Listing.{flagged_reply, flagged_out}

unfoldable pub valid_flag : List ℕ → List ℕ → ℕ → List ℕ → List ℕ → ℕ → ℕ
valid_flag p t k ends occ v =
    cond (valid_slca p k (word_list ends occ) (negator p t (length ends - k) λ j. word_list ends occ (k + j)) v) 1 0

-- A right tree and right lists, at least one negative word, and four rows, in the first of which 1 stands at each SLCA.
pub record RejectPre (p t : List ℕ) (k : ℕ) (ends occ w : List ℕ) : Type 0 where
  pub some : 1 ≤ length p
  pub few : length p ≤ 65536
  pub tagged : length t ≡ length p
  pub tree : Lawful p t
  pub some_positive : 1 ≤ k
  pub some_negative : k < length ends
  pub few_words : length ends ≤ 8
  pub words : (j : ℕ) → j < length ends → WordKept (length p) ends occ j
  pub long : length w ≡ length p * 4
  pub marks : (v : ℕ) → v < length p → eqb (get_or w v 0) 1 ≡ slca p k (word_list ends occ) v

pub record Rejected (p t : List ℕ) (k : ℕ) (ends occ w' : List ℕ) : Type 0 where
  pub rows : w' ≡ tabulate (length p) (valid_flag p t k ends occ) ++ replicate (length p * 3) 0

pub record Finished (n : ℕ) (w o : List ℕ) (r : Reply) (w' o' : List ℕ) : Type 0 where
  pub reply : r ≡ flagged_reply (take n w) (length o)
  pub work : w' ≡ zeroed n w
  pub out : o' ≡ flagged_out (take n w) o
