-- What reading a text replies, and what it leaves in each row (02, Q-2).
--   Lent           == what is lent: a row each for parents, tags, first and last places, and work
--   fits           == n nodes fit rows of these lengths, and three times as many entries fit the work
--   read_reply T l  == the reply to the text T: the judge's, or ROOM with the nodes needed
--   parents_of, tags_in, firsts_of, lasts_of == the four rows of the nodes ns
--   Reads T l r k  == the reply r, and what is lent afterwards, k: the rows of the text's tree over the fronts where it is accepted, everything as it was where not
-- The tree of a text is in `profile`, specs/Reader (`tree_of`); that it is that of the grammar, in proofs/Complete there (`tree-read`). Assumes nothing.
use Rattle.std.specs.Prelude.{ℕ, ◌*◌, ◌≡◌, List, map, Bool, cond, ◌&&◌, eqb, leb, length}
use Rattle.seq.specs.Memory.{zeroed}
use Rattle.index.specs.declared.Reply.{Reply}
use Rattle.index.specs.Replies.{accepted, ROOM, totalled, kept_or}
use Rattle.profile.specs.Tree.{Node}
use Rattle.profile.specs.Reader.{tree_of}
use Rattle.profile.specs.Tags.{tags_of}
use Rattle.judge.specs.Judge.{judge_reply}

pub record Lent : Type 0 where
  pub parents : List ℕ
  pub tags : List ℕ
  pub firsts : List ℕ
  pub lasts : List ℕ
  pub work : List ℕ

abbrev pub lent : List ℕ → List ℕ → List ℕ → List ℕ → List ℕ → Lent
lent p t f l w = record { parents = p; tags = t; firsts = f; lasts = l; work = w }

unfoldable pub fits : ℕ → ℕ → ℕ → ℕ → ℕ → ℕ → Bool
fits n p t f l w = leb n p && (leb n t && (leb n f && (leb n l && leb (3 * n) w)))

abbrev pub fits_in : ℕ → Lent → Bool
fits_in n l = fits n (length l.parents) (length l.tags) (length l.firsts) (length l.lasts) (length l.work)

-- ROOM comes after whatever the judge refuses.
unfoldable pub read_reply : List ℕ → Lent → Reply
read_reply T l =
    cond (eqb (judge_reply T).refusal accepted)
    (cond (fits_in (judge_reply T).total l) (judge_reply T) (totalled ROOM (judge_reply T).total))
    (judge_reply T)

-- ---- the rows of a tree
abbrev pub parents_of : List Node → List ℕ
parents_of ns = map (λ (a : Node). a.parent) ns

-- Data has no name, and so the tag 0.
abbrev pub tags_in : List Node → List ℕ
tags_in ns = tags_of (map (λ (a : Node). a.name) ns)

abbrev pub firsts_of : List Node → List ℕ
firsts_of ns = map (λ (a : Node). a.first) ns

abbrev pub lasts_of : List Node → List ℕ
lasts_of ns = map (λ (a : Node). a.last) ns

-- ---- the promise
pub record Reads (T : List ℕ) (l : Lent) (r : Reply) (k : Lent) : Type 0 where
  pub reply : r ≡ read_reply T l
  pub parents : k.parents ≡ kept_or r (parents_of (tree_of T)) l.parents
  pub tags : k.tags ≡ kept_or r (tags_in (tree_of T)) l.tags
  pub firsts : k.firsts ≡ kept_or r (firsts_of (tree_of T)) l.firsts
  pub lasts : k.lasts ≡ kept_or r (lasts_of (tree_of T)) l.lasts
  pub work : k.work ≡ cond (eqb r.refusal accepted) (zeroed (3 * length (tree_of T)) l.work) l.work
