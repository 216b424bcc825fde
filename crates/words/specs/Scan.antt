-- One pass over a text that finds the first byte of each word, and its node. It judges nothing: a text of the profile is cut into comments, end tags, references, tags and data
-- by their first bytes, and each ends at its first `>`, `;` or `--`, as in `skim`.
--   Ahead          == what the pass knows before a byte: whether it is in a start tag; whether a word is going on, so that a letter belongs to it; whether the data since
--                     the last tag makes a node; and the number of a node: in a tag its own, else that of the next one
--   start          == before the first byte
--   past a x t     == the same after the byte x and what is passed over with it; t follows x
--   skips a x t    == how many bytes of t are passed over with x
--   starts a x     == a word starts with the byte x
--   scan k a t     == the mentions in t, after k bytes that are passed over;  mentions_in T: those of the text T
--   Seen           == where the next word starts, if any, and what the pass knows behind its first byte
--   seek k a t     == the first word that starts in t;  seek_in T i a: from the place i of the text T on
-- That these are the mentions of specs/Places for every text of the profile: proofs/Scan. Letters: a what is known, x a byte, t a row. Assumes nothing.
use Rattle.std.specs.Prelude.{ℕ, zero, suc, pred, List, [], ◌∷◌, Bool, true, false, not, cond, ◌&&◌, ◌||◌, eqb, drop}
use Rattle.profile.specs.Bytes.{'&', '<', '>', semicolon, white}
use Rattle.profile.specs.Spans.{span, other}
use Rattle.profile.specs.Tree.{place_in}
use Rattle.profile.specs.Pieces.{COMMENT, CLOSE, Piece}
use Rattle.skim.specs.Skim.{skim_of}
use Rattle.words.specs.Runs.{word_byte}
use Rattle.words.specs.Places.{Mention, mention}

pub record Ahead : Type 0 where
  pub tag : Bool
  pub going : Bool
  pub solid : Bool
  pub node : ℕ

abbrev pub ahead : Bool → Bool → Bool → ℕ → Ahead
ahead g o b v = record { tag = g; going = o; solid = b; node = v }

abbrev pub start : Ahead
start = ahead false false false 0

-- The number of the node after the data.
abbrev pub behind : Bool → ℕ → ℕ
behind b v = cond b (suc v) v

-- ---- one byte
-- A comment changes nothing; behind an end tag data begins anew; in another tag its name comes first.
unfoldable pub past_markup : Ahead → ℕ → Ahead
past_markup a k =
    cond (eqb k COMMENT) a
    (cond (eqb k CLOSE) (ahead false false false (behind a.solid a.node)) (ahead true false false (behind a.solid a.node)))

unfoldable pub skips_markup : Piece → ℕ
skips_markup q = cond (eqb q.kind COMMENT || eqb q.kind CLOSE) (pred q.size) 0

-- A byte that is neither a letter or digit nor `<`: in a tag, and in data.
unfoldable pub past_other : Ahead → ℕ → Ahead
past_other a x =
    cond a.tag
    (cond (eqb x '>') (ahead false false false (suc a.node)) (ahead true false a.solid a.node))
    (ahead false false (a.solid || not (white x)) a.node)

-- A reference is passed over to its `;`.
unfoldable pub skips_other : Ahead → ℕ → List ℕ → ℕ
skips_other a x t = cond (not a.tag && eqb x '&') (suc (span (other semicolon) t)) 0

unfoldable pub past : Ahead → ℕ → List ℕ → Ahead
past a x t =
    cond (word_byte x) (ahead a.tag true (a.solid || not a.tag) a.node) (cond (eqb x '<') (past_markup a (skim_of (x ∷ t)).kind) (past_other a x))

unfoldable pub skips : Ahead → ℕ → List ℕ → ℕ
skips a x t = cond (word_byte x) 0 (cond (eqb x '<') (skips_markup (skim_of (x ∷ t))) (skips_other a x t))

unfoldable pub starts : Ahead → ℕ → Bool
starts a x = word_byte x && not a.going

-- ---- a row of bytes
pub record Seen : Type 0 where
  pub found : Bool
  pub place : ℕ
  pub tag : Bool
  pub solid : Bool
  pub node : ℕ

abbrev pub seen : ℕ → Ahead → Seen
seen i a = record { found = true; place = i; tag = a.tag; solid = a.solid || not a.tag; node = a.node }

abbrev pub unseen : Seen
unseen = record { found = false; place = 0; tag = false; solid = false; node = 0 }

module _ (place : List ℕ → ℕ) where
  unfoldable pub scan : ℕ → Ahead → List ℕ → List Mention
  scan k a [] = []
  scan (suc k) a (x ∷ t) = scan k a t
  scan zero a (x ∷ t) = cond (starts a x) (mention a.node (place (x ∷ t)) ∷ scan (skips a x t) (past a x t) t) (scan (skips a x t) (past a x t) t)

  unfoldable pub seek : ℕ → Ahead → List ℕ → Seen
  seek k a [] = unseen
  seek (suc k) a (x ∷ t) = seek k a t
  seek zero a (x ∷ t) = cond (starts a x) (seen (place (x ∷ t)) a) (seek (skips a x t) (past a x t) t)

unfoldable pub mentions_in : List ℕ → List Mention
mentions_in T = scan (place_in T) 0 start T

unfoldable pub seek_in : List ℕ → ℕ → Ahead → Seen
seek_in T i a = seek (place_in T) 0 a (drop i T)
