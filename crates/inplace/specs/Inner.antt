-- What the functions of this crate promise each other; no public contract cites it.
--   CommentAt T i r   == a comment stands at the place i of the text T, and r is the place behind it; or none does, and r is none
--   NextLetter T i l  == l is the next letter or digit of the word that goes on at the place i of T, with the place behind it
--   NoLetter T i      == that word has none
--   LetterFrom T i r  == the one or the other, as r says
-- Assumes nothing.
use Rattle.std.specs.Prelude.{ℕ, ◌+◌, ◌≤◌, ◌<◌, ◌≡◌, List, [], ◌∷◌, Option, None, Some, length, drop}
use Rattle.words.specs.Reading.{gap, word_at, end_at}
use Rattle.inplace.specs.declared.Letter.{Letter}

abbrev pub CommentAt : List ℕ → ℕ → Option ℕ → Type 0
CommentAt T i None = gap (drop i T) ≡ 0
CommentAt T i (Some j) = (i < j) × (j ≡ i + gap (drop i T))

pub record NextLetter (T : List ℕ) (i : ℕ) (l : Letter) : Type 0 where
  pub ahead : i < l.end
  pub within : l.end ≤ length T
  pub word : word_at T i ≡ l.byte ∷ word_at T l.end
  pub end : end_at T i ≡ end_at T l.end

pub record NoLetter (T : List ℕ) (i : ℕ) : Type 0 where
  pub word : word_at T i ≡ []
  pub end : end_at T i ≡ i

abbrev pub LetterFrom : List ℕ → ℕ → Option Letter → Type 0
LetterFrom T i None = NoLetter T i
LetterFrom T i (Some l) = NextLetter T i l
