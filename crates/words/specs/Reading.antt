-- Reading a word where it stands: a row of bytes gives the word that goes on at its head. Comments are passed over, any other byte that is no letter or digit ends the word.
--   gap t         == how many bytes the comment at the head of t has, or 0 where none stands there
--   word_from k t  == the word that goes on at the head of t, in lower case, after k bytes that are passed over
--   end_from k e i t == the place behind its last letter or digit, where t begins at the place i: e where it has none
--   word_at T i    == the word that is read in the text T from the place i on: of no bytes where i is past the end, or where no letter or digit stands
--   end_at T i     == the place behind the last letter or digit of that word; i itself where it has none
-- A comment is told as in `skim`: by a `!` after its `<`, and its end by its first two dashes. Assumes nothing.
use Rattle.std.specs.Prelude.{ℕ, zero, suc, pred, List, [], ◌∷◌, cond, eqb, drop}
use Rattle.profile.specs.Bytes.{'!', '<', starts_with}
use Rattle.skim.specs.Skim.{skim_comment}
use Rattle.words.specs.Runs.{Word, word_byte, lower}

unfoldable pub gap : List ℕ → ℕ
gap t = cond (starts_with ('<' ∷ '!' ∷ []) t) (skim_comment t).size 0

unfoldable pub word_from : ℕ → List ℕ → Word
word_from k [] = []
word_from (suc k) (x ∷ t) = word_from k t
word_from zero (x ∷ t) = cond (word_byte x) (lower x ∷ word_from 0 t) (cond (eqb (gap (x ∷ t)) 0) [] (word_from (pred (gap (x ∷ t))) t))

unfoldable pub end_from : ℕ → ℕ → ℕ → List ℕ → ℕ
end_from k e i [] = e
end_from (suc k) e i (x ∷ t) = end_from k e (suc i) t
end_from zero e i (x ∷ t) =
    cond (word_byte x) (end_from 0 (suc i) (suc i) t) (cond (eqb (gap (x ∷ t)) 0) e (end_from (pred (gap (x ∷ t))) e (suc i) t))

unfoldable pub word_at : List ℕ → ℕ → Word
word_at T i = word_from 0 (drop i T)

unfoldable pub end_at : List ℕ → ℕ → ℕ
end_at T i = end_from 0 i i (drop i T)
