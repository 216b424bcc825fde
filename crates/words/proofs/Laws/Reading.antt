-- Laws of reading a word where it stands.
--   comment-gap             how many bytes a comment has
--   word-skip, end-skip     bytes that are passed over may as well be dropped
--   word_on, word-stop, word-tag   a letter or digit goes on with the word; any other byte but `<`, and a tag, ends it
--   word_over, word_gap     the same by the comment at the head, if there is one;  end_on_lem, end-over, end-gap: of the place where the word ends
--   comment-passed          reading goes on behind a comment as before it
-- Letters as in specs/Reading. Assumes nothing.
use Prim.Native.Nat.{ℕ, zero, suc, pred, ◌+◌}
use mathlib.Core.Path.{◌≡◌, refl, sym, ap, ◌∙◌}
use mathlib.Core.Logic.{◌⊎◌, inl, inr, ⊎_elim}
use mathlib.Core.List.{List, [], ◌∷◌, ◌++◌, append_assoc}
use mathlib.Core.Bool.{Bool, true, false, false≢true}
use native.Mathlib.Omega.{arith}
use lib.Dec.{eqb}
use lib.ListN.{length, drop, length-append}
use lib.Seq.{drop_at}
use borrow.Author.Tests.{ne_eqb}
use Rattle.seq.proofs.Laws.Bools.{bool_cases, and_false-left, and_false-right}
use Rattle.profile.specs.Bytes.{'!', '-', '<', '>', starts_with, is_comment}
use Rattle.profile.specs.Grammar.{Comment, comment_then}
use Rattle.profile.proofs.Laws.Bytes.{dashes, dash_alone, comment_dash, dash_at, comment-tail}
use Rattle.skim.specs.Skim.{until, skim_comment}
use Rattle.words.specs.Runs.{word_byte, lower}
use Rattle.words.specs.Reading.{gap, word_from, end_from}

-- ---- comments
abbrev pair : List ℕ
pair = '-' ∷ '-' ∷ []

until-on : (x : ℕ) (t : List ℕ) → starts_with pair (x ∷ t) ≡ false → until pair (x ∷ t) ≡ suc (until pair t)
unfolding until
until-on x t e = rw e

-- A byte other than `-` begins no pair of dashes, nor does a dash with another byte behind it.
no_pair : (x : ℕ) (t : List ℕ) → eqb x '-' ≡ false → starts_with pair (x ∷ t) ≡ false
unfolding starts_with
no_pair x t e = and_false-left (eqb x '-') _ e

one_dash : (x y : ℕ) (t : List ℕ) → eqb y '-' ≡ false → starts_with pair (x ∷ y ∷ t) ≡ false
unfolding starts_with
one_dash x y t e = and_false-right (eqb x '-') _ (and_false-left (eqb y '-') _ e)

-- The body of a comment, after a dash (d) or not.
abbrev pub closing : List ℕ → List ℕ → List ℕ
closing b t = b ++ ('-' ∷ '-' ∷ '>' ∷ t)

until-step : (x : ℕ) (b t : List ℕ) → eqb x '-' ≡ false → until pair (closing b t) ≡ length b → until pair (closing (x ∷ b) t) ≡ suc (length b)
until-step x b t q e = until-on x (closing b t) (no_pair x (closing b t) q) ∙ ap suc e

-- A dash of the body has another byte behind it, which is none.
body-until : (d : Bool) (b t : List ℕ) → is_comment (dashes d ++ b) ≡ true → until pair (closing b t) ≡ length b
body-until d [] t h = unfold until starts_with in refl
body-until true (x ∷ b) t h =
    ⊎_elim
    (λ q. absurd (false≢true (sym (comment_dash b) ∙ dash_at true x b q h)))
    (λ q. until-step x b t q (body-until false b t (comment-tail true x b q h)))
    (bool_cases (eqb x '-'))
body-until false (x ∷ []) t h =
    ⊎_elim
    (λ q. absurd (false≢true (sym dash_alone ∙ dash_at false x [] q h)))
    (λ q. until-step x [] t q (body-until false [] t (comment-tail false x [] q h)))
    (bool_cases (eqb x '-'))
body-until false (x ∷ y ∷ b) t h =
    ⊎_elim
    (λ q. let after : is_comment ('-' ∷ y ∷ b) ≡ true = dash_at false x (y ∷ b) q h in
    ⊎_elim
    (λ r. absurd (false≢true (sym (comment_dash b) ∙ dash_at true y b r after)))
    (λ r. until-on x (closing (y ∷ b) t) (one_dash x y (closing b t) r) ∙ ap suc (body-until true (y ∷ b) t after))
    (bool_cases (eqb y '-')))
    (λ q. until-step x (y ∷ b) t q (body-until false (y ∷ b) t (comment-tail false x (y ∷ b) q h)))
    (bool_cases (eqb x '-'))

-- The size of a comment, as it is skimmed.
pub comment-size : (b : Comment) (t : List ℕ) → (skim_comment (comment_then b t)).size ≡ 4 + length b.bytes + 3
unfolding comment_then skim_comment
comment-size b t = ap (λ (z : ℕ). 4 + z + 3) (body-until false b.bytes t b.keeps)

-- What follows it, from its second byte on.
pub comment-rest : (b : Comment) (t : List ℕ) → drop (3 + length b.bytes + 3) ('!' ∷ '-' ∷ '-' ∷ closing b.bytes t) ≡ t
comment-rest b t =
    ap (λ z. drop (3 + length b.bytes + 3) z) (sym (append_assoc ('!' ∷ '-' ∷ '-' ∷ b.bytes) ('-' ∷ '-' ∷ '>' ∷ []) t)) ∙
    drop_at (('!' ∷ '-' ∷ '-' ∷ b.bytes) ++ ('-' ∷ '-' ∷ '>' ∷ [])) t (3 + length b.bytes + 3)
    (omega (arith, length-append ('!' ∷ '-' ∷ '-' ∷ b.bytes) ('-' ∷ '-' ∷ '>' ∷ [])))

opens : (b : Comment) (t : List ℕ) → starts_with ('<' ∷ '!' ∷ []) (comment_then b t) ≡ true
unfolding starts_with comment_then
opens b t = refl

comment-gap : (b : Comment) (t : List ℕ) → gap (comment_then b t) ≡ 4 + length b.bytes + 3
unfolding gap
comment-gap b t = rw (opens b t) (comment-size b t)

-- ---- bytes that are passed over
pub word-skip : (k : ℕ) (t : List ℕ) → word_from k t ≡ word_from 0 (drop k t)
unfolding word_from
word-skip zero t = refl
word-skip (suc k) [] = refl
word-skip (suc k) (x ∷ t) = word-skip k t

pub end-skip : (k e i : ℕ) (t : List ℕ) → end_from k e i t ≡ end_from 0 e (i + k) (drop k t)
unfolding end_from
end-skip zero e i t = ap (λ (z : ℕ). end_from 0 e z t) (omega arith)
end-skip (suc k) e i [] = refl
end-skip (suc k) e i (x ∷ t) = end-skip k e (suc i) t ∙ ap (λ (z : ℕ). end_from 0 e z (drop k t)) (omega arith)

-- ---- one byte
pub word_on : (x : ℕ) (t : List ℕ) → word_byte x ≡ true → word_from 0 (x ∷ t) ≡ lower x ∷ word_from 0 t
unfolding word_from
word_on x t e = rw e

pub word_over : (x : ℕ) (t : List ℕ) → word_byte x ≡ false → gap (x ∷ t) ≡ 0 → word_from 0 (x ∷ t) ≡ []
unfolding word_from
word_over x t e g = rw (e, g)

-- Any byte but a letter, a digit and `<` ends it, and so does a tag.
no_gap : (x : ℕ) (t : List ℕ) → eqb x '<' ≡ false → gap (x ∷ t) ≡ 0
unfolding gap starts_with
no_gap x t n = rw n

pub word-stop : (x : ℕ) (t : List ℕ) → word_byte x ≡ false → eqb x '<' ≡ false → word_from 0 (x ∷ t) ≡ []
word-stop x t e n = word_over x t e (no_gap x t n)

tag-gap : (x : ℕ) (t : List ℕ) → eqb x '!' ≡ false → gap ('<' ∷ x ∷ t) ≡ 0
unfolding gap starts_with
tag-gap x t n = rw n

pub word-tag : (x : ℕ) (t : List ℕ) → eqb x '!' ≡ false → word_from 0 ('<' ∷ x ∷ t) ≡ []
word-tag x t n = word_over '<' (x ∷ t) (unfold word_byte in refl) (tag-gap x t n)

-- Over a comment.
pub word_gap : (x : ℕ) (t : List ℕ) (g : ℕ) → word_byte x ≡ false → gap (x ∷ t) ≡ suc g → word_from 0 (x ∷ t) ≡ word_from g t
unfolding word_from
word_gap x t g e q = rw (e, q, ne_eqb (suc g) 0 (λ z. omega arith))

-- The same of the place where the word ends.
pub end_on_lem : (e i x : ℕ) (t : List ℕ) → word_byte x ≡ true → end_from 0 e i (x ∷ t) ≡ end_from 0 (suc i) (suc i) t
unfolding end_from
end_on_lem e i x t q = rw q

pub end-over : (e i x : ℕ) (t : List ℕ) → word_byte x ≡ false → gap (x ∷ t) ≡ 0 → end_from 0 e i (x ∷ t) ≡ e
unfolding end_from
end-over e i x t q g = rw (q, g)

pub end-gap : (e i x : ℕ) (t : List ℕ) (g : ℕ) → word_byte x ≡ false → gap (x ∷ t) ≡ suc g → end_from 0 e i (x ∷ t) ≡ end_from g e (suc i) t
unfolding end_from
end-gap e i x t g q h = rw (q, h, ne_eqb (suc g) 0 (λ z. omega arith))

-- A row has a comment at its head, or none.
pub gap_or : (t : List ℕ) → (gap t ≡ 0) ⊎ (gap t ≡ suc (pred (gap t)))
gap_or t = by (gap t)
  where
    by : (z : ℕ) → (z ≡ 0) ⊎ (z ≡ suc (pred z))
    by zero = inl refl
    by (suc z) = inr refl

pub comment-passed : (b : Comment) (t : List ℕ) → word_from 0 (comment_then b t) ≡ word_from 0 t
unfolding comment_then
comment-passed b t =
    word_gap '<' ('!' ∷ '-' ∷ '-' ∷ closing b.bytes t) (3 + length b.bytes + 3) (unfold word_byte in refl) (comment-gap b t ∙ omega arith) ∙
    word-skip (3 + length b.bytes + 3) ('!' ∷ '-' ∷ '-' ∷ closing b.bytes t) ∙ ap (word_from 0) (comment-rest b t)
