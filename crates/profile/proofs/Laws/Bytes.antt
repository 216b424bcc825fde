-- What the byte productions say of one another, and how a run of data or a comment's body grows by one byte in front.
--   apart            a byte that passes a test is not one that fails it
--   pending k        == the brackets that the machine's count k stands for
--   dashes d         == the `-` that it remembers, if any
--   char_data_cons    the run after k brackets, one byte longer: an equation, so it serves both ways
--   comment-cons     the same for a comment's body
-- Letters as in specs/. Assumes nothing.
use Prim.Native.Nat.{ℕ}
use mathlib.Core.Path.{◌≡◌, refl, sym, ap, subst, ◌∙◌}
use mathlib.Core.Logic.{⊎_elim}
use mathlib.Core.List.{List, [], ◌∷◌, ◌++◌}
use mathlib.Core.Bool.{Bool, true, false, not, ◌&&◌, ◌||◌, and_assoc, false≢true}
use lib.Dec.{eqb}
use borrow.Author.Tests.{eqb-true}
use Rattle.seq.specs.Lists.{every_of}
use Rattle.seq.proofs.Laws.Bools.{bool_cases, bool_false, and_left, and_right, and_false-right, or_cases}
use Rattle.profile.specs.Bytes.{'&', '-', '<', '>', ']', char, white, name_start, name_char, data_char, starts_with, contains, is_char_data, is_comment}
use Rattle.profile.specs.Machine.{Brackets, b0, b1, b2, run_byte, run_next}

-- ---- two tests at one byte
pub apart : (f : ℕ → Bool) (x y : ℕ) → f y ≡ false → f x ≡ true → eqb x y ≡ false
apart f x y g h = bool_false (eqb x y) λ e. false≢true (sym g ∙ ap f (sym (eqb-true x y e)) ∙ h)

-- What holds of the four bytes of white space holds of each.
pub white_elim : (P : ℕ → Type 0) → P 32 → P 9 → P 13 → P 10 → (x : ℕ) → white x ≡ true → P x
unfolding white
white_elim P a b c d x h =
    ⊎_elim
    (λ q. ⊎_elim (λ r. ⊎_elim (is 32 a) (is 9 b) (or_cases (eqb x 32) (eqb x 9) r)) (is 13 c) (or_cases (eqb x 32 || eqb x 9) (eqb x 13) q))
    (is 10 d)
    (or_cases (eqb x 32 || eqb x 9 || eqb x 13) (eqb x 10) h)
  where
    is : (y : ℕ) → P y → eqb x y ≡ true → P x
    is y r e = subst P (sym (eqb-true x y e)) r

pub white-name_char : (x : ℕ) → white x ≡ true → name_char x ≡ false
unfolding name_char name_start
white-name_char = white_elim (λ x. name_char x ≡ false) refl refl refl refl

pub white-angle : (x : ℕ) → white x ≡ true → eqb x '<' ≡ false
unfolding white
white-angle x h = apart white x '<' refl h

-- ---- a run of data
abbrev pub pending : Brackets → List ℕ
pending b0 = []
pending b1 = ']' ∷ []
pending b2 = ']' ∷ ']' ∷ []

pub run-angle : (k : Brackets) (x : ℕ) → run_byte k x ≡ true → eqb x '<' ≡ false
unfolding run_byte data_char char
run-angle k x h = apart (run_byte k) x '<' refl h

pub run_ampersand : (k : Brackets) (x : ℕ) → run_byte k x ≡ true → eqb x '&' ≡ false
unfolding run_byte data_char char
run_ampersand k x h = apart (run_byte k) x '&' refl h

-- x is `]`: one bracket more.
bracket : (k : Brackets) (r : List ℕ) → (run_byte k ']' && is_char_data (pending (run_next k ']') ++ r)) ≡ is_char_data (pending k ++ (']' ∷ r))
unfolding run_byte run_next data_char char is_char_data every_of contains starts_with
bracket b0 r = refl
bracket b1 r = refl
bracket b2 r = refl

and_shift : (a b c : Bool) → (a && true && (b && c)) ≡ (a && b && c)
and_shift true b c = refl
and_shift false b c = refl

and_refuse : (a g b c : Bool) → (a && not g && (b && not c)) ≡ (a && b && not (g && true || c))
and_refuse false g b c = refl
and_refuse true false b c = refl
and_refuse true true b c = sym (and_false-right b false refl)

-- x is another byte: it ends the brackets, and `>` is refused after two.
other : (k : Brackets) (x : ℕ) (r : List ℕ) → eqb x ']' ≡ false → (run_byte k x && is_char_data (pending (run_next k x) ++ r)) ≡ is_char_data (pending k ++ (x ∷ r))
unfolding run_byte run_next data_char char is_char_data every_of contains starts_with
other b0 x r e = rw e (and_shift (data_char x) (every_of data_char r) (not (contains (']' ∷ ']' ∷ '>' ∷ []) r)))
other b1 x r e = rw e (and_shift (data_char x) (every_of data_char r) (not (contains (']' ∷ ']' ∷ '>' ∷ []) r)))
other b2 x r e = rw e (and_refuse (data_char x) (eqb x '>') (every_of data_char r) (contains (']' ∷ ']' ∷ '>' ∷ []) r))

pub char_data_cons : (k : Brackets) (x : ℕ) (r : List ℕ) → (run_byte k x && is_char_data (pending (run_next k x) ++ r)) ≡ is_char_data (pending k ++ (x ∷ r))
char_data_cons k x r = ⊎_elim (λ q. is (eqb-true x ']' q)) (other k x r) (bool_cases (eqb x ']'))
  where
    is : x ≡ ']' → (run_byte k x && is_char_data (pending (run_next k x) ++ r)) ≡ is_char_data (pending k ++ (x ∷ r))
    is e = rw e (bracket k r)

pub char_data_head : (k : Brackets) (x : ℕ) (r : List ℕ) → is_char_data (pending k ++ (x ∷ r)) ≡ true → run_byte k x ≡ true
char_data_head k x r h = and_left (run_byte k x) (is_char_data (pending (run_next k x) ++ r)) (char_data_cons k x r ∙ h)

pub char_data_tail : (k : Brackets) (x : ℕ) (r : List ℕ) → is_char_data (pending k ++ (x ∷ r)) ≡ true → is_char_data (pending (run_next k x) ++ r) ≡ true
char_data_tail k x r h = and_right (run_byte k x) (is_char_data (pending (run_next k x) ++ r)) (char_data_cons k x r ∙ h)

-- ---- a comment's body
abbrev pub dashes : Bool → List ℕ
dashes false = []
dashes true = '-' ∷ []

pub comment-cons : (d : Bool) (x : ℕ) (b : List ℕ) → eqb x '-' ≡ false → is_comment (dashes d ++ (x ∷ b)) ≡ (char x && is_comment b)
unfolding is_comment every_of char contains starts_with
comment-cons false x b e = rw e (and_assoc (char x) (every_of char b) (not (contains ('-' ∷ '-' ∷ []) (b ++ ('-' ∷ [])))))
comment-cons true x b e = rw e (and_assoc (char x) (every_of char b) (not (contains ('-' ∷ '-' ∷ []) (b ++ ('-' ∷ [])))))

pub dash_alone : is_comment ('-' ∷ []) ≡ false
unfolding is_comment every_of char contains starts_with
dash_alone = refl

-- The body may not go on with a second `-`.
pub comment_dash : (b : List ℕ) → is_comment ('-' ∷ '-' ∷ b) ≡ false
unfolding is_comment every_of char contains starts_with
comment_dash b = and_false-right (every_of char b) false refl

pub dash_at : (d : Bool) (x : ℕ) (b : List ℕ) → eqb x '-' ≡ true → is_comment (dashes d ++ (x ∷ b)) ≡ true → is_comment (dashes d ++ ('-' ∷ b)) ≡ true
dash_at d x b q h = ap (λ y. is_comment (dashes d ++ (y ∷ b))) (sym (eqb-true x '-' q)) ∙ h

pub comment-head : (d : Bool) (x : ℕ) (b : List ℕ) → eqb x '-' ≡ false → is_comment (dashes d ++ (x ∷ b)) ≡ true → char x ≡ true
comment-head d x b q h = and_left (char x) (is_comment b) (sym (comment-cons d x b q) ∙ h)

pub comment-tail : (d : Bool) (x : ℕ) (b : List ℕ) → eqb x '-' ≡ false → is_comment (dashes d ++ (x ∷ b)) ≡ true → is_comment b ≡ true
comment-tail d x b q h = and_right (char x) (is_comment b) (sym (comment-cons d x b q) ∙ h)
