-- Laws of words_of: it parts at each character that is no letter or digit, and makes one word of a row that has no such character.
--   words-none, words-one, words-part   these three facts
--   words-alone                         and no other function has them
--   entity_parts                        a reference's character parts
-- Letters: r t u rows; b a run; x a character. Assumes nothing.
use Prim.Native.Nat.{ℕ, suc}
use mathlib.Core.Path.{◌≡◌, refl, sym, ap, ap₂, ◌∙◌}
use mathlib.Core.Logic.{⊎_elim}
use mathlib.Core.List.{List, [], ◌∷◌, ◌++◌, map, append_assoc, append-nil}
use mathlib.Core.Bool.{true, false}
use native.Mathlib.Omega.{arith}
use lib.ListN.{length}
use Rattle.seq.specs.Lists.{every_of}
use Rattle.seq.proofs.Laws.Bools.{bool_cases, and_left, and_right, and_both}
use Rattle.profile.specs.Grammar.{Entity, lt, gt, amp, apos, quot}
use Rattle.words.specs.Runs.{Word, word_byte, lower, closed, runs, words_of}
use Rattle.words.specs.Words.{entity_char}

-- A row with a first entry is not the empty one.
pub cons-nil : (x : ℕ) (b : List ℕ) → x ∷ b ≡ [] → ⊥
cons-nil x b e = let z : suc (length b) ≡ 0 = ap length e in omega arith

-- ---- one character
runs_on : (b : List ℕ) (x : ℕ) (r : List ℕ) → word_byte x ≡ true → runs b (x ∷ r) ≡ runs (b ++ (lower x ∷ [])) r
unfolding runs
runs_on b x r e = rw e

runs-stop : (b : List ℕ) (x : ℕ) (r : List ℕ) → word_byte x ≡ false → runs b (x ∷ r) ≡ closed b ++ runs [] r
unfolding runs
runs-stop b x r e = rw e

runs-end : (b : List ℕ) → runs b [] ≡ closed b
unfolding runs
runs-end b = refl

-- ---- rows
runs-part : (b t : List ℕ) (x : ℕ) (u : List ℕ) → word_byte x ≡ false → runs b (t ++ (x ∷ u)) ≡ runs b t ++ runs [] u
runs-part b [] x u e = runs-stop b x u e ∙ ap (λ z. z ++ runs [] u) (sym (runs-end b))
runs-part b (y ∷ t) x u e =
    ⊎_elim
    (λ q. runs_on b y (t ++ (x ∷ u)) q ∙ runs-part (b ++ (lower y ∷ [])) t x u e ∙ ap (λ z. z ++ runs [] u) (sym (runs_on b y t q)))
    (λ q. runs-stop b y (t ++ (x ∷ u)) q ∙ ap (λ z. closed b ++ z) (runs-part [] t x u e) ∙
    sym (append_assoc (closed b) (runs [] t) (runs [] u)) ∙ ap (λ z. z ++ runs [] u) (sym (runs-stop b y t q)))
    (bool_cases (word_byte y))

runs-whole : (b t : List ℕ) → every_of word_byte t ≡ true → runs b t ≡ closed (b ++ map lower t)
unfolding every_of
runs-whole b [] h = runs-end b ∙ ap closed (sym (append-nil b))
runs-whole b (x ∷ t) h =
    runs_on b x t (and_left (word_byte x) (every_of word_byte t) h) ∙ runs-whole (b ++ (lower x ∷ [])) t (and_right (word_byte x) (every_of word_byte t) h) ∙
    ap closed (append_assoc b (lower x ∷ []) (map lower t))

-- ---- the three facts
pub words-none : words_of [] ≡ []
unfolding words_of runs closed
words-none = refl

pub words-one : (x : ℕ) (t : List ℕ) → every_of word_byte (x ∷ t) ≡ true → words_of (x ∷ t) ≡ map lower (x ∷ t) ∷ []
unfolding words_of
words-one x t h = runs-whole [] (x ∷ t) h ∙ unfold closed in refl

pub words-part : (t : List ℕ) (x : ℕ) (u : List ℕ) → word_byte x ≡ false → words_of (t ++ (x ∷ u)) ≡ words_of t ++ words_of u
unfolding words_of
words-part t x u e = runs-part [] t x u e

-- ---- and no other function has them
pub record Words (f : List ℕ → List Word) : Type 0 where
  pub none : f [] ≡ []
  pub one : (x : ℕ) (t : List ℕ) → every_of word_byte (x ∷ t) ≡ true → f (x ∷ t) ≡ map lower (x ∷ t) ∷ []
  pub part : (t : List ℕ) (x : ℕ) (u : List ℕ) → word_byte x ≡ false → f (t ++ (x ∷ u)) ≡ f t ++ f u

pub words-words : Words words_of
words-words = record { none = words-none; one = words-one; part = words-part }

longer : (x : ℕ) (b : List ℕ) → word_byte x ≡ true → every_of word_byte b ≡ true → every_of word_byte (b ++ (x ∷ [])) ≡ true
unfolding every_of
longer x [] q h = rw q
longer x (y ∷ b) q h =
    and_both (word_byte y) (every_of word_byte (b ++ (x ∷ []))) (and_left (word_byte y) (every_of word_byte b) h) (longer x b q (and_right (word_byte y) (every_of word_byte b) h))

module _ (f g : List ℕ → List Word) (F : Words f) (G : Words g) where
  whole : (b : List ℕ) → every_of word_byte b ≡ true → f b ≡ g b
  whole [] h = F.none ∙ sym G.none
  whole (x ∷ b) h = F.one x b h ∙ sym (G.one x b h)

  -- After the letters and digits b.
  alone : (t b : List ℕ) → every_of word_byte b ≡ true → f (b ++ t) ≡ g (b ++ t)
  alone [] b h = ap f (append-nil b) ∙ whole b h ∙ ap g (sym (append-nil b))
  alone (x ∷ t) b h =
      ⊎_elim
      (λ q. ap f (sym (append_assoc b (x ∷ []) t)) ∙ alone t (b ++ (x ∷ [])) (longer x b q h) ∙ ap g (append_assoc b (x ∷ []) t))
      (λ q. F.part b x t q ∙ ap₂ ◌++◌ (whole b h) (alone t [] (unfold every_of in refl)) ∙ sym (G.part b x t q))
      (bool_cases (word_byte x))

  pub words-alone : (t : List ℕ) → f t ≡ g t
  words-alone t = alone t [] (unfold every_of in refl)

-- ---- references
pub entity_parts : (e : Entity) → word_byte (entity_char e) ≡ false
unfolding word_byte entity_char
entity_parts lt = refl
entity_parts gt = refl
entity_parts amp = refl
entity_parts apos = refl
entity_parts quot = refl
