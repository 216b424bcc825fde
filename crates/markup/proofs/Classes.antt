-- The rule of the classes holds of every number: past the table the class is 0, and no production takes the number. So what is said of runs of classes
-- asks nothing of a row. Within the table the rule is that of `profile`, proofs/Classes. Assumes nothing.
--   rule                     the rule at any number
--   span-rule                two tests that agree have one span
--   white-plain              white space is plain
--   skip-stops               the byte after a run is not of its kind
use Prim.Native.Nat.{ℕ, suc, ◌+◌, ◌≤◌, ◌<◌}
use mathlib.Core.Path.{◌≡◌, refl, sym, ap, ap₂, ◌∙◌}
use mathlib.Core.Logic.{⊎_elim}
use mathlib.Core.List.{List, [], ◌∷◌}
use mathlib.Core.Bool.{Bool, true, false, cond}
use native.Mathlib.Omega.{arith}
use lib.Dec.{eqb, ltb, leb}
use lib.ListN.{length, get_or, drop, length-drop, get_or-eq_default}
use lib.Seq.{get_or-drop}
use borrow.Author.Tests.{ne_eqb, le-leb, lt-leb, ltb-true, ltb-false}
use Rattle.seq.proofs.Laws.Bools.{bool_cases}
use Rattle.profile.specs.Bytes.{char, white, name_start, name_char, data_char, plain, commented}
use Rattle.profile.specs.Classes.{table, class, within, ClassRule}
use Rattle.profile.specs.Spans.{span}
use Rattle.profile.proofs.Classes.{class-rule}
use Rattle.profile.proofs.Laws.Bytes.{white_elim}
use Rattle.profile.proofs.Laws.Spans.{span-stops}

-- ---- past the table
module _ (x : ℕ) (l : 256 ≤ x) where
  none : class x ≡ 0
  unfolding class table
  none = get_or-eq_default table 0 l

  other : (k : ℕ) → k < 256 → eqb x k ≡ false
  other k h = ne_eqb x k (λ (q : x ≡ k). omega arith)

  above : (k : ℕ) → k < 256 → leb x k ≡ false
  above k h = lt-leb x k (omega arith)

  over : (k : ℕ) → k < 256 → leb k x ≡ true
  over k h = le-leb k x (omega arith)

  no_char : char x ≡ false
  unfolding char
  no_char = simp (other 9 (omega arith), other 10 (omega arith), other 13 (omega arith), over 32 (omega arith), above 127 (omega arith))

  no_white : white x ≡ false
  unfolding white
  no_white = simp (other 9 (omega arith), other 10 (omega arith), other 13 (omega arith), other 32 (omega arith))

  no_name_start : name_start x ≡ false
  unfolding name_start
  no_name_start = simp (other 58 (omega arith), other 95 (omega arith), over 65 (omega arith), above 90 (omega arith), over 97 (omega arith), above 122 (omega arith))

  no_name_char : name_char x ≡ false
  unfolding name_char
  no_name_char = simp (no_name_start, other 45 (omega arith), other 46 (omega arith), over 48 (omega arith), above 57 (omega arith))

  past-rule : ClassRule x
  unfolding within plain data_char commented
  past-rule =
      record {
        of_char = rw (none, no_char);
        of-white = rw (none, no_white);
        of-name_start = rw (none, no_name_start);
        of-name_char = rw (none, no_name_char);
        of_plain = rw (none, no_char);
        of-commented = rw (none, no_char);
        of_bracket = rw (none, other 93 (omega arith));
        of-less = rw (none, other 60 (omega arith));
        of_ampersand = rw (none, other 38 (omega arith));
        of-greater = rw (none, other 62 (omega arith));
        of_dash = rw (none, other 45 (omega arith));
      }

pub rule : (x : ℕ) → ClassRule x
rule x = ⊎_elim (λ q. class-rule x (ltb-true x 256 q)) (λ q. past-rule x (ltb-false x 256 q)) (bool_cases (ltb x 256))

-- ---- runs
pub span-rule : (f g : ℕ → Bool) → ((x : ℕ) → f x ≡ g x) → (t : List ℕ) → span f t ≡ span g t
unfolding span
span-rule f g e [] = refl
span-rule f g e (x ∷ t) = ap₂ (λ (c : Bool) (k : ℕ). cond c (suc k) 0) (e x) (span-rule f g e t)

-- White space is plain.
pub white-plain : (x : ℕ) → white x ≡ true → plain x ≡ true
unfolding plain data_char char
white-plain = white_elim (λ x. plain x ≡ true) refl refl refl refl

-- The byte after a run is not of its kind.
pub skip-stops : (f : ℕ → Bool) (t : List ℕ) (i j : ℕ) → j ≡ i + span f (drop i t) → j < length t → f (get_or t j 0) ≡ false
skip-stops f t i j p l = ap f (ap (λ k. get_or t k 0) p ∙ sym (get_or-drop i t (span f (drop i t)) 0)) ∙ span-stops f (drop i t) (omega (arith, length-drop i t))
