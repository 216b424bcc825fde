-- Laws of lines, fields and numbers. Assumes nothing.
--   ended_at, ended_starts-at         a line end at a place of a text
--   line_step, line-stop, line-none   the length of a line, byte by byte; so field_step, field-stop, field-none
--   Numeral, numeral-of, numeral-at   what the test for a number means; Number, number-some, number-none_is   what the number of a field says of it
--   value-small                       a number of five digits
--   fields-last, fields-more          the fields of a line, one by one; so lines_none, lines-some
--   line-end_unique, field-end_unique, number_unique   no second outcome fits `line_end`, `field_end`, `number`
use Prim.Native.Nat.{ℕ, zero, suc, zero-le, ◌+◌, ◌*◌, ◌-◌, ◌^◌, ◌≤◌, ◌<◌}
use mathlib.Core.Path.{◌≡◌, refl, sym, ap, ap₂, ◌∙◌}
use mathlib.Core.List.{List, [], ◌∷◌}
use mathlib.Core.Bool.{Bool, true, false, not, cond, ◌&&◌, ◌||◌}
use mathlib.Core.Logic.{⊎_elim}
use native.Mathlib.Nat.{add-zero, one-mul, mul_assoc, mul-le-mul_right, pow-succ', pow-le-pow_right, not-suc-le-zero, le_of_suc-le-suc, eq-or-lt_of_le}
use native.Mathlib.Omega.{arith}
use borrow.Author.Tests.{le-leb, leb-true, eqb-true, eqb-false, eq-eqb, ne_eqb, not-true}
use lib.Dec.{eqb, leb, eqb-suc-zero}
use lib.ListN.{length, get_or, take, drop, length-drop, drop_of_length-le}
use lib.Seq.{take_all, drop-cons, get_or-drop}
use Rattle.seq.specs.Lists.{every_of}
use Rattle.seq.proofs.Laws.Bools.{bool_cases, bool_false, and_left, and_right, and_both, and_false-right, eqb-sym, or_cases, or_left, or_right}
use Rattle.text.specs.Text.{CR, LF, comma, ended, line_length, first_line, after_line, lines_in, all_lines, field_length, joined, fields, digit, numeral, value_from, value, number_of}
use Rattle.std.specs.Char.{is_ascii_digit}
use Rattle.std.specs.List.{starts_with}
use Rattle.std.specs.Prelude.{Option, Some, None}

-- ---- lines
module _ (s : List ℕ) (i : ℕ) where
  pub ended_at : ended (drop i s) ≡ (eqb (get_or s i 0) CR && eqb (get_or s (i + 1) 0) LF)
  unfolding ended
  ended_at = ap₂ (λ (a b : ℕ). eqb a CR && eqb b LF) (get_or-drop i s 0 0 ∙ ap (λ (k : ℕ). get_or s k 0) (add-zero i)) (get_or-drop i s 1 0)

  pub line_step : i < length s → ended (drop i s) ≡ false → line_length (drop i s) ≡ suc (line_length (drop (suc i) s))
  unfolding line_length
  line_step l e =
      ap line_length (drop-cons s i 0 l)
      ∙ ap (λ (b : Bool). cond b 0 (suc (line_length (drop (suc i) s)))) (ap ended (sym (drop-cons s i 0 l)) ∙ e)

  pub line-none : length s ≤ i → line_length (drop i s) ≡ 0
  unfolding line_length
  line-none l = ap line_length (drop_of_length-le s l)

  pub field_step : i < length s → (get_or s i 0 ≡ comma → ⊥) → field_length (drop i s) ≡ suc (field_length (drop (suc i) s))
  unfolding field_length
  field_step l e =
      ap field_length (drop-cons s i 0 l) ∙ ap (λ (b : Bool). cond b 0 (suc (field_length (drop (suc i) s)))) (ne_eqb (get_or s i 0) comma e)

  pub field-stop : i < length s → get_or s i 0 ≡ comma → field_length (drop i s) ≡ 0
  unfolding field_length
  field-stop l e =
      ap field_length (drop-cons s i 0 l) ∙ ap (λ (b : Bool). cond b 0 (suc (field_length (drop (suc i) s)))) (eq-eqb (get_or s i 0) comma e)

  pub field-none : length s ≤ i → field_length (drop i s) ≡ 0
  unfolding field_length
  field-none l = ap field_length (drop_of_length-le s l)

true_right : (b : Bool) → (b && true) ≡ b
true_right true = refl
true_right false = refl

ended-starts : (s : List ℕ) → starts_with eqb s (CR ∷ LF ∷ []) ≡ ended s
unfolding ended
ended-starts [] = refl
ended-starts (x ∷ []) = and_false-right (eqb CR x) _ refl ∙ sym (and_false-right (eqb x CR) _ refl)
ended-starts (x ∷ y ∷ s) = ap₂ (λ (a b : Bool). a && b) (eqb-sym CR x) (true_right (eqb LF y) ∙ eqb-sym LF y)

-- Whether CR LF stands at a place.
pub ended_starts-at : (s : List ℕ) (i : ℕ) (r : Bool) → r ≡ starts_with eqb (take (length s - i) (drop i s)) (CR ∷ LF ∷ []) → ended (drop i s) ≡ r
ended_starts-at s i r e =
    sym (e ∙ ap (λ (t : List ℕ). starts_with eqb t (CR ∷ LF ∷ [])) (take_all (length s - i) (drop i s) (omega (arith, length-drop i s))) ∙ ended-starts (drop i s))

pub line-stop : (s : List ℕ) → ended s ≡ true → line_length s ≡ 0
unfolding line_length
line-stop [] e = refl
line-stop (x ∷ s) e = rw e

-- ---- numbers
pub digit-of : (b : ℕ) → 48 ≤ b → b ≤ 57 → digit b ≡ true
unfolding digit
digit-of b l h = and_both _ _ (le-leb 48 b l) (le-leb b 57 h)

pub record Digit (b : ℕ) : Type 0 where
  pub low : 48 ≤ b
  pub high : b ≤ 57

pub digit_at : (b : ℕ) → digit b ≡ true → Digit b
unfolding digit
digit_at b e = record { low = leb-true 48 b (and_left _ _ e); high = leb-true b 57 (and_right (leb 48 b) _ e) }

-- What the test for a digit says.
pub digit_said : (b : ℕ) (r : Bool) → r ≡ is_ascii_digit b → digit b ≡ r
unfolding digit
digit_said b r e = sym e

-- A decimal number of 1 to 5 digits with no leading zero but 0 itself.
pub record Numeral (f : List ℕ) : Type 0 where
  pub some : 1 ≤ length f
  pub few : length f ≤ 5
  pub digits : every_of digit f ≡ true
  pub leads : get_or f 0 0 ≡ 48 → length f ≡ 1

pub numeral-of : (f : List ℕ) → Numeral f → numeral f ≡ true
unfolding numeral
numeral-of f n =
    and_both _ _ (and_both _ _ (le-leb 1 (length f) n.some) (le-leb (length f) 5 n.few))
    (and_both _ _ n.digits (⊎_elim
    (λ q. or_left (eqb (length f) 1) _ (eq-eqb (length f) 1 (n.leads (eqb-true (get_or f 0 0) 48 q))))
    (λ q. or_right (eqb (length f) 1) _ (ap not q)) (bool_cases (eqb (get_or f 0 0) 48))))

pub numeral-at : (f : List ℕ) → numeral f ≡ true → Numeral f
unfolding numeral
numeral-at f e =
    let size : (leb 1 (length f) && leb (length f) 5) ≡ true = and_left _ _ e in
    let rest : (every_of digit f && (eqb (length f) 1 || not (eqb (get_or f 0 0) 48))) ≡ true = and_right (leb 1 (length f) && leb (length f) 5) _ e in
    record {
      some = leb-true 1 (length f) (and_left _ _ size);
      few = leb-true (length f) 5 (and_right (leb 1 (length f)) _ size);
      digits = and_left _ _ rest;
      leads = λ z. ⊎_elim (λ q. eqb-true (length f) 1 q)
          (λ q. absurd (eqb-false (get_or f 0 0) 48 (not-true _ q) z)) (or_cases (eqb (length f) 1) _ (and_right (every_of digit f) _ rest));
    }

-- What fails to be a number gives none.
pub number-none : (f : List ℕ) → (Numeral f → ⊥) → None ≡ number_of f
unfolding number_of
number-none f h = sym (rw (bool_false (numeral f) (λ e. h (numeral-at f e))))

pub number-other : (f : List ℕ) → numeral f ≡ false → number_of f ≡ None
unfolding number_of
number-other f e = rw e

pub number_is : (f : List ℕ) → Numeral f → number_of f ≡ Some (value f)
unfolding number_of
number_is f n = rw (numeral-of f n)

-- What the number of a field says of it.
pub record Number (f : List ℕ) (x : ℕ) : Type 0 where
  pub is : numeral f ≡ true
  pub gives : x ≡ value f

pub number-some : (f : List ℕ) (x : ℕ) → number_of f ≡ Some x → Number f x
number-some f x e =
    ⊎_elim (λ q. record { is = q; gives = some (sym e ∙ number_is f (numeral-at f q)) }) (λ q. absurd (none (sym (number-other f q) ∙ e))) (bool_cases (numeral f))
  where
    some : Some x ≡ Some (value f) → x ≡ value f
    some q = cc

    none : None ≡ Some x → ⊥
    none q = cc

pub number-none_is : (f : List ℕ) → number_of f ≡ None → numeral f ≡ false
number-none_is f e = bool_false (numeral f) (λ q. none (sym e ∙ number_is f (numeral-at f q)))
  where
    none : None ≡ Some (value f) → ⊥
    none q = cc

-- The digits of f after a number n give a number below (n + 1) * 10 ^ length f.
value-below : (f : List ℕ) (n : ℕ) → every_of digit f ≡ true → value_from n f < (n + 1) * 10 ^ length f
unfolding value_from every_of
value-below [] n e = omega arith
value-below (x ∷ f) n e =
    let d : Digit x = digit_at x (and_left (digit x) (every_of digit f) e) in
    let h : value_from (n * 10 + (x - 48)) f < (n * 10 + (x - 48) + 1) * 10 ^ length f =
    value-below f (n * 10 + (x - 48)) (and_right (digit x) (every_of digit f) e) in
    omega (
      arith,
      mul-le-mul_right {m = n * 10 + (x - 48) + 1} {n = (n + 1) * 10} (10 ^ length f) (omega (arith, d.low, d.high)),
      mul_assoc (n + 1) 10 (10 ^ length f),
      ap (λ (k : ℕ). (n + 1) * k) (pow-succ' 10 (length f)),
    )

pub value-small : (f : List ℕ) → Numeral f → value f ≤ 99999
value-small f n =
    omega (
      arith,
      value-below f 0 n.digits,
      one-mul (10 ^ length f),
      pow-le-pow_right {n = 10} (omega arith) {i = length f} {j = 5} n.few,
    )

-- ---- the fields of a line
pub field_length_le : (l : List ℕ) → field_length l ≤ length l
unfolding field_length
field_length_le [] = zero-le
field_length_le (x ∷ l) = ⊎_elim (λ q. rw q zero-le) (λ q. rw q (omega (arith, field_length_le l))) (bool_cases (eqb x comma))

-- The last field, which no comma follows.
pub fields-last : (l : List ℕ) → field_length l ≡ length l → fields l ≡ take (field_length l) l ∷ []
unfolding field_length fields joined
fields-last [] e = refl
fields-last (x ∷ l) e =
    ⊎_elim (λ q. absurd (clash (rw q at e))) (λ q. rw q (ap (joined x) (fields-last l (suc_inj (rw q at e))))) (bool_cases (eqb x comma))
  where
    clash : 0 ≡ suc (length l) → ⊥
    clash h = omega arith

    suc_inj : suc (field_length l) ≡ suc (length l) → field_length l ≡ length l
    suc_inj h = omega arith

-- A field that a comma follows.
pub fields-more : (l : List ℕ) → field_length l < length l → fields l ≡ take (field_length l) l ∷ fields (drop (suc (field_length l)) l)
unfolding field_length fields joined
fields-more [] h = absurd (not-suc-le-zero h)
fields-more (x ∷ l) h =
    ⊎_elim (λ q. rw q) (λ q. rw q (ap (joined x) (fields-more l (le_of_suc-le-suc (rw q at h))))) (bool_cases (eqb x comma))

-- There is a first field, and this is it.
pub fields-some : (l : List ℕ) → 0 < length (fields l)
fields-some l =
    ⊎_elim (λ q. rw (fields-last l q) (omega arith)) (λ q. rw (fields-more l q) (omega arith)) (eq-or-lt_of_le (field_length_le l))

pub fields-first : (l : List ℕ) → get_or (fields l) 0 [] ≡ take (field_length l) l
fields-first l =
    ⊎_elim (λ q. ap (λ (fs : List (List ℕ)). get_or fs 0 []) (fields-last l q)) (λ q. ap (λ (fs : List (List ℕ)). get_or fs 0 []) (fields-more l q))
    (eq-or-lt_of_le (field_length_le l))

-- ---- the lines of a text
pub line_length_le : (s : List ℕ) → line_length s ≤ length s
unfolding line_length
line_length_le [] = zero-le
line_length_le (x ∷ s) = ⊎_elim (λ q. rw q zero-le) (λ q. rw q (omega (arith, line_length_le s))) (bool_cases (ended (x ∷ s)))

-- As many lines as there can be are enough.
lines-enough : (m n : ℕ) (s : List ℕ) → length s ≤ m → length s ≤ n → lines_in m s ≡ lines_in n s
unfolding lines_in
lines-enough zero zero s a b = refl
lines-enough zero (suc n) s a b = sym (rw (eq-eqb (length s) 0 (omega arith)))
lines-enough (suc m) zero s a b = rw (eq-eqb (length s) 0 (omega arith))
lines-enough (suc m) (suc n) s a b =
    ap (λ (L : List (List ℕ)). cond (eqb (length s) 0) [] (first_line s ∷ L))
    (lines-enough m n (after_line s) (omega (arith, length-drop (line_length s + 2) s)) (omega (arith, length-drop (line_length s + 2) s)))

pub lines_none : (s : List ℕ) → length s ≡ 0 → all_lines s ≡ []
unfolding lines_in
lines_none [] e = refl
lines_none (x ∷ s) e = absurd (clash e)
  where
    clash : suc (length s) ≡ 0 → ⊥
    clash h = omega arith

pub lines-some : (s : List ℕ) → 0 < length s → all_lines s ≡ first_line s ∷ all_lines (after_line s)
unfolding lines_in
lines-some [] h = absurd (not-suc-le-zero h)
lines-some (x ∷ s) h =
    rw (eqb-suc-zero (length s))
    (ap (λ (L : List (List ℕ)). first_line (x ∷ s) ∷ L)
    (lines-enough (length s) (length (after_line (x ∷ s))) (after_line (x ∷ s)) (omega (arith, length-drop (line_length (x ∷ s) + 2) (x ∷ s))) (omega arith)))

-- ---- no second outcome fits
pub line-end_unique : (s : List ℕ) (at r q : ℕ) → r ≡ at + line_length (drop at s) → q ≡ at + line_length (drop at s) → r ≡ q
line-end_unique s at r q x y = x ∙ sym y

pub field-end_unique : (l : List ℕ) (at r q : ℕ) → r ≡ at + field_length (drop at l) → q ≡ at + field_length (drop at l) → r ≡ q
field-end_unique l at r q x y = x ∙ sym y

pub number_unique : (f : List ℕ) (r q : Option ℕ) → r ≡ number_of f → q ≡ number_of f → r ≡ q
number_unique f r q x y = x ∙ sym y
