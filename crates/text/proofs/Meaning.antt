-- The lines of a text, the fields of a line and the digits of a number are what they are called. Assumes nothing.
--   fields_join, fields_free   a line is its fields with commas between them, and no field has a comma
--   lines_join, lines-free     a text is its lines with CR LF between them, and CR LF or nothing at the end; no line has CR LF in it
--   value-decimal              the digits of a number give that number
--   decimal-digits             each is a digit
--   numeral-decimal            and they are a number of the table where it has at most 5 digits
-- Letters: s text, L lines, l line, fs fields, f field; n number, d digits.
use Prim.Native.Nat.{ℕ, zero, suc, zero-le, ◌+◌, ◌*◌, ◌-◌, ◌^◌, ◌/◌, ◌%◌, ◌≤◌, ◌<◌}
use mathlib.Core.Path.{◌≡◌, refl, sym, ap, ap₂, ◌∙◌}
use mathlib.Core.Logic.{◌⊎◌, inl, inr, ⊎_elim}
use mathlib.Core.List.{List, [], ◌∷◌, ◌++◌, append_assoc}
use mathlib.Core.Bool.{Bool, true, false, cond, ◌&&◌, false≢true}
use native.Mathlib.Nat.{not-suc-le-zero, not-le_of_lt, le_of_suc-le-suc, suc-add, pow-suc}
use native.Mathlib.Omega.{arith}
use borrow.Author.Tests.{eq-eqb, eqb-true, eqb-false}
use lib.Dec.{eqb}
use lib.ListN.{length, get_or, take, length-take, length-drop, length-append, get_or-append}
use Rattle.seq.specs.Lists.{every_of}
use Rattle.seq.proofs.Laws.Bools.{bool_cases, and_both, and_left, and_right, and_false-right}
use Rattle.seq.proofs.Laws.Numbers.{less_or}
use Rattle.text.specs.Text.{CR, LF, comma, ended, line_length, first_line, after_line, lines_in, all_lines, lines, joined, fields, digit, numeral, value_from, value, digits_in, decimal}
use Rattle.text.specs.Plain.{joined_by, NoComma, NoEnd}
use Rattle.text.proofs.Writing.{decimal-other, digits_step, digits-none}
use Rattle.text.proofs.Laws.Text.{Numeral, numeral-of, digit-of, fields-some, lines_none, lines-some}

-- What ends a line.
abbrev end : List ℕ
end = CR ∷ LF ∷ []

-- ---- fields
join-joined : (x : ℕ) (fs : List (List ℕ)) → 0 < length fs → joined_by (comma ∷ []) (joined x fs) ≡ x ∷ joined_by (comma ∷ []) fs
unfolding joined_by joined
join-joined x [] h = absurd (not-suc-le-zero h)
join-joined x (f ∷ []) h = refl
join-joined x (f ∷ g ∷ fs) h = refl

join-next : (fs : List (List ℕ)) → 0 < length fs → joined_by (comma ∷ []) ([] ∷ fs) ≡ comma ∷ joined_by (comma ∷ []) fs
unfolding joined_by
join-next [] h = absurd (not-suc-le-zero h)
join-next (f ∷ fs) h = refl

pub fields_join : (l : List ℕ) → joined_by (comma ∷ []) (fields l) ≡ l
unfolding fields joined_by
fields_join [] = refl
fields_join (x ∷ l) =
    ⊎_elim
    (λ q. rw q (join-next (fields l) (fields-some l) ∙ ap₂ ◌∷◌ (sym (eqb-true x comma q)) (fields_join l)))
    (λ q. rw q (join-joined x (fields l) (fields-some l) ∙ ap (λ (t : List ℕ). x ∷ t) (fields_join l))) (bool_cases (eqb x comma))

-- Every field is free of commas.
abbrev Free : List (List ℕ) → Type 0
Free fs = (i : ℕ) → i < length fs → NoComma (get_or fs i [])

free-joined : (x : ℕ) (fs : List (List ℕ)) → (x ≡ comma → ⊥) → Free fs → Free (joined x fs)
unfolding joined
free-joined x [] e h i l j k = absurd (not-suc-le-zero l)
free-joined x (f ∷ fs) e h zero l zero k = e
free-joined x (f ∷ fs) e h zero l (suc j) k = h 0 (omega arith) j (omega arith)
free-joined x (f ∷ fs) e h (suc i) l j k = h (suc i) l j k

free-next : (fs : List (List ℕ)) → Free fs → Free ([] ∷ fs)
free-next fs h zero l j k = absurd (not-suc-le-zero k)
free-next fs h (suc i) l j k = h i (omega arith) j k

pub fields_free : (l : List ℕ) → Free (fields l)
unfolding fields
fields_free [] = free-next [] (λ i h. absurd (not-suc-le-zero h))
fields_free (x ∷ l) = added (fields_free l)
  where
    added : Free (fields l) → Free (fields (x ∷ l))
    added h =
        ⊎_elim (λ q. rw q (free-next (fields l) h)) (λ q. rw q (free-joined x (fields l) (eqb-false x comma q) h)) (bool_cases (eqb x comma))

-- ---- lines
-- The first byte of a part from the front: that of the whole, or none.
first_byte : (m : ℕ) (s : List ℕ) → (get_or (take m s) 0 0 ≡ get_or s 0 0) ⊎ (get_or (take m s) 0 0 ≡ 0)
first_byte zero s = inr refl
first_byte (suc m) [] = inl refl
first_byte (suc m) (x ∷ s) = inl refl

ended-part : (x m : ℕ) (s : List ℕ) → ended (x ∷ s) ≡ false → ended (x ∷ take m s) ≡ false
unfolding ended
ended-part x m s e =
    ⊎_elim (λ q. ap (λ (b : ℕ). eqb x CR && eqb b LF) q ∙ e) (λ q. and_false-right (eqb x CR) _ (ap (λ (b : ℕ). eqb b LF) q)) (first_byte m s)

pub line-free : (s : List ℕ) → NoEnd (first_line s)
unfolding line_length
line-free [] i h = absurd (not-suc-le-zero h)
line-free (x ∷ s) zero h =
    ⊎_elim (λ q. absurd (not-suc-le-zero (rw q at h))) (λ q. rw q (ended-part x (line_length s) s q)) (bool_cases (ended (x ∷ s)))
line-free (x ∷ s) (suc i) h =
    ⊎_elim (λ q. absurd (not-suc-le-zero (rw q at h))) (λ q. rw q (line-free s i (le_of_suc-le-suc (rw q at h)))) (bool_cases (ended (x ∷ s)))

-- A text is its first line, and then nothing, or CR LF and the rest.
abbrev Cut : List ℕ → Type 0
Cut s = (s ≡ first_line s) ⊎ (s ≡ first_line s ++ (end ++ after_line s))

cut-here : (x : ℕ) (s : List ℕ) → ended (x ∷ s) ≡ true → x ∷ s ≡ first_line (x ∷ s) ++ (end ++ after_line (x ∷ s))
unfolding line_length ended
cut-here x [] q = absurd (false≢true (and_right (eqb x CR) false q))
cut-here x (y ∷ s) q =
    rw q (ap₂ (λ (a b : ℕ). a ∷ b ∷ s) (eqb-true x CR (and_left (eqb x CR) (eqb y LF) q)) (eqb-true y LF (and_right (eqb x CR) (eqb y LF) q)))

cut_later : (x : ℕ) (s : List ℕ) → ended (x ∷ s) ≡ false → Cut s → Cut (x ∷ s)
unfolding line_length
cut_later x s q h =
    rw (q, suc-add (line_length s) 2)
    (⊎_elim (λ e. inl (ap (λ (t : List ℕ). x ∷ t) e)) (λ e. inr (ap (λ (t : List ℕ). x ∷ t) e)) h)

first-line : (s : List ℕ) → Cut s
unfolding line_length
first-line [] = inl refl
first-line (x ∷ s) = added (first-line s)
  where
    added : Cut s → Cut (x ∷ s)
    added h = ⊎_elim (λ q. inr (cut-here x s q)) (λ q. cut_later x s q h) (bool_cases (ended (x ∷ s)))

-- The lines put together again, with an end after the last or without.
abbrev Whole : List ℕ → List (List ℕ) → Type 0
Whole s L = (s ≡ joined_by end L) ⊎ (s ≡ joined_by end L ++ end)

join_more : (l : List ℕ) (L : List (List ℕ)) → 0 < length L → joined_by end (l ∷ L) ≡ l ++ (end ++ joined_by end L)
unfolding joined_by
join_more l [] h = absurd (not-suc-le-zero h)
join_more l (m ∷ L) h = refl

-- A line that ends with CR LF before whole lines.
whole-more : (s l t : List ℕ) (L : List (List ℕ)) → s ≡ l ++ (end ++ t) → 0 < length L → Whole t L → Whole s (l ∷ L)
whole-more s l t L e h w =
    ⊎_elim (λ q. inl (e ∙ ap (λ (x : List ℕ). l ++ (end ++ x)) q ∙ sym (join_more l L h)))
    (λ q. inr (e ∙ ap (λ (x : List ℕ). l ++ (end ++ x)) q ∙ sym (ap (λ (x : List ℕ). x ++ end) (join_more l L h) ∙ append_assoc l (end ++ joined_by end L) end))) w

empty-is : (s : List ℕ) → length s ≤ 0 → s ≡ []
empty-is [] h = refl
empty-is (x ∷ s) h = absurd (not-suc-le-zero h)

-- The first line and those after it, where these are whole.
whole-first : (s : List ℕ) → (0 < length (after_line s) → Whole (after_line s) (all_lines (after_line s))) → Whole s (first_line s ∷ all_lines (after_line s))
unfolding joined_by
whole-first s h = ⊎_elim some none (less_or 0 (length (after_line s)))
  where
    some : 0 < length (after_line s) → Whole s (first_line s ∷ all_lines (after_line s))
    some q =
        ⊎_elim (λ e. absurd (not-le_of_lt q (omega (arith, ap length e, length-take (line_length s) s, length-drop (line_length s + 2) s))))
        (λ e. whole-more s (first_line s) (after_line s) (all_lines (after_line s)) e (rw (lines-some (after_line s) q) (omega arith)) (h q)) (first-line s)

    none : length (after_line s) ≤ 0 → Whole s (first_line s ∷ all_lines (after_line s))
    none q =
        rw (lines_none (after_line s) (omega arith))
        (⊎_elim (λ e. inl e) (λ e. inr (e ∙ ap (λ (t : List ℕ). first_line s ++ (end ++ t)) (empty-is (after_line s) q))) (first-line s))

whole-lines : (m : ℕ) (s : List ℕ) → length s ≤ m → 0 < length s → Whole s (all_lines s)
whole-lines zero s l h = absurd (not-le_of_lt h l)
whole-lines (suc m) s l h =
    rw (lines-some s h) (whole-first s (λ q. whole-lines m (after_line s) (omega (arith, length-drop (line_length s + 2) s)) q))

pub lines_join : (s : List ℕ) → Whole s (lines s)
unfolding lines
lines_join s = whole-first s (λ q. whole-lines (length (after_line s)) (after_line s) (omega arith) q)

-- No line has CR LF in it.
abbrev Endless : List (List ℕ) → Type 0
Endless L = (i : ℕ) → i < length L → NoEnd (get_or L i [])

endless_more : (l : List ℕ) (L : List (List ℕ)) → NoEnd l → Endless L → Endless (l ∷ L)
endless_more l L e h zero k = e
endless_more l L e h (suc i) k = h i (omega arith)

endless_lines : (m : ℕ) (s : List ℕ) → Endless (lines_in m s)
unfolding lines_in
endless_lines zero s = λ i k. absurd (not-suc-le-zero k)
endless_lines (suc m) s = added (endless_lines m (after_line s)) (eqb (length s) 0)
  where
    added : Endless (lines_in m (after_line s)) → (b : Bool) → Endless (cond b [] (first_line s ∷ lines_in m (after_line s)))
    added h true = λ i k. absurd (not-suc-le-zero k)
    added h false = endless_more (first_line s) (lines_in m (after_line s)) (line-free s) h

pub lines-free : (s : List ℕ) → Endless (lines s)
unfolding lines
lines-free s = endless_more (first_line s) (all_lines (after_line s)) (line-free s) (endless_lines (length (after_line s)) (after_line s))

-- ---- numbers
value-last : (n : ℕ) (f : List ℕ) (x : ℕ) → value_from n (f ++ (x ∷ [])) ≡ value_from n f * 10 + (x - 48)
unfolding value_from
value-last n [] x = refl
value-last n (y ∷ f) x = value-last (n * 10 + (y - 48)) f x

value-digits : (d n : ℕ) → n < 10 ^ d → value (digits_in d n) ≡ n
unfolding digits_in value_from
value-digits zero n h = omega arith
value-digits (suc d) n h =
    ⊎_elim (λ q. rw q (sym (eqb-true n 0 q)))
    (λ q. rw q (value-last 0 (digits_in d (n / 10)) (48 + n % 10) ∙ omega (arith, value-digits d (n / 10) (omega (arith, pow-suc 10 d))))) (bool_cases (eqb n 0))

pub value-decimal : (n : ℕ) → n < 10 ^ 10 → value (decimal n) ≡ n
unfolding decimal value_from
value-decimal n h = ⊎_elim (λ q. rw q (sym (eqb-true n 0 q))) (λ q. rw q (value-digits 10 n h)) (bool_cases (eqb n 0))

-- ---- and their form
-- The number 0.
nought : Numeral (decimal 0)
unfolding decimal every_of digit
nought = record { some = omega arith; few = omega arith; digits = refl; leads = λ z. refl }

length_digits : (f d n : ℕ) → n < 10 ^ d → length (digits_in f n) ≤ d
unfolding digits_in
length_digits zero d n h = zero-le
length_digits (suc f) zero n h = rw (eq-eqb n 0 (omega arith)) zero-le
length_digits (suc f) (suc d) n h =
    ⊎_elim (λ q. rw q zero-le)
    (λ q. rw q (omega (arith, length-append (digits_in f (n / 10)) ((48 + n % 10) ∷ []), length_digits f d (n / 10) (omega (arith, pow-suc 10 d)))))
    (bool_cases (eqb n 0))

-- A number below 10 to the power d has at most d digits, and 0 has one.
pub length-decimal : (d n : ℕ) → 1 ≤ d → n < 10 ^ d → length (decimal n) ≤ d
unfolding decimal
length-decimal d n l h = ⊎_elim (λ q. rw q l) (λ q. rw q (length_digits 10 d n h)) (bool_cases (eqb n 0))

digits-most : (f n : ℕ) → length (digits_in f n) ≤ f
unfolding digits_in
digits-most zero n = zero-le
digits-most (suc f) n =
    ⊎_elim (λ q. rw q zero-le) (λ q. rw q (omega (arith, length-append (digits_in f (n / 10)) ((48 + n % 10) ∷ []), digits-most f (n / 10)))) (bool_cases (eqb n 0))

-- No number is written with more than ten digits.
pub decimal-most : (n : ℕ) → length (decimal n) ≤ 10
unfolding decimal
decimal-most n = ⊎_elim (λ q. rw q (omega arith)) (λ q. rw q (digits-most 10 n)) (bool_cases (eqb n 0))

every-last : (s : List ℕ) (x : ℕ) → every_of digit s ≡ true → digit x ≡ true → every_of digit (s ++ (x ∷ [])) ≡ true
unfolding every_of
every-last [] x e h = and_both (digit x) true h refl
every-last (y ∷ s) x e h =
    and_both (digit y) _ (and_left (digit y) (every_of digit s) e) (every-last s x (and_right (digit y) (every_of digit s) e) h)

digits-digits : (d n : ℕ) → every_of digit (digits_in d n) ≡ true
unfolding digits_in every_of
digits-digits zero n = refl
digits-digits (suc d) n =
    ⊎_elim (λ q. rw q) (λ q. rw q (every-last (digits_in d (n / 10)) (48 + n % 10) (digits-digits d (n / 10)) (digit-of (48 + n % 10) (omega arith) (omega arith))))
    (bool_cases (eqb n 0))

pub decimal-digits : (n : ℕ) → every_of digit (decimal n) ≡ true
unfolding decimal every_of digit
decimal-digits n = ⊎_elim (λ q. rw q) (λ q. rw q (digits-digits 10 n)) (bool_cases (eqb n 0))

digits-some : (d n : ℕ) → (n ≡ 0 → ⊥) → n < 10 ^ d → 0 < length (digits_in d n)
digits-some zero n e h = absurd (e (omega arith))
digits-some (suc d) n e h = rw (digits_step d n e) (omega (arith, length-append (digits_in d (n / 10)) ((48 + n % 10) ∷ [])))

-- The first digit of a number that is not 0 is not 0.
digits-first : (d n : ℕ) → (n ≡ 0 → ⊥) → n < 10 ^ d → get_or (digits_in d n) 0 0 ≡ 48 → ⊥
digits-first zero n e h q = e (omega arith)
digits-first (suc d) n e h q = one (digits-first d (n / 10)) (bool_cases (eqb (n / 10) 0))
  where
    last : get_or (digits_in d (n / 10) ++ ((48 + n % 10) ∷ [])) 0 0 ≡ 48
    last = ap (λ (s : List ℕ). get_or s 0 0) (sym (digits_step d n e)) ∙ q

    small : n / 10 < 10 ^ d
    small = omega (arith, pow-suc 10 d)

    one : ((n / 10 ≡ 0 → ⊥) → n / 10 < 10 ^ d → get_or (digits_in d (n / 10)) 0 0 ≡ 48 → ⊥) → (eqb (n / 10) 0 ≡ true) ⊎ (eqb (n / 10) 0 ≡ false) → ⊥
    one ih b =
        ⊎_elim
        (λ z. let w : n / 10 ≡ 0 = eqb-true (n / 10) 0 z in
        let k : 48 + n % 10 ≡ 48 = ap (λ (s : List ℕ). get_or (s ++ ((48 + n % 10) ∷ [])) 0 0) (sym (ap (digits_in d) w ∙ digits-none d)) ∙ last in
        e (omega arith))
        (λ z. ih (eqb-false (n / 10) 0 z) small
        (sym (get_or-append (digits_in d (n / 10)) ((48 + n % 10) ∷ []) 0 0 (digits-some d (n / 10) (eqb-false (n / 10) 0 z) small)) ∙ last)) b

pub numeral-decimal : (n : ℕ) → n ≤ 99999 → numeral (decimal n) ≡ true
numeral-decimal n h = numeral-of (decimal n) (⊎_elim (λ q. zero_form (eqb-true n 0 q)) (λ q. other_form (eqb-false n 0 q)) (bool_cases (eqb n 0)))
  where
    zero_form : n ≡ 0 → Numeral (decimal n)
    zero_form q = rw q nought

    other_form : (n ≡ 0 → ⊥) → Numeral (decimal n)
    other_form q = rw (decimal-other n q) (record {
      some = digits-some 10 n q (omega arith);
      few = length_digits 10 5 n (omega arith);
      digits = digits-digits 10 n;
      leads = λ z. absurd (digits-first 10 n q (omega arith) z);
    })
