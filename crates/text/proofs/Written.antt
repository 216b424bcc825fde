-- What is written in lines and fields is read in the same lines and fields. Assumes nothing.
--   fields-joined    fields without commas, with commas between them, are the fields of that line
--   lines-written    lines without CR LF, each ended by CR LF, are the lines of that text
--   written-append   lines after lines
--   high-free        a text whose bytes are all above CR has no CR LF in it; so are digits and commas (high-digits, high-joined)
--   digits-free      digits are free of commas
-- Letters: s text, L lines, l line, fs fields, f field; x byte.
use Prim.Native.Nat.{ℕ, zero, suc, ◌+◌, ◌≤◌, ◌<◌}
use mathlib.Core.Path.{◌≡◌, refl, sym, ap, ap₂, ◌∙◌}
use mathlib.Core.List.{List, [], ◌∷◌, ◌++◌, append_assoc}
use mathlib.Core.Bool.{Bool, true, false}
use native.Mathlib.Nat.{not-suc-le-zero, le_of_suc-le-suc}
use native.Mathlib.Omega.{arith}
use borrow.Author.Tests.{le-leb, leb-true, ne_eqb}
use lib.Dec.{eqb, leb}
use lib.ListN.{length, get_or, drop, length-append}
use lib.Seq.{take_at}
use Rattle.seq.specs.Lists.{every_of}
use Rattle.seq.proofs.Laws.Bools.{and_left, and_right, and_both, and_false-left, and_false-right}
use Rattle.seq.proofs.Laws.Lists.{every_of-at}
use Rattle.text.specs.Text.{CR, LF, comma, ended, line_length, first_line, after_line, lines_in, all_lines, lines, joined, fields, digit}
use Rattle.text.specs.Plain.{joined_by, written, NoComma, NoEnd}
use Rattle.text.proofs.Laws.Text.{ended_at, digit_at}

-- ---- fields
comma-tail : (x : ℕ) (f : List ℕ) → NoComma (x ∷ f) → NoComma f
comma-tail x f h = λ i l. h (suc i) (omega arith)

field-last : (f : List ℕ) → NoComma f → fields f ≡ f ∷ []
unfolding fields joined
field-last [] h = refl
field-last (x ∷ f) h = rw (ne_eqb x comma (h 0 (omega arith)), field-last f (comma-tail x f h))

field-more : (f l : List ℕ) → NoComma f → fields (f ++ (comma ∷ l)) ≡ f ∷ fields l
unfolding fields joined
field-more [] l h = refl
field-more (x ∷ f) l h = rw (ne_eqb x comma (h 0 (omega arith)), field-more f l (comma-tail x f h))

pub fields-joined : (fs : List (List ℕ)) → 0 < length fs → ((i : ℕ) → i < length fs → NoComma (get_or fs i [])) → fields (joined_by (comma ∷ []) fs) ≡ fs
unfolding joined_by
fields-joined [] l h = absurd (not-suc-le-zero l)
fields-joined (f ∷ []) l h = field-last f (h 0 (omega arith))
fields-joined (f ∷ g ∷ fs) l h =
    field-more f (joined_by (comma ∷ []) (g ∷ fs)) (h 0 (omega arith))
    ∙ ap (λ (t : List (List ℕ)). f ∷ t) (fields-joined (g ∷ fs) (omega arith) (λ i k. h (suc i) (omega arith)))

pub digits-free : (f : List ℕ) → every_of digit f ≡ true → NoComma f
digits-free f e i l q = omega (arith, (digit_at (get_or f i 0) (every_of-at digit f 0 e i l)).low)

-- ---- texts whose bytes are all above CR
abbrev pub high : List ℕ → Bool
high l = every_of (leb 14) l

pub high-append : (a b : List ℕ) → high a ≡ true → high b ≡ true → high (a ++ b) ≡ true
unfolding every_of
high-append [] b e h = h
high-append (x ∷ a) b e h = and_both (leb 14 x) _ (and_left (leb 14 x) (high a) e) (high-append a b (and_right (leb 14 x) (high a) e) h)

pub high-free : (l : List ℕ) → high l ≡ true → NoEnd l
high-free l e i h =
    ended_at l i ∙ and_false-left _ _ (ne_eqb (get_or l i 0) CR (λ (q : get_or l i 0 ≡ CR). omega (arith, leb-true 14 (get_or l i 0) (every_of-at (leb 14) l 0 e i h))))

pub high-digits : (f : List ℕ) → every_of digit f ≡ true → high f ≡ true
unfolding every_of
high-digits [] e = refl
high-digits (x ∷ f) e =
    and_both (leb 14 x) _ (le-leb 14 x (omega (arith, (digit_at x (and_left (digit x) (every_of digit f) e)).low)))
    (high-digits f (and_right (digit x) (every_of digit f) e))

pub high-joined : (fs : List (List ℕ)) → ((i : ℕ) → i < length fs → high (get_or fs i []) ≡ true) → high (joined_by (comma ∷ []) fs) ≡ true
unfolding every_of joined_by
high-joined [] h = refl
high-joined (f ∷ []) h = h 0 (omega arith)
high-joined (f ∷ g ∷ fs) h =
    high-append f (comma ∷ joined_by (comma ∷ []) (g ∷ fs)) (h 0 (omega arith)) (high-joined (g ∷ fs) (λ i l. h (suc i) (omega arith)))

-- ---- lines
-- No line end begins in a line that CR LF ends.
ended-before : (x : ℕ) (l s : List ℕ) → ended (x ∷ l) ≡ false → ended (x ∷ (l ++ (CR ∷ LF ∷ s))) ≡ false
unfolding ended
ended-before x [] s h = and_false-right (eqb x CR) _ refl
ended-before x (y ∷ l) s h = h

line-length : (l s : List ℕ) → NoEnd l → line_length (l ++ (CR ∷ LF ∷ s)) ≡ length l
unfolding line_length ended
line-length [] s h = refl
line-length (x ∷ l) s h = rw (ended-before x l s (h 0 (omega arith)), line-length l s (λ i k. h (suc i) (omega arith)))

line_first : (l s : List ℕ) → NoEnd l → first_line (l ++ (CR ∷ LF ∷ s)) ≡ l
line_first l s h = take_at l (CR ∷ LF ∷ s) (line_length (l ++ (CR ∷ LF ∷ s))) (sym (line-length l s h))

drop-two : (l : List ℕ) (x y : ℕ) (s : List ℕ) → drop (suc (suc (length l))) (l ++ (x ∷ y ∷ s)) ≡ s
drop-two [] x y s = refl
drop-two (z ∷ l) x y s = drop-two l x y s

line_after : (l s : List ℕ) → NoEnd l → after_line (l ++ (CR ∷ LF ∷ s)) ≡ s
line_after l s h = ap (λ (k : ℕ). drop k (l ++ (CR ∷ LF ∷ s))) two ∙ drop-two l CR LF s
  where
    two : line_length (l ++ (CR ∷ LF ∷ s)) + 2 ≡ suc (suc (length l))
    two = omega (arith, line-length l s h)

lines_in_lem : (m : ℕ) (L : List (List ℕ)) → length L ≤ m → ((i : ℕ) → i < length L → NoEnd (get_or L i [])) → lines_in m (written L) ≡ L
unfolding lines_in written
lines_in_lem zero [] k h = refl
lines_in_lem zero (l ∷ L) k h = absurd (not-suc-le-zero k)
lines_in_lem (suc m) [] k h = refl
lines_in_lem (suc m) (l ∷ L) k h =
    rw (ne_eqb (length (l ++ (CR ∷ LF ∷ written L))) 0 (λ q. absurd (not-suc-le-zero (some q))))
    (ap₂ (λ (a : List ℕ) (b : List ℕ). a ∷ lines_in m b) (line_first l (written L) free) (line_after l (written L) free)
    ∙ ap (λ (t : List (List ℕ)). l ∷ t) (lines_in_lem m L (le_of_suc-le-suc k) (λ i q. h (suc i) (omega arith))))
  where
    free : NoEnd l
    free = h 0 (omega arith)

    some : length (l ++ (CR ∷ LF ∷ written L)) ≡ 0 → 1 ≤ 0
    some q = omega (arith, length-append l (CR ∷ LF ∷ written L))

written-long : (L : List (List ℕ)) → length L ≤ length (written L)
unfolding written
written-long [] = omega arith
written-long (l ∷ L) = omega (arith, length-append l (CR ∷ LF ∷ written L), written-long L)

pub lines-written : (L : List (List ℕ)) → 0 < length L → ((i : ℕ) → i < length L → NoEnd (get_or L i [])) → lines (written L) ≡ L
unfolding lines written
lines-written [] l h = absurd (not-suc-le-zero l)
lines-written (l ∷ L) k h =
    ap₂ (λ (a : List ℕ) (b : List ℕ). a ∷ all_lines b) (line_first l (written L) (h 0 (omega arith))) (line_after l (written L) (h 0 (omega arith)))
    ∙ ap (λ (t : List (List ℕ)). l ∷ t) (lines_in_lem (length (written L)) L (written-long L) (λ i q. h (suc i) (omega arith)))

pub written-append : (L M : List (List ℕ)) → written (L ++ M) ≡ written L ++ written M
unfolding written
written-append [] M = refl
written-append (l ∷ L) M =
    ap (λ (t : List ℕ). l ++ (CR ∷ LF ∷ t)) (written-append L M) ∙ sym (append_assoc l (CR ∷ LF ∷ written L) (written M))
