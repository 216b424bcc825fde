-- The tests of a table mean what 01 says. Assumes nothing.
--   header_at, header_of     a header passes exactly if it is the text of 1 to 8 words, positive words first, at least one positive
--   row_at, row-of           a node line passes exactly if it has as many fields as it must, each a number, 0 or 1 where it says whether a word occurs
--   node_limit               no line of a 257th node passes
--   input-long, input-first, input_none   INPUT is given exactly for a text that breaks a rule: at place 0 where it has more than
--                            16,384 bytes, else at the first line, from 1, that breaks a rule; a text that breaks none gives its table
--   read-tells               and the other way round: each outcome is given only then
-- Letters: s text, L lines, l line; w fields, i line or field; p positive, q negative words.
use Prim.Native.Nat.{ℕ, zero, suc, ◌+◌, ◌*◌, ◌≤◌, ◌<◌}
use mathlib.Core.Path.{◌≡◌, refl, sym, ap, ap₂, ◌∙◌}
use mathlib.Core.Logic.{⊎_elim}
use mathlib.Core.List.{List, []}
use mathlib.Core.Bool.{Bool, true, false, not, ◌&&◌}
use native.Mathlib.Nat.{zero-mul, suc-mul}
use native.Mathlib.Omega.{arith}
use borrow.Author.Tests.{le-leb, leb-true, lt-ltb, le-ltb, eq-eqb, eqb-true, not-true}
use lib.Dec.{eqb, ltb, leb}
use lib.ListN.{length, get_or}
use Rattle.seq.specs.Lists.{tally, same_list}
use Rattle.seq.proofs.Laws.Bools.{bool_cases, bool_false, bool-not_both, and_left, and_right, and_both, and_false-left, or_cases, or_left, or_right}
use Rattle.seq.proofs.Laws.Below.{every-at, every_of_lem, first-is, first_below, first-all}
use Rattle.seq.proofs.Laws.Plain.{lowest-first}
use Rattle.seq.proofs.Laws.Lists.{tally-append, same_list-is, same_list_self}
use Rattle.seq.proofs.Laws.Numbers.{less_or}
use Rattle.text.specs.Text.{bytes, lines, fields, numeral, value}
use Rattle.std.specs.Prelude.{Ok, Err}
use Rattle.sheet.specs.declared.Broken.TheVariants.{TooLong, Line}
use Rattle.sheet.specs.Table.{times, header_text, positives, negatives, words_of, header_ok, occurrence, field_ok, row_ok, line_ok, broken, table_of}
use Rattle.sheet.specs.Promises.{shape_of, read_of}
use Rattle.sheet.specs.Plain.{Header, Row, Keeps, LawfulLines, First, Told}
use Rattle.sheet.proofs.Tabling.{read-lines, read-broken, read_taken}

-- ---- the header
tally-times : (f : ℕ → Bool) (m : ℕ) (s : List ℕ) → tally f (times m s) ≡ m * tally f s
unfolding times tally
tally-times f zero s = sym (zero-mul (tally f s))
tally-times f (suc m) s = tally-append f s (times m s) ∙ omega (arith, tally-times f m s, suc-mul m (tally f s))

-- How many of a byte the header has.
tally-header : (f : ℕ → Bool) (p q : ℕ) → tally f (header_text p q) ≡ tally f (bytes "parent,tag") + (p * tally f (bytes ",+,#") + q * tally f (bytes ",-,#"))
unfolding header_text
tally-header f p q = simp (tally-append, tally-times) (omega arith)

pub header-positives : (p q : ℕ) → positives (header_text p q) ≡ p
unfolding bytes tally
header-positives p q = tally-header (eqb 43) p q ∙ omega arith

pub header-negatives : (p q : ℕ) → negatives (header_text p q) ≡ q
unfolding bytes tally
header-negatives p q = tally-header (eqb 45) p q ∙ omega arith

pub header_at : (l : List ℕ) → header_ok l ≡ true → Header l
unfolding header_ok
header_at l e =
    let few : (leb 1 (positives l) && leb (words_of l) 8) ≡ true = and_left _ (same_list l (header_text (positives l) (negatives l))) e in
    record {
      p = positives l;
      q = negatives l;
      some_positive = leb-true 1 (positives l) (and_left _ (leb (words_of l) 8) few);
      few_words = leb-true (words_of l) 8 (and_right (leb 1 (positives l)) _ few);
      text = same_list-is l _ (and_right (leb 1 (positives l) && leb (words_of l) 8) _ e);
    }

-- The test of a header, by its words.
header_test : (l : List ℕ) (p q : ℕ) → positives l ≡ p → negatives l ≡ q → header_ok l ≡ ((leb 1 p && leb (p + q) 8) && same_list l (header_text p q))
unfolding header_ok
header_test l p q a b = ap₂ (λ (x y : ℕ). (leb 1 x && leb (x + y) 8) && same_list l (header_text x y)) a b

pub header_of : (l : List ℕ) → Header l → header_ok l ≡ true
header_of l h =
    header_test l h.p h.q (ap positives h.text ∙ header-positives h.p h.q) (ap negatives h.text ∙ header-negatives h.p h.q)
    ∙ and_both _ _ (and_both _ _ (le-leb 1 h.p h.some_positive) (le-leb (h.p + h.q) 8 h.few_words))
    (ap (λ (x : List ℕ). same_list l x) (sym h.text) ∙ same_list_self l)

-- ---- a node line
module _ (w : ℕ) (l : List ℕ) where
  pub row_at : row_ok w l ≡ true → Row w l
  unfolding row_ok field_ok
  row_at e =
      let each : (i : ℕ) → i < w → field_ok i (get_or (fields l) i []) ≡ true = every-at w _ (and_right (eqb (length (fields l)) w) _ e) in
      record {
        fields_are = eqb-true (length (fields l)) w (and_left (eqb (length (fields l)) w) _ e);
        numbers = λ i h. and_left (numeral (get_or (fields l) i [])) _ (each i h);
        marks = λ i h m. ⊎_elim (λ q. absurd (bool-not_both (occurrence i) m (not-true (occurrence i) q)))
            (λ q. leb-true (value (get_or (fields l) i [])) 1 q)
            (or_cases (not (occurrence i)) (leb (value (get_or (fields l) i [])) 1) (and_right (numeral (get_or (fields l) i [])) _ (each i h)));
      }

  pub row-of : Row w l → row_ok w l ≡ true
  unfolding row_ok field_ok
  row-of r =
      and_both _ _ (eq-eqb (length (fields l)) w r.fields_are)
      (every_of_lem w _ (λ i h. and_both (numeral (get_or (fields l) i [])) _ (r.numbers i h) (⊎_elim
      (λ m. or_right (not (occurrence i)) _ (le-leb (value (get_or (fields l) i [])) 1 (r.marks i h m)))
      (λ m. or_left (not (occurrence i)) _ (ap not m)) (bool_cases (occurrence i)))))

pub node_limit : (k v : ℕ) (l : List ℕ) → 256 ≤ v → line_ok k (suc v) l ≡ false
unfolding line_ok
node_limit k v l h = and_false-left (ltb v 256) _ (le-ltb v 256 h)

-- ---- INPUT
-- The first line that breaks a rule, and a text in which none does.
first-broken : (L : List (List ℕ)) (i : ℕ) → First L i → i ≡ broken L
unfolding broken
first-broken L i f = first-is (length L) _ i (omega (arith, f.within)) f.before (λ q. bool_false _ f.breaks)

none-broken : (L : List (List ℕ)) → LawfulLines L → length L ≡ broken L
unfolding broken
none-broken L l = sym (first-all (length L) _ l.keeps)

pub input-long : (s : List ℕ) → 16384 < length s → read_of s ≡ Err TooLong
unfolding read_of
input-long s h = rw (lt-ltb 16384 (length s) h)

module _ (s : List ℕ) (h : length s ≤ 16384) where
  pub input-first : (i : ℕ) → First (lines s) i → read_of s ≡ Err (Line (suc i))
  input-first i f =
      read-lines s [] h ∙ read-broken (lines s) (omega (arith, is, f.within)) ∙ ap (λ (k : ℕ). Err (Line (suc k))) (sym is)
    where
      is : i ≡ broken (lines s)
      is = first-broken (lines s) i f

  pub input_none : LawfulLines (lines s) → read_of s ≡ Ok (shape_of (table_of (lines s)))
  input_none l = read-lines s [] h ∙ read_taken (lines s) (omega (arith, none-broken (lines s) l))

first_of : (L : List (List ℕ)) → broken L < length L → First L (broken L)
unfolding broken
first_of L h = lowest-first (length L) _ (Keeps L) (λ i l e. e) (λ i l e. e) h

lawful-of : (L : List (List ℕ)) → length L ≤ broken L → LawfulLines L
unfolding broken
lawful-of L h = record { keeps = λ i l. first_below (length L) (λ k. line_ok (words_of (get_or L 0 [])) k (get_or L k [])) i (omega arith) }

pub read-tells : (s : List ℕ) → Told s (read_of s)
unfolding Told
read-tells s = ⊎_elim (λ h. rw (input-long s h) h) short (less_or 16384 (length s))
  where
    short : length s ≤ 16384 → Told s (read_of s)
    short h =
        ⊎_elim (λ q. rw (read-lines s [] h ∙ read-broken (lines s) q) (h, first_of (lines s) q))
        (λ q. rw (read-lines s [] h ∙ read_taken (lines s) q) (h, (lawful-of (lines s) q, refl))) (less_or (broken (lines s)) (length (lines s)))
