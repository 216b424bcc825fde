-- A table that is written as a text is read from it again. Assumes nothing.
--   printed_read     the text of a table within the bounds breaks no rule, and gives its numbers of words and nodes
--   printed_table    and the table read from it has the numbers that were written
--   rows-cell        where the number of a field stands among all
-- Letters: R rows, ns the numbers of one; p positive, q negative words; v node, i field; s text, l line, f field, fs fields.
use Prim.Native.Nat.{ℕ, zero, suc, ◌+◌, ◌*◌, ◌≤◌, ◌<◌}
use mathlib.Core.Path.{◌≡◌, refl, sym, ap, ap₂, ◌∙◌}
use mathlib.Core.List.{List, [], ◌∷◌, ◌++◌, map}
use mathlib.Core.Bool.{true}
use native.Mathlib.Nat.{not-suc-le-zero, le_of_suc-le-suc, zero-mul, suc-mul}
use native.Mathlib.Omega.{arith}
use borrow.Author.Tests.{lt-ltb}
use lib.Dec.{ltb}
use lib.ListN.{length, get_or, length-map, get_or-append}
use lib.Seq.{get_or-append-add}
use Rattle.seq.specs.Lists.{every_of}
use Rattle.seq.proofs.Laws.Bools.{and_both}
use Rattle.text.specs.Text.{bytes, lines, fields, numeral, value, decimal}
use Rattle.text.specs.Plain.{NoComma, NoEnd}
use Rattle.text.proofs.Meaning.{value-decimal, decimal-digits, numeral-decimal}
use Rattle.text.proofs.Written.{fields-joined, digits-free, high, high-append, high-free, high-digits, high-joined, lines-written}
use Rattle.std.specs.Prelude.{Ok}
use Rattle.sheet.specs.Table.{Table, times, header_text, words_of, width, occurrence, row_ok, line_ok, row_of, cells_of, table_of}
use Rattle.sheet.specs.Promises.{shape_of, read_of}
use Rattle.sheet.specs.Plain.{Row, Keeps}
use Rattle.sheet.specs.Printed.{row_text, table_text, all_rows, in_row, Printable}
use Rattle.sheet.proofs.Meaning.{header-positives, header-negatives, header_of, row-of, input_none}

map_at : {A B : Type 0} (f : A → B) (l : List A) (i : ℕ) (d : A) (e : B) → i < length l → get_or (map f l) i e ≡ f (get_or l i d)
map_at f [] i d e h = absurd (not-suc-le-zero h)
map_at f (x ∷ l) zero d e h = refl
map_at f (x ∷ l) (suc i) d e h = map_at f l i d e (le_of_suc-le-suc h)

-- ---- the header has no CR
high-times : (m : ℕ) (s : List ℕ) → high s ≡ true → high (times m s) ≡ true
unfolding times every_of
high-times zero s h = refl
high-times (suc m) s h = high-append s (times m s) h (high-times m s h)

high-header : (p q : ℕ) → high (header_text p q) ≡ true
unfolding header_text bytes every_of
high-header p q =
    high-append (bytes "parent,tag") (times p (bytes ",+,#") ++ times q (bytes ",-,#")) refl
    (high-append (times p (bytes ",+,#")) (times q (bytes ",-,#")) (high-times p (bytes ",+,#") refl) (high-times q (bytes ",-,#") refl))

-- ---- a node line
values-are : (ns : List ℕ) → ((i : ℕ) → i < length ns → get_or ns i 0 ≤ 99999) → map value (map decimal ns) ≡ ns
values-are [] h = refl
values-are (n ∷ ns) h = ap₂ ◌∷◌ (value-decimal n (omega (arith, h 0 (omega arith)))) (values-are ns (λ i l. h (suc i) (omega arith)))

module _ (ns : List ℕ) (some : 0 < length ns) (small : (i : ℕ) → i < length ns → get_or ns i 0 ≤ 99999) where
  fields-are : fields (row_text ns) ≡ map decimal ns
  unfolding row_text
  fields-are = fields-joined (map decimal ns) (omega (arith, length-map ns decimal)) free
    where
      free : (i : ℕ) → i < length (map decimal ns) → NoComma (get_or (map decimal ns) i [])
      free i l =
          let k : i < length ns = omega (arith, length-map ns decimal) in
          rw (map_at decimal ns i 0 [] k) (digits-free (decimal (get_or ns i 0)) (decimal-digits (get_or ns i 0)))

  row-high : high (row_text ns) ≡ true
  unfolding row_text
  row-high =
      high-joined (map decimal ns)
      (λ i l. let k : i < length ns = omega (arith, length-map ns decimal) in
      rw (map_at decimal ns i 0 [] k) (high-digits (decimal (get_or ns i 0)) (decimal-digits (get_or ns i 0))))

  row_is : row_of (row_text ns) ≡ ns
  unfolding row_of
  row_is = ap (map value) fields-are ∙ values-are ns small

  field_at : (i : ℕ) → i < length ns → get_or (fields (row_text ns)) i [] ≡ decimal (get_or ns i 0)
  field_at i l = ap (λ (fs : List (List ℕ)). get_or fs i []) fields-are ∙ map_at decimal ns i 0 [] l

  row_keeps : ((i : ℕ) → i < length ns → occurrence i ≡ true → get_or ns i 0 ≤ 1) → Row (length ns) (row_text ns)
  row_keeps marks = record {
    fields_are = ap length fields-are ∙ length-map ns decimal;
    numbers = λ i l. ap numeral (field_at i l) ∙ numeral-decimal (get_or ns i 0) (small i l);
    marks = λ i l m. omega (arith, ap value (field_at i l), value-decimal (get_or ns i 0) (omega (arith, small i l)), marks i l m);
  }

-- ---- the whole table
cells_are : (R : List (List ℕ)) → ((v : ℕ) → v < length R → row_of (row_text (get_or R v [])) ≡ get_or R v []) → cells_of (map row_text R) ≡ all_rows R
unfolding cells_of all_rows
cells_are [] h = refl
cells_are (ns ∷ R) h = ap₂ ◌++◌ (h 0 (omega arith)) (cells_are R (λ v l. h (suc v) (omega arith)))

module _ (p q : ℕ) (R : List (List ℕ)) (t : Printable p q R) where
  abbrev L : List (List ℕ)
  L = header_text p q ∷ map row_text R

  node-some : (v : ℕ) → v < length R → 0 < length (get_or R v [])
  node-some v l = omega (arith, t.wide v l)

  node-small : (v : ℕ) → v < length R → (i : ℕ) → i < length (get_or R v []) → get_or (get_or R v []) i 0 ≤ 99999
  node-small v l i h = t.small v i l (omega (arith, t.wide v l))

  node-line : (v : ℕ) → v < length (map row_text R) → v < length R
  node-line v l = omega (arith, length-map R row_text)

  lines-free : (i : ℕ) → i < length L → NoEnd (get_or L i [])
  lines-free zero l = high-free (header_text p q) (high-header p q)
  lines-free (suc v) l =
      let k : v < length R = node-line v (le_of_suc-le-suc l) in
      rw (map_at row_text R v [] [] k) (high-free (row_text (get_or R v [])) (row-high (get_or R v []) (node-some v k) (node-small v k)))

  lines_are : lines (table_text p q R) ≡ L
  unfolding table_text
  lines_are = lines-written L (omega arith) lines-free

  words_are : words_of (header_text p q) ≡ p + q
  words_are = ap₂ ◌+◌ (header-positives p q) (header-negatives p q)

  keeps : (i : ℕ) → i < length L → Keeps L i
  unfolding line_ok
  keeps zero l = header_of (header_text p q) (record { p = p; q = q; some_positive = t.some_positive; few_words = t.few_words; text = refl })
  keeps (suc v) l =
      let k : v < length R = node-line v (le_of_suc-le-suc l) in
      and_both (ltb v 256) _ (lt-ltb v 256 (omega (arith, t.few_nodes)))
      (ap₂ row_ok (ap width words_are ∙ sym (t.wide v k)) (map_at row_text R v [] [] k)
      ∙ row-of (length (get_or R v [])) (row_text (get_or R v []))
      (row_keeps (get_or R v []) (node-some v k) (node-small v k) (λ i h m. t.marks v i k (omega (arith, t.wide v k)) m)))

  pub printed_table : table_of (lines (table_text p q R)) ≡ record { positive = p; negative = q; nodes = length R; cells = all_rows R }
  unfolding table_of
  printed_table =
      ap table_of lines_are
      ∙ (λ i. record { positive = header-positives p q i; negative = header-negatives p q i; nodes = length-map R row_text i; cells = all i })
    where
      all : cells_of (map row_text R) ≡ all_rows R
      all = cells_are R (λ v l. row_is (get_or R v []) (node-some v l) (node-small v l))

  pub printed_read : read_of (table_text p q R) ≡ Ok (record { p = p; q = q; n = length R })
  printed_read =
      input_none (table_text p q R) t.short (rw lines_are (record { keeps = keeps }))
      ∙ ap (λ (T : Table). Ok (shape_of T)) printed_table

-- ---- the numbers of all lines
pub rows-cell : (w : ℕ) (R : List (List ℕ)) (v i : ℕ) → ((u : ℕ) → u < length R → length (get_or R u []) ≡ w) → v < length R → i < w →
    get_or (all_rows R) (v * w + i) 0 ≡ in_row R v i
unfolding all_rows
rows-cell w [] v i h l k = absurd (not-suc-le-zero l)
rows-cell w (ns ∷ R) zero i h l k =
    ap (λ (e : ℕ). get_or (ns ++ all_rows R) e 0) here ∙ get_or-append ns (all_rows R) 0 i (omega (arith, h 0 (omega arith)))
  where
    here : 0 * w + i ≡ i
    here = omega (arith, zero-mul w)
rows-cell w (ns ∷ R) (suc v) i h l k =
    ap (λ (e : ℕ). get_or (ns ++ all_rows R) e 0) there ∙ get_or-append-add ns (all_rows R) (v * w + i) 0
    ∙ rows-cell w R v i (λ u q. h (suc u) (omega arith)) (le_of_suc-le-suc l) k
  where
    there : suc v * w + i ≡ length ns + (v * w + i)
    there = omega (arith, suc-mul v w, h 0 (omega arith))
