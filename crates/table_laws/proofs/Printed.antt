-- The index read from the table of an index is that index. Assumes nothing.
--   index_read     the table is taken, with the index's numbers of words and nodes
--   index-again    the index that the table lends to the search on all words is the index that was written
--   printed_output  so the output for it is that of ELCA and SLCA on its positive words and of valid SLCA on the whole index
-- Letters: I index; T table; R rows; v node, j word, i field, e entry; n nodes, k words.
use Prim.Native.Nat.{ℕ, zero, suc, ◌+◌, ◌*◌, ◌-◌, ◌/◌, ◌%◌, ◌≤◌, ◌<◌}
use mathlib.Core.Path.{◌≡◌, refl, sym, ap, ap₂, ◌∙◌}
use mathlib.Core.Logic.{⊎_elim}
use mathlib.Core.List.{List, [], ◌++◌}
use mathlib.Core.Bool.{Bool, true, false, cond, false≢true}
use native.Mathlib.Nat.{not-suc-le-zero, le_of_suc-le-suc, add-zero, mul-le-mul_right, mod-lt, div-lt_iff_lt-mul, div-add-mod'}
use native.Mathlib.Omega.{arith}
use borrow.Author.Tests.{eq-eqb, ne_eqb, eqb-true}
use lib.Dec.{eqb, leb}
use lib.ListN.{length, get_or, take}
use lib.Seq.{ext_get_or, take-add, take-length, length-take-le, get_or-take}
use Rattle.seq.specs.Below.{tabulate, listed}
use Rattle.seq.specs.Lists.{some_of}
use Rattle.seq.proofs.Laws.Bools.{bool_cases, and_right}
use Rattle.seq.proofs.Laws.Numbers.{row_le, product_some}
use Rattle.seq.proofs.Laws.Gather.{length-tabulate, get_d_tabulate, gather_ext}
use Rattle.seq.proofs.Laws.Members.{listed-of-rising}
use Rattle.index.specs.Index.{Index, nodes, words, start, word_list}
use Rattle.text.specs.Text.{lines}
use Rattle.std.specs.Prelude.{Ok}
use Rattle.sheet.specs.Table.{Table, width, occurrence, field_of, table_of}
use Rattle.sheet.specs.Promises.{read_of}
use Rattle.sheet.specs.Printed.{all_rows, in_row, Printable}
use Rattle.sheet.proofs.Printed.{printed_table, printed_read, rows-cell}
use Rattle.report.specs.Lines.{elca_text, slca_text, valid_text}
use Rattle.rows.specs.Lent.{list_of, lists_of, end_of, count_of, index_of}
use Rattle.rows.specs.Output.{answers_text, head_text, table_output}
use Rattle.rows.proofs.Laws.Output.{output-table}
use Rattle.table_laws.specs.Printed.{occurs_at, word_at, number_at, rows_from, rows_of, index_text, Tabular, positive_part}

-- ---- one node's numbers
module _ (I : Index) (v : ℕ) where
  word-occurs : (j : ℕ) → number_at I v (2 + 2 * j) ≡ occurs_at I v j
  unfolding number_at word_at
  word-occurs j = ap (number_at I v) two ∙ rw (eq-eqb (2 * j % 2) 0 (omega arith)) (ap (occurs_at I v) half)
    where
      two : 2 + 2 * j ≡ suc (suc (2 * j))
      two = omega arith

      half : 2 * j / 2 ≡ j
      half = omega arith

  word_count_lem : (j : ℕ) → number_at I v (3 + 2 * j) ≡ get_or I.counts (j * nodes I + v) 0
  unfolding number_at word_at
  word_count_lem j =
      ap (number_at I v) three
      ∙ rw (ne_eqb ((2 * j + 1) % 2) 0 (λ (q : (2 * j + 1) % 2 ≡ 0). omega arith)) (ap (λ (m : ℕ). get_or I.counts (m * nodes I + v) 0) half)
    where
      three : 3 + 2 * j ≡ suc (suc (2 * j + 1))
      three = omega arith

      half : (2 * j + 1) / 2 ≡ j
      half = omega arith

  occurs-few : (j : ℕ) → occurs_at I v j ≤ 1
  unfolding occurs_at
  occurs-few j = ⊎_elim (λ q. rw q (omega arith)) (λ q. rw q (omega arith)) (bool_cases (some_of (eqb v) (word_list I.ends I.occurrences j)))

  occurs-is : (j : ℕ) → eqb (occurs_at I v j) 1 ≡ some_of (eqb v) (word_list I.ends I.occurrences j)
  unfolding occurs_at
  occurs-is j = one (some_of (eqb v) (word_list I.ends I.occurrences j))
    where
      one : (b : Bool) → eqb (cond b 1 0) 1 ≡ b
      one true = refl
      one false = refl

-- ---- the rows
rows-length : (I : Index) (m v : ℕ) → length (rows_from I m v) ≡ m
unfolding rows_from
rows-length I zero v = refl
rows-length I (suc m) v = ap suc (rows-length I m (suc v))

rows_at : (I : Index) (m v i : ℕ) → i < m → get_or (rows_from I m v) i [] ≡ tabulate (width (words I)) (number_at I (v + i))
unfolding rows_from
rows_at I zero v i l = absurd (not-suc-le-zero l)
rows_at I (suc m) v zero l = ap (λ (u : ℕ). tabulate (width (words I)) (number_at I u)) here
  where
    here : v ≡ v + 0
    here = omega arith
rows_at I (suc m) v (suc i) l = rows_at I m (suc v) i (le_of_suc-le-suc l) ∙ ap (λ (u : ℕ). tabulate (width (words I)) (number_at I u)) next
  where
    next : suc v + i ≡ v + suc i
    next = omega arith

module _ (I : Index) where
  row_at : (v : ℕ) → v < nodes I → get_or (rows_of I) v [] ≡ tabulate (width (words I)) (number_at I v)
  row_at v l = rows_at I (nodes I) 0 v l ∙ ap (λ (u : ℕ). tabulate (width (words I)) (number_at I u)) none
    where
      none : 0 + v ≡ v
      none = omega arith

  in_row_lem : (v i : ℕ) → v < nodes I → i < width (words I) → in_row (rows_of I) v i ≡ number_at I v i
  in_row_lem v i l h = ap (λ (ns : List ℕ). get_or ns i 0) (row_at v l) ∙ get_d_tabulate (width (words I)) (number_at I v) i 0 h

module _ (I : Index) (t : Tabular I) where
  entry-below : (j v : ℕ) → j < words I → v < nodes I → j * nodes I + v < words I * nodes I
  entry-below j v h l = omega (arith, row_le j (words I) (nodes I) h)

  word_small : (v i : ℕ) → v < nodes I → i < 2 * words I → word_at I v i ≤ 99999
  unfolding word_at
  word_small v i l h =
      ⊎_elim (λ q. rw q (omega (arith, occurs-few I v (i / 2)))) (λ q. rw q (t.small_counts (i / 2 * nodes I + v) (entry-below (i / 2) v (omega arith) l)))
      (bool_cases (eqb (i % 2) 0))

  number_small : (v i : ℕ) → v < nodes I → i < width (words I) → number_at I v i ≤ 99999
  unfolding number_at
  number_small v zero l h = t.small_parents v l
  number_small v (suc zero) l h = t.small_tags v l
  number_small v (suc (suc i)) l h = word_small v i l (omega arith)

  number-mark : (v i : ℕ) → occurrence i ≡ true → number_at I v i ≤ 1
  unfolding number_at word_at occurrence
  number-mark v zero e = absurd (false≢true e)
  number-mark v (suc zero) e = absurd (false≢true e)
  number-mark v (suc (suc i)) e = rw (eq-eqb (i % 2) 0 (even (eqb-true (suc (suc i) % 2) 0 (and_right (leb 2 (suc (suc i))) _ e)))) (occurs-few I v (i / 2))
    where
      even : suc (suc i) % 2 ≡ 0 → i % 2 ≡ 0
      even q = omega arith

  size : length (rows_of I) ≡ nodes I
  size = rows-length I (nodes I) 0

  wide : (v : ℕ) → v < length (rows_of I) → length (get_or (rows_of I) v []) ≡ width (words I)
  wide v l = ap length (row_at I v (omega (arith, size))) ∙ length-tabulate (width (words I)) (number_at I v)

  printable : Printable I.positive I.negative (rows_of I)
  unfolding index_text
  printable = record {
    some_positive = t.some_positive;
    few_words = t.few_words;
    few_nodes = omega (arith, size, t.few_nodes);
    wide = wide;
    small = λ v i l h. omega (arith, in_row_lem I v i (omega (arith, size)) h, number_small v i (omega (arith, size)) h);
    marks = λ v i l h m. omega (arith, in_row_lem I v i (omega (arith, size)) h, number-mark v i m);
    short = t.short;
  }

  pub index_read : read_of (index_text I) ≡ Ok (record { p = I.positive; q = I.negative; n = nodes I })
  unfolding index_text
  index_read =
      printed_read I.positive I.negative (rows_of I) printable ∙ ap (λ (m : ℕ). Ok (record { p = I.positive; q = I.negative; n = m })) size

  -- ---- the table read
  abbrev T : Table
  T = record { positive = I.positive; negative = I.negative; nodes = nodes I; cells = all_rows (rows_of I) }

  table_is : table_of (lines (index_text I)) ≡ T
  unfolding index_text
  table_is =
      printed_table I.positive I.negative (rows_of I) printable
      ∙ (λ i. record { positive = I.positive; negative = I.negative; nodes = size i; cells = all_rows (rows_of I) })

  cell-is : (v i : ℕ) → v < nodes I → i < width (words I) → field_of T v i ≡ number_at I v i
  cell-is v i l h = rows-cell (width (words I)) (rows_of I) v i wide (omega (arith, size)) h ∙ in_row_lem I v i l h

  -- ---- its lists
  list-is : (j : ℕ) → j < words I → list_of T j ≡ word_list I.ends I.occurrences j
  unfolding listed
  list-is j h =
      gather_ext (nodes I) _ _ _ _ (λ v l. ap (λ (x : ℕ). eqb x 1) (cell-is v (2 + 2 * j) l (omega arith) ∙ word-occurs I v j) ∙ occurs-is I v j) (λ v l. refl)
      ∙ listed-of-rising (nodes I) (word_list I.ends I.occurrences j) (t.lists j h).list.below (t.lists j h).list.increasing

  lists-more : (j : ℕ) → j < words I → take (start I.ends j) I.occurrences ++ word_list I.ends I.occurrences j ≡ take (get_or I.ends j 0) I.occurrences
  unfolding word_list
  lists-more j h =
      sym (take-add (start I.ends j) (get_or I.ends j 0 - start I.ends j) I.occurrences) ∙ ap (λ (m : ℕ). take m I.occurrences) whole
    where
      whole : start I.ends j + (get_or I.ends j 0 - start I.ends j) ≡ get_or I.ends j 0
      whole = omega (arith, (t.lists j h).rising)

  lists-are : (j : ℕ) → j ≤ words I → lists_of T j ≡ take (start I.ends j) I.occurrences
  unfolding lists_of start
  lists-are zero h = refl
  lists-are (suc j) h = ap₂ ◌++◌ (lists-are j (omega arith)) (list-is j h) ∙ lists-more j h

  end_is : (j : ℕ) → j < words I → end_of T j ≡ get_or I.ends j 0
  unfolding start
  end_is j h = ap length (lists-are (suc j) h) ∙ length-take-le (get_or I.ends j 0) I.occurrences (t.lists j h).within

  lists-all : (k : ℕ) → 1 ≤ k → k ≡ words I → lists_of T k ≡ I.occurrences
  unfolding start
  lists-all zero l e = absurd (not-suc-le-zero l)
  lists-all (suc j) l e =
      lists-are (suc j) (omega arith)
      ∙ ap (λ (m : ℕ). take m I.occurrences) ((t.lists j (omega arith)).last (e ∙ sym t.ended)) ∙ take-length I.occurrences

  -- ---- its counts
  count-is : (e : ℕ) → e < words I * nodes I → count_of T e ≡ get_or I.counts e 0
  count-is e l =
      cell-is (e % nodes I) (3 + 2 * (e / nodes I)) (mod-lt e some) (omega (arith, below)) ∙ word_count_lem I (e % nodes I) (e / nodes I)
      ∙ ap (λ (m : ℕ). get_or I.counts m 0) (div-add-mod' e (nodes I))
    where
      some : 0 < nodes I
      some = product_some e (words I) (nodes I) l

      below : e / nodes I < words I
      below = (div-lt_iff_lt-mul some).1 l

  -- A list by its entries.
  tabled : (n : ℕ) (f : ℕ → ℕ) (l : List ℕ) → length l ≡ n → ((i : ℕ) → i < n → f i ≡ get_or l i 0) → tabulate n f ≡ l
  tabled n f l e h =
      ext_get_or 0 (tabulate n f) l (length-tabulate n f ∙ sym e)
      (λ i k. let m : i < n = omega (arith, length-tabulate n f) in get_d_tabulate n f i 0 m ∙ h i m)

  index_is : index_of T I.positive I.negative ≡ I
  unfolding index_of number_at
  index_is = λ i. record {
    parents = tabled (nodes I) (λ v. field_of T v 0) I.parents refl (λ v l. cell-is v 0 l (omega arith)) i;
    tags = tabled (nodes I) (λ v. field_of T v 1) I.tags t.tagged (λ v l. cell-is v 1 l (omega arith)) i;
    positive = I.positive;
    negative = I.negative;
    ends = tabled (words I) (end_of T) I.ends t.ended end_is i;
    occurrences = lists-all (words I) (omega (arith, t.some_positive)) refl i;
    counts = tabled (words I * nodes I) (count_of T) I.counts t.counted count-is i;
  }

  pub index-again : index_of (table_of (lines (index_text I))) I.positive I.negative ≡ I
  index-again = ap (λ (X : Table). index_of X I.positive I.negative) table_is ∙ index_is

  -- ---- the positive words alone
  few-counts : I.positive * nodes I ≤ words I * nodes I
  few-counts = mul-le-mul_right {m = I.positive} {n = words I} (nodes I) (omega arith)

  -- The first m entries of a list, by its entries.
  tabled_first : (m k : ℕ) (f : ℕ → ℕ) (l : List ℕ) → k ≡ m → m ≤ length l → ((i : ℕ) → i < m → f i ≡ get_or l i 0) → tabulate k f ≡ take m l
  tabled_first m k f l e h g =
      ap (λ (n : ℕ). tabulate n f) e ∙ tabled m f (take m l) (length-take-le m l h) (λ i q. g i q ∙ sym (get_or-take m l i 0 q))

  part-is : index_of T I.positive 0 ≡ positive_part I
  unfolding index_of number_at positive_part
  part-is = λ i. record {
    parents = tabled (nodes I) (λ v. field_of T v 0) I.parents refl (λ v l. cell-is v 0 l (omega arith)) i;
    tags = tabled (nodes I) (λ v. field_of T v 1) I.tags t.tagged (λ v l. cell-is v 1 l (omega arith)) i;
    positive = I.positive;
    negative = 0;
    ends = tabled_first I.positive (I.positive + 0) (end_of T) I.ends (add-zero I.positive) (omega (arith, t.ended)) (λ j l. end_is j (omega arith)) i;
    occurrences = (ap (lists_of T) (add-zero I.positive) ∙ lists-are I.positive (omega arith)) i;
    counts = tabled_first (I.positive * nodes I) ((I.positive + 0) * nodes I) (count_of T) I.counts (ap (λ (m : ℕ). m * nodes I) (add-zero I.positive))
        (omega (arith, t.counted, few-counts)) (λ e l. count-is e (omega (arith, few-counts))) i;
  }

  pub printed_output : table_output (index_text I) ≡ head_text ++ (elca_text (positive_part I) ++ (slca_text (positive_part I) ++ valid_text I))
  unfolding answers_text
  printed_output =
      sym (output-table (index_text I) _ (read_of (index_text I)) refl index_read) ∙ ap (λ (X : Table). head_text ++ answers_text X) table_is
      ∙ ap₂ (λ (X Y : Index). head_text ++ (elca_text X ++ (slca_text X ++ valid_text Y))) part-is index_is
