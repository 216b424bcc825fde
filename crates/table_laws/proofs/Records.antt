-- The output's lines and fields are the records that 01 names. Assumes nothing.
--   output-lines     the lines of the output, each ended by CR LF, are its records with commas between the fields
--   output-fields    and the fields of each line are those of its record
-- Letters: s input; r reply, l nodes, v node; L records, f field.
use Prim.Native.Nat.{ℕ, zero, suc, ◌≤◌, ◌<◌}
use mathlib.Core.Path.{◌≡◌, refl, sym, ap, ap₂, ◌∙◌}
use mathlib.Core.List.{List, [], ◌∷◌, ◌++◌, map, map-append, append-nil, append_assoc}
use mathlib.Core.Bool.{Bool, true, ◌&&◌}
use native.Mathlib.Nat.{not-suc-le-zero, le_of_suc-le-suc}
use native.Mathlib.Omega.{arith}
use borrow.Author.Tests.{le-leb, leb-true}
use lib.Dec.{leb}
use lib.ListN.{length, get_or, length-map}
use Rattle.seq.specs.Lists.{every_of}
use Rattle.seq.proofs.Laws.Bools.{and_left, and_right, and_both}
use Rattle.seq.proofs.Laws.Lists.{every_of-at}
use Rattle.index.specs.declared.Reply.{Reply}
use Rattle.index.specs.Index.{Index}
use Rattle.index.specs.Replies.{refused}
use Rattle.text.specs.Text.{bytes, CR, LF, comma, lines, fields, digit, decimal}
use Rattle.text.specs.Plain.{joined_by, written, NoComma, NoEnd}
use Rattle.text.proofs.Laws.Text.{digit_at}
use Rattle.text.proofs.Meaning.{decimal-digits}
use Rattle.text.proofs.Written.{fields-joined, lines-written, written-append, high, high-free, high-joined}
use Rattle.std.specs.Prelude.{Result, Ok, Err}
use Rattle.sheet.specs.declared.Shape.{Shape}
use Rattle.sheet.specs.declared.Broken.{Broken}
use Rattle.sheet.specs.Table.{Table, table_of}
use Rattle.sheet.specs.Promises.{read_of}
use Rattle.report.specs.Lines.{reply_text, line_text, node_lines, answer_text, elca_text, slca_text, valid_text}
use Rattle.rows.specs.Lent.{index_of}
use Rattle.rows.specs.Output.{answers_text, head_text, INPUT, place_of, input_text, table_output}
use Rattle.rows.proofs.Laws.Output.{output-broken, output-table}
use Rattle.table_laws.specs.Records.{line_record, node_records, answer_records, elca_records, slca_records, valid_records}
use Rattle.table_laws.specs.Records.{table_records, head_record, read_records, output_records}

-- A record as a line, and records as a text.
abbrev joined : List (List ℕ) → List ℕ
joined R = joined_by (comma ∷ []) R

abbrev text_of : List (List (List ℕ)) → List ℕ
text_of L = written (map joined L)

text-append : (L M : List (List (List ℕ))) → text_of (L ++ M) ≡ text_of L ++ text_of M
text-append L M = ap written (map-append joined L M) ∙ written-append (map joined L) (map joined M)

-- ---- the texts of the output are those of its records
line-text : (name : List ℕ) (r : Reply) (node t : List ℕ) → line_text name r node ++ t ≡ joined (line_record name r node) ++ (CR ∷ LF ∷ t)
unfolding line_text reply_text line_record joined_by bytes
line-text name r node t = simp append_assoc

nodes-text : (name : List ℕ) (r : Reply) (l : List ℕ) → node_lines name r l ≡ text_of (node_records name r l)
unfolding node_lines node_records written
nodes-text name r [] = refl
nodes-text name r (v ∷ l) =
    line-text name r (decimal v) (node_lines name r l)
    ∙ ap (λ (t : List ℕ). joined (line_record name r (decimal v)) ++ (CR ∷ LF ∷ t)) (nodes-text name r l)

line-alone : (name : List ℕ) (r : Reply) (node : List ℕ) → line_text name r node ≡ text_of (line_record name r node ∷ [])
unfolding written
line-alone name r node = sym (append-nil (line_text name r node)) ∙ line-text name r node []

answer-text : (name : List ℕ) (r : Reply) (l : List ℕ) → answer_text name r l ≡ text_of (answer_records name r l)
unfolding answer_text answer_records
answer-text name r [] = line-alone name r []
answer-text name r (v ∷ l) = nodes-text name r (v ∷ l)

module _ (I : Index) where
  elca-text : elca_text I ≡ text_of (elca_records I)
  unfolding elca_text elca_records
  elca-text = answer-text (bytes "elca") _ _

  slca-text : slca_text I ≡ text_of (slca_records I)
  unfolding slca_text slca_records
  slca-text = answer-text (bytes "slca") _ _

  valid-text : valid_text I ≡ text_of (valid_records I)
  unfolding valid_text valid_records
  valid-text = answer-text (bytes "valid") _ _

table-text : (T : Table) → answers_text T ≡ text_of (table_records T)
unfolding answers_text table_records
table-text T =
    ap₂ ◌++◌ (elca-text I) (ap₂ ◌++◌ (slca-text I) (valid-text J) ∙ sym (text-append (slca_records I) (valid_records J)))
    ∙ sym (text-append (elca_records I) (slca_records I ++ valid_records J))
  where
    I : Index
    I = index_of T T.positive 0

    J : Index
    J = index_of T T.positive T.negative

read-text : (s : List ℕ) (r : Result Shape Broken) → r ≡ read_of s → table_output s ≡ head_text ++ text_of (read_records s r)
unfolding read_records input_text
read-text s (Err b) e =
    sym (output-broken s b (Err b) e refl) ∙ ap (λ (t : List ℕ). head_text ++ t) (line-alone (bytes "input") (refused INPUT (place_of b)) [])
read-text s (Ok t) e = sym (output-table s t (Ok t) e refl) ∙ ap (λ (x : List ℕ). head_text ++ x) (table-text (table_of (lines s)))

output-text : (s : List ℕ) → table_output s ≡ text_of (output_records s)
unfolding output_records head_text head_record bytes joined_by written
output-text s = read-text s (read_of s) refl

-- ---- no byte of a field is a comma or below it
above : List ℕ → Bool
above f = every_of (leb 45) f

sound : List (List ℕ) → Bool
sound R = leb 1 (length R) && every_of above R

above-digits : (f : List ℕ) → every_of digit f ≡ true → above f ≡ true
unfolding above every_of
above-digits [] e = refl
above-digits (x ∷ f) e =
    and_both (leb 45 x) _ (le-leb 45 x (omega (arith, (digit_at x (and_left (digit x) (every_of digit f) e)).low)))
    (above-digits f (and_right (digit x) (every_of digit f) e))

above-high : (f : List ℕ) → above f ≡ true → high f ≡ true
unfolding above every_of
above-high [] e = refl
above-high (x ∷ f) e =
    and_both (leb 14 x) _ (le-leb 14 x (omega (arith, leb-true 45 x (and_left (leb 45 x) (above f) e)))) (above-high f (and_right (leb 45 x) (above f) e))

above-free : (f : List ℕ) → above f ≡ true → NoComma f
unfolding above
above-free f e i l q = omega (arith, leb-true 45 (get_or f i 0) (every_of-at (leb 45) f 0 e i l))

every_append : (L M : List (List (List ℕ))) → every_of sound L ≡ true → every_of sound M ≡ true → every_of sound (L ++ M) ≡ true
unfolding every_of
every_append [] M e h = h
every_append (x ∷ L) M e h = and_both (sound x) _ (and_left (sound x) (every_of sound L) e) (every_append L M (and_right (sound x) (every_of sound L) e) h)

module _ (name : List ℕ) (r : Reply) (n : above name ≡ true) where
  line-sound : (node : List ℕ) → above node ≡ true → sound (line_record name r node) ≡ true
  unfolding line_record sound every_of
  line-sound node e =
      and_both _ _ refl (and_both (above name) _ n (and_both (above (decimal r.refusal)) _ (above-digits (decimal r.refusal) (decimal-digits r.refusal))
      (and_both (above (decimal r.place)) _ (above-digits (decimal r.place) (decimal-digits r.place)) (and_both (above node) _ e refl))))

  nodes-sound : (l : List ℕ) → every_of sound (node_records name r l) ≡ true
  unfolding node_records every_of
  nodes-sound [] = refl
  nodes-sound (v ∷ l) = and_both _ _ (line-sound (decimal v) (above-digits (decimal v) (decimal-digits v))) (nodes-sound l)

  line_sounds : every_of sound (line_record name r [] ∷ []) ≡ true
  unfolding above every_of
  line_sounds = and_both (sound (line_record name r [])) _ (line-sound [] refl) refl

  answer-sound : (l : List ℕ) → every_of sound (answer_records name r l) ≡ true
  unfolding answer_records
  answer-sound [] = line_sounds
  answer-sound (v ∷ l) = nodes-sound (v ∷ l)

table-sound : (T : Table) → every_of sound (table_records T) ≡ true
unfolding table_records elca_records slca_records valid_records above every_of bytes
table-sound T =
    every_append (elca_records (index_of T T.positive 0)) _ (answer-sound (bytes "elca") _ refl _)
    (every_append (slca_records (index_of T T.positive 0)) _ (answer-sound (bytes "slca") _ refl _) (answer-sound (bytes "valid") _ refl _))

read-sound : (s : List ℕ) (r : Result Shape Broken) → every_of sound (read_records s r) ≡ true
unfolding read_records above every_of bytes
read-sound s (Err b) = line_sounds (bytes "input") (refused INPUT (place_of b)) refl
read-sound s (Ok t) = table-sound (table_of (lines s))

output-sound : (s : List ℕ) → every_of sound (output_records s) ≡ true
unfolding output_records head_record sound above every_of bytes
output-sound s = read-sound s (read_of s)

-- ---- the lines and their fields
map_at : {A B : Type 0} (f : A → B) (l : List A) (i : ℕ) (d : A) (e : B) → i < length l → get_or (map f l) i e ≡ f (get_or l i d)
map_at f [] i d e h = absurd (not-suc-le-zero h)
map_at f (x ∷ l) zero d e h = refl
map_at f (x ∷ l) (suc i) d e h = map_at f l i d e (le_of_suc-le-suc h)

record Sound (R : List (List ℕ)) : Type 0 where
  pub some : 1 ≤ length R
  pub each : (k : ℕ) → k < length R → above (get_or R k []) ≡ true

sound-at : (R : List (List ℕ)) → sound R ≡ true → Sound R
unfolding sound
sound-at R e = record {
  some = leb-true 1 (length R) (and_left (leb 1 (length R)) (every_of above R) e);
  each = every_of-at above R [] (and_right (leb 1 (length R)) (every_of above R) e);
}

records_some : (s : List ℕ) → 0 < length (map joined (output_records s))
unfolding output_records
records_some s = omega arith

module _ (s : List ℕ) where
  record_sound : (i : ℕ) → i < length (output_records s) → Sound (get_or (output_records s) i [])
  record_sound i l = sound-at (get_or (output_records s) i []) (every_of-at sound (output_records s) [] (output-sound s) i l)

  pub output-lines : lines (table_output s) ≡ map joined (output_records s)
  output-lines = ap lines (output-text s) ∙ lines-written (map joined (output_records s)) (records_some s) free
    where
      free : (i : ℕ) → i < length (map joined (output_records s)) → NoEnd (get_or (map joined (output_records s)) i [])
      free i l =
          let k : i < length (output_records s) = omega (arith, length-map (output_records s) joined) in
          rw (map_at joined (output_records s) i [] [] k)
          (high-free (joined (get_or (output_records s) i [])) (high-joined (get_or (output_records s) i []) (λ j h. above-high _ ((record_sound i k).each j h))))

  pub output-fields : (i : ℕ) → i < length (output_records s) → fields (get_or (lines (table_output s)) i []) ≡ get_or (output_records s) i []
  output-fields i l =
      ap (λ (L : List (List ℕ)). fields (get_or L i [])) output-lines ∙ ap fields (map_at joined (output_records s) i [] [] l)
      ∙ fields-joined (get_or (output_records s) i []) (record_sound i l).some (λ j h. above-free _ ((record_sound i l).each j h))
