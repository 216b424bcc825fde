-- What 01 says of the output as a whole. Assumes nothing.
--   output-long, output-first, output-lawful   INPUT is given exactly for an input that breaks a rule, at place 0 where it has more than
--                    16,384 bytes and else at the first line, from 1, that breaks one; any other input reaches the searches
--   output_no_list_no_room   on a table that has been read, no search gives LIST or ROOM
--   refused-line, empty-line, node_lines_lem   a refusal and an empty answer have one line with an empty node field, another answer one line for each node
--   output_no_nodes, output_no_size   a header with no node lines reaches the searches and gives SIZE; a table with one gives no SIZE, whatever its words and nodes
--   output-fits      an output has at most 16,384 bytes, so an array of that length holds it whole (`output-held` of crate `whole`)
-- Letters: s input; T table; I index; r reply.
use Prim.Native.Nat.{ℕ, suc, zero-le, ◌+◌, ◌*◌, ◌≤◌, ◌<◌}
use mathlib.Core.Path.{◌≡◌, refl, sym, ap, ap₂, ◌∙◌}
use mathlib.Core.Logic.{⊎_elim}
use mathlib.Core.List.{List, [], ◌∷◌, ◌++◌}
use mathlib.Core.Bool.{Bool, true, false, cond}
use native.Mathlib.Nat.{mul-le-mul_right, le_trans}
use native.Mathlib.Omega.{arith}
use borrow.Author.Tests.{le-leb, lt-leb, eq-eqb, ne_eqb, eqb-true}
use lib.Dec.{eqb, ltb, leb}
use lib.ListN.{length, length-append}
use Rattle.seq.specs.Below.{tabulate, listed}
use Rattle.seq.specs.Lists.{EachBelow}
use Rattle.seq.proofs.Laws.Bools.{bool_cases, and_both, and_false-left}
use Rattle.seq.proofs.Laws.Numbers.{less_or}
use Rattle.seq.proofs.Laws.Lists.{each_tail}
use Rattle.seq.proofs.Laws.Gather.{length-tabulate, length-gather, listed_le}
use Rattle.seq.proofs.Laws.Members.{listed_below}
use Rattle.index.specs.declared.Reply.{Reply}
use Rattle.index.specs.Index.{Index, nodes, words}
use Rattle.index.specs.Replies.{accepted, SIZE, TREE, LIST, COUNT, ROOM, refused, refusing, checked, nodes_ok, size_ok}
use Rattle.tree.specs.Rules.{tree_bad}
use Rattle.index.specs.Rules.{lists_bad, counts_bad}
use Rattle.index.proofs.Laws.Sizes.{sized-yes}
use Rattle.index.proofs.Laws.Replies.{checked-size, checked-tree, checked-count, checked-all, clean-reply, clean_or_stopped}
use Rattle.answers.specs.Searches.{is_elca, is_slca, is_valid, out_of, own_of, roomed, out_fits, own_fits, elca_reply, slca_reply, valid_reply}
use Rattle.text.specs.Text.{bytes, lines, decimal}
use Rattle.text.proofs.Meaning.{length-decimal, decimal-most}
use Rattle.sheet.specs.declared.Shape.{Shape}
use Rattle.std.specs.Prelude.{Result, Ok, Err}
use Rattle.sheet.specs.declared.Broken.{Broken}
use Rattle.sheet.specs.declared.Broken.TheVariants.{TooLong, Line}
use Rattle.sheet.specs.Table.{Table, field_of, table_of}
use Rattle.sheet.specs.Plain.{LawfulLines, First}
use Rattle.sheet.specs.Promises.{read_of}
use Rattle.sheet.proofs.Laws.Reading.{taken_at}
use Rattle.sheet.proofs.Meaning.{input-long, input-first, input_none}
use Rattle.rows.specs.Lent.{index_of}
use Rattle.report.specs.Lines.{reply_text, line_text, node_lines, answer_text, listed_by, lent_work, lent_out, lent_own, elca_text, slca_text, valid_text}
use Rattle.rows.specs.Output.{answers_text, head_text, INPUT, place_of, input_text, table_output}
use Rattle.table_laws.proofs.Lent.{lists-lent}
use Rattle.rows.proofs.Laws.Output.{output-broken, output-table}

-- ---- INPUT
pub output-long : (s : List ℕ) → 16384 < length s → table_output s ≡ head_text ++ input_text 0
output-long s h = sym (output-broken s TooLong (read_of s) refl (input-long s h))

module _ (s : List ℕ) (h : length s ≤ 16384) where
  pub output-first : (i : ℕ) → First (lines s) i → table_output s ≡ head_text ++ input_text (suc i)
  output-first i f = sym (output-broken s (Line (suc i)) (read_of s) refl (input-first s h i f))

  pub output-lawful : LawfulLines (lines s) → table_output s ≡ head_text ++ answers_text (table_of (lines s))
  output-lawful l = sym (output-table s _ (read_of s) refl (input_none s h l))

-- ---- the lines of a search
module _ (name : List ℕ) (r : Reply) where
  pub refused-line : (l : List ℕ) → (r.refusal ≡ accepted → ⊥) → answer_text name r (listed_by r l) ≡ line_text name r []
  unfolding answer_text listed_by
  refused-line l e = rw (ne_eqb r.refusal accepted e)

  pub empty-line : answer_text name r (listed_by r []) ≡ line_text name r []
  unfolding answer_text listed_by
  empty-line = ⊎_elim (λ q. rw q) (λ q. rw q) (bool_cases (eqb r.refusal accepted))

  pub node_lines_lem : (v : ℕ) (l : List ℕ) → r.refusal ≡ accepted → answer_text name r (listed_by r (v ∷ l)) ≡ node_lines name r (v ∷ l)
  unfolding answer_text listed_by
  node_lines_lem v l e = rw (eq-eqb r.refusal accepted e)

-- ---- no node lines
size-line : (name : List ℕ) (most : ℕ) (I : Index) (w : ℕ) (r : Reply) (l : List ℕ) → nodes I ≡ 0 →
    answer_text name (checked most I w r) (listed_by (checked most I w r) l) ≡ line_text name (refused SIZE 0) []
unfolding size_ok nodes_ok
size-line name most I w r l e =
    ap (λ (x : Reply). answer_text name x (listed_by x l))
    (checked-size most I w r (and_false-left _ _ (and_false-left _ _ (and_false-left (leb 1 (nodes I)) _ (lt-leb 1 (nodes I) (omega arith))))))
    ∙ refused-line name (refused SIZE 0) l (λ q. omega arith)

pub output_no_nodes : (T : Table) → T.nodes ≡ 0 →
    answers_text T ≡ line_text (bytes "elca") (refused SIZE 0) [] ++ (line_text (bytes "slca") (refused SIZE 0) [] ++ line_text (bytes "valid") (refused SIZE 0) [])
unfolding answers_text elca_text slca_text valid_text elca_reply slca_reply valid_reply index_of
output_no_nodes T e =
    ap₂ ◌++◌ (size-line (bytes "elca") 0 (index_of T T.positive 0) 2560 _ _ none)
    (ap₂ ◌++◌ (size-line (bytes "slca") 0 (index_of T T.positive 0) 2560 _ _ none)
    (size-line (bytes "valid") 8 (index_of T T.positive T.negative) 2560 _ _ none))
  where
    none : length (tabulate T.nodes (λ v. field_of T v 0)) ≡ 0
    none = length-tabulate T.nodes (λ v. field_of T v 0) ∙ e

-- ---- LIST and ROOM
-- A reply that is neither.
pub record Neither (r : Reply) : Type 0 where
  pub no_list : r.refusal ≡ LIST → ⊥
  pub no_room : r.refusal ≡ ROOM → ⊥

-- A reply that is known, by its number.
known : (r s : Reply) → r ≡ s → (s.refusal ≡ LIST → ⊥) → (s.refusal ≡ ROOM → ⊥) → Neither r
known r s e a b = record { no_list = λ q. a (sym (ap (λ (x : Reply). x.refusal) e) ∙ q); no_room = λ q. b (sym (ap (λ (x : Reply). x.refusal) e) ∙ q) }

-- Where no word breaks a rule and there is room for the answer.
neither : (most : ℕ) (I : Index) (w : ℕ) (f : ℕ → Bool) (b : Bool) → words I ≤ lists_bad (nodes I) I.ends I.occurrences → b ≡ true →
    Neither (checked most I w (roomed I f b))
unfolding roomed
neither most I w f b l e =
    ⊎_elim
    (λ s. ⊎_elim (λ t. known _ _ (checked-tree most I w _ s t) (λ q. omega arith) (λ q. omega arith))
    (λ t. ⊎_elim (λ c. known _ _ (checked-count most I w _ s t l c) (λ q. omega arith) (λ q. omega arith))
    (λ c. known _ _ (checked-all most I w _ s t l c ∙ ap (λ (x : Bool). roomed I f x) e) (λ q. omega arith) (λ q. omega arith))
    (less_or (counts_bad I.parents I.ends I.occurrences I.counts) (words I * nodes I)))
    (less_or (tree_bad I.parents I.tags) (nodes I)))
    (λ s. known _ _ (checked-size most I w _ s) (λ q. omega arith) (λ q. omega arith)) (bool_cases (size_ok most I w))

-- A table that is small enough: as each is that has been read.
pub record Small (T : Table) : Type 0 where
  pub some_positive : 1 ≤ T.positive
  pub few_words : T.positive + T.negative ≤ 8
  pub few_nodes : T.nodes ≤ 256

module _ (T : Table) (m : Small T) (p q : ℕ) (h : p + q ≤ 8) where
  nodes-are : nodes (index_of T p q) ≡ T.nodes
  unfolding index_of
  nodes-are = length-tabulate T.nodes _

  lists-right : words (index_of T p q) ≤ lists_bad (nodes (index_of T p q)) (index_of T p q).ends (index_of T p q).occurrences
  unfolding index_of
  lists-right = rw (length-tabulate T.nodes) (lists-lent T (p + q))

  out-few : (f : ℕ → Bool) → length (out_of (index_of T p q) f) ≤ 256
  unfolding out_of listed
  out-few f = omega (arith, listed_le (nodes (index_of T p q)) f, nodes-are, m.few_nodes)

  own-size : (f : ℕ → Bool) → length (own_of (index_of T p q) f) ≡ length (out_of (index_of T p q) f) * p
  unfolding own_of out_of listed index_of
  own-size f = length-gather p (nodes (index_of T p q)) f _ (λ i l. length-tabulate p _)

  own-few : (f : ℕ → Bool) → length (own_of (index_of T p q) f) ≤ 2048
  own-few f = omega (arith, own-size f, mul-le-mul_right {m = length (out_of (index_of T p q) f)} {n = 256} p (out-few f))

  elca_neither : Neither (elca_reply (index_of T p q) lent_work lent_out lent_own)
  unfolding elca_reply out_fits own_fits
  elca_neither = neither 0 (index_of T p q) 2560 (is_elca (index_of T p q)) _ lists-right (and_both _ _ (le-leb _ 256 (out-few _)) (le-leb _ 2048 (own-few _)))

  slca_neither : Neither (slca_reply (index_of T p q) lent_work lent_out)
  unfolding slca_reply out_fits
  slca_neither = neither 0 (index_of T p q) 2560 (is_slca (index_of T p q)) _ lists-right (le-leb _ 256 (out-few _))

  valid_neither : Neither (valid_reply (index_of T p q) lent_work lent_out)
  unfolding valid_reply out_fits
  valid_neither = neither 8 (index_of T p q) 2560 (is_valid (index_of T p q)) _ lists-right (le-leb _ 256 (out-few _))

-- ELCA and SLCA on the positive words, valid SLCA on all.
pub record AllNeither (T : Table) : Type 0 where
  pub elca : Neither (elca_reply (index_of T T.positive 0) lent_work lent_out lent_own)
  pub slca : Neither (slca_reply (index_of T T.positive 0) lent_work lent_out)
  pub valid : Neither (valid_reply (index_of T T.positive T.negative) lent_work lent_out)

pub output_no_list_no_room : (T : Table) → Small T → AllNeither T
output_no_list_no_room T m = record {
  elca = elca_neither T m T.positive 0 (omega (arith, m.few_words));
  slca = slca_neither T m T.positive 0 (omega (arith, m.few_words));
  valid = valid_neither T m T.positive T.negative m.few_words;
}

-- ---- SIZE
refusing-not : (number at limit : ℕ) (r : Reply) → (number ≡ SIZE → ⊥) → (r.refusal ≡ SIZE → ⊥) → (refusing number at limit r).refusal ≡ SIZE → ⊥
unfolding refusing
refusing-not number at limit r f g = pick (ltb at limit)
  where
    pick : (b : Bool) → (cond b (refused number at) r).refusal ≡ SIZE → ⊥
    pick true = f
    pick false = g

room-not : (b : Bool) → cond b accepted ROOM ≡ SIZE → ⊥
room-not true q = omega arith
room-not false q = omega arith

sized-not : (most : ℕ) (I : Index) (w : ℕ) (f : ℕ → Bool) (b : Bool) → size_ok most I w ≡ true → (checked most I w (roomed I f b)).refusal ≡ SIZE → ⊥
unfolding checked roomed
sized-not most I w f b e =
    rw e (refusing-not TREE _ _ _ (λ q. omega arith) (refusing-not LIST _ _ _ (λ q. omega arith) (refusing-not COUNT _ _ _ (λ q. omega arith) (room-not b))))

module _ (T : Table) (m : Small T) (some : 1 ≤ T.nodes) (p q most : ℕ) (positive : 1 ≤ p) (few : p + q ≤ 8) (negative : q ≤ most) where
  index-sized : size_ok most (index_of T p q) 2560 ≡ true
  unfolding index_of
  index-sized = sized-yes most (index_of T p q) 2560 (record {
    some_nodes = omega (arith, nodes-are T m p q few);
    few_nodes = omega (arith, nodes-are T m p q few, m.few_nodes);
    some_positive = positive;
    few_positive = omega arith;
    few_words = few;
    few_negative = negative;
    tagged = length-tabulate T.nodes _ ∙ sym (nodes-are T m p q few);
    ended = length-tabulate (p + q) _;
    counted = length-tabulate ((p + q) * T.nodes) _ ∙ ap (λ (n : ℕ). (p + q) * n) (sym (nodes-are T m p q few));
    roomy = rw (nodes-are T m p q few) (le_trans (mul-le-mul_right {m = p + q + 2} {n = 10} T.nodes (omega arith)) (omega (arith, m.few_nodes)));
  })

-- No search gives SIZE.
pub record NoSize (T : Table) : Type 0 where
  pub elca : (elca_reply (index_of T T.positive 0) lent_work lent_out lent_own).refusal ≡ SIZE → ⊥
  pub slca : (slca_reply (index_of T T.positive 0) lent_work lent_out).refusal ≡ SIZE → ⊥
  pub valid : (valid_reply (index_of T T.positive T.negative) lent_work lent_out).refusal ≡ SIZE → ⊥

pub output_no_size : (T : Table) → Small T → 1 ≤ T.nodes → NoSize T
unfolding elca_reply slca_reply valid_reply
output_no_size T m some = record {
  elca = sized-not 0 (index_of T T.positive 0) 2560 _ _ (index-sized T m some T.positive 0 0 m.some_positive (omega (arith, m.few_words)) (omega arith));
  slca = sized-not 0 (index_of T T.positive 0) 2560 _ _ (index-sized T m some T.positive 0 0 m.some_positive (omega (arith, m.few_words)) (omega arith));
  valid = sized-not 8 (index_of T T.positive T.negative) 2560 _ _
      (index-sized T m some T.positive T.negative 8 m.some_positive m.few_words (omega (arith, m.few_words, m.some_positive)));
}

-- ---- how long an output is
length-line : (name : List ℕ) (r : Reply) (node : List ℕ) →
    length (line_text name r node) ≡ length name + (length (decimal r.refusal) + (length (decimal r.place) + (length node + 5)))
unfolding line_text reply_text bytes
length-line name r node =
    omega (
      arith,
      length-append (reply_text name r) (node ++ bytes "\r\n"),
      length-append node (bytes "\r\n"),
      length-append name (44 ∷ (decimal r.refusal ++ (44 ∷ (decimal r.place ++ (44 ∷ []))))),
      length-append (decimal r.refusal) (44 ∷ (decimal r.place ++ (44 ∷ []))),
      length-append (decimal r.place) (44 ∷ []),
    )

length-nodes : (name : List ℕ) (r : Reply) (l : List ℕ) → length name ≤ 5 → r.refusal ≡ 0 → r.place ≡ 0 → EachBelow 256 l →
    length (node_lines name r l) ≤ 15 * length l
unfolding node_lines decimal
length-nodes name r [] a b c h = zero-le
length-nodes name r (v ∷ l) a b c h =
    omega (
      arith,
      length-append (line_text name r (decimal v)) (node_lines name r l),
      length-line name r (decimal v),
      ap (λ (n : ℕ). length (decimal n)) b,
      ap (λ (n : ℕ). length (decimal n)) c,
      length-decimal 3 v (omega arith) (omega (arith, h 0 (omega arith))),
      length-nodes name r l a b c (each_tail 256 v l h),
    )

-- The lines of a search.
length-answer : (name : List ℕ) (r : Reply) (l : List ℕ) → length name ≤ 5 → (r.refusal ≡ accepted → r.place ≡ 0) → EachBelow 256 l → length l ≤ 256 →
    length (answer_text name r (listed_by r l)) ≤ 3840
unfolding listed_by answer_text
length-answer name r l a c h k =
    ⊎_elim (λ q. rw q (some (eqb-true r.refusal accepted q) l h k)) (λ q. rw q bare) (bool_cases (eqb r.refusal accepted))
  where
    bare : length (line_text name r []) ≤ 3840
    bare = omega (arith, length-line name r [], decimal-most r.refusal, decimal-most r.place)

    some : r.refusal ≡ accepted → (x : List ℕ) → EachBelow 256 x → length x ≤ 256 → length (answer_text name r x) ≤ 3840
    some e [] b n = bare
    some e (v ∷ x) b n = omega (arith, length-nodes name r (v ∷ x) a e (c e) b)

place_none : (most : ℕ) (I : Index) (w : ℕ) (f : ℕ → Bool) (b : Bool) → (checked most I w (roomed I f b)).refusal ≡ accepted → (checked most I w (roomed I f b)).place ≡ 0
unfolding roomed
place_none most I w f b e =
    ⊎_elim (λ c. ap (λ (r : Reply). r.place) (clean-reply most I w (roomed I f b) c))
    (λ c. absurd (c.refuses (sym (ap (λ (r : Reply). r.refusal) (c.reply (roomed I f b))) ∙ e))) (clean_or_stopped most I w)

module _ (T : Table) (m : Small T) (p q : ℕ) (h : p + q ≤ 8) where
  out_below : (f : ℕ → Bool) → EachBelow 256 (out_of (index_of T p q) f)
  unfolding out_of listed
  out_below f i l = omega (arith, listed_below (nodes (index_of T p q)) f i l, nodes-are T m p q h, m.few_nodes)

  elca-length : length (elca_text (index_of T p q)) ≤ 3840
  unfolding elca_text elca_reply bytes
  elca-length = length-answer (bytes "elca") _ _ (omega arith) (place_none 0 (index_of T p q) 2560 _ _) (out_below _) (out-few T m p q h _)

  slca-length : length (slca_text (index_of T p q)) ≤ 3840
  unfolding slca_text slca_reply bytes
  slca-length = length-answer (bytes "slca") _ _ (omega arith) (place_none 0 (index_of T p q) 2560 _ _) (out_below _) (out-few T m p q h _)

  valid-length : length (valid_text (index_of T p q)) ≤ 3840
  unfolding valid_text valid_reply bytes
  valid-length = length-answer (bytes "valid") _ _ (omega arith) (place_none 8 (index_of T p q) 2560 _ _) (out_below _) (out-few T m p q h _)

answers-length : (T : Table) → Small T → length (answers_text T) ≤ 11520
unfolding answers_text
answers-length T m =
    omega (
      arith,
      length-append (elca_text (index_of T T.positive 0)) (slca_text (index_of T T.positive 0) ++ valid_text (index_of T T.positive T.negative)),
      length-append (slca_text (index_of T T.positive 0)) (valid_text (index_of T T.positive T.negative)),
      elca-length T m T.positive 0 (omega (arith, m.few_words)),
      slca-length T m T.positive 0 (omega (arith, m.few_words)),
      valid-length T m T.positive T.negative m.few_words,
    )

-- A table that has been read is small.
pub taken-small : (s : List ℕ) (t : Shape) → read_of s ≡ Ok t → Small (table_of (lines s))
taken-small s t e = rw (taken_at s t e).table (record { some_positive = (taken_at s t e).some_positive; few_words = (taken_at s t e).words; few_nodes = (taken_at s t e).nodes })

head-length : length head_text ≡ 27
unfolding head_text bytes
head-length = refl

input-length : (place : ℕ) → length (input_text place) ≤ 30
unfolding input_text bytes
input-length place = omega (arith, length-line (bytes "input") (refused INPUT place) [], decimal-most INPUT, decimal-most place)

pub output-fits : (s : List ℕ) → length (table_output s) ≤ 16384
output-fits s = by (read_of s) refl
  where
    by : (r : Result Shape Broken) → r ≡ read_of s → length (table_output s) ≤ 16384
    by (Err b) e =
        omega (arith, ap length (output-broken s b (Err b) e refl), length-append head_text (input_text (place_of b)), head-length, input-length (place_of b))
    by (Ok t) e =
        omega (
          arith,
          ap length (output-table s t (Ok t) e refl),
          length-append head_text (answers_text (table_of (lines s))),
          head-length,
          answers-length (table_of (lines s)) (taken-small s t (sym e)),
        )
