-- 01's example and inputs at the edges of its rules, each with its whole output: one table, one test over it, one theorem.
--   table     == the cases
--   holds     == the test of one case, which antt computes
--   cases     == the theorem: every case of the table holds
--   case_at   == each case by its place in the table
-- Assumes nothing.
use Prim.Native.Nat.{ℕ, ◌<◌}
use Prim.Native.String.{String}
use mathlib.Core.Path.{◌≡◌, refl}
use mathlib.Core.List.{List, [], ◌∷◌, ◌++◌}
use mathlib.Core.Bool.{Bool, true}
use lib.ListN.{length, get_or, replicate}
use Rattle.seq.specs.Below.{every_below, some_below, first_fail, last_pass, sum_below, tabulate, gather, listed}
use Rattle.seq.specs.Lists.{every_of, some_of, tally, first_of, same_list}
use Rattle.seq.proofs.Laws.Lists.{every_of-at}
use Rattle.tree.specs.Tree.{climb, line, level, under, properly, child}
use Rattle.tree.specs.Rules.{text, parent_ok, level_ok, hangs_ok, tag_ok, node_ok, tree_bad}
use Rattle.index.specs.Index.{start, word_list, count_under, true_count}
use Rattle.index.specs.Rules.{rises, list_ok, last_end_ok, end_ok, word_ok, lists_bad, count_ok, counts_bad}
use Rattle.index.specs.Replies.{nodes_ok, words_ok, lengths_ok, size_ok, refusing, checked}
use Rattle.answers.specs.Answers.{full, slca, own, own_count, elca}
use Rattle.answers.specs.Classes.{children, one_text, sibling, twin, type_of, same_type, repeats, class_of, entity, closest}
use Rattle.answers.specs.Not.{negator, valid, valid_slca}
use Rattle.answers.specs.Searches.{is_elca, is_slca, is_negator, is_valid, out_of, own_of, answers, roomed, out_fits, own_fits, elca_reply, slca_reply, valid_reply}
use Rattle.text.specs.Text.{bytes, ended, line_length, lines_in, lines, joined, fields, digit, numeral, value_from, digits_in, decimal}
use Rattle.sheet.specs.Table.{times, header_text, header_ok, occurrence, field_ok, row_ok, line_ok, broken, row_of, cells_of, table_of}
use Rattle.rows.specs.Lent.{lists_of, index_of}
use Rattle.report.specs.Lines.{reply_text, line_text, node_lines, answer_text, listed_by, elca_text, slca_text, valid_text}
use Rattle.rows.specs.Output.{answers_text, head_text, input_text, lines_output, table_output}

-- An input and the output that it must give, after the line that every output begins with.
pub record Case : Type 0 where
  pub input : List ℕ
  pub output : List ℕ

abbrev gives : String → String → Case
gives i o = record { input = bytes i; output = bytes o }

-- INPUT at a line.
abbrev breaks : String → String → Case
breaks i o = record { input = bytes i; output = bytes "input,6," ++ (bytes o ++ bytes ",\r\n") }

-- A header, and the lines of m nodes that are all alike.
alike : ℕ → List ℕ
alike m = bytes "parent,tag,+,#\r\n" ++ times m (bytes "0,1,0,0\r\n")

pub table : List Case
table =
    -- 01's example, with its last line end and without
    gives "parent,tag,+,#,+,#\r\n0,1,0,1,0,1\r\n0,2,0,1,0,1\r\n1,0,1,1,0,0\r\n1,0,0,0,1,1\r\n" "elca,0,0,1\r\nslca,0,0,1\r\nvalid,0,0,1\r\n"
    ∷ gives "parent,tag,+,#,+,#\r\n0,1,0,1,0,1\r\n0,2,0,1,0,1\r\n1,0,1,1,0,0\r\n1,0,0,0,1,1" "elca,0,0,1\r\nslca,0,0,1\r\nvalid,0,0,1\r\n"
    -- 01's schedule, case 6: A and NOT X
    ∷ gives "parent,tag,+,#,-,#\r\n0,1,0,3,0,1\r\n0,2,0,2,0,1\r\n1,3,0,1,0,0\r\n2,4,0,1,0,0\r\n3,0,1,1,0,0\r\n2,5,0,0,0,0\r\n5,0,0,0,0,0\r\n1,3,0,1,0,1\r\n7,4,0,1,0,0\r\n8,0,1,1,0,0\r\n7,6,0,0,0,1\r\n10,0,0,0,1,1\r\n0,2,0,0,0,0\r\n12,3,0,0,0,0\r\n13,5,0,0,0,0\r\n14,0,0,0,0,0\r\n0,7,0,1,0,0\r\n16,0,1,1,0,0\r\n" "elca,0,0,4\r\nelca,0,0,9\r\nelca,0,0,17\r\nslca,0,0,4\r\nslca,0,0,9\r\nslca,0,0,17\r\nvalid,0,0,4\r\nvalid,0,0,17\r\n"
    -- and its cases 1 and 2 with NOT X: what ELCA lists is not what SLCA lists
    ∷ gives "parent,tag,+,#,+,#,-,#\r\n0,1,0,3,0,2,0,1\r\n0,2,0,2,0,1,0,1\r\n1,3,0,1,0,1,0,0\r\n2,4,0,1,0,0,0,0\r\n3,0,1,1,0,0,0,0\r\n2,5,0,0,0,1,0,0\r\n5,0,0,0,1,1,0,0\r\n1,3,0,1,0,0,0,1\r\n7,4,0,1,0,0,0,0\r\n8,0,1,1,0,0,0,0\r\n7,6,0,0,0,0,0,1\r\n10,0,0,0,0,0,1,1\r\n0,2,0,0,0,1,0,0\r\n12,3,0,0,0,1,0,0\r\n13,5,0,0,0,1,0,0\r\n14,0,0,0,1,1,0,0\r\n0,7,0,1,0,0,0,0\r\n16,0,1,1,0,0,0,0\r\n" "elca,0,0,0\r\nelca,0,0,2\r\nslca,0,0,2\r\nvalid,0,0,2\r\n"
    -- and its case 9, T and NOT Z: the one leg of the train at 12 is shut out, and not the train
    ∷ gives "parent,tag,+,#,-,#\r\n0,1,0,2,0,2\r\n0,2,1,1,0,1\r\n1,3,0,0,0,1\r\n2,4,0,0,0,0\r\n3,0,0,0,0,0\r\n2,5,0,0,0,1\r\n5,0,0,0,1,1\r\n1,3,0,0,0,0\r\n7,4,0,0,0,0\r\n8,0,0,0,0,0\r\n7,6,0,0,0,0\r\n10,0,0,0,0,0\r\n0,2,1,1,0,1\r\n12,3,0,0,0,1\r\n13,5,0,0,0,1\r\n14,0,0,0,1,1\r\n0,7,0,0,0,0\r\n16,0,0,0,0,0\r\n" "elca,0,0,1\r\nelca,0,0,12\r\nslca,0,0,1\r\nslca,0,0,12\r\nvalid,0,0,1\r\nvalid,0,0,12\r\n"
    -- a header alone, with its end and without
    ∷ gives "parent,tag,+,#\r\n" "elca,1,0,\r\nslca,1,0,\r\nvalid,1,0,\r\n"
    ∷ gives "parent,tag,+,#" "elca,1,0,\r\nslca,1,0,\r\nvalid,1,0,\r\n"
    -- eight words, and a number of five digits
    ∷ gives "parent,tag,+,#,+,#,+,#,+,#,+,#,+,#,+,#,+,#" "elca,1,0,\r\nslca,1,0,\r\nvalid,1,0,\r\n"
    ∷ gives "parent,tag,+,#\r\n0,99999,1,1" "elca,0,0,0\r\nslca,0,0,0\r\nvalid,0,0,0\r\n"
    -- an empty answer
    ∷ gives "parent,tag,+,#,+,#\r\n0,1,1,1,0,0" "elca,0,0,\r\nslca,0,0,\r\nvalid,0,0,\r\n"
    -- TREE, and COUNT; a wrong count of a negative word shows in `valid` alone, its place counted over all words
    ∷ gives "parent,tag,+,#\r\n1,1,1,1" "elca,2,0,\r\nslca,2,0,\r\nvalid,2,0,\r\n"
    ∷ gives "parent,tag,+,#\r\n0,1,1,1\r\n0,2,0,1" "elca,4,1,\r\nslca,4,1,\r\nvalid,4,1,\r\n"
    ∷ gives "parent,tag,+,#,-,#\r\n0,1,1,1,0,5" "elca,0,0,0\r\nslca,0,0,0\r\nvalid,4,1,\r\n"
    -- the empty input, a line end alone, and a second last line end
    ∷ breaks "" "1"
    ∷ breaks "\r\n" "1"
    ∷ breaks "parent,tag,+,#\r\n0,1,1,1\r\n\r\n" "3"
    -- a last line of one byte
    ∷ breaks "parent,tag,+,#\r\n0" "2"
    -- LF alone ends no line, nor does CR, nor LF after another byte
    ∷ breaks "parent,tag,+,#x\n0,1,1,1" "1"
    ∷ breaks "parent,tag,+,#\n0,1,1,1\n" "1"
    ∷ breaks "parent,tag,+,#\r\n0,1,1,1\n" "2"
    ∷ breaks "parent,tag,+,#\r\n0,1,1,1\r" "2"
    -- headers: no word, no positive word, minus before plus, nine words, a quoted field, a space
    ∷ breaks "parent,tag" "1"
    ∷ breaks "parent,tag,-,#" "1"
    ∷ breaks "parent,tag,-,#,+,#" "1"
    ∷ breaks "parent,tag,+,#,+,#,+,#,+,#,+,#,+,#,+,#,+,#,+,#" "1"
    ∷ breaks "\"parent\",tag,+,#" "1"
    ∷ breaks "parent, tag,+,#" "1"
    -- numbers: a leading zero, six digits, a sign, a quoted field, an empty field, the bytes before 0 and after 9
    ∷ breaks "parent,tag,+,#\r\n00,1,1,1" "2"
    ∷ breaks "parent,tag,+,#\r\n0,01,1,1" "2"
    ∷ breaks "parent,tag,+,#\r\n0,100000,1,1" "2"
    ∷ breaks "parent,tag,+,#\r\n0,+1,1,1" "2"
    ∷ breaks "parent,tag,+,#\r\n0,\"1\",1,1" "2"
    ∷ breaks "parent,tag,+,#\r\n0,,1,1" "2"
    ∷ breaks "parent,tag,+,#\r\n0,/,1,1" "2"
    ∷ breaks "parent,tag,+,#\r\n0,:,1,1" "2"
    -- and the same of the last field
    ∷ breaks "parent,tag,+,#\r\n0,1,1,x" "2"
    ∷ breaks "parent,tag,+,#\r\n0,1,1,01" "2"
    -- whether a word occurs: 0 or 1, one byte; of a second word too
    ∷ breaks "parent,tag,+,#\r\n0,1,2,1" "2"
    ∷ breaks "parent,tag,+,#\r\n0,1,01,1" "2"
    ∷ breaks "parent,tag,+,#\r\n0,1,,1" "2"
    ∷ breaks "parent,tag,+,#,-,#\r\n0,1,1,1,2,2" "2"
    -- a field too few, a field too many, a comma at the end
    ∷ breaks "parent,tag,+,#\r\n0,1,1" "2"
    ∷ breaks "parent,tag,+,#\r\n0,1,1,1,1" "2"
    ∷ breaks "parent,tag,+,#\r\n0,1,1,1," "2"
    -- the first line that breaks a rule is the place
    ∷ breaks "parent,tag,+,#\r\n0,1,1,1\r\n0,x,0,0\r\n0,1" "3"
    -- 256 nodes, and a 257th
    ∷ record { input = alike 256; output = bytes "elca,0,0,\r\nslca,0,0,\r\nvalid,0,0,\r\n" }
    ∷ record { input = alike 257; output = bytes "input,6,258,\r\n" }
    -- 16,384 bytes, and one more: length is tested first
    ∷ record { input = replicate 16384 120; output = bytes "input,6,1,\r\n" }
    ∷ record { input = replicate 16385 120; output = bytes "input,6,0,\r\n" }
    ∷ []

-- ---- the test
pub holds : Case → Bool
holds c = same_list (table_output c.input) (head_text ++ c.output)

pub cases : every_of holds table ≡ true
unfolding every_below some_below first_fail last_pass sum_below tabulate gather listed every_of some_of tally first_of same_list climb line level under properly child text parent_ok level_ok hangs_ok tag_ok node_ok tree_bad start word_list count_under true_count rises list_ok last_end_ok end_ok word_ok lists_bad count_ok counts_bad nodes_ok words_ok lengths_ok size_ok refusing checked full slca own own_count elca children one_text sibling twin type_of same_type repeats class_of entity closest negator valid valid_slca is_elca is_slca is_negator is_valid out_of own_of answers roomed out_fits own_fits elca_reply slca_reply valid_reply bytes ended line_length lines_in lines joined fields digit numeral value_from digits_in decimal times header_text header_ok occurrence field_ok row_ok line_ok broken row_of cells_of table_of lists_of index_of reply_text line_text node_lines answer_text listed_by elca_text slca_text valid_text answers_text head_text input_text lines_output table_output alike table holds
cases = refl

-- Each case by its place in the table.
pub case_at : (d : Case) (i : ℕ) → i < length table → holds (get_or table i d) ≡ true
case_at d i l = every_of-at holds table d cases i l
