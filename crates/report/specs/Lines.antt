-- The lines that the table program writes for a search (01, "The table program").
--   line_text name r node    == one line: search name, refusal number, place, node
--   answer_text name r l     == the lines of a search: one for each node of l; one with an empty node field where l is empty
--   listed_by r l            == the nodes listed under the reply r: none under a refusal
--   elca_text I, slca_text I, valid_text I  == the lines of a search on the index I
--   pair_text I              == those of ELCA and then those of SLCA
-- Letters: I index; r reply, l nodes, v node. Laws are in proofs/. Assumes nothing.
use Rattle.std.specs.Prelude.{ℕ, List, [], ◌∷◌, ◌++◌, cond, eqb, replicate}
use Rattle.index.specs.Index.{Index}
use Rattle.index.specs.Replies.{accepted}
use Rattle.index.specs.declared.Reply.{Reply}
use Rattle.answers.specs.Searches.{is_elca, is_slca, is_valid, out_of, elca_reply, slca_reply, valid_reply}
use Rattle.text.specs.Text.{bytes, comma, decimal}

-- ---- lines
-- What a line says before its node: the name, the number of the refusal and the place, each with a comma after it.
unfoldable pub reply_text : List ℕ → Reply → List ℕ
reply_text name r = name ++ (comma ∷ (decimal r.refusal ++ (comma ∷ (decimal r.place ++ (comma ∷ [])))))

unfoldable pub line_text : List ℕ → Reply → List ℕ → List ℕ
line_text name r node = reply_text name r ++ (node ++ bytes "\r\n")

unfoldable pub node_lines : List ℕ → Reply → List ℕ → List ℕ
node_lines name r [] = []
node_lines name r (v ∷ l) = line_text name r (decimal v) ++ node_lines name r l

unfoldable pub answer_text : List ℕ → Reply → List ℕ → List ℕ
answer_text name r [] = line_text name r []
answer_text name r (v ∷ l) = node_lines name r (v ∷ l)

unfoldable pub listed_by : Reply → List ℕ → List ℕ
listed_by r l = cond (eqb r.refusal accepted) l []

-- ---- the three searches
-- What is lent to them: work, out and own, long enough for 256 nodes and 8 words.
abbrev pub lent_work : List ℕ
lent_work = replicate 2560 0

abbrev pub lent_out : List ℕ
lent_out = replicate 256 0

abbrev pub lent_own : List ℕ
lent_own = replicate 2048 0

unfoldable pub elca_text : Index → List ℕ
elca_text I = let r = elca_reply I lent_work lent_out lent_own in answer_text (bytes "elca") r (listed_by r (out_of I (is_elca I)))

unfoldable pub slca_text : Index → List ℕ
slca_text I = let r = slca_reply I lent_work lent_out in answer_text (bytes "slca") r (listed_by r (out_of I (is_slca I)))

unfoldable pub valid_text : Index → List ℕ
valid_text I = let r = valid_reply I lent_work lent_out in answer_text (bytes "valid") r (listed_by r (out_of I (is_valid I)))

abbrev pub pair_text : Index → List ℕ
pair_text I = elca_text I ++ slca_text I
