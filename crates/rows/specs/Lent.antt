-- The index that a table lends to the searches (01, "The table program").
--   list_of T j      == the nodes at which word j occurs
--   lists_of T k     == the lists of the first k words, one after the other
--   end_of T j       == where word j's list ends
--   count_of T e     == entry e = j * n + v of counts: the count of word j at node v
--   index_of T p q   == the index of the first p + q words of a table, p of them positive
-- ELCA and SLCA run on the positive words, valid SLCA on all: positive words come first.
-- Letters: T table; n nodes, k words, p positive, q negative; v node, j word, e entry. Laws are in proofs/. Assumes nothing.
use Rattle.std.specs.Prelude.{ℕ, zero, suc, ◌+◌, ◌*◌, ◌/◌, ◌%◌, List, [], ◌++◌, eqb, length}
use Rattle.seq.specs.Below.{tabulate, listed}
use Rattle.index.specs.Index.{Index}
use Rattle.sheet.specs.Table.{Table, field_of}

abbrev pub list_of : Table → ℕ → List ℕ
list_of T j = listed T.nodes λ v. eqb (field_of T v (2 + 2 * j)) 1

unfoldable pub lists_of : Table → ℕ → List ℕ
lists_of T zero = []
lists_of T (suc j) = lists_of T j ++ list_of T j

abbrev pub end_of : Table → ℕ → ℕ
end_of T j = length (lists_of T (suc j))

abbrev pub count_of : Table → ℕ → ℕ
count_of T e = field_of T (e % T.nodes) (3 + 2 * (e / T.nodes))

unfoldable pub index_of : Table → ℕ → ℕ → Index
index_of T p q = record {
  parents = tabulate T.nodes λ v. field_of T v 0;
  tags = tabulate T.nodes λ v. field_of T v 1;
  positive = p;
  negative = q;
  ends = tabulate (p + q) (end_of T);
  occurrences = lists_of T (p + q);
  counts = tabulate ((p + q) * T.nodes) (count_of T);
}
