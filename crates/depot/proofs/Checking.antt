-- What `judge` and `check` give is what the definitions say. Assumes nothing.
--   judged-tree, judged-list, judged-clean   TREE and LIST
--   check-refused, judge-pre, check-judged   SIZE, and what comes after it
-- Letters: I index; s length of the stack; v node, j word, r reply.
use Prim.Native.Nat.{ℕ, ◌≤◌, ◌<◌}
use mathlib.Core.Path.{◌≡◌, sym, ap, ◌∙◌}
use mathlib.Core.Bool.{true, false}
use native.Mathlib.Omega.{arith}
use lib.ListN.{length}
use Rattle.tree.specs.Rules.{tree_bad}
use Rattle.index.specs.declared.Reply.{Reply}
use Rattle.index.specs.Index.{Index, nodes}
use Rattle.index.specs.Rules.{lists_bad}
use Rattle.index.specs.Replies.{accepted, SIZE, TREE, LIST, refused, totalled, refusing}
use Rattle.index.proofs.Laws.Replies.{refusing-yes, refusing_no}
use Rattle.depot.specs.Depot.{depot_size_ok, depot_checked}
use Rattle.depot.specs.Plain.{DepotSized}
use Rattle.depot.specs.Inner.{JudgePre, judged}
use Rattle.depot.proofs.Laws.Checks.{sized_of, sized-words, checked-size}

module _ (I : Index) where
  -- ---- TREE and LIST
  module _ (v : ℕ) (e : v ≡ tree_bad I.parents I.tags) where
    pub judged-tree : v < nodes I → refused TREE v ≡ judged I
    unfolding judged
    judged-tree l = ap (refused TREE) e ∙ sym (refusing-yes TREE (tree_bad I.parents I.tags) (nodes I) _ (omega arith))

    module _ (good : nodes I ≤ v) (j : ℕ) (q : j ≡ lists_bad (nodes I) I.ends I.occurrences) where
      abbrev lowest : ℕ
      lowest = lists_bad (nodes I) I.ends I.occurrences

      pub judged-list : j < length I.ends → refused LIST j ≡ judged I
      unfolding judged
      judged-list l =
          ap (refused LIST) q
          ∙ sym (refusing_no TREE (tree_bad I.parents I.tags) (nodes I) _ (omega arith) ∙ refusing-yes LIST lowest (length I.ends) _ (omega arith))

      pub judged-clean : length I.ends ≤ j → totalled accepted 0 ≡ judged I
      unfolding judged
      judged-clean l =
          sym (refusing_no TREE (tree_bad I.parents I.tags) (nodes I) _ (omega arith) ∙ refusing_no LIST lowest (length I.ends) _ (omega arith))

  -- ---- SIZE, and what comes after it
  module _ (s : ℕ) where
    pub check-refused : depot_size_ok I s ≡ false → refused SIZE 0 ≡ depot_checked I s (totalled accepted 0)
    check-refused e = sym (checked-size I s (totalled accepted 0) e)

    module _ (e : depot_size_ok I s ≡ true) where
      abbrev fitted : DepotSized I s
      fitted = sized_of I s e

      pub judge-pre : JudgePre I
      judge-pre = record { few_nodes = fitted.few_nodes; few_words = omega (arith, sized-words I s fitted, fitted.few_positive) }

      judged-checked : judged I ≡ depot_checked I s (totalled accepted 0)
      unfolding judged depot_checked
      judged-checked =
          rw e (ap (λ (k : ℕ). refusing TREE (tree_bad I.parents I.tags) (nodes I) (refusing LIST (lists_bad (nodes I) I.ends I.occurrences) k (totalled accepted 0)))
          fitted.ended)

      pub check-judged : (r : Reply) → r ≡ judged I → r ≡ depot_checked I s (totalled accepted 0)
      check-judged r h = h ∙ judged-checked
