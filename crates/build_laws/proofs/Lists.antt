-- Each list that is handed over is the nodes at which the word stands.
--   lists-stand   word j's list is the nodes, in increasing number, at which word j of the query stands in the text
--   list-words    by the grammar: of each document that has this text, a node is on word j's list exactly if word j is among the words of the node
-- Letters: T text, Q query, l b what is lent, before and after, r reply; d document, v node, j word. Assumes nothing.
use Prim.Native.Nat.{ℕ, ◌<◌}
use mathlib.Core.Path.{◌≡◌, sym, ap, ◌∙◌}
use mathlib.Core.List.{List, []}
use lib.Dec.{eqb}
use lib.ListN.{length, get_or}
use Rattle.seq.specs.Below.{listed}
use Rattle.seq.specs.Lists.{some_of}
use Rattle.seq.proofs.Laws.Members.{listed_member}
use Rattle.index.specs.Index.{wanted}
use Rattle.index.specs.Replies.{accepted}
use Rattle.index.specs.declared.Reply.{Reply}
use Rattle.profile.specs.Grammar.{Document, text}
use Rattle.profile.specs.Reader.{tree_of}
use Rattle.profile.specs.Tags.{known}
use Rattle.words.specs.Words.{document_words}
use Rattle.words.specs.Stands.{stands}
use Rattle.words.proofs.Stands.{stands-known}
use Rattle.query.specs.Query.{Query, asked, word_count}
use Rattle.plan.specs.Lists.{list_for}
use Rattle.build.specs.Build.{Lent, Builds}
use Rattle.build_laws.specs.Calls.{handed, built}
use Rattle.build_laws.proofs.Ends.{list-is}
use Rattle.build_laws.proofs.Accepted.{total-nodes, handed-is}

pub built-lists : (T : List ℕ) (Q : Query) (j : ℕ) → j < word_count Q → wanted (built T Q) j ≡ listed (length (tree_of T)) (stands T (asked Q j))
unfolding list_for
built-lists T Q j h = list-is T Q (word_count Q) j h

module _ (T : List ℕ) (Q : Query) (l : Lent) (r : Reply) (b : Lent) (s : Builds T Q l r b) (e : r.refusal ≡ accepted) (j : ℕ) (h : j < word_count Q) where
  pub lists-stand : wanted (handed Q r.total b) j ≡ listed r.total (stands T (asked Q j))
  lists-stand =
      ap (λ I. wanted I j) (handed-is T Q l r b s e) ∙ built-lists T Q j h ∙
      ap (λ (n : ℕ). listed n (stands T (asked Q j))) (sym (total-nodes T Q l r b s e))

  pub list-words : (d : Document) → text d ≡ T → (v : ℕ) → v < r.total →
      some_of (eqb v) (wanted (handed Q r.total b) j) ≡ known (get_or (document_words d) v []) (asked Q j)
  list-words d q v g =
      ap (some_of (eqb v)) lists-stand ∙ listed_member r.total (stands T (asked Q j)) v g ∙ ap (λ t. stands t (asked Q j) v) (sym q) ∙ stands-known d (asked Q j) v
