-- A reason is `listed` exactly where ELCA lists the node. Assumes nothing.
--   listed_exactly   two accepted calls on one index, one that asks for a reason and one of ELCA
-- Letters: I index, v node; w work as lent, e what the call gives, w' work at the end; r, w'', o', s' the outcome of ELCA with work w₂, out o and own s.
use Prim.Native.Nat.{ℕ}
use mathlib.Core.Path.{◌≡◌, sym, ap, ◌∙◌, subst}
use mathlib.Core.Logic.{◌↔◌}
use mathlib.Core.List.{List}
use Rattle.seq.specs.Plain.{Among, FirstAre}
use Rattle.index.specs.declared.Reply.{Reply}
use Rattle.index.specs.Index.{Index, nodes, wanted}
use Rattle.index.specs.Replies.{accepted}
use Rattle.answers.specs.Plain.{Elca}
use Rattle.answers.proofs.Laws.Counts.{lists-below}
use Rattle.elca.specs.Promises.{ElcaSearched}
use Rattle.reason.specs.declared.Numbers.{Numbers}
use Rattle.reason.specs.Reasons.{Naming, LISTED, reason_of}
use Rattle.reason.specs.Promises.{reason_reply, ExplainedInNumbers}
use Rattle.reason.proofs.Meaning.{reason-listed}
use Rattle.demands.proofs.Calls.{elca_demands}
use Rattle.reason_laws.proofs.Replying.{right, some_words_lem, node-below}
use Rattle.reason_laws.proofs.Calls.{given-reason}

module _ (I : Index) (v : ℕ) (w : List ℕ) (e : Numbers) (w' : List ℕ) (a : ExplainedInNumbers I v w e w') (ea : e.reply.refusal ≡ accepted) where
  accepts : (reason_reply I v w).refusal ≡ accepted
  accepts = ap (λ (x : Reply). x.refusal) (sym a.reply) ∙ ea

  number_is : e.reason ≡ (reason_of I.parents I.positive (wanted I) v).number
  number_is = ap (λ (t : Naming). t.number) (a.reason ∙ given-reason I v w accepts)

  elca-is : (e.reason ≡ LISTED) ↔ Elca I.parents I.positive (wanted I) v
  elca-is =
      let h = reason-listed I.parents (right I v w accepts).tree.preorder I.positive (wanted I) (lists-below I (right I v w accepts) (some_words_lem I v w accepts)) v in
      (λ q. h.0 (sym number_is ∙ q), λ q. number_is ∙ h.1 q)

  module _ (w₂ o s : List ℕ) (r : Reply) (w'' o' s' : List ℕ) (b : ElcaSearched I w₂ o s r w'' o' s') (eb : r.refusal ≡ accepted) where
    lists : FirstAre (nodes I) (Elca I.parents I.positive (wanted I)) r.total o'
    lists = (elca_demands I w₂ o s r w'' o' s' b).search.lists eb

    pub listed_exactly : (e.reason ≡ LISTED) ↔ Among r.total o' v
    listed_exactly = (
      λ q. lists.has v (node-below I v w accepts) (elca-is.0 q),
      λ h. elca-is.1 (subst (Elca I.parents I.positive (wanted I)) h.is (lists.holds h.at h.within)),
    )
