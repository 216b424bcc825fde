-- Demand 2 by the papers' own definitions: what stands in out after an accepted call. Assumes nothing.
--   elca-lists_001                   the ELCAs of source document 001
--   slca-lists_000, slca-lists_002   the SLCAs of source documents 000 and 002
--   valid-lists_002                  the valid SLCAs of source document 002, Definition 4, of one clause
-- Letters: I index; w, o, s work, out and own as lent, w', o', s' as they are at the end; r reply; v node.
use Prim.Native.Nat.{ℕ}
use mathlib.Core.Path.{◌≡◌}
use mathlib.Core.Logic.{◌↔◌}
use mathlib.Core.List.{List}
use mathlib.Core.Bool.{Bool, true}
use lib.ListN.{length}
use Rattle.seq.specs.Plain.{FirstAre}
use Rattle.seq.proofs.Laws.Plain.{first-are-map}
use Rattle.index.specs.declared.Reply.{Reply}
use Rattle.index.specs.Index.{Index, nodes, wanted}
use Rattle.index.specs.Replies.{accepted}
use Rattle.answers.specs.Not.{valid}
use Rattle.answers.specs.Searches.{is_elca, is_slca, is_negator, is_valid}
use Rattle.answers.proofs.Papers.{Elca001, Slca000, Slca002, elca_001, slca_000, slca_002}
use Rattle.answers.proofs.PapersNot.{Candidate002, ValidSlca002, valid-slca_002}
use Rattle.demands.specs.Calls.{ListDemands, ValidDemands, SlcaDemands, ElcaDemands}
use Rattle.demands.proofs.Searching.{Means, tested}
use Rattle.demands.proofs.Calls.{below, slca_means, elca_means, valid_means}

-- Where a search accepts, out lists the nodes of which any statement holds that means the same as its test.
lists-by : (most : ℕ) (f : ℕ → Bool) (P : ℕ → Type 0) (F : Type 0) (I : Index) (w o : List ℕ) (r : Reply) (w' o' : List ℕ) → Means most I (length w) f P →
    ListDemands most f P F I w o r w' o' → r.refusal ≡ accepted → (Q : ℕ → Type 0) → ((v : ℕ) → Q v ↔ (f v ≡ true)) → FirstAre (nodes I) Q r.total o'
lists-by most f P F I w o r w' o' plain D q Q same =
    first-are-map (nodes I) (λ v. f v ≡ true) Q r.total o' (λ v l. (same v).1) (λ v l. (same v).0) (tested most f P F I w o r w' o' plain D q)

module _ (I : Index) (w o s : List ℕ) (r : Reply) (w' o' s' : List ℕ) (d : ElcaDemands I w o s r w' o' s') (q : r.refusal ≡ accepted) where
  pub elca-lists_001 : FirstAre (nodes I) (Elca001 I.parents I.positive (wanted I)) r.total o'
  unfolding is_elca
  elca-lists_001 =
      let h : _ = d.search.reply.accepts.0 q in
      lists-by 0 (is_elca I) _ _ I w o r w' o' (elca_means I (length w)) d.search q _
      (elca_001 I.parents h.1.tree.preorder I.positive h.0.some_positive (wanted I) (below 0 I (length w) h.0 h.1))

module _ (I : Index) (w o : List ℕ) (r : Reply) (w' o' : List ℕ) (d : SlcaDemands I w o r w' o') (q : r.refusal ≡ accepted) where
  pub slca-lists_000 : FirstAre (nodes I) (Slca000 I.parents I.positive (wanted I)) r.total o'
  unfolding is_slca
  slca-lists_000 =
      let h : _ = d.search.reply.accepts.0 q in
      lists-by 0 (is_slca I) _ _ I w o r w' o' (slca_means I (length w)) d.search q _
      (slca_000 I.parents h.1.tree.preorder I.positive h.0.some_positive (wanted I) (below 0 I (length w) h.0 h.1))

  pub slca-lists_002 : FirstAre (nodes I) (Slca002 I.parents I.positive (wanted I)) r.total o'
  unfolding is_slca
  slca-lists_002 =
      let h : _ = d.search.reply.accepts.0 q in
      lists-by 0 (is_slca I) _ _ I w o r w' o' (slca_means I (length w)) d.search q _
      (slca_002 I.parents h.1.tree.preorder I.positive (wanted I) (below 0 I (length w) h.0 h.1))

-- Over 01's valid occurrences: what Definition 2 calls valid is in answers/proofs/PapersNot.
module _ (I : Index) (w o : List ℕ) (r : Reply) (w' o' : List ℕ) (d : ValidDemands I w o r w' o') (q : r.refusal ≡ accepted) where
  -- A candidate VSLCA of the call's one clause.
  abbrev Candidate : ℕ → ℕ → Type 0
  Candidate i = Candidate002 I.parents I.positive (wanted I) (λ x. valid I.parents (is_negator I) x ≡ true)

  pub valid-lists_002 : FirstAre (nodes I) (ValidSlca002 I.parents 1 Candidate 0) r.total o'
  unfolding is_valid
  valid-lists_002 =
      let h : _ = d.search.reply.accepts.0 q in
      lists-by 8 (is_valid I) _ _ I w o r w' o' (valid_means I (length w)) d.search q _
      (valid-slca_002 I.parents h.1.tree.preorder I.positive (wanted I) (below 8 I (length w) h.0 h.1) (is_negator I))
