-- What entities by type (02, Q-1) mean for an accepted call with NOT, beside 01's own rule for entities. Assumes nothing.
--   valid-keeps_01       every node that 01's own rule lists stands in out
--   valid-lists-slca     without negative words out lists the SLCAs, by either rule
-- Letters: I index; w, o work and out as lent, w', o' as they are at the end; r reply; v node.
use Prim.Native.Nat.{ℕ, ◌<◌}
use mathlib.Core.Path.{◌≡◌, sym, ◌∙◌}
use mathlib.Core.List.{List}
use mathlib.Core.Bool.{true}
use lib.ListN.{length}
use Rattle.seq.specs.Plain.{Among, FirstAre}
use Rattle.seq.proofs.Laws.Plain.{first-are-map}
use Rattle.index.specs.declared.Reply.{Reply}
use Rattle.index.specs.Index.{Index, nodes}
use Rattle.index.specs.Replies.{accepted}
use Rattle.answers.specs.Searches.{is_slca, is_valid}
use Rattle.answers.specs.Rule01.{is_valid01}
use Rattle.answers.proofs.Types.{types_lose_nothing, without_not-same}
use Rattle.demands.specs.Calls.{ValidDemands}
use Rattle.demands.proofs.Searching.{tested}
use Rattle.demands.proofs.Calls.{valid_means}

module _ (I : Index) (w o : List ℕ) (r : Reply) (w' o' : List ℕ) (d : ValidDemands I w o r w' o') (q : r.refusal ≡ accepted) where
  listed : FirstAre (nodes I) (λ v. is_valid I v ≡ true) r.total o'
  listed = tested 8 (is_valid I) _ _ I w o r w' o' (valid_means I (length w)) d.search q

  pub valid-keeps_01 : (v : ℕ) → v < nodes I → is_valid01 I v ≡ true → Among r.total o' v
  valid-keeps_01 v l e =
      let h : _ = d.search.reply.accepts.0 q in
      listed.has v l (types_lose_nothing I h.1.tree h.1.lists h.0.ended v e)

  pub valid-lists-slca : I.negative ≡ 0 → FirstAre (nodes I) (λ v. is_slca I v ≡ true) r.total o'
  valid-lists-slca z =
      first-are-map (nodes I) (λ v. is_valid I v ≡ true) (λ v. is_slca I v ≡ true) r.total o' (λ v l e. sym (without_not-same I z v).1 ∙ e)
      (λ v l e. (without_not-same I z v).1 ∙ e) listed
