-- The demands admit one outcome: two calls on the same index and buffers that do as demanded have one reply and leave the same in every buffer.
-- Letters: I index; w, o, s work, out and own as lent; r, r' replies; w' and w'', o' and o'', s' and s'' the buffers as they are at the end. Assumes nothing.
use Prim.Native.Nat.{ℕ}
use mathlib.Core.Path.{◌≡◌}
use mathlib.Core.List.{List}
use Rattle.index.specs.declared.Reply.{Reply}
use Rattle.index.specs.Index.{Index}
use Rattle.index.proofs.Laws.Replies.{check_unique}
use Rattle.slca.proofs.Laws.{slca_unique}
use Rattle.elca.proofs.Entry.{elca_unique}
use Rattle.valid.proofs.Entry.{valid_unique}
use Rattle.demands.specs.Calls.{CheckDemands, ElcaDemands, SlcaDemands, ValidDemands}
use Rattle.demands.proofs.Calls.{check-of, elca-of, slca-of, valid-of}

module _ (I : Index) (w : List ℕ) (r r' : Reply) (w' w'' : List ℕ) where
  pub check_demands_unique : CheckDemands I w r w' → CheckDemands I w r' w'' → (r ≡ r') × (w' ≡ w'')
  check_demands_unique a b = check_unique I w r r' w' w'' (check-of I w r w' a) (check-of I w r' w'' b)

  module _ (o o' o'' : List ℕ) where
    pub slca_demands_unique : SlcaDemands I w o r w' o' → SlcaDemands I w o r' w'' o'' → (r ≡ r') × (w' ≡ w'') × (o' ≡ o'')
    slca_demands_unique a b = slca_unique I w o r r' w' w'' o' o'' (slca-of I w o r w' o' a) (slca-of I w o r' w'' o'' b)

    pub valid_demands_unique : ValidDemands I w o r w' o' → ValidDemands I w o r' w'' o'' → (r ≡ r') × (w' ≡ w'') × (o' ≡ o'')
    valid_demands_unique a b = valid_unique I w o r r' w' w'' o' o'' (valid-of I w o r w' o' a) (valid-of I w o r' w'' o'' b)

    module _ (s s' s'' : List ℕ) where
      pub elca_demands_unique : ElcaDemands I w o s r w' o' s' → ElcaDemands I w o s r' w'' o'' s'' → (r ≡ r') × (w' ≡ w'') × (o' ≡ o'') × (s' ≡ s'')
      elca_demands_unique a b = elca_unique I w o s r r' w' w'' o' o'' s' s'' (elca-of I w o s r w' o' s' a) (elca-of I w o s r' w'' o'' s'' b)
