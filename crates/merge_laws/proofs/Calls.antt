-- The demands of a call without counts are its contract, no less and no more. Assumes nothing.
--   merge_elca_demands, merge_slca_demands                 what meets the contract does what is demanded
--   merge_elca_demands_unique, merge_slca_demands_unique   the demands admit one outcome
--   merge_elca-of, merge_slca-of                           and so what does as demanded meets the contract
--   never_count, never_count-slca                          no call is refused by COUNT
-- Letters: I index; ys, o, s stack, out and own as lent; r, r' replies; ys' and ys'', o' and o'', s' and s'' the buffers at the end; w work; b the reply that comes
-- after the check.
use Prim.Native.Nat.{ℕ, ◌≤◌}
use mathlib.Core.Path.{◌≡◌, refl, sym, ap, ◌∙◌}
use mathlib.Core.Logic.{◌↔◌, ⊎_elim}
use mathlib.Core.List.{List}
use native.Mathlib.Omega.{arith}
use lib.ListN.{length, replicate, length-replicate}
use Rattle.seq.proofs.Laws.Bools.{equal_or}
use Rattle.index.specs.declared.Reply.{Reply}
use Rattle.index.specs.Index.{Index}
use Rattle.index.specs.Replies.{SIZE, COUNT, refused, room, work_after, kept_or}
use Rattle.index.proofs.Laws.Sizes.{sized_of}
use Rattle.index.proofs.Laws.Replies.{kept-refused}
use Rattle.engine.specs.declared.Entry.{Entry}
use Rattle.depot.specs.Depot.{depot_checked}
use Rattle.engine.specs.Search.{stack_after}
use Rattle.merge.specs.Merge.{merge_elca_reply, merge_elca_out, merge_elca_own, merge_slca_reply, merge_slca_out, MergedElca, MergedSlca}
use Rattle.demands.specs.Calls.{Replied, SlcaDemands, ElcaDemands}
use Rattle.demands.proofs.Calls.{slca_demands, elca_demands}
use Rattle.demands.proofs.Unique.{slca_demands_unique, elca_demands_unique}
use Rattle.merge_laws.specs.Agree.{righted}
use Rattle.depot.specs.Plain.{DepotSized}
use Rattle.merge_laws.specs.Calls.{MergeReplied, MergeElcaDemands, MergeSlcaDemands}
use Rattle.depot.proofs.Laws.Checks.{sized_no, checked-size, sized_any}
use Rattle.merge_laws.proofs.Counts.{counts-right, righted-sized, merge_elca-first, merge_slca-first}
use Rattle.merge_laws.proofs.Leaving.{stack-left, stack_unique}

-- ---- both searches
-- Work that is just long enough for a search with counts.
abbrev zeros : Index → List ℕ
zeros I = replicate (room I) 0

zeros-enough : (I : Index) → room I ≤ length (zeros I)
zeros-enough I = omega (arith, length-replicate {A = ℕ} (room I) 0)

-- SIZE keeps a buffer.
kept-size : (r : Reply) (new o : List ℕ) → r.refusal ≡ SIZE → kept_or r new o ≡ o
kept-size r new o q = kept-refused r new o (λ z. omega (arith, q, z))

module _ (I : Index) (ys : List Entry) (r b : Reply) (e : r ≡ depot_checked I (length ys) b) where
  other-sized : (r.refusal ≡ SIZE → ⊥) → DepotSized I (length ys)
  other-sized ne = sized_any I (length ys) b (λ q. ne (ap (λ (x : Reply). x.refusal) e ∙ q))

  refused-size : (DepotSized I (length ys) → ⊥) → r ≡ refused SIZE 0
  refused-size h = e ∙ checked-size I (length ys) b (sized_no I (length ys) h)

  -- Where nothing is wrong with the sizes, r is a reply of the search with counts, with right ones. F says that there is room for the m answers.
  module _ (F : Type 0) (m : ℕ) (first : DepotSized I (length ys) → Replied 0 (righted I) (length (zeros I)) F m r) where
    unsized : r.refusal ≡ SIZE → DepotSized I (length ys) → ⊥
    unsized q z = (first z).size.0 q (sized_of 0 (righted I) _ (righted-sized I _ (length ys) z (zeros-enough I)))

    not-count : r.refusal ≡ COUNT → ⊥
    not-count q =
        let z : DepotSized I (length ys) = other-sized (λ s. omega (arith, q, s)) in
        let h : _ = (first z).count.0 q in
        h.3 (counts-right I z.ended h.1 h.2).counts

    merge_replied : (ys' : List Entry) → ys' ≡ stack_after I ys → MergeReplied I ys r ys'
    merge_replied ys' left =
        let size : (r.refusal ≡ SIZE) ↔ (DepotSized I (length ys) → ⊥) = (unsized, λ h. ap (λ (x : Reply). x.refusal) (refused-size h)) in
        record { size = size; size_zero = λ q. refused-size (unsized q); no_count = not-count; stack = rw left (stack-left I ys r size) }

-- Of two calls that do as demanded both are refused by SIZE, or neither is.
module _ (I : Index) (ys : List Entry) (r r' : Reply) (ys' ys'' : List Entry) (a : MergeReplied I ys r ys') (b : MergeReplied I ys r' ys'') where
  both_or_neither : (Same : Type 0) → (r.refusal ≡ SIZE → r'.refusal ≡ SIZE → Same) → ((r.refusal ≡ SIZE → ⊥) → (r'.refusal ≡ SIZE → ⊥) → Same) → Same
  both_or_neither Same both neither =
      ⊎_elim (λ q. both q (b.size.1 (a.size.0 q))) (λ q. neither q (λ q'. q (a.size.1 (b.size.0 q')))) (equal_or r.refusal SIZE)

  same-stack : r ≡ r' → ys' ≡ ys''
  same-stack e = stack_unique r ys ys' ys'' a.stack (rw e b.stack)

-- ---- ELCA
module _ (I : Index) (ys : List Entry) (o s : List ℕ) where
  pub merge_elca_demands : (r : Reply) (ys' : List Entry) (o' s' : List ℕ) → MergedElca I ys o s r ys' o' s' → MergeElcaDemands I ys o s r ys' o' s'
  unfolding merge_elca_reply merge_elca_out merge_elca_own
  merge_elca_demands r ys' o' s' c =
      let first : DepotSized I (length ys) → (w : List ℕ) → room I ≤ length w → ElcaDemands (righted I) w o s r (work_after 0 (righted I) w) o' s' =
      λ z w enough. elca_demands (righted I) w o s r _ o' s' (merge_elca-first I ys o r ys' o' z w enough s s' c) in
      let given : r.refusal ≡ (merge_elca_reply I ys o s).refusal = ap (λ (x : Reply). x.refusal) c.reply in
      record {
        reply = merge_replied I ys r _ c.reply _ _ (λ z. (first z (zeros I) (zeros-enough I)).search.reply) ys' c.stack;
        kept = λ q. (c.out ∙ kept-size _ _ o (sym given ∙ q), c.own ∙ kept-size _ _ s (sym given ∙ q));
        search = λ ne. first (other-sized I ys r _ c.reply ne);
      }

  pub merge_elca_demands_unique : (r r' : Reply) (ys' ys'' : List Entry) (o' o'' s' s'' : List ℕ) → MergeElcaDemands I ys o s r ys' o' s' → MergeElcaDemands I ys o s r' ys'' o'' s'' →
      (r ≡ r') × (ys' ≡ ys'') × (o' ≡ o'') × (s' ≡ s'')
  merge_elca_demands_unique r r' ys' ys'' o' o'' s' s'' a b =
      let u : (r ≡ r') × (o' ≡ o'') × (s' ≡ s'') =
      both_or_neither I ys r r' ys' ys'' a.reply b.reply _
      (λ q q'. (a.reply.size_zero q ∙ sym (b.reply.size_zero q'), (a.kept q).0 ∙ sym (b.kept q').0, (a.kept q).1 ∙ sym (b.kept q').1))
      (λ q q'.
      let v : _ = elca_demands_unique (righted I) (zeros I) r r' _ _ o o' o'' s s' s'' (a.search q (zeros I) (zeros-enough I)) (b.search q' (zeros I) (zeros-enough I)) in
      (v.0, v.2, v.3)) in
      (u.0, same-stack I ys r r' ys' ys'' a.reply b.reply u.0, u.1, u.2)

  module _ (r : Reply) (ys' : List Entry) (o' s' : List ℕ) where
    pub merge_elca-of : MergeElcaDemands I ys o s r ys' o' s' → MergedElca I ys o s r ys' o' s'
    merge_elca-of d =
        let u : _ = merge_elca_demands_unique r _ ys' _ o' _ s' _ d (merge_elca_demands (merge_elca_reply I ys o s) (stack_after I ys) (merge_elca_out I ys o s) (merge_elca_own I ys o s)
        (record { reply = refl; stack = refl; out = refl; own = refl })) in
        record { reply = u.0; stack = u.1; out = u.2; own = u.3 }

    pub never_count : MergedElca I ys o s r ys' o' s' → r.refusal ≡ COUNT → ⊥
    never_count c = (merge_elca_demands r ys' o' s' c).reply.no_count

-- ---- SLCA
module _ (I : Index) (ys : List Entry) (o : List ℕ) where
  pub merge_slca_demands : (r : Reply) (ys' : List Entry) (o' : List ℕ) → MergedSlca I ys o r ys' o' → MergeSlcaDemands I ys o r ys' o'
  unfolding merge_slca_reply merge_slca_out
  merge_slca_demands r ys' o' c =
      let first : DepotSized I (length ys) → (w : List ℕ) → room I ≤ length w → SlcaDemands (righted I) w o r (work_after 0 (righted I) w) o' =
      λ z w enough. slca_demands (righted I) w o r _ o' (merge_slca-first I ys o r ys' o' z w enough c) in
      record {
        reply = merge_replied I ys r _ c.reply _ _ (λ z. (first z (zeros I) (zeros-enough I)).search.reply) ys' c.stack;
        kept = λ q. c.out ∙ kept-size _ _ o (ap (λ (x : Reply). x.refusal) (sym c.reply) ∙ q);
        search = λ ne. first (other-sized I ys r _ c.reply ne);
      }

  pub merge_slca_demands_unique : (r r' : Reply) (ys' ys'' : List Entry) (o' o'' : List ℕ) → MergeSlcaDemands I ys o r ys' o' → MergeSlcaDemands I ys o r' ys'' o'' →
      (r ≡ r') × (ys' ≡ ys'') × (o' ≡ o'')
  merge_slca_demands_unique r r' ys' ys'' o' o'' a b =
      let u : (r ≡ r') × (o' ≡ o'') =
      both_or_neither I ys r r' ys' ys'' a.reply b.reply _
      (λ q q'. (a.reply.size_zero q ∙ sym (b.reply.size_zero q'), a.kept q ∙ sym (b.kept q')))
      (λ q q'.
      let v : _ = slca_demands_unique (righted I) (zeros I) r r' _ _ o o' o'' (a.search q (zeros I) (zeros-enough I)) (b.search q' (zeros I) (zeros-enough I)) in
      (v.0, v.2)) in
      (u.0, same-stack I ys r r' ys' ys'' a.reply b.reply u.0, u.1)

  module _ (r : Reply) (ys' : List Entry) (o' : List ℕ) where
    pub merge_slca-of : MergeSlcaDemands I ys o r ys' o' → MergedSlca I ys o r ys' o'
    merge_slca-of d =
        let u : _ = merge_slca_demands_unique r _ ys' _ o' _ d (merge_slca_demands (merge_slca_reply I ys o) (stack_after I ys) (merge_slca_out I ys o)
        (record { reply = refl; stack = refl; out = refl })) in
        record { reply = u.0; stack = u.1; out = u.2 }

    pub never_count-slca : MergedSlca I ys o r ys' o' → r.refusal ≡ COUNT → ⊥
    never_count-slca c = (merge_slca_demands r ys' o' c).reply.no_count
