-- The demands of each call are its contract, no less and no more. Assumes nothing.
--   check_demands, slca_demands, elca_demands, valid_demands   what meets the contract does what is demanded
--   check-of, slca-of, elca-of, valid-of                       what does as demanded meets the contract: so the demands, too, admit one outcome
--   shortest_any                                               the SLCAs listed are in every set of full nodes that loses nothing
-- Letters: I index; w, o, s work, out and own as lent, w', o', s' as they are at the end; r reply; S a set of nodes; v node, j word, i answer, e entry.
use Prim.Native.Nat.{ℕ, ◌+◌, ◌*◌, ◌/◌, ◌%◌, ◌≤◌, ◌<◌}
use mathlib.Core.Path.{◌≡◌, refl, sym, ap, ◌∙◌}
use mathlib.Core.Logic.{inl}
use mathlib.Core.List.{List}
use mathlib.Core.Bool.{Bool, true, ◌&&◌}
use native.Mathlib.Nat.{div-lt_iff_lt-mul, mod-lt, div-add-mod'}
use native.Mathlib.Omega.{arith}
use borrow.Author.Tests.{le-leb, leb-true}
use lib.ListN.{length, get_or}
use lib.Seq.{get_or-take}
use Rattle.seq.specs.Below.{listed}
use Rattle.seq.specs.Lists.{EachBelow}
use Rattle.seq.specs.Plain.{Among, FirstAre}
use Rattle.seq.proofs.Laws.Numbers.{row_le}
use Rattle.seq.proofs.Laws.Bools.{and_left, and_right, and_both}
use Rattle.seq.proofs.Laws.Gather.{length-tabulate, length-gather, gather-rows}
use Rattle.seq.proofs.Laws.Members.{length-listed}
use Rattle.seq.proofs.Laws.Plain.{first-are_unique}
use Rattle.tree.specs.Plain.{Down}
use Rattle.tree.proofs.Laws.Under.{parents-before}
use Rattle.index.specs.declared.Reply.{Reply}
use Rattle.index.specs.Index.{Index, nodes, wanted, unwanted}
use Rattle.index.specs.Replies.{accepted, check_reply, kept_or}
use Rattle.index.specs.Plain.{Sized, Right}
use Rattle.index.specs.Promises.{Checked}
use Rattle.answers.specs.Answers.{slca, own_count, credits}
use Rattle.answers.specs.Plain.{Slca, Elca, ValidSlca}
use Rattle.answers.specs.Demand3.{Covered, LosesNothing}
use Rattle.answers.specs.Searches.{is_elca, is_slca, is_negator, is_valid, out_of, own_of, out_fits, own_fits, elca_reply, elca_out, elca_own, slca_reply, slca_out, valid_reply, valid_out}
use Rattle.answers.proofs.Laws.Meaning.{slca-plain, elca-plain, valid-slca-plain}
use Rattle.answers.proofs.Laws.Plain.{elca-full, slca-full}
use Rattle.answers.proofs.Demand3.{slca_loses_nothing, slca-shortest, credit-one, own-credits, credits-add-up_any}
use Rattle.slca.specs.Promises.{SlcaSearched}
use Rattle.elca.specs.Promises.{ElcaSearched}
use Rattle.valid.specs.Promises.{ValidSearched}
use Rattle.demands.specs.Calls.{CheckDemands, how_many, ListDemands, ValidDemands, SlcaDemands, ElcaDemands}
use Rattle.demands.proofs.Replying.{replied, replied_unique}
use Rattle.demands.proofs.Leaving.{work-left, work_unique, buffer-left, buffer-at, buffer_unique}
use Rattle.demands.proofs.Searching.{Means, tested, out-room, room_out, list_demands, list_unique, out_demands, out_unique}

-- ---- the index check
module _ (I : Index) (w : List ℕ) (r : Reply) (w' : List ℕ) where
  pub check_demands : Checked I w r w' → CheckDemands I w r w'
  unfolding check_reply
  check_demands c =
      let D : _ = replied 8 I (length w) (Unit {0}) true 0 (λ q. tt) (λ q. refl) in
      rw (c.reply, c.work) (record { reply = D; work = work-left 8 I w _ D.size })

  pub check-of : CheckDemands I w r w' → Checked I w r w'
  unfolding check_reply
  check-of d = record {
    reply = replied_unique 8 I (length w) (Unit {0}) true 0 (λ q. tt) (λ q. refl) r d.reply;
    work = work_unique 8 I w r d.reply.size w' d.work;
  }

-- ---- what the tests mean
module _ (most : ℕ) (I : Index) (w : ℕ) (s : Sized most I w) (R : Right I) where
  down : Down I.parents (nodes I)
  down = parents-before I.parents (nodes I) R.tree.preorder

  pub below : (j : ℕ) → j < I.positive → EachBelow (nodes I) (wanted I j)
  below j l = (R.lists j (omega (arith, s.ended))).list.below

  below-not : (j : ℕ) → j < I.negative → EachBelow (nodes I) (unwanted I j)
  below-not j l = (R.lists (I.positive + j) (omega (arith, s.ended))).list.below

pub slca_means : (I : Index) (w : ℕ) → Means 0 I w (is_slca I) (Slca I.parents I.positive (wanted I))
unfolding is_slca
slca_means I w s R = slca-plain I.parents (down 0 I w s R) I.positive (wanted I) (below 0 I w s R)

pub elca_means : (I : Index) (w : ℕ) → Means 0 I w (is_elca I) (Elca I.parents I.positive (wanted I))
unfolding is_elca
elca_means I w s R = elca-plain I.parents (down 0 I w s R) I.positive (wanted I) (below 0 I w s R)

pub valid_means : (I : Index) (w : ℕ) → Means 8 I w (is_valid I) (ValidSlca I.parents I.tags I.positive (wanted I) I.negative (unwanted I))
unfolding is_valid is_negator
valid_means I w s R =
    valid-slca-plain I.parents (down 8 I w s R) I.tags I.negative (unwanted I) (below-not 8 I w s R) I.positive (wanted I) (below 8 I w s R)

-- ---- valid SLCA
module _ (I : Index) (w o : List ℕ) (r : Reply) (w' o' : List ℕ) where
  pub valid_demands : ValidSearched I w o r w' o' → ValidDemands I w o r w' o'
  unfolding valid_reply valid_out
  valid_demands c = record { search = out_demands 8 (is_valid I) _ I w o r w' o' (valid_means I (length w)) c.reply c.work c.out }

  pub valid-of : ValidDemands I w o r w' o' → ValidSearched I w o r w' o'
  unfolding valid_reply valid_out
  valid-of d =
      let u : _ = out_unique 8 (is_valid I) _ I w o r w' o' (valid_means I (length w)) d.search in
      record { reply = u.0; work = u.1; out = u.2 }

-- ---- SLCA
module _ (I : Index) (w o : List ℕ) (r : Reply) (w' o' : List ℕ) where
  module _ (D : ListDemands 0 (is_slca I) (Slca I.parents I.positive (wanted I)) (how_many I (is_slca I) ≤ length o) I w o r w' o') (q : r.refusal ≡ accepted) where
    right : Right I
    right = (D.reply.accepts.0 q).1

    by_test : FirstAre (nodes I) (λ v. is_slca I v ≡ true) r.total o'
    by_test = tested 0 (is_slca I) _ _ I w o r w' o' (slca_means I (length w)) D q

    -- A node that is listed is an SLCA.
    among-slca : (v : ℕ) → Among r.total o' v → (v < nodes I) × (slca I.parents I.positive (wanted I) v ≡ true)
    unfolding is_slca
    among-slca v a = (
      omega (arith, a.is, by_test.below a.at a.within),
      ap (slca I.parents I.positive (wanted I)) (sym a.is) ∙ by_test.holds a.at a.within,
    )

    listed_loses_nothing : LosesNothing I.parents I.positive (wanted I) (Among r.total o')
    unfolding is_slca
    listed_loses_nothing = record {
      only = λ v l a. slca-full I.parents I.positive (wanted I) v (among-slca v a).1;
      covers = λ v l f.
          let c : Covered I.parents (λ u. slca I.parents I.positive (wanted I) u ≡ true) v =
          (slca_loses_nothing I.parents right.tree.preorder I.positive (wanted I)).covers v l f in
          record { node = c.node; within = c.within; among = by_test.has c.node c.within c.among; below = c.below };
    }

    listed-shortest : (S : ℕ → Type 0) → LosesNothing I.parents I.positive (wanted I) S → (v : ℕ) → Among r.total o' v → S v
    listed-shortest S s v a =
        slca-shortest I.parents right.tree.preorder I.positive (wanted I) S s v (among-slca v a).0 (among-slca v a).1

  pub slca_demands : SlcaSearched I w o r w' o' → SlcaDemands I w o r w' o'
  unfolding slca_reply slca_out
  slca_demands c =
      let D : ListDemands 0 (is_slca I) (Slca I.parents I.positive (wanted I)) (how_many I (is_slca I) ≤ length o) I w o r w' o' = out_demands 0 (is_slca I) _ I w o r w' o' (slca_means I (length w)) c.reply c.work c.out in
      record { search = D; loses_nothing = listed_loses_nothing D; shortest = λ q S. listed-shortest D q (λ v. S v ≡ true) }

  pub slca-of : SlcaDemands I w o r w' o' → SlcaSearched I w o r w' o'
  unfolding slca_reply slca_out
  slca-of d =
      let u : _ = out_unique 0 (is_slca I) _ I w o r w' o' (slca_means I (length w)) d.search in
      record { reply = u.0; work = u.1; out = u.2 }

  -- Demand 3 for any set of nodes, whether or not a test tells its nodes.
  pub shortest_any : SlcaDemands I w o r w' o' → r.refusal ≡ accepted → (S : ℕ → Type 0) → LosesNothing I.parents I.positive (wanted I) S →
      (v : ℕ) → Among r.total o' v → S v
  shortest_any d q = listed-shortest d.search q

-- ---- ELCA
-- Own holds p numbers for each node listed.
own-long : (I : Index) → length (own_of I (is_elca I)) ≡ how_many I (is_elca I) * I.positive
unfolding own_of
own-long I =
    length-gather I.positive (nodes I) (is_elca I) _ (λ v l. length-tabulate I.positive (own_count I.parents I.positive (wanted I) v))
    ∙ ap (λ (z : ℕ). z * I.positive) (length-listed (nodes I) (is_elca I))

-- There is room for both: the nodes and their own counts.
module _ (I : Index) (o s : List ℕ) where
  abbrev many : ℕ
  many = how_many I (is_elca I)

  abbrev Room : Type 0
  Room = (many ≤ length o) × (many * I.positive ≤ length s)

  abbrev fitting : Bool
  fitting = out_fits I (is_elca I) o && own_fits I (is_elca I) s

  both_room : fitting ≡ true → Room
  unfolding own_fits
  both_room e = (
    out-room I (is_elca I) o (and_left (out_fits I (is_elca I) o) (own_fits I (is_elca I) s) e),
    omega (arith, own-long I, leb-true (length (own_of I (is_elca I))) (length s) (and_right (out_fits I (is_elca I) o) (own_fits I (is_elca I) s) e)),
  )

  room_both : Room → fitting ≡ true
  unfolding own_fits
  room_both h =
      and_both (out_fits I (is_elca I) o) (own_fits I (is_elca I) s) (room_out I (is_elca I) o h.0) (le-leb (length (own_of I (is_elca I))) (length s) (omega (arith, own-long I, h.1)))

module _ (I : Index) (w o s : List ℕ) (r : Reply) (w' o' s' : List ℕ) where
  abbrev Search : Type 0
  Search = ListDemands 0 (is_elca I) (Elca I.parents I.positive (wanted I)) (Room I o s) I w o r w' o'

  module _ (D : Search) where
    own-total : r.refusal ≡ accepted → r.total * I.positive ≡ length (own_of I (is_elca I))
    own-total q = ap (λ (z : ℕ). z * I.positive) (D.reply.total (inl q)) ∙ sym (own-long I)

    own-fits : r.refusal ≡ accepted → length (own_of I (is_elca I)) ≤ length s
    own-fits q = omega (arith, own-long I, (D.reply.accepts.0 q).2.1)

    module _ (q : r.refusal ≡ accepted) where
      right-elca : Right I
      right-elca = (D.reply.accepts.0 q).1

      lists-below : (j : ℕ) → j < I.positive → EachBelow (nodes I) (wanted I j)
      lists-below = below 0 I (length w) (D.reply.accepts.0 q).0 right-elca

      by-elca : FirstAre (nodes I) (λ v. is_elca I v ≡ true) r.total o'
      by-elca = tested 0 (is_elca I) _ _ I w o r w' o' (elca_means I (length w)) D q

      -- Entry i of out is the i-th ELCA.
      out_at : (i : ℕ) → i < r.total → get_or o' i 0 ≡ get_or (listed (nodes I) (is_elca I)) i 0
      out_at i l = sym (get_or-take r.total o' i 0 l) ∙ ap (λ (z : List ℕ). get_or z i 0) (first-are_unique (nodes I) (is_elca I) r.total o' by-elca)

      -- The own counts of the i-th ELCA are the credits of entry i of out.
      own_at : (i j : ℕ) → i < r.total → j < I.positive →
          get_or (own_of I (is_elca I)) (i * I.positive + j) 0 ≡ credits I.parents I.positive (wanted I) (get_or o' i 0) j
      unfolding own_of is_elca
      own_at i j li lj =
          gather-rows I.positive (nodes I) (is_elca I) (own_count I.parents I.positive (wanted I)) i j
          (omega (arith, D.reply.total (inl q), length-listed (nodes I) (is_elca I))) lj
          ∙ ap (λ (v : ℕ). own_count I.parents I.positive (wanted I) v j) (sym (out_at i li))
          ∙ own-credits I.parents right-elca.tree.preorder I.positive (wanted I) lists-below (get_or o' i 0) j (by-elca.below i li)
          (elca-full I.parents I.positive (wanted I) (get_or o' i 0) (by-elca.holds i li)) lj

  pub elca_demands : ElcaSearched I w o s r w' o' s' → ElcaDemands I w o s r w' o' s'
  unfolding elca_reply elca_out elca_own
  elca_demands c =
      let D : Search =
      list_demands 0 (is_elca I) _ (Room I o s) (fitting I o s) (both_room I o s) (room_both I o s) I w o (λ h. h.0) (elca_means I (length w)) r w' o' c.reply c.work
      (c.out ∙ ap (λ (z : Reply). kept_or z (out_of I (is_elca I)) o) (sym c.reply)) in
      let own_is : s' ≡ kept_or r (own_of I (is_elca I)) s = c.own ∙ ap (λ (z : Reply). kept_or z (own_of I (is_elca I)) s) (sym c.reply) in
      record {
        search = D;
        own = rw own_is (buffer-left r (r.total * I.positive) (own_of I (is_elca I)) s (own-total D) (own-fits D));
        owns = λ q i j li lj.
            ap (λ (z : List ℕ). get_or z (i * I.positive + j) 0) own_is
            ∙ buffer-at r (r.total * I.positive) (own_of I (is_elca I)) s (own-total D) (own-fits D) q (i * I.positive + j)
            (omega (arith, row_le i r.total I.positive li))
            ∙ own_at D q i j li lj;
        credit = λ q. credit-one I.parents (right-elca D q).tree.preorder I.positive (wanted I) (lists-below D q);
        add_up = λ q. credits-add-up_any I.parents (right-elca D q).tree.preorder I.positive (wanted I) (lists-below D q);
      }

  pub elca-of : ElcaDemands I w o s r w' o' s' → ElcaSearched I w o s r w' o' s'
  unfolding elca_reply elca_out elca_own
  elca-of d =
      let D : Search = d.search in
      let u : _ = list_unique 0 (is_elca I) _ (Room I o s) (fitting I o s) (both_room I o s) (room_both I o s) I w o (λ h. h.0) (elca_means I (length w)) r w' o' D in
      record {
        reply = u.0;
        work = u.1;
        out = u.2 ∙ ap (λ (z : Reply). kept_or z (out_of I (is_elca I)) o) u.0;
        own = buffer_unique r (r.total * I.positive) (own_of I (is_elca I)) s (own-total D) (own-fits D) s' d.own (own-front D)
            ∙ ap (λ (z : Reply). kept_or z (own_of I (is_elca I)) s) u.0;
      }
    where
      -- Entry e is that of word e % p of answer e / p.
      own-front : Search → r.refusal ≡ accepted → (e : ℕ) → e < r.total * I.positive → get_or s' e 0 ≡ get_or (own_of I (is_elca I)) e 0
      own-front D q e l =
          let some : 1 ≤ I.positive = (D.reply.accepts.0 q).0.some_positive in
          let i : e / I.positive < r.total = (div-lt_iff_lt-mul some).1 l in
          let j : e % I.positive < I.positive = mod-lt e some in
          let parts : e ≡ e / I.positive * I.positive + e % I.positive = sym (div-add-mod' e I.positive) in
          ap (λ (z : ℕ). get_or s' z 0) parts ∙ d.owns q (e / I.positive) (e % I.positive) i j
          ∙ sym (own_at D q (e / I.positive) (e % I.positive) i j) ∙ ap (λ (z : ℕ). get_or (own_of I (is_elca I)) z 0) (sym parts)
