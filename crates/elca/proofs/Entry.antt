-- From the index check to the search and back: the outcome of a call in each case. Assumes nothing.
-- Letters: I index; w, o, s what is lent as work, out and own; k the number of words.
use Prim.Native.Nat.{ℕ, ◌+◌, ◌-◌, ◌*◌, ◌≤◌, ◌<◌}
use mathlib.Core.Path.{◌≡◌, sym, ap, ap₂, ◌∙◌}
use mathlib.Core.List.{List, ◌++◌}
use mathlib.Core.Bool.{Bool, cond, ◌&&◌}
use native.Mathlib.Nat.{mul_comm, mul-le-mul_right}
use native.Mathlib.Omega.{arith}
use lib.Dec.{ltb, leb}
use lib.ListN.{length, get_or, take, drop, replicate, length-replicate, length-append, take-append-drop, replicate-append-replicate}
use lib.Seq.{take_at, take-append-le}
use Rattle.seq.specs.Below.{listed, gather, tabulate}
use Rattle.seq.specs.Memory.{zeroed}
use Rattle.seq.proofs.Laws.Below.{every_ext}
use Rattle.seq.proofs.Laws.Lists.{tally_le}
use Rattle.seq.proofs.Laws.Sums.{sum_ext}
use Rattle.seq.proofs.Laws.Gather.{length-tabulate, length-gather}
use Rattle.tree.specs.Tree.{child, under}
use Rattle.tree.proofs.Laws.Under.{parents-before}
use Rattle.index.specs.declared.Reply.{Reply}
use Rattle.index.specs.Index.{Index, nodes, words, wanted, word_list, count_under}
use Rattle.index.specs.Replies.{accepted, SIZE, ROOM, refused, totalled, room, work_after, kept_or}
use Rattle.index.specs.Plain.{Sized, Right}
use Rattle.index.specs.Promises.{Checked}
use Rattle.index.proofs.Laws.Lists.{list_le}
use Rattle.index.proofs.Laws.Sizes.{sized-yes}
use Rattle.index.proofs.Laws.Replies.{checked-size, checked_refused, checked-accepted, negative-size, none-checked, none-work, work-sized, work-kept, work-length, kept-refused}
use Rattle.index.proofs.Acceptance.{checked-right}
use Rattle.answers.specs.Answers.{full, own_count}
use Rattle.answers.specs.Searches.{is_elca, out_row, out_of, own_of, answers, roomed, out_fits, own_fits, elca_reply, elca_out, elca_own}
use Rattle.answers.proofs.Laws.Own.{at_full_children, own_difference}
use Rattle.answers.proofs.Laws.Engine.{elca-by}
use Rattle.answers.proofs.Laws.Counts.{count_at, lists-below, count-right, full-right, held-right, held_below, children-below}
use Rattle.full.specs.Full.{full_by}
use Rattle.full.proofs.Laws.{full_by-is}
use Rattle.elca.specs.Inner.Rows.{held_by}
use Rattle.elca.specs.Promises.{ElcaSearched}
use Rattle.elca.specs.Inner.Steps.{Answered, held_full, elca_by, own_by, SearchPre, ElcaFound}
use Rattle.elca.proofs.Searching.{answered_ext}

-- ---- by counts, and by 01's definitions
module _ (I : Index) (R : Right I) (some : I.positive ≤ length I.ends) where
  abbrev K : ℕ
  K = I.positive

  full_by_lem : (v : ℕ) → v < nodes I → full_by I.counts (nodes I) K v ≡ full I.parents K (wanted I) v
  full_by_lem v l = sym (full_by-is I.counts (nodes I) K v _ (full-right I R some v l))

  pub held_by_lem : (v j : ℕ) → j < K → held_full I.parents I.counts K v j ≡ at_full_children I.parents K (wanted I) v j
  unfolding held_full held_by
  held_by_lem v j b =
      sum_ext (nodes I) _ _ (λ c l. ap (λ (z : Bool). cond (child I.parents v c && z) (count_at I R some c j) 0) (full_by_lem c l)) ∙ held-right I R some v j b

  pub elca-is : (v : ℕ) → v < nodes I → elca_by I.parents I.counts K v ≡ is_elca I v
  unfolding elca_by is_elca
  elca-is v l =
      every_ext K _ _ (λ j h. ap₂ ltb (held_by_lem v j h) (count-right I R some v j l h))
      ∙ sym (elca-by I.parents R.tree.preorder K (wanted I) (lists-below I R some) v)

  pub own_is : (v j : ℕ) → v < nodes I → j < K → own_by I.parents I.counts K v j ≡ own_count I.parents K (wanted I) v j
  own_is v j a b =
      ap₂ ◌-◌ (count-right I R some v j a b) (held_by_lem v j b) ∙ sym (own_difference I.parents R.tree.preorder K (wanted I) (lists-below I R some) v j b)

-- ---- the call
module _ (I : Index) (w o s : List ℕ) where
  -- A refusal before the search keeps out and own.
  refused-keeps : (r : Reply) → elca_reply I w o s ≡ r → (r.refusal ≡ accepted → ⊥) → (w' : List ℕ) → w' ≡ work_after 0 I w → ElcaSearched I w o s r w' o s
  unfolding elca_out elca_own
  refused-keeps r e ne w' q = record {
    reply = sym e;
    work = q;
    out = sym (kept-refused (elca_reply I w o s) _ o (λ z. ne (sym (ap (λ (x : Reply). x.refusal) e) ∙ z)));
    own = sym (kept-refused (elca_reply I w o s) _ s (λ z. ne (sym (ap (λ (x : Reply). x.refusal) e) ∙ z)));
  }

  pub elca-negative : (I.negative ≡ 0 → ⊥) → ElcaSearched I w o s (refused SIZE 0) w o s
  unfolding elca_reply
  elca-negative ne =
      refused-keeps (refused SIZE 0) (checked-size 0 I (length w) _ (negative-size I (length w) ne)) (λ z. omega arith) w (sym (work-kept 0 I w (negative-size I (length w) ne)))

  module _ (z : I.negative ≡ 0) (r : Reply) (w₁ : List ℕ) (c : Checked I w r w₁) where
    pub check-length : length w₁ ≡ length w
    check-length = ap length c.work ∙ work-length 8 I w

    pub elca-refused : (r.refusal ≡ accepted → ⊥) → ElcaSearched I w o s r w₁ o s
    unfolding elca_reply
    elca-refused ne =
        refused-keeps r
        (none-checked I z (length w) _ ∙ checked_refused I w _ (λ q. ne (ap (λ (x : Reply). x.refusal) c.reply ∙ q)) ∙ sym c.reply) ne w₁ (c.work ∙ sym (none-work I z w))

    module _ (e : r.refusal ≡ accepted) where
      abbrev k : ℕ
      k = I.positive

      size : Sized 8 I (length w)
      size = (checked-right I w r w₁ c e).0

      right : Right I
      right = (checked-right I w r w₁ c e).1

      some : I.positive ≤ length I.ends
      some = omega (arith, size.ended)

      words_are : words I ≡ k
      words_are = omega arith

      -- The part of work that the search uses.
      abbrev pub used : ℕ
      used = nodes I * k + nodes I

      used-room : used ≤ room I
      used-room = omega (arith, ap (λ (x : ℕ). (x + 2) * nodes I) words_are, mul_comm (nodes I) k, add-two)
        where
          add-two : (k + 2) * nodes I ≡ k * nodes I + 2 * nodes I
          add-two = native.Mathlib.Nat.add-mul k 2 (nodes I)

      pub used-small : used ≤ 655360
      used-small = omega (arith, size.few_nodes, size.few_positive, mul_comm (nodes I) k, mul-le-mul_right {m = k} {n = 8} (nodes I) (omega (arith, size.few_positive)))

      pub used_in : used ≤ length w₁
      used_in = omega (arith, used-room, size.roomy, check-length)

      sized-work : w₁ ≡ zeroed (room I) w
      sized-work = c.work ∙ work-sized 8 I w (sized-yes 8 I (length w) size)

      zeros : take used w₁ ≡ replicate used 0
      unfolding zeroed
      zeros =
          ap (take used) (sized-work ∙ ap (λ (t : List ℕ). t ++ drop (room I) w) parts)
          ∙ take-append-le used (replicate used 0 ++ replicate (room I - used) 0) (drop (room I) w) (omega (arith, length-append {A = ℕ} (replicate used 0) (replicate (room I - used) 0), length-replicate {A = ℕ} used 0))
          ∙ take_at (replicate used 0) (replicate (room I - used) 0) used (length-replicate used 0)
        where
          whole : used + (room I - used) ≡ room I
          whole = omega (arith, used-room)

          parts : ◌≡◌ {A = List ℕ} (replicate (room I) 0) (replicate used 0 ++ replicate (room I - used) 0)
          parts = sym (replicate-append-replicate used (room I - used) 0 ∙ ap (λ (x : ℕ). replicate x 0) whole)

      -- A word stands at a node once at most, so its counts are small.
      count_small : (v j : ℕ) → v < nodes I → j < k → get_or I.counts (j * nodes I + v) 0 ≤ nodes I
      unfolding count_under
      count_small v j a b =
          let l : j < length I.ends = omega (arith, some) in
          omega (arith, right.counts j v l a, tally_le (under I.parents v) (word_list I.ends I.occurrences j), list_le (nodes I) (word_list I.ends I.occurrences j) (right.lists j l).list)

      pub search-pre : SearchPre I.parents I.counts k (take used w₁)
      search-pre = record {
        nodes = size.some_nodes;
        few_nodes = size.few_nodes;
        few_words = omega (arith, size.few_positive);
        counted = size.counted ∙ ap (λ (x : ℕ). x * nodes I) words_are;
        zeros = zeros;
        down = parents-before I.parents (nodes I) right.tree.preorder;
        fits = λ v j a b. omega (arith, children-below I right some v j a (omega arith), count_small v j a b, size.few_nodes);
        below = λ v j a b. held_fits v j a (omega arith);
      }
        where
          held_fits : (v j : ℕ) → v < nodes I → j < I.positive → held_full I.parents I.counts k v j ≤ get_or I.counts (j * nodes I + v) 0
          held_fits v j a b =
              omega (arith, held_by_lem I right some v j b, held_below I right some v j a b)

      -- The answers are 01's.
      module _ (r' : Reply) (w₂ o' s' : List ℕ) (f : ElcaFound I.parents I.counts k (take used w₁) o s r' w₂ o' s') where
        answers_01 : Answered (nodes I) I.positive (is_elca I) (own_count I.parents I.positive (wanted I)) o s r' o' s'
        answers_01 =
            answered_ext (nodes I) I.positive _ _ _ _ (elca-is I right some) (own_is I right some) o s r' o' s' f.answers

        whole-work : w₂ ++ drop used w₁ ≡ work_after 0 I w
        whole-work = ap (λ (t : List ℕ). t ++ drop used w₁) f.work ∙ take-append-drop used w₁ ∙ c.work ∙ sym (none-work I z w)

        own-length : length (own_of I (is_elca I)) ≡ length (listed (nodes I) (is_elca I)) * I.positive
        unfolding own_of
        own-length = length-gather I.positive (nodes I) (is_elca I) _ (λ v l. length-tabulate I.positive _)

        same : r' ≡ elca_reply I w o s
        unfolding elca_reply roomed answers out_fits own_fits out_of listed
        same =
            answers_01.reply
            ∙ ap (λ (x : ℕ). totalled (cond (leb (length (listed (nodes I) (is_elca I))) (length o) && leb x (length s)) accepted ROOM) (length (listed (nodes I) (is_elca I)))) (sym own-length)
            ∙ sym (none-checked I z (length w) _ ∙ checked-accepted I w _ (ap (λ (x : Reply). x.refusal) (sym c.reply) ∙ e))

        pub elca-found : ElcaSearched I w o s r' (w₂ ++ drop used w₁) o' s'
        unfolding elca_out elca_own out_of own_of
        elca-found = record {
          reply = same;
          work = whole-work;
          out = answers_01.out ∙ ap (λ (x : Reply). kept_or x (gather (nodes I) (is_elca I) out_row) o) same;
          own = answers_01.own ∙ ap (λ (x : Reply). kept_or x (gather (nodes I) (is_elca I) (λ v. tabulate I.positive (own_count I.parents I.positive (wanted I) v))) s) same;
        }

-- ---- no second outcome fits
pub elca_unique : (I : Index) (w o s : List ℕ) (r r' : Reply) (w' w'' o' o'' s' s'' : List ℕ) →
    ElcaSearched I w o s r w' o' s' → ElcaSearched I w o s r' w'' o'' s'' → (r ≡ r') × (w' ≡ w'') × (o' ≡ o'') × (s' ≡ s'')
elca_unique I w o s r r' w' w'' o' o'' s' s'' a b = (a.reply ∙ sym b.reply, a.work ∙ sym b.work, a.out ∙ sym b.out, a.own ∙ sym b.own)
