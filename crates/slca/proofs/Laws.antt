-- Laws of the marks, on an index that is accepted. Assumes nothing.
--   full-flag       the flags made from the counts are those of the full nodes
--   marks-are       what `mark_slca` makes of them are the marks
--   mark-slca       a node is marked 1 exactly where it is an SLCA
--   mark-other, mark-none   2 exactly where it is another full node, and 0 exactly where it is not full
--   marked-over ..  what `flag_slca` leaves in work where it accepts
--   marked_unique, slca_unique   no second outcome fits a contract
use Prim.Native.Nat.{ℕ, suc, ◌+◌, ◌*◌, ◌≤◌, ◌<◌}
use mathlib.Core.Path.{◌≡◌, refl, sym, ap, ap₂, ◌∙◌, subst}
use mathlib.Core.Logic.{⊎_elim}
use mathlib.Core.List.{List, ◌++◌}
use mathlib.Core.Bool.{Bool, true, false, not, cond, ◌&&◌}
use native.Mathlib.Nat.{mul-le-mul_right, one-mul}
use native.Mathlib.Omega.{arith}
use lib.Dec.{eqb, ltb}
use borrow.Author.Tests.{eq-eqb}
use lib.ListN.{length, get_or, take, drop, replicate}
use lib.Seq.{length-take-le, get_or-take, take_at}
use Rattle.seq.specs.Below.{some_below}
use Rattle.seq.specs.Memory.{zeroed, over}
use Rattle.seq.proofs.Laws.Memory.{zeroed-over, length_over}
use Rattle.seq.proofs.Laws.Bools.{equal_or}
use Rattle.seq.proofs.Laws.Numbers.{row_le}
use Rattle.seq.proofs.Laws.Below.{every_ext, some_ext}
use Rattle.seq.proofs.Laws.Gather.{length-tabulate, get_d_tabulate, tabulate_ext}
use Rattle.tree.specs.Tree.{parent, child}
use Rattle.tree.proofs.Laws.Under.{parents-before}
use Rattle.index.specs.declared.Reply.{Reply}
use Rattle.index.specs.Index.{Index, nodes, words, wanted}
use Rattle.index.specs.Replies.{accepted, SIZE, refused, room, check_reply, work_after, kept_or}
use Rattle.index.specs.Plain.{Sized, Right}
use Rattle.index.specs.Promises.{Checked}
use Rattle.index.proofs.Laws.Sizes.{product_le, sized-yes}
use Rattle.index.proofs.Laws.Replies.{checked-size, checked_refused, checked-accepted, negative-size, none-checked, none-work, work-sized, work-kept, work-length, kept-accepted, kept-refused}
use Rattle.index.proofs.Acceptance.{accepted-right, checked-right}
use Rattle.answers.specs.Answers.{full, slca}
use Rattle.answers.proofs.Laws.Full.{full-parent}
use Rattle.answers.proofs.Laws.Counts.{lists-below, full-right}
use Rattle.answers.proofs.Laws.Engine.{slca-by}
use Rattle.answers.specs.Searches.{is_slca, slca_reply, slca_out}
use Rattle.listing.specs.Listing.{flagged, flagged_rows, flagged_reply, flagged_out, Listed}
use Rattle.listing.proofs.Laws.{rows-by, reply-by}
use Rattle.full.specs.Full.{full_by, full_flags}
use Rattle.full.proofs.Laws.{full_flags-at, length-full_flags, full_by-is}
use Rattle.slca.specs.Marks.{mark_by, slca_marks}
use Rattle.slca.specs.Inner.{marks_of, marks_by}
use Rattle.slca.specs.Promises.{Marked, SlcaSearched}
use Rattle.slca.specs.Inner.{DropPre, MarkSlcaPre}

module _ (I : Index) (w : ℕ) (s : Sized 8 I w) (R : Right I) where
  -- The counts of the positive words.
  abbrev pub rows : ℕ
  rows = I.positive * nodes I

  abbrev is_full_node : ℕ → Bool
  is_full_node = full I.parents I.positive (wanted I)

  pub rows_in : rows ≤ length I.counts
  rows_in = omega (arith, s.counted, mul-le-mul_right {m = I.positive} {n = words I} (nodes I) (omega arith))

  pub nodes_in : nodes I ≤ w
  nodes_in = omega (arith, s.roomy, one-mul (nodes I), mul-le-mul_right {m = 1} {n = words I + 2} (nodes I) (omega arith))

  some : I.positive ≤ length I.ends
  some = omega (arith, s.ended)

  -- The lent counts tell which nodes are full.
  full_by_lem : (v : ℕ) → v < nodes I → full_by (take rows I.counts) (nodes I) I.positive v ≡ is_full_node v
  full_by_lem v l =
      sym (full_by-is _ _ _ _ _
      (every_ext I.positive _ _
      (λ j h. ap (ltb 0) (get_or-take rows I.counts (j * nodes I + v) 0 (omega (arith, row_le j I.positive (nodes I) h))))
      ∙ full-right I R some v l))

  abbrev pub flags : List ℕ
  flags = full_flags (take rows I.counts) (nodes I)

  pub full-flag : (v : ℕ) → v < nodes I → get_or flags v 0 ≡ cond (is_full_node v) 1 0
  full-flag v l =
      full_flags-at (take rows I.counts) (nodes I) I.positive v (length-take-le rows I.counts rows_in) l ∙ ap (λ (b : Bool). cond b 1 0) (full_by_lem v l)

  -- So a flag is 1 exactly at a full node.
  flag_test : (v : ℕ) → v < nodes I → eqb (get_or flags v 0) 1 ≡ is_full_node v
  flag_test v l = ap (λ (x : ℕ). eqb x 1) (full-flag v l) ∙ one (is_full_node v)
    where
      one : (b : Bool) → eqb (cond b 1 0) 1 ≡ b
      one true = refl
      one false = refl

  pub drop-pre : DropPre I.parents flags
  drop-pre = record {
    down = parents-before I.parents (nodes I) R.tree.preorder;
    long = length-full_flags (take rows I.counts) (nodes I);
    flags = λ v l. full-flag v l ∙ ap (λ (b : Bool). cond b 1 0) (sym (flag_test v l));
    upward = λ c l e. full-flag (parent I.parents (suc c)) (omega (arith, parents-before I.parents (nodes I) R.tree.preorder c l))
        ∙ ap (λ (b : Bool). cond b 1 0)
        (full-parent I.parents R.tree.preorder I.positive (wanted I) (lists-below I R some) c l (sym (flag_test (suc c) l) ∙ eq-eqb (get_or flags (suc c) 0) 1 e));
  }

  pub marks-are : marks_by I.parents (take rows I.counts) ≡ slca_marks I
  unfolding slca_marks marks_by marks_of mark_by
  marks-are =
      tabulate_ext (nodes I) _ _
      (λ v l. ap₂ (λ (a b : Bool). cond a (cond b 2 1) 0) (flag_test v l)
      (some_ext (nodes I) _ _ (λ c h. ap (λ (b : Bool). child I.parents v c && b) (flag_test c h))))

  -- A node is marked 1 exactly where it is an SLCA.
  pub mark-slca : (v : ℕ) → eqb (mark_by I.parents is_full_node v) 1 ≡ slca I.parents I.positive (wanted I) v
  unfolding mark_by
  mark-slca v =
      one (is_full_node v) (some_below (nodes I) (λ c. child I.parents v c && is_full_node c))
      ∙ sym (slca-by I.parents R.tree.preorder I.positive (wanted I) (lists-below I R some) v)
    where
      one : (a b : Bool) → eqb (cond a (cond b 2 1) 0) 1 ≡ (a && not b)
      one true true = refl
      one true false = refl
      one false b = refl

  -- 2 exactly where it is full and no SLCA, and 0 exactly where it is not full.
  pub mark-other : (v : ℕ) → eqb (mark_by I.parents is_full_node v) 2 ≡ (is_full_node v && not (slca I.parents I.positive (wanted I) v))
  unfolding mark_by
  mark-other v =
      two (is_full_node v) (some_below (nodes I) (λ c. child I.parents v c && is_full_node c))
      ∙ ap (λ (b : Bool). is_full_node v && not b) (sym (slca-by I.parents R.tree.preorder I.positive (wanted I) (lists-below I R some) v))
    where
      two : (a b : Bool) → eqb (cond a (cond b 2 1) 0) 2 ≡ (a && not (a && not b))
      two true true = refl
      two true false = refl
      two false b = refl

  pub mark-none : (v : ℕ) → eqb (mark_by I.parents is_full_node v) 0 ≡ not (is_full_node v)
  unfolding mark_by
  mark-none v = none (is_full_node v) (some_below (nodes I) (λ c. child I.parents v c && is_full_node c))
    where
      none : (a b : Bool) → eqb (cond a (cond b 2 1) 0) 0 ≡ not a
      none true true = refl
      none true false = refl
      none false b = refl

pub length-marks : (I : Index) → length (slca_marks I) ≡ nodes I
unfolding slca_marks
length-marks I = length-tabulate (nodes I) _

pub length-marks_by : (p cs : List ℕ) → length (marks_by p cs) ≡ length p
unfolding marks_by marks_of
length-marks_by p cs = length-tabulate (length p) _

-- ---- `mark_slca`: f the flags once they are made of the counts
module _ (p cs fl : List ℕ) (pre : MarkSlcaPre p cs fl) (f : List ℕ) (e : f ≡ full_flags cs (length fl)) where
  flags-are : f ≡ full_flags cs (length p)
  flags-are = e ∙ ap (full_flags cs) pre.long

  pub drop-again : DropPre p f
  drop-again = subst (DropPre p) (sym flags-are) pre.full

  pub marks-by : (m : List ℕ) → m ≡ marks_of p f → m ≡ marks_by p cs
  unfolding marks_by
  marks-by m q = q ∙ ap (marks_of p) flags-are

-- ---- `flag_slca`, after the index check
module _ (I : Index) (w : List ℕ) (r : Reply) (w₁ : List ℕ) (c : Checked I w r w₁) where
  pub mark-refused : (r.refusal ≡ accepted → ⊥) → Marked I w r w₁
  mark-refused ne = record { reply = c.reply; work = c.work ∙ sym (kept-refused (check_reply I w) _ _ (λ e. ne (ap (λ (z : Reply). z.refusal) c.reply ∙ e))) }

  pub check-length : length w₁ ≡ length w
  check-length = ap length c.work ∙ work-length 8 I w

  module _ (e : r.refusal ≡ accepted) where
    s : Sized 8 I (length w)
    s = (checked-right I w r w₁ c e).0

    R : Right I
    R = (checked-right I w r w₁ c e).1

    pub mark-small : I.positive * nodes I ≤ 655360
    mark-small = product_le (nodes I) I.positive s.few_nodes (omega (arith, s.few_positive))

    pub mark-rows : I.positive * nodes I ≤ length I.counts
    mark-rows = rows_in I (length w) s R

    pub mark-nodes : nodes I ≤ length w₁
    mark-nodes = omega (arith, check-length, nodes_in I (length w) s R)

    pub mark-pre : MarkSlcaPre I.parents (take (I.positive * nodes I) I.counts) (take (nodes I) w₁)
    mark-pre = record {
      long = length-take-le (nodes I) w₁ mark-nodes;
      full = drop-pre I (length w) s R;
    }

    pub mark-accepted : (fl : List ℕ) → fl ≡ marks_by I.parents (take (I.positive * nodes I) I.counts) → Marked I w r (fl ++ drop (nodes I) w₁)
    unfolding over
    mark-accepted fl q =
        let marks : fl ≡ slca_marks I = q ∙ marks-are I (length w) s R in
        record {
          reply = c.reply;
          work =
              ap₂ (λ (a b : List ℕ). a ++ drop (nodes I) b) marks c.work ∙ ap (λ (n : ℕ). slca_marks I ++ drop n (work_after 8 I w)) (sym (length-marks I))
              ∙ sym (kept-accepted (check_reply I w) (slca_marks I) (work_after 8 I w) (ap (λ (z : Reply). z.refusal) (sym c.reply) ∙ e));
        }

-- ---- on what `flag_slca` leaves: a call that is refused, and one that is accepted
-- Those marked 1 are the SLCAs.
pub marked-slca : (I : Index) (w : ℕ) → Sized 8 I w → Right I → (v : ℕ) → v < nodes I → flagged (slca_marks I) v ≡ is_slca I v
unfolding flagged slca_marks is_slca
marked-slca I w s R v l = ap (λ (x : ℕ). eqb x 1) (get_d_tabulate (nodes I) _ v 0 l) ∙ mark-slca I w s R v

module _ (I : Index) (w : List ℕ) (r : Reply) (w₁ : List ℕ) (m : Marked I w r w₁) where
  pub marked-length : length w₁ ≡ length w
  marked-length =
      ap length m.work
      ∙ ⊎_elim
      (λ e. ap length (kept-accepted (check_reply I w) (slca_marks I) (work_after 8 I w) e)
      ∙ length_over (slca_marks I) (work_after 8 I w) (omega (arith, length-marks I, work-length 8 I w, nodes_in I (length w) (accepted-right I w e).0 (accepted-right I w e).1))
      ∙ work-length 8 I w)
      (λ ne. ap length (kept-refused (check_reply I w) (slca_marks I) (work_after 8 I w) ne) ∙ work-length 8 I w)
      (equal_or (check_reply I w).refusal accepted)

  module _ (ne : r.refusal ≡ accepted → ⊥) where
    pub marked-refuses : (check_reply I w).refusal ≡ accepted → ⊥
    marked-refuses q = ne (ap (λ (x : Reply). x.refusal) m.reply ∙ q)

    pub marked-refused-work : w₁ ≡ work_after 8 I w
    marked-refused-work = m.work ∙ kept-refused (check_reply I w) (slca_marks I) (work_after 8 I w) marked-refuses

  module _ (e : r.refusal ≡ accepted) where
    pub marked-accepts : (check_reply I w).refusal ≡ accepted
    marked-accepts = ap (λ (x : Reply). x.refusal) (sym m.reply) ∙ e

    pub marked-sized : Sized 8 I (length w)
    marked-sized = (accepted-right I w marked-accepts).0

    pub marked-right : Right I
    marked-right = (accepted-right I w marked-accepts).1

    pub marked-over : w₁ ≡ over (slca_marks I) (zeroed (room I) w)
    marked-over =
        m.work ∙ kept-accepted (check_reply I w) (slca_marks I) (work_after 8 I w) marked-accepts
        ∙ ap (over (slca_marks I)) (work-sized 8 I w (sized-yes 8 I (length w) marked-sized))

    pub marked-nodes : nodes I ≤ length w₁
    marked-nodes = omega (arith, marked-length, nodes_in I (length w) marked-sized marked-right)

    pub marked-first : take (nodes I) w₁ ≡ slca_marks I
    unfolding over
    marked-first = ap (take (nodes I)) marked-over ∙ take_at (slca_marks I) _ (nodes I) (length-marks I)

    -- The front cleared again.
    pub marked-cleared : zeroed (nodes I) w₁ ≡ work_after 8 I w
    marked-cleared =
        ap₂ zeroed (sym (length-marks I)) marked-over
        ∙ zeroed-over (room I) (slca_marks I) w (omega (arith, length-marks I, one-mul (nodes I), mul-le-mul_right {m = 1} {n = words I + 2} (nodes I) (omega arith)))
        ∙ sym (work-sized 8 I w (sized-yes 8 I (length w) marked-sized))

-- ---- `slca`
module _ (I : Index) (w o : List ℕ) where
  pub slca-negative : (I.negative ≡ 0 → ⊥) → SlcaSearched I w o (refused SIZE 0) w o
  unfolding slca_reply slca_out
  slca-negative ne =
      let e : slca_reply I w o ≡ refused SIZE 0 = checked-size 0 I (length w) _ (negative-size I (length w) ne) in
      record {
        reply = sym e;
        work = sym (work-kept 0 I w (negative-size I (length w) ne));
        out = sym (kept-refused (slca_reply I w o) _ o (λ q. size-refuses (sym (ap (λ (z : Reply). z.refusal) e) ∙ q)));
      }
    where
      size-refuses : SIZE ≡ accepted → ⊥
      size-refuses q = omega arith

  module _ (z : I.negative ≡ 0) (r : Reply) (w₁ : List ℕ) (m : Marked I w r w₁) where
    pub slca-refused : (r.refusal ≡ accepted → ⊥) → SlcaSearched I w o r w₁ o
    unfolding slca_reply slca_out
    slca-refused ne =
        let same : slca_reply I w o ≡ check_reply I w = none-checked I z (length w) _ ∙ checked_refused I w _ (marked-refuses I w r w₁ m ne) in
        record {
          reply = m.reply ∙ sym same;
          work = marked-refused-work I w r w₁ m ne ∙ sym (none-work I z w);
          out = sym (kept-refused (slca_reply I w o) _ o (λ q. marked-refuses I w r w₁ m ne (sym (ap (λ (x : Reply). x.refusal) same) ∙ q)));
        }

    module _ (e : r.refusal ≡ accepted) where
      pub slca-cleared : (c : List ℕ) → c ≡ replicate (length (take (nodes I) w₁)) 0 → c ++ drop (nodes I) w₁ ≡ work_after 0 I w
      unfolding zeroed
      slca-cleared c q =
          ap (λ (a : List ℕ). a ++ drop (nodes I) w₁) (q ∙ ap (λ (n : ℕ). replicate n 0) (length-take-le (nodes I) w₁ (marked-nodes I w r w₁ m e)))
          ∙ marked-cleared I w r w₁ m e ∙ sym (none-work I z w)

      listed-slca : (v : ℕ) → v < nodes I → flagged (slca_marks I) v ≡ is_slca I v
      listed-slca = marked-slca I (length w) (marked-sized I w r w₁ m e) (marked-right I w r w₁ m e)

      pub slca-accepted : (r' : Reply) (o' c : List ℕ) → Listed (take (nodes I) w₁) o r' o' → c ≡ replicate (length (take (nodes I) w₁)) 0 →
          SlcaSearched I w o r' (c ++ drop (nodes I) w₁) o'
      unfolding slca_reply slca_out flagged_out
      slca-accepted r' o' c l q =
          let few : nodes I ≤ 65536 = (marked-sized I w r w₁ m e).few_nodes in
          let same : flagged_reply (take (nodes I) w₁) (length o) ≡ slca_reply I w o =
          ap (λ (t : List ℕ). flagged_reply t (length o)) (marked-first I w r w₁ m e) ∙ reply-by I (is_slca I) (slca_marks I) (length-marks I) few listed-slca o
          ∙ sym (none-checked I z (length w) _ ∙ checked-accepted I w _ (marked-accepts I w r w₁ m e)) in
          record {
            reply = l.reply ∙ same;
            work = slca-cleared c q;
            out =
                l.out
                ∙ ap₂ (λ (x : Reply) (t : List ℕ). kept_or x t o) same
                (ap flagged_rows (marked-first I w r w₁ m e) ∙ rows-by I (is_slca I) (slca_marks I) (length-marks I) few listed-slca);
          }

-- ---- no second outcome fits
pub marked_unique : (I : Index) (w : List ℕ) (r r' : Reply) (w' w'' : List ℕ) → Marked I w r w' → Marked I w r' w'' → (r ≡ r') × (w' ≡ w'')
marked_unique I w r r' w' w'' a b = (a.reply ∙ sym b.reply, a.work ∙ sym b.work)

pub slca_unique : (I : Index) (w o : List ℕ) (r r' : Reply) (w' w'' o' o'' : List ℕ) → SlcaSearched I w o r w' o' → SlcaSearched I w o r' w'' o'' → (r ≡ r') × (w' ≡ w'') × (o' ≡ o'')
slca_unique I w o r r' w' w'' o' o'' a b = (a.reply ∙ sym b.reply, a.work ∙ sym b.work, a.out ∙ sym b.out)
