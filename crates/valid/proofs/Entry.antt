-- The whole call: refused, without a negative word, and with one. Assumes nothing.
--   valid-refused    what the index check refuses
--   valid_without    no negative word: the SLCAs are listed
--   valid-with       the valid ones among them are listed
--   valid_unique  no second outcome fits the contract
-- Letters: I index; w, o what is lent as work and out; w₁ work as `flag_slca` leaves it, a its first four rows as `reject` leaves them; fl flags; v node.
use Prim.Native.Nat.{ℕ, ◌+◌, ◌-◌, ◌*◌, ◌≤◌, ◌<◌}
use mathlib.Core.Path.{◌≡◌, refl, sym, ap, ap₂, ◌∙◌}
use mathlib.Core.List.{List, ◌++◌, append_assoc}
use mathlib.Core.Bool.{Bool, true, false, cond}
use native.Mathlib.Nat.{mul-le-mul_right}
use native.Mathlib.Omega.{arith}
use lib.Dec.{eqb}
use lib.ListN.{length, get_or, take, drop, replicate, length-append, length-replicate, replicate-append-replicate}
use lib.Seq.{length_front, length-take-le, get_or-take, take_at, drop_at}
use Rattle.seq.specs.Below.{tabulate}
use Rattle.seq.specs.Memory.{zeroed}
use Rattle.seq.proofs.Laws.Memory.{zeroed-again, drop-over}
use Rattle.seq.proofs.Laws.Gather.{length-tabulate, get_d_tabulate}
use Rattle.index.specs.declared.Reply.{Reply}
use Rattle.index.specs.Index.{Index, nodes, words, wanted, unwanted, word_list}
use Rattle.index.specs.Replies.{accepted, room, check_reply, work_after, kept_or}
use Rattle.index.specs.Plain.{Sized, Right}
use Rattle.index.proofs.Laws.Sizes.{sized-yes}
use Rattle.index.proofs.Laws.Replies.{checked_refused, checked-accepted, work-sized, kept-refused}
use Rattle.answers.specs.Answers.{slca}
use Rattle.answers.specs.Not.{negator, valid_slca}
use Rattle.answers.specs.Searches.{is_slca, is_negator, is_valid, valid_reply, valid_out}
use Rattle.answers.proofs.Laws.Not.{valid_without_not}
use Rattle.listing.specs.Listing.{flagged, flagged_rows, flagged_reply, flagged_out}
use Rattle.listing.proofs.Laws.{listed-length, rows-by, reply-by}
use Rattle.slca.specs.Marks.{slca_marks}
use Rattle.slca.specs.Promises.{Marked}
use Rattle.slca.proofs.Laws.{length-marks, marked-slca, marked-length, marked-refuses, marked-refused-work, marked-accepts, marked-sized, marked-right, marked-over, marked-nodes, marked-first, marked-cleared}
use Rattle.valid.specs.Promises.{ValidSearched}
use Rattle.valid.specs.Inner.Steps.{valid_flag, RejectPre, Rejected, Finished}

-- The front of work, cleared.
pub finish-work : (n : ℕ) (w : List ℕ) → n ≤ length w → (c : List ℕ) → c ≡ replicate (length (take n w)) 0 → c ++ drop n w ≡ zeroed n w
unfolding zeroed
finish-work n w l c e = ap (λ (x : List ℕ). x ++ drop n w) (e ∙ ap (λ (k : ℕ). replicate k 0) (length-take-le n w l))

-- Out keeps its length.
pub finish-length : (n : ℕ) (w o : List ℕ) (r : Reply) (w' o' : List ℕ) → Finished n w o r w' o' → length o' ≡ length o
finish-length n w o r w' o' f = listed-length (take n w) o r o' (record { reply = f.reply; out = f.out })

module _ (I : Index) (w o : List ℕ) (r : Reply) (w₁ : List ℕ) (m : Marked I w r w₁) where
  pub valid-refused : (r.refusal ≡ accepted → ⊥) → ValidSearched I w o r w₁ o
  unfolding valid_reply valid_out
  valid-refused ne =
      let same : valid_reply I w o ≡ check_reply I w = checked_refused I w _ (marked-refuses I w r w₁ m ne) in
      record {
        reply = m.reply ∙ sym same;
        work = marked-refused-work I w r w₁ m ne;
        out = sym (kept-refused (valid_reply I w o) _ o (λ q. marked-refuses I w r w₁ m ne (sym (ap (λ (x : Reply). x.refusal) same) ∙ q)));
      }

  module _ (e : r.refusal ≡ accepted) where
    sized : Sized 8 I (length w)
    sized = marked-sized I w r w₁ m e

    right : Right I
    right = marked-right I w r w₁ m e

    -- Flags that say which nodes are valid SLCAs are listed, and cleared.
    flags-listed : (fl : List ℕ) → length fl ≡ nodes I → ((v : ℕ) → v < nodes I → flagged fl v ≡ is_valid I v) →
        (w₂ : List ℕ) → take (nodes I) w₂ ≡ fl → zeroed (nodes I) w₂ ≡ work_after 8 I w →
        (r' : Reply) (w₃ o' : List ℕ) → Finished (nodes I) w₂ o r' w₃ o' → ValidSearched I w o r' w₃ o'
    unfolding valid_reply valid_out flagged_out
    flags-listed fl long says w₂ front clear r' w₃ o' f =
        let same : flagged_reply (take (nodes I) w₂) (length o) ≡ valid_reply I w o =
        ap (λ (t : List ℕ). flagged_reply t (length o)) front ∙ reply-by I (is_valid I) fl long sized.few_nodes says o
        ∙ sym (checked-accepted I w _ (marked-accepts I w r w₁ m e)) in
        record {
          reply = f.reply ∙ same;
          work = f.work ∙ clear;
          out = f.out ∙ ap₂ (λ (x : Reply) (t : List ℕ). kept_or x t o) same (ap flagged_rows front ∙ rows-by I (is_valid I) fl long sized.few_nodes says);
        }

    -- ---- no negative word
    module _ (z : I.negative ≡ 0) where
      all_valid : (v : ℕ) → is_slca I v ≡ is_valid I v
      unfolding is_slca is_valid is_negator
      all_valid v =
          sym (ap (λ (q : ℕ). valid_slca I.parents I.positive (wanted I) (negator I.parents I.tags q (unwanted I)) v) z
          ∙ valid_without_not I.parents I.tags I.positive (wanted I) (unwanted I) v)

      pub valid_without : (r' : Reply) (w₂ o' : List ℕ) → Finished (nodes I) w₁ o r' w₂ o' → ValidSearched I w o r' w₂ o'
      valid_without =
          flags-listed (slca_marks I) (length-marks I) (λ v l. marked-slca I (length w) sized right v l ∙ all_valid v) w₁ (marked-first I w r w₁ m e) (marked-cleared I w r w₁ m e)

    -- ---- with a negative word; k is p as the code has it
    module _ (some : 0 < I.negative) (k : ℕ) (ek : k ≡ I.positive) where
      abbrev n : ℕ
      n = nodes I

      four-rows : n * 4 ≤ room I
      four-rows = omega (arith, mul-le-mul_right {m = 4} {n = words I + 2} n (omega (arith, sized.some_positive)), flip)
        where
          flip : n * 4 ≡ 4 * n
          flip = omega arith

      pub valid-rows : n * 4 ≤ length w₁
      valid-rows = omega (arith, four-rows, sized.roomy, marked-length I w r w₁ m)

      rows_long : length (take (n * 4) w₁) ≡ n * 4
      rows_long = length-take-le (n * 4) w₁ valid-rows

      mark-at : (v : ℕ) → v < n → eqb (get_or (take (n * 4) w₁) v 0) 1 ≡ is_slca I v
      unfolding flagged
      mark-at v l =
          ap (λ (x : ℕ). eqb x 1)
          (get_or-take (n * 4) w₁ v 0 (omega arith) ∙ sym (get_or-take n w₁ v 0 l) ∙ ap (λ (x : List ℕ). get_or x v 0) (marked-first I w r w₁ m e))
          ∙ marked-slca I (length w) sized right v l

      pub valid-reject-pre : RejectPre I.parents I.tags k I.ends I.occurrences (take (n * 4) w₁)
      unfolding is_slca
      valid-reject-pre = record {
        some = sized.some_nodes;
        few = sized.few_nodes;
        tagged = sized.tagged;
        tree = right.tree;
        some_positive = omega (arith, sized.some_positive);
        some_negative = omega (arith, sized.ended);
        few_words = omega (arith, sized.ended, sized.few_words);
        words = right.lists;
        long = rows_long;
        marks = λ v l. mark-at v l ∙ ap (λ (x : ℕ). slca I.parents x (wanted I) v) (sym ek);
      }

      module _ (a : List ℕ) (rej : Rejected I.parents I.tags k I.ends I.occurrences a) where
        abbrev flags : List ℕ
        flags = tabulate n (valid_flag I.parents I.tags k I.ends I.occurrences)

        abbrev w₂ : List ℕ
        w₂ = a ++ drop (n * 4) w₁

        flags_long : length flags ≡ n
        flags_long = length-tabulate n _

        a-long : length a ≡ n * 4
        a-long =
            ap length rej.rows ∙ length-append flags (replicate (n * 3) 0) ∙ ap₂ (λ (x y : ℕ). x + y) flags_long (length-replicate {A = ℕ} (n * 3) 0) ∙ four
          where
            four : n + n * 3 ≡ n * 4
            four = omega arith

        pub valid-length : length w₂ ≡ length w
        valid-length = length_front w₁ a (n * 4) (a-long ∙ sym rows_long) ∙ marked-length I w r w₁ m

        pub valid-nodes : n ≤ length w₂
        valid-nodes = omega (arith, valid-length, marked-nodes I w r w₁ m e, marked-length I w r w₁ m)

        says : (v : ℕ) → v < n → flagged flags v ≡ is_valid I v
        unfolding flagged valid_flag is_valid is_negator
        says v l =
            ap (λ (x : ℕ). eqb x 1) (get_d_tabulate n _ v 0 l) ∙ one _
            ∙ ap₂ (λ (x y : ℕ). valid_slca I.parents x (wanted I) (negator I.parents I.tags y λ j. word_list I.ends I.occurrences (x + j)) v) ek rest
          where
            one : (b : Bool) → eqb (cond b 1 0) 1 ≡ b
            one true = refl
            one false = refl

            rest : length I.ends - k ≡ I.negative
            rest = omega (arith, sized.ended)

        w₂_parts : w₂ ≡ flags ++ (replicate (n * 3) 0 ++ drop (n * 4) w₁)
        w₂_parts = ap (λ (x : List ℕ). x ++ drop (n * 4) w₁) rej.rows ∙ append_assoc flags (replicate (n * 3) 0) (drop (n * 4) w₁)

        front : take n w₂ ≡ flags
        front = ap (take n) w₂_parts ∙ take_at flags _ n flags_long

        cleared : zeroed n w₂ ≡ work_after 8 I w
        unfolding zeroed
        cleared =
            ap (λ (x : List ℕ). replicate n 0 ++ x) (ap (drop n) w₂_parts ∙ drop_at flags _ n flags_long)
            ∙ sym (append_assoc (replicate n 0) (replicate (n * 3) 0) (drop (n * 4) w₁))
            ∙ ap₂ (λ (x y : List ℕ). x ++ y) (replicate-append-replicate n (n * 3) 0 ∙ ap (λ (x : ℕ). replicate x 0) four)
            (ap (drop (n * 4)) (marked-over I w r w₁ m e) ∙ drop-over (n * 4) (slca_marks I) (zeroed (room I) w) (omega (arith, length-marks I)))
            ∙ zeroed-again (n * 4) (room I) w four-rows ∙ sym (work-sized 8 I w (sized-yes 8 I (length w) sized))
          where
            four : n + n * 3 ≡ n * 4
            four = omega arith

        pub valid-with : (r' : Reply) (w₃ o' : List ℕ) → Finished n w₂ o r' w₃ o' → ValidSearched I w o r' w₃ o'
        valid-with = flags-listed flags flags_long says w₂ front cleared

-- ---- no second outcome fits
pub valid_unique : (I : Index) (w o : List ℕ) (r r' : Reply) (w' w'' o' o'' : List ℕ) → ValidSearched I w o r w' o' → ValidSearched I w o r' w'' o'' →
    (r ≡ r') × (w' ≡ w'') × (o' ≡ o'')
valid_unique I w o r r' w' w'' o' o'' a b = (a.reply ∙ sym b.reply, a.work ∙ sym b.work, a.out ∙ sym b.out)
