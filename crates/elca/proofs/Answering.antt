-- From the rows to the answers: ROOM, or the flagged nodes in out with their own counts in own. Assumes nothing.
-- Letters: cs counts, w work, o out, s own; n nodes, k words, m answers; v node.
use Prim.Native.Nat.{ℕ, ◌+◌, ◌-◌, ◌*◌, ◌≤◌, ◌<◌}
use mathlib.Core.Path.{◌≡◌, refl, sym, ap, ap₂, ◌∙◌}
use mathlib.Core.List.{List, [], ◌∷◌}
use mathlib.Core.Bool.{Bool, true, false, cond}
use native.Mathlib.Omega.{arith}
use lib.Dec.{eqb, leb}
use borrow.Author.Tests.{le-leb, lt-leb}
use lib.ListN.{length, take, drop, length-take, length-drop}
use lib.Seq.{get_or-take, get_or-drop}
use Rattle.seq.specs.Below.{gather, listed}
use Rattle.seq.specs.Memory.{over}
use Rattle.seq.proofs.Laws.Bools.{and_false-left, and_false-right, and_both}
use Rattle.seq.proofs.Laws.Gather.{length-tabulate, gather_ext, length-gather, listed_le}
use Rattle.index.specs.declared.Reply.{Reply}
use Rattle.index.specs.Replies.{accepted, ROOM, totalled, kept_or}
use Rattle.index.proofs.Laws.Replies.{kept-accepted, kept-refused}
use Rattle.answers.specs.Searches.{out_row}
use Rattle.listing.specs.Listing.{flagged, flagged_rows, flagged_reply, flagged_out, Listed}
use Rattle.elca.specs.Inner.Rows.{flag_at, own_diff, own_rows}
use Rattle.elca.specs.Inner.Steps.{Answered, both_fit, PutPre, OwnPre}

module _ (n k : ℕ) (cs w : List ℕ) (pre : PutPre n k cs w) where
  -- The flags, as the code takes them out of work.
  abbrev pub part : List ℕ
  part = take (n * k + n - n * k) (drop (n * k) w)

  abbrev is_listed : ℕ → Bool
  is_listed v = eqb (flag_at n k w v) 1

  part-long : length part ≡ n
  part-long = length-take (n * k + n - n * k) (drop (n * k) w) ∙ omega (arith, length-drop (n * k) w, pre.grid.long)

  part-flag : (v : ℕ) → v < n → flagged part v ≡ is_listed v
  unfolding flagged
  part-flag v l = ap (λ (x : ℕ). eqb x 1) (get_or-take (n * k + n - n * k) (drop (n * k) w) v 0 (omega arith) ∙ get_or-drop (n * k) w v 0)

  rows_are : flagged_rows part ≡ gather n is_listed out_row
  unfolding flagged_rows
  rows_are = ap (λ (z : ℕ). gather z (flagged part) out_row) part-long ∙ gather_ext n _ _ out_row out_row part-flag (λ v l. refl)

  count-are : length (listed (length part) (flagged part)) ≡ length (listed n is_listed)
  unfolding listed
  count-are =
      ap (λ (z : ℕ). length (gather z (flagged part) (λ v. v ∷ []))) part-long
      ∙ ap length (gather_ext n _ _ (λ v. v ∷ []) (λ v. v ∷ []) part-flag (λ v l. refl))

  own-length : length (own_rows cs n k w) ≡ length (listed n is_listed) * k
  unfolding own_rows
  own-length = length-gather k n is_listed _ (λ v l. length-tabulate k (own_diff cs n k w v))

  module _ (m : ℕ) (em : m ≡ length (listed (length part) (flagged part))) where
    answers-are : m ≡ length (listed n is_listed)
    answers-are = em ∙ count-are

    pub few : m ≤ 65536
    few = omega (arith, answers-are, listed_le n is_listed, pre.few_nodes)

    module _ (o s : List ℕ) where
      short : both_fit k m o s ≡ false → Answered n k is_listed (own_diff cs n k w) o s (totalled ROOM m) o s
      short q = record {
        reply = ap (totalled ROOM) answers-are ∙ sym (ap (λ (b : Bool). totalled (cond b accepted ROOM) (length (listed n is_listed))) (ap (λ (x : ℕ). both_fit k x o s) (sym answers-are) ∙ q));
        out = sym (kept-refused (totalled ROOM m) _ o (λ z. omega arith));
        own = sym (kept-refused (totalled ROOM m) _ s (λ z. omega arith));
      }

      pub short-out : length o < m → Answered n k is_listed (own_diff cs n k w) o s (totalled ROOM m) o s
      short-out h = short (and_false-left (leb m (length o)) _ (lt-leb m (length o) h))

      pub short-own : length s < m * k → Answered n k is_listed (own_diff cs n k w) o s (totalled ROOM m) o s
      short-own h = short (and_false-right (leb m (length o)) _ (lt-leb (m * k) (length s) h))

      module _ (ho : m ≤ length o) (hs : m * k ≤ length s) where
        pub own-pre : OwnPre n k cs w s
        own-pre = record { grid = pre.grid; below = pre.below; room = omega (arith, own-length, ap (λ (z : ℕ). z * k) answers-are) }

        fits : both_fit k m o s ≡ true
        fits = and_both _ _ (le-leb m (length o) ho) (le-leb (m * k) (length s) hs)

        pub answered : (r : Reply) (o' s' : List ℕ) → s' ≡ over (own_rows cs n k w) s → Listed part o r o' → Answered n k is_listed (own_diff cs n k w) o s r o' s'
        unfolding flagged_reply flagged_out own_rows
        answered r o' s' es l = record {
          reply = is-accepted ∙ ap (totalled accepted) answers-are
              ∙ sym (ap (λ (b : Bool). totalled (cond b accepted ROOM) (length (listed n is_listed))) (ap (λ (x : ℕ). both_fit k x o s) (sym answers-are) ∙ fits));
          out = l.out ∙ ap₂ (λ (x : Reply) (t : List ℕ). kept_or x t o) (sym l.reply) rows_are;
          own = es ∙ sym (kept-accepted r _ s (ap (λ (x : Reply). x.refusal) is-accepted));
        }
          where
            whole : leb (length part) 65536 ≡ true
            whole = le-leb (length part) 65536 (omega (arith, part-long, pre.few_nodes))

            room : leb (length (flagged_rows part)) (length o) ≡ true
            room = le-leb (length (flagged_rows part)) (length o) (omega (arith, rows-length, em))
              where
                rows-length : length (flagged_rows part) ≡ length (listed (length part) (flagged part))
                rows-length = Rattle.listing.proofs.Laws.rows-length part

            is-accepted : r ≡ totalled accepted m
            is-accepted = l.reply ∙ rw (whole, room) (ap (totalled accepted) (sym em))
