-- What a call leaves in its buffers. Assumes nothing.
--   work-left, work_unique       work as the definitions have it is as demanded, and no other content is
--   buffer-left, buffer_unique   the same of out and own
-- Letters: I index; w work, o buffer as lent, o' as it is; r reply, m entries written.
use Prim.Native.Nat.{ℕ, ◌≤◌, ◌<◌}
use mathlib.Core.Path.{◌≡◌, sym, ap, ◌∙◌}
use mathlib.Core.Logic.{◌↔◌, ⊎_elim}
use mathlib.Core.List.{List}
use mathlib.Core.Bool.{true}
use native.Mathlib.Omega.{arith}
use lib.ListN.{length, get_or}
use Rattle.seq.proofs.Laws.Bools.{bool_cases, bool-not_both, equal_or}
use Rattle.seq.proofs.Laws.Memory.{over-front}
use Rattle.seq.proofs.Laws.Plain.{stays-over, stays_unique}
use Rattle.index.specs.declared.Reply.{Reply}
use Rattle.index.specs.Index.{Index}
use Rattle.index.specs.Replies.{accepted, SIZE, room, size_ok, work_after, kept_or}
use Rattle.index.specs.Plain.{Sized}
use Rattle.index.proofs.Laws.Sizes.{sized_of, sized-yes, sized_no}
use Rattle.index.proofs.Laws.Replies.{work-front, work-rest, work-kept, work-length, kept-accepted, kept-refused}
use Rattle.demands.specs.Calls.{WorkLeft, BufferLeft}

-- ---- work
module _ (most : ℕ) (I : Index) (w : List ℕ) (r : Reply) (size : (r.refusal ≡ SIZE) ↔ (Sized most I (length w) → ⊥)) where
  is-sized : (r.refusal ≡ SIZE → ⊥) → size_ok most I (length w) ≡ true
  is-sized ne =
      ⊎_elim (λ q. q) (λ q. absurd (ne (size.1 (λ s. bool-not_both (size_ok most I (length w)) (sized-yes most I (length w) s) q)))) (bool_cases (size_ok most I (length w)))

  pub work-left : WorkLeft I r w (work_after most I w)
  work-left = record {
    untouched = λ q. work-kept most I w (sized_no most I (length w) (size.0 q));
    zeros = λ ne. work-front most I w (is-sized ne);
    rest = λ ne. record { long = work-length most I w; same = work-rest most I w (is-sized ne) };
  }

  pub work_unique : (w' : List ℕ) → WorkLeft I r w w' → w' ≡ work_after most I w
  work_unique w' a =
      ⊎_elim (λ q. after (λ e. size.0 e (sized_of most I (length w) q)))
      (λ q. a.untouched (size.1 (λ s. bool-not_both (size_ok most I (length w)) (sized-yes most I (length w) s) q)) ∙ sym (work-kept most I w q))
      (bool_cases (size_ok most I (length w)))
    where
      after : (r.refusal ≡ SIZE → ⊥) → w' ≡ work_after most I w
      after ne = stays_unique (room I) w w' (work_after most I w) (a.rest ne) (work-left.rest ne) (λ i l. a.zeros ne i l ∙ sym (work-left.zeros ne i l))

-- ---- out and own
module _ (r : Reply) (m : ℕ) (new o : List ℕ) (total : r.refusal ≡ accepted → m ≡ length new) (fits : r.refusal ≡ accepted → length new ≤ length o) where
  pub buffer-left : BufferLeft r m o (kept_or r new o)
  buffer-left = record {
    kept = kept-refused r new o;
    rest = λ q. rw (total q, kept-accepted r new o q) (stays-over new o (fits q));
  }

  -- The first m entries are what is written.
  pub buffer-at : r.refusal ≡ accepted → (i : ℕ) → i < m → get_or (kept_or r new o) i 0 ≡ get_or new i 0
  buffer-at q i l = ap (λ (z : List ℕ). get_or z i 0) (kept-accepted r new o q) ∙ over-front new o i (omega (arith, total q))

  pub buffer_unique : (o' : List ℕ) → BufferLeft r m o o' → (r.refusal ≡ accepted → (i : ℕ) → i < m → get_or o' i 0 ≡ get_or new i 0) → o' ≡ kept_or r new o
  buffer_unique o' a front =
      ⊎_elim (λ q. stays_unique m o o' (kept_or r new o) (a.rest q) (buffer-left.rest q) (λ i l. front q i l ∙ sym (buffer-at q i l)))
      (λ q. a.kept q ∙ sym (kept-refused r new o q)) (equal_or r.refusal accepted)
