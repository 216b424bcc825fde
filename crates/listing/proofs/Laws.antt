-- Laws of listing: the reply and out in each case, and that no second outcome fits. Assumes nothing.
use Prim.Native.Nat.{ℕ, ◌≤◌, ◌<◌}
use mathlib.Core.Path.{◌≡◌, refl, sym, ap, ap₂, ◌∙◌}
use mathlib.Core.Logic.{⊎_elim}
use mathlib.Core.List.{List, [], ◌∷◌}
use mathlib.Core.Bool.{Bool, true, false, cond}
use native.Mathlib.Omega.{arith}
use lib.Dec.{leb}
use borrow.Author.Tests.{le-leb, lt-leb, leb-true}
use lib.ListN.{length}
use Rattle.seq.specs.Below.{gather, listed}
use Rattle.seq.specs.Memory.{over}
use Rattle.seq.proofs.Laws.Bools.{bool_cases}
use Rattle.seq.proofs.Laws.Gather.{listed_le, gather_ext}
use Rattle.seq.proofs.Laws.Memory.{length_over}
use Rattle.seq.proofs.Laws.Outcomes.{outcome_unique}
use Rattle.index.specs.declared.Reply.{Reply}
use Rattle.index.specs.Index.{Index, nodes}
use Rattle.index.specs.Replies.{accepted, SIZE, ROOM, refused, totalled, kept_or}
use Rattle.answers.specs.Searches.{out_row, out_of, answers, roomed, out_fits}
use Rattle.listing.specs.Listing.{flagged, flagged_rows, flagged_reply, flagged_out, Listed}
use Rattle.listing.specs.Inner.{WritePre}

-- Each flagged node puts one entry into out.
pub rows-length : (fl : List ℕ) → length (flagged_rows fl) ≡ length (listed (length fl) (flagged fl))
unfolding flagged_rows listed
rows-length fl = refl

module _ (fl out : List ℕ) where
  pub listed-size : 65536 < length fl → Listed fl out (refused SIZE 0) out
  unfolding flagged_reply flagged_out kept_or
  listed-size h = record { reply = rw (lt-leb (length fl) 65536 h); out = rw (lt-leb (length fl) 65536 h) }

  module _ (few : length fl ≤ 65536) (m : ℕ) (e : m ≡ length (listed (length fl) (flagged fl))) where
    pub listed-few : m ≤ 65536
    listed-few = omega (arith, listed_le (length fl) (flagged fl))

    pub write-pre : m ≤ length out → WritePre fl out
    write-pre h = record { few = few; room = omega (arith, rows-length fl) }

    pub listed-room : length out < m → Listed fl out (totalled ROOM m) out
    unfolding flagged_reply flagged_out kept_or
    listed-room h =
        let short : leb (length (flagged_rows fl)) (length out) ≡ false = lt-leb (length (flagged_rows fl)) (length out) (omega (arith, rows-length fl)) in
        record { reply = rw (le-leb (length fl) 65536 few, short) (ap (totalled ROOM) e); out = rw (le-leb (length fl) 65536 few, short) }

    pub listed-all : m ≤ length out → (out' : List ℕ) → out' ≡ over (flagged_rows fl) out → Listed fl out (totalled accepted m) out'
    unfolding flagged_reply flagged_out kept_or
    listed-all h out' q =
        let fits : leb (length (flagged_rows fl)) (length out) ≡ true = le-leb (length (flagged_rows fl)) (length out) (omega (arith, rows-length fl)) in
        record { reply = rw (le-leb (length fl) 65536 few, fits) (ap (totalled accepted) e); out = rw (le-leb (length fl) 65536 few, fits) q }

-- Out keeps its length.
pub listed-length : (fl o : List ℕ) (r : Reply) (o' : List ℕ) → Listed fl o r o' → length o' ≡ length o
unfolding flagged_reply flagged_out kept_or
listed-length fl o r o' l = ap length l.out ∙ ⊎_elim small large (bool_cases (leb (length fl) 65536))
  where
    small : leb (length fl) 65536 ≡ true → length (flagged_out fl o) ≡ length o
    small q =
        rw q
        (⊎_elim (λ z. rw z (length_over (flagged_rows fl) o (leb-true (length (flagged_rows fl)) (length o) z))) (λ z. rw z)
        (bool_cases (leb (length (flagged_rows fl)) (length o))))

    large : leb (length fl) 65536 ≡ false → length (flagged_out fl o) ≡ length o
    large q = rw q

-- ---- flags that say which nodes of an index pass a test f
module _ (I : Index) (f : ℕ → Bool) (fl : List ℕ) (long : length fl ≡ nodes I) (few : nodes I ≤ 65536) (same : (v : ℕ) → v < nodes I → flagged fl v ≡ f v) where
  gathered : (g : ℕ → List ℕ) → gather (length fl) (flagged fl) g ≡ gather (nodes I) f g
  gathered g = ap (λ (n : ℕ). gather n (flagged fl) g) long ∙ gather_ext (nodes I) _ _ g g same (λ v l. refl)

  pub rows-by : flagged_rows fl ≡ out_of I f
  unfolding flagged_rows out_of
  rows-by = gathered out_row

  count_by : length (listed (length fl) (flagged fl)) ≡ answers I f
  unfolding answers listed
  count_by = ap length (gathered (λ v. v ∷ []))

  pub reply-by : (o : List ℕ) → flagged_reply fl (length o) ≡ roomed I f (out_fits I f o)
  unfolding flagged_reply roomed out_fits
  reply-by o =
      rw (le-leb (length fl) 65536 (omega arith))
      (ap₂ (λ (t : List ℕ) (m : ℕ). totalled (cond (leb (length t) (length o)) accepted ROOM) m) rows-by count_by)

-- ---- no second outcome fits
pub count-flagged_unique : (fl : List ℕ) (r r' : ℕ) → r ≡ length (listed (length fl) (flagged fl)) → r' ≡ length (listed (length fl) (flagged fl)) → r ≡ r'
count-flagged_unique fl r r' = outcome_unique

pub listed_unique : (fl out : List ℕ) (r r' : Reply) (o o' : List ℕ) → Listed fl out r o → Listed fl out r' o' → (r ≡ r') × (o ≡ o')
listed_unique fl out r r' o o' a b = (a.reply ∙ sym b.reply, a.out ∙ sym b.out)
