-- What the loops over the flags know, and how a turn keeps it. Assumes nothing.
--   CountedTo    m of the nodes below v are flagged
--   Written    and they are written over the front of out
-- Letters: fl flags, v node, m nodes so far.
use Prim.Native.Nat.{ℕ, zero-le, ◌+◌, ◌≤◌, ◌<◌}
use mathlib.Core.Path.{◌≡◌, refl, sym, ap, ap₂, ◌∙◌, subst}
use mathlib.Core.List.{List, [], ◌∷◌, ◌++◌}
use mathlib.Core.Bool.{Bool, true, false}
use native.Mathlib.Nat.{le_antisymm}
use native.Mathlib.Omega.{arith}
use borrow.Author.Tests.{eq-eqb, ne_eqb, eqb-true, eqb-false}
use lib.Dec.{eqb}
use lib.ListN.{length, get_or, set, length-set, length-append}
use mir.Val.{bool_byte}
use Rattle.seq.specs.Below.{gather, listed}
use Rattle.seq.specs.Memory.{over}
use Rattle.seq.proofs.Laws.Gather.{gather-zero, gather-yes, gather_no, gather_le}
use Rattle.seq.proofs.Laws.Memory.{over-nil, over_snoc}
use Rattle.answers.specs.Searches.{out_row}
use Rattle.listing.specs.Listing.{flagged, flagged_rows}
use Rattle.listing.specs.Inner.{WritePre}

-- What is written for the nodes below v.
abbrev pub rows_to : List ℕ → ℕ → List ℕ
rows_to fl v = gather v (flagged fl) out_row

module _ (fl : List ℕ) (v : ℕ) where
  rows-yes : get_or fl v 0 ≡ 1 → rows_to fl (v + 1) ≡ rows_to fl v ++ (v ∷ [])
  unfolding flagged
  rows-yes e = gather-yes v (flagged fl) out_row (eq-eqb (get_or fl v 0) 1 e)

  rows_no : (get_or fl v 0 ≡ 1 → ⊥) → rows_to fl (v + 1) ≡ rows_to fl v
  unfolding flagged
  rows_no ne = gather_no v (flagged fl) out_row (ne_eqb (get_or fl v 0) 1 ne)

-- ---- counting
pub record CountedTo (fl : List ℕ) (v m : ℕ) : Type 0 where
  pub within : v ≤ length fl
  pub so_far : m ≡ length (rows_to fl v)
  pub small : m ≤ v

pub counted_start : (fl : List ℕ) → CountedTo fl 0 0
counted_start fl = record { within = zero-le; so_far = sym (ap length (gather-zero (flagged fl) out_row)); small = zero-le }

pub counted-yes : (fl : List ℕ) (v m : ℕ) → CountedTo fl v m → v < length fl → get_or fl v 0 ≡ 1 → CountedTo fl (v + 1) (m + 1)
counted-yes fl v m s l e = record {
  within = omega arith;
  so_far = omega (arith, s.so_far, ap length (rows-yes fl v e), length-append (rows_to fl v) (v ∷ []));
  small = omega (arith, s.small);
}

pub counted_no : (fl : List ℕ) (v m : ℕ) → CountedTo fl v m → v < length fl → (get_or fl v 0 ≡ 1 → ⊥) → CountedTo fl (v + 1) m
counted_no fl v m s l ne = record { within = omega arith; so_far = s.so_far ∙ sym (ap length (rows_no fl v ne)); small = omega (arith, s.small) }

-- One flag more, whichever it is.
pub counted-turn : (fl : List ℕ) (v m : ℕ) → CountedTo fl v m → v < length fl → (r : ℕ) → r ≡ bool_byte (eqb (get_or fl v 0) 1) → CountedTo fl (v + 1) (m + r)
counted-turn fl v m s l r e = subst (λ (z : ℕ). CountedTo fl (v + 1) (m + z)) (sym e) (by (eqb (get_or fl v 0) 1) refl)
  where
    by : (b : Bool) → eqb (get_or fl v 0) 1 ≡ b → CountedTo fl (v + 1) (m + bool_byte b)
    by true q = counted-yes fl v m s l (eqb-true (get_or fl v 0) 1 q)
    by false q =
        let all : m ≡ m + 0 = omega arith in
        subst (λ (z : ℕ). CountedTo fl (v + 1) z) all (counted_no fl v m s l (eqb-false (get_or fl v 0) 1 q))

pub counted-end : (fl : List ℕ) (v m : ℕ) → CountedTo fl v m → length fl ≤ v → m ≡ length (listed (length fl) (flagged fl))
unfolding listed
counted-end fl v m s l = s.so_far ∙ ap (λ (z : ℕ). length (rows_to fl z)) (le_antisymm s.within l)

-- ---- writing
pub record Written (fl out₀ out : List ℕ) (v m : ℕ) : Type 0 where
  pub counted : CountedTo fl v m
  pub front : out ≡ over (rows_to fl v) out₀
  pub long : length out ≡ length out₀

pub written_start : (fl out : List ℕ) → Written fl out out 0 0
written_start fl out = record {
  counted = counted_start fl;
  front = sym (ap (λ (z : List ℕ). over z out) (gather-zero (flagged fl) out_row) ∙ over-nil out);
  long = refl;
}

module _ (fl out₀ out : List ℕ) (v m : ℕ) (pre : WritePre fl out₀) (s : Written fl out₀ out v m) (l : v < length fl) where
  pub written-fits : get_or fl v 0 ≡ 1 → m < length out
  unfolding flagged_rows
  written-fits e =
      omega (arith, s.long, s.counted.so_far, pre.room, gather_le (v + 1) (length fl) (flagged fl) out_row (omega arith), ap length (rows-yes fl v e), length-append (rows_to fl v) (v ∷ []))

  pub written-yes : get_or fl v 0 ≡ 1 → Written fl out₀ (set out m v) (v + 1) (m + 1)
  written-yes e = record {
    counted = counted-yes fl v m s.counted l e;
    front =
        ap₂ (λ (o : List ℕ) (i : ℕ). set o i v) s.front s.counted.so_far
        ∙ over_snoc (rows_to fl v) out₀ v (omega (arith, written-fits e, s.long, s.counted.so_far)) ∙ ap (λ (z : List ℕ). over z out₀) (sym (rows-yes fl v e));
    long = length-set out m v ∙ s.long;
  }

  pub written_no : (get_or fl v 0 ≡ 1 → ⊥) → Written fl out₀ out (v + 1) m
  written_no ne = record {
    counted = counted_no fl v m s.counted l ne;
    front = s.front ∙ ap (λ (z : List ℕ). over z out₀) (sym (rows_no fl v ne));
    long = s.long;
  }

pub written-end : (fl out₀ out : List ℕ) (v m : ℕ) → Written fl out₀ out v m → length fl ≤ v → out ≡ over (flagged_rows fl) out₀
unfolding flagged_rows
written-end fl out₀ out v m s l = s.front ∙ ap (λ (z : ℕ). over (rows_to fl z) out₀) (le_antisymm s.counted.within l)
