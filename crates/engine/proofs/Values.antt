-- The last steps of the functions by value: what they give is what the definitions say. Assumes nothing.
-- Letters: k words; e, b entries; h, l counts.
use Prim.Native.Nat.{ℕ}
use mathlib.Core.Path.{◌≡◌, sym, ◌∙◌}
use mathlib.Core.List.{List}
use mathlib.Core.Bool.{Bool, true, false}
use lib.Dec.{eqb}
use lib.ListN.{get_or}
use Rattle.engine.specs.declared.Entry.{Entry}
use Rattle.engine.specs.Inner.Entries.{sums, each_some, full_entry, answering, closed_into}

-- ---- closing into an entry
module _ (b : Entry) (full : Bool) (h l : List ℕ) where
  pub closed-full : full ≡ true → l ≡ sums b.covered h → record { node = b.node; own = b.own; covered = l } ≡ closed_into b full h
  unfolding closed_into
  closed-full q e = rw (q, e)

  pub closed-other : full ≡ false → l ≡ sums b.own h → record { node = b.node; own = l; covered = b.covered } ≡ closed_into b full h
  unfolding closed_into
  closed-other q e = rw (q, e)

-- ---- whether an entry is an answer
module _ (e : Entry) (full : Bool) (k : ℕ) (smallest : Bool) where
  pub answers-smallest : smallest ≡ true → full ≡ full_entry k e → full ≡ true → eqb (get_or e.covered 0 0) 0 ≡ answering smallest k e
  unfolding answering
  answers-smallest s f q = rw (s, sym f ∙ q)

  pub answers-not-full : smallest ≡ true → full ≡ full_entry k e → full ≡ false → false ≡ answering smallest k e
  unfolding answering
  answers-not-full s f q = rw (s, sym f ∙ q)

  pub answers-own : (r : Bool) → smallest ≡ false → r ≡ each_some k e.own → r ≡ answering smallest k e
  unfolding answering
  answers-own r s q = rw s q
