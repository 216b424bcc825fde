-- Judging a node that is closed: what `judge` gives is what the definitions say. Assumes nothing.
-- Letters: k words; s state, e the entry that is closed, m the answers counted or left; o, w out and own as lent, o', w' as they are then.
use Prim.Native.Nat.{ℕ, ◌+◌, ◌-◌}
use mathlib.Core.Path.{◌≡◌, refl}
use mathlib.Core.List.{List}
use mathlib.Core.Bool.{true, false}
use Rattle.engine.specs.declared.Entry.{Entry}
use Rattle.engine.specs.declared.steps.State.{State}
use Rattle.engine.specs.declared.steps.Tally.TheVariants.{Counted, Left}
use Rattle.engine.specs.Inner.Entries.{answering}
use Rattle.engine.specs.Inner.Steps.{left_after, out_after, own_after}
use Rattle.engine.specs.Inner.Writing.{Put, Judged}

module _ (k : ℕ) (o w : List ℕ) (s : State) (e : Entry) where
  pub judged-none : answering s.smallest k e ≡ false → Judged k o w s e s.tally o w
  unfolding left_after out_after own_after
  judged-none q = record { result = rw q refl; fill = refl; out = rw q refl; own = rw q refl }

  module _ (q : answering s.smallest k e ≡ true) (m : ℕ) where
    pub judged-counted : s.tally ≡ Counted m → Judged k o w s e (Counted (m + 1)) o w
    unfolding left_after out_after own_after
    judged-counted f = record { result = rw (q, f) refl; fill = rw f refl; out = rw (q, f) refl; own = rw (q, f) refl }

    pub judged-written : s.tally ≡ Left m → (o' w' : List ℕ) → Put e k (m - 1) s.smallest o w o' w' → Judged k o w s e (Left (m - 1)) o' w'
    unfolding left_after out_after own_after
    judged-written f o' w' h = record { result = rw (q, f) refl; fill = rw f refl; out = rw (q, f) h.out; own = rw (q, f) h.own }
