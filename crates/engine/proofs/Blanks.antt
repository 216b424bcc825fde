-- Zeroing the front of the stack, entry by entry.
--   blanked-zero, blanked-suc   none, and one more
--   blanked-long                the stack stays as long as it was
--   blanked-at, blanked-rest    entry by entry
--   blanked-same                what is zeroed does not count
--   blanking_step, blanking_end   a turn of the loop of `clear`, and its end
-- Letters: ys stack, m entries to zero, i entries that are. Assumes nothing.
use Prim.Native.Nat.{ℕ, zero, suc, ◌+◌, ◌-◌, ◌≤◌, ◌<◌}
use mathlib.Core.Path.{◌≡◌, refl, sym, ap, ◌∙◌}
use mathlib.Core.Logic.{⊎_elim}
use mathlib.Core.List.{List, [], ◌∷◌, ◌++◌, append-nil}
use native.Mathlib.Nat.{not-suc-le-zero, le_of_suc-le-suc}
use native.Mathlib.Numerals.{add-one}
use native.Mathlib.Omega.{arith}
use lib.ListN.{length, get_or, set, take, drop, replicate, drop_of_length-le, length-append, length-drop, length-replicate, get_or-replicate, get_or-append}
use lib.Seq.{get_or-append-add, get_or-drop, ext_get_or}
use Rattle.std.proofs.lemmas.List.{length-take-le}
use Rattle.seq.proofs.Laws.Numbers.{less_or}
use Rattle.engine.specs.declared.Entry.{Entry}
use Rattle.engine.specs.Search.{blank, blanked}
use Rattle.engine.specs.Inner.Entries.{fresh}

pub blanked-zero : (ys : List Entry) → blanked 0 ys ≡ ys
unfolding blanked
blanked-zero ys = refl

set_front : (m : ℕ) (ys : List Entry) → m < length ys → set (replicate m blank ++ drop m ys) m blank ≡ replicate (suc m) blank ++ drop (suc m) ys
set_front m [] l = absurd (not-suc-le-zero l)
set_front zero (y ∷ ys) l = refl
set_front (suc m) (y ∷ ys) l = ap (λ (t : List Entry). blank ∷ t) (set_front m ys (le_of_suc-le-suc l))

pub blanked-suc : (m : ℕ) (ys : List Entry) → m < length ys → set (blanked m ys) m blank ≡ blanked (m + 1) ys
unfolding blanked
blanked-suc m ys l = rw add-one (set_front m ys l)

pub blanked-long : (m : ℕ) (ys : List Entry) → m ≤ length ys → length (blanked m ys) ≡ length ys
unfolding blanked
blanked-long m ys l = omega (arith, length-append (replicate m blank) (drop m ys), length-replicate m blank, length-drop m ys)

pub blanked-at : (m : ℕ) (ys : List Entry) (d : Entry) (i : ℕ) → i < m → get_or (blanked m ys) i d ≡ blank
unfolding blanked
blanked-at m ys d i l = get_or-append (replicate m blank) (drop m ys) d i (omega (arith, length-replicate m blank)) ∙ get_or-replicate m i blank d l

pub blanked-rest : (m : ℕ) (ys : List Entry) (d : Entry) (i : ℕ) → m ≤ i → get_or (blanked m ys) i d ≡ get_or ys i d
unfolding blanked
blanked-rest m ys d i l =
    ap (λ (k : ℕ). get_or (replicate m blank ++ drop m ys) k d) split ∙ get_or-append-add (replicate m blank) (drop m ys) (i - m) d ∙ get_or-drop m ys (i - m) d ∙ ap (λ (k : ℕ). get_or ys k d) back
  where
    split : i ≡ length (replicate m blank) + (i - m)
    split = omega (arith, length-replicate m blank)

    back : m + (i - m) ≡ i
    back = omega arith

-- Stacks that are the same from m on.
pub blanked-same : (m : ℕ) (ys zs : List Entry) (d : Entry) → m ≤ length ys → length zs ≡ length ys → ((i : ℕ) → m ≤ i → get_or zs i d ≡ get_or ys i d) → blanked m zs ≡ blanked m ys
blanked-same m ys zs d l e same =
    ext_get_or d (blanked m zs) (blanked m ys) (blanked-long m zs (omega arith) ∙ e ∙ sym (blanked-long m ys l))
    (λ i _. ⊎_elim (λ q. blanked-at m zs d i q ∙ sym (blanked-at m ys d i q)) (λ q. blanked-rest m zs d i q ∙ same i q ∙ sym (blanked-rest m ys d i q)) (less_or i m))

-- ---- the loop, which goes over the first m entries
module _ (m : ℕ) (ys : List Entry) (enough : m ≤ length ys) where
  long-front : length (take m ys) ≡ m
  long-front = length-take-le m ys enough

  blank-fresh : fresh 0 ≡ blank
  unfolding blank fresh
  blank-fresh = refl

  -- A turn that stores an entry with nothing counted.
  pub blanking_step : (i : ℕ) (l : List Entry) (e : Entry) → e ≡ fresh 0 → i < length (take m ys) → l ≡ blanked i (take m ys) → set l i e ≡ blanked (i + 1) (take m ys)
  blanking_step i l e z s w = rw (z, blank-fresh, w) (blanked-suc i (take m ys) s)

  pub blanking_end : (i : ℕ) (l : List Entry) → l ≡ blanked i (take m ys) → i ≤ length (take m ys) → length (take m ys) ≤ i → l ++ drop m ys ≡ blanked m ys
  unfolding blanked
  blanking_end i l w a b =
      ap (λ (z : List Entry). z ++ drop m ys) (w ∙ ap (λ (z : ℕ). replicate z blank ++ drop z (take m ys)) same ∙ ap (λ (z : List Entry). replicate m blank ++ z) (drop_of_length-le (take m ys) {i = m} (omega (arith, long-front))) ∙ append-nil (replicate m blank))
    where
      same : i ≡ m
      same = omega (arith, long-front)
