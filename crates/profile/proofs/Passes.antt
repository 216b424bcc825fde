-- Bytes that only lead the machine on: they are noted in no memory and counted in no tally.
--   Silent s x s'    == the byte x is such a byte in the state s, and leads to s'
--   Passes s u s'    == so are the bytes u, from s to s', whatever follows: for `reads`, `read` and `check` alike
--   Likewise s s' u  == from s and from s' the row u is read to the same end
--   Stops s t e s'   == from s the row t goes on for as many bytes as e says, and comes to s' there if e is whole; else it breaks there
-- Letters: s states, x a byte, u t rows of bytes, j a place, m a memory, c a tally, e a stop; L N the limits. Assumes nothing.
use Prim.Native.Nat.{ℕ, suc, ◌+◌}
use mathlib.Core.Path.{◌≡◌, refl, sym, ap, ◌∙◌}
use mathlib.Core.List.{List, [], ◌∷◌, ◌++◌, append_assoc}
use mathlib.Core.Bool.{Bool, true, false, cond, ◌&&◌, false≢true}
use mathlib.Core.Option.{none, some}
use native.Mathlib.Omega.{arith}
use lib.ListN.{length, drop, length-append}
use lib.Seq.{drop-append-add}
use Rattle.profile.specs.Machine.{State, step, accepting}
use Rattle.profile.specs.Reader.{Memory, note, read}
use Rattle.profile.specs.Check.{Tally, meets, depth_after, solid_after, count, whole, broken, weighed, full, check}
use Rattle.profile.specs.Pieces.{Stop, stop, after}
use Rattle.profile.proofs.Placed.{reads}

-- ---- one byte
pub record Silent (s : State) (x : ℕ) (s' : State) : Type 0 where
  pub goes : step s x ≡ some s'
  pub notes : (j : ℕ) (m : Memory) → note s x j m ≡ m
  pub meeting : (b : Bool) → meets s x b ≡ false
  pub depth : (e : ℕ) → depth_after s x e ≡ e
  pub solid : (b : Bool) → solid_after s x b ≡ b

tally : ℕ → ℕ → Bool → Tally
tally a b c = record { met = a; depth = b; solid = c }

pub silent_count : (s s' : State) (x : ℕ) (c : Tally) → Silent s x s' → count s x c ≡ c
unfolding tally
silent_count s s' x c r =
    ap (λ b. tally (cond b (suc c.met) c.met) (depth_after s x c.depth) (solid_after s x c.solid)) (r.meeting c.solid) ∙
    ap (λ e. tally c.met e (solid_after s x c.solid)) (r.depth c.depth) ∙
    ap (λ b. tally c.met c.depth b) (r.solid c.solid)

-- One byte that meets no node over a limit.
pub check-goes : (L N j : ℕ) (s s' : State) (x : ℕ) (c : Tally) (t : List ℕ) → step s x ≡ some s' → (meets s x c.solid && full L N c) ≡ false →
    check L N j s c (x ∷ t) ≡ check L N (suc j) s' (count s x c) t
unfolding check
check-goes L N j s s' x c t e f =
    ap (λ o. weighed L N o (meets s x c.solid && full L N c) c.met j (λ z. check L N (suc j) z (count s x c) t)) e ∙
    ap (λ b. weighed L N (some s') b c.met j (λ z. check L N (suc j) z (count s x c) t)) f

check_silent : (L N j : ℕ) (s s' : State) (x : ℕ) (c : Tally) (t : List ℕ) → Silent s x s' → check L N j s c (x ∷ t) ≡ check L N (suc j) s' c t
check_silent L N j s s' x c t r =
    check-goes L N j s s' x c t r.goes (ap (λ b. b && full L N c) (r.meeting c.solid)) ∙
    ap (λ d. check L N (suc j) s' d t) (silent_count s s' x c r)

pub check_dead : (L N j : ℕ) (s : State) (x : ℕ) (c : Tally) (t : List ℕ) → step s x ≡ none → check L N j s c (x ∷ t) ≡ broken j
unfolding check
check_dead L N j s x c t e = ap (λ o. weighed L N o (meets s x c.solid && full L N c) c.met j (λ z. check L N (suc j) z (count s x c) t)) e

pub check-short : (L N j : ℕ) (s : State) (c : Tally) → accepting (some s) ≡ false → check L N j s c [] ≡ broken j
unfolding check
check-short L N j s c e = ap (λ b. cond b (whole c.met) (broken j)) e

pub read_goes : (j : ℕ) (s s' : State) (m m' : Memory) (x : ℕ) (t : List ℕ) → step s x ≡ some s' → note s x j m ≡ m' →
    read j (some s) m (x ∷ t) ≡ read (suc j) (some s') m' t
unfolding read
read_goes j s s' m m' x t e f = ap (λ o. read (suc j) o (note s x j m) t) e ∙ ap (λ l. read (suc j) (some s') l t) f

reads-goes : (place : List ℕ → ℕ) (s s' : State) (m m' : Memory) (x : ℕ) (t : List ℕ) → step s x ≡ some s' → note s x (place (x ∷ t)) m ≡ m' →
    reads place (some s) m (x ∷ t) ≡ reads place (some s') m' t
unfolding reads
reads-goes place s s' m m' x t e f = ap (λ o. reads place o (note s x (place (x ∷ t)) m) t) e ∙ ap (λ l. reads place (some s') l t) f

-- ---- any number of bytes
pub record Passes (s : State) (u : List ℕ) (s' : State) : Type 0 where
  pub placed : (place : List ℕ → ℕ) (m : Memory) (t : List ℕ) → reads place (some s) m (u ++ t) ≡ reads place (some s') m t
  pub reading : (j : ℕ) (m : Memory) (t : List ℕ) → read j (some s) m (u ++ t) ≡ read (j + length u) (some s') m t
  pub checking : (L N j : ℕ) (c : Tally) (t : List ℕ) → check L N j s c (u ++ t) ≡ check L N (j + length u) s' c t

pub passes-nil : (s : State) → Passes s [] s
passes-nil s =
    record {
      placed = λ place m t. refl;
      reading = λ j m t. ap (λ i. read i (some s) m t) (right_zero j);
      checking = λ L N j c t. ap (λ i. check L N i s c t) (right_zero j);
    }
  where
    right_zero : (j : ℕ) → j ≡ j + 0
    right_zero j = omega arith

pub passes-cons : (s s₁ s' : State) (x : ℕ) (u : List ℕ) → Silent s x s₁ → Passes s₁ u s' → Passes s (x ∷ u) s'
passes-cons s s₁ s' x u r p =
    record {
      placed = λ place m t. reads-goes place s s₁ m m x (u ++ t) r.goes (r.notes (place (x ∷ (u ++ t))) m) ∙ p.placed place m t;
      reading = λ j m t. read_goes j s s₁ m m x (u ++ t) r.goes (r.notes j m) ∙ p.reading (suc j) m t ∙ ap (λ i. read i (some s') m t) (shifted j);
      checking = λ L N j c t. check_silent L N j s s₁ x c (u ++ t) r ∙ p.checking L N (suc j) c t ∙ ap (λ i. check L N i s' c t) (shifted j);
    }
  where
    shifted : (j : ℕ) → suc j + length u ≡ j + suc (length u)
    shifted j = omega arith

pub passes-one : (s s' : State) (x : ℕ) → Silent s x s' → Passes s (x ∷ []) s'
passes-one s s' x r = passes-cons s s' s' x [] r (passes-nil s')

pub passes_append : (s s₁ s' : State) (u v : List ℕ) → Passes s u s₁ → Passes s₁ v s' → Passes s (u ++ v) s'
passes_append s s₁ s' u v p q =
    record {
      placed = λ place m t. ap (λ l. reads place (some s) m l) (append_assoc u v t) ∙ p.placed place m (v ++ t) ∙ q.placed place m t;
      reading = λ j m t.
          ap (λ l. read j (some s) m l) (append_assoc u v t) ∙ p.reading j m (v ++ t) ∙ q.reading (j + length u) m t ∙
          ap (λ i. read i (some s') m t) (summed j);
      checking = λ L N j c t.
          ap (λ l. check L N j s c l) (append_assoc u v t) ∙ p.checking L N j c (v ++ t) ∙ q.checking L N (j + length u) c t ∙
          ap (λ i. check L N i s' c t) (summed j);
    }
  where
    summed : (j : ℕ) → j + length u + length v ≡ j + length (u ++ v)
    summed j = omega (arith, length-append u v)

-- ---- two states that go on alike
pub record Likewise (s s' : State) (u : List ℕ) : Type 0 where
  pub placed : (place : List ℕ → ℕ) (m : Memory) → reads place (some s) m u ≡ reads place (some s') m u
  pub reading : (j : ℕ) (m : Memory) → read j (some s) m u ≡ read j (some s') m u
  pub checking : (L N j : ℕ) (c : Tally) → check L N j s c u ≡ check L N j s' c u

-- ---- how far a row goes on
pub record Stops (s : State) (t : List ℕ) (e : Stop) (s' : State) : Type 0 where
  pub reading : e.whole ≡ true → (j : ℕ) (m : Memory) → read j (some s) m t ≡ read (j + e.size) (some s') m (drop e.size t)
  pub checking : (L N j : ℕ) (c : Tally) →
      check L N j s c t ≡ cond e.whole (check L N (j + e.size) s' c (drop e.size t)) (broken (j + e.size))

right_zero : (j : ℕ) → j + 0 ≡ j
right_zero j = omega arith

pub stops-here : (s : State) (t : List ℕ) → Stops s t (stop 0 true) s
stops-here s t =
    record { reading = λ h j m. ap (λ i. read i (some s) m t) (sym (right_zero j)); checking = λ L N j c. ap (λ i. check L N i s c t) (sym (right_zero j)) }

pub stops_dead : (s s' : State) (x : ℕ) (t : List ℕ) → step s x ≡ none → Stops s (x ∷ t) (stop 0 false) s'
stops_dead s s' x t e =
    record { reading = λ h j m. absurd (false≢true h); checking = λ L N j c. check_dead L N j s x c t e ∙ ap broken (sym (right_zero j)) }

pub stops-short : (s s' : State) → accepting (some s) ≡ false → Stops s [] (stop 0 false) s'
stops-short s s' e =
    record { reading = λ h j m. absurd (false≢true h); checking = λ L N j c. check-short L N j s c e ∙ ap broken (sym (right_zero j)) }

pub stops_likewise : (s s₁ s' : State) (t : List ℕ) (e : Stop) → Likewise s s₁ t → Stops s₁ t e s' → Stops s t e s'
stops_likewise s s₁ s' t e a r =
    record { reading = λ h j m. a.reading j m ∙ r.reading h j m; checking = λ L N j c. a.checking L N j c ∙ r.checking L N j c }

-- The bytes u first.
pub stops-after : (s s₁ s' : State) (u t : List ℕ) (e : Stop) → Passes s u s₁ → Stops s₁ t e s' → Stops s (u ++ t) (after (length u) e) s'
stops-after s s₁ s' u t e p r =
    record {
      reading = λ h j m.
          p.reading j m t ∙ r.reading h (j + length u) m ∙ ap (λ i. read i (some s') m (drop e.size t)) (summed j) ∙
          ap (λ l. read (j + (length u + e.size)) (some s') m l) (sym dropped);
      checking = λ L N j c.
          p.checking L N j c t ∙ r.checking L N (j + length u) c ∙
          ap (λ i. cond e.whole (check L N i s' c (drop e.size t)) (broken i)) (summed j) ∙
          ap (λ l. cond e.whole (check L N (j + (length u + e.size)) s' c l) (broken (j + (length u + e.size)))) (sym dropped);
    }
  where
    summed : (j : ℕ) → j + length u + e.size ≡ j + (length u + e.size)
    summed j = omega arith

    dropped : drop (length u + e.size) (u ++ t) ≡ drop e.size t
    dropped = drop-append-add u t e.size
