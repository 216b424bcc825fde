-- Laws of front, Wrote and Adds: buffers that are written from the front, as far as there is room. Assumes nothing.
--   front-over, front_fits     what fits is written over the front
--   wrote_start, adds-nil      nothing is written yet, nothing is added
--   adds-push, adds-full       one entry more, where there is room and where there is none
--   adds-append                one addition after the other
--   adds-all                   what has been added to a buffer from its start is at its front
--   take_min                   the first n entries of a list: all where it has fewer
--   adds_unique, written_unique   no second outcome fits
use Prim.Native.Nat.{ℕ, suc, min, ◌+◌, ◌≤◌, ◌<◌}
use mathlib.Core.Path.{◌≡◌, refl, sym, ap, ap₂, ◌∙◌}
use mathlib.Core.List.{List, [], ◌∷◌, ◌++◌, append-nil, append_assoc}
use mathlib.Core.Logic.{⊎_elim}
use native.Mathlib.Nat.{not-le_of_lt, not-suc-le-zero, le_of_suc-le-suc}
use native.Mathlib.Omega.{arith}
use lib.ListN.{drop_of_length-le, length-take, length, set, take, drop, length-append, take-append-drop}
use lib.Seq.{take_all, take-nil, drop-nil, take_at, length-take-le}
use Rattle.seq.specs.Memory.{over}
use Rattle.seq.proofs.Laws.Numbers.{less_or}
use Rattle.text.specs.Buffers.{front, Wrote, Adds}

pub take_min : {A : Type 0} (n k : ℕ) (l : List A) → k ≡ min n (length l) → take k l ≡ take n l
take_min {A} n k l e = ⊎_elim (λ (q : n < length l). ap (λ (i : ℕ). take i l) (short q)) (λ (q : length l ≤ n). take_all k l (omega arith) ∙ sym (take_all n l q)) (less_or n (length l))
  where
    short : n < length l → k ≡ n
    short q = omega arith

-- Of w what fits is written over the front.
pub front-over : (w o : List ℕ) → front w o ≡ over (take (length o) w) o
unfolding front over
front-over w o = ap (λ (t : List ℕ). take (length o) w ++ t) (⊎_elim cut all (less_or (length o) (length w)))
  where
    cut : length o < length w → drop (length w) o ≡ drop (length (take (length o) w)) o
    cut h = drop_of_length-le o {i = length w} (omega arith) ∙ sym (drop_of_length-le o {i = length (take (length o) w)} (omega (arith, length-take (length o) w)))

    all : length w ≤ length o → drop (length w) o ≡ drop (length (take (length o) w)) o
    all h = ap (λ (t : List ℕ). drop (length t) o) (sym (take_all (length o) w h))

pub front_fits : (w o : List ℕ) → length w ≤ length o → front w o ≡ over w o
unfolding front over
front_fits w o l = ap (λ (t : List ℕ). t ++ drop (length w) o) (take_all (length o) w l)

module _ {A : Type 0} where
  pub front-nil : (o : List A) → front [] o ≡ o
  unfolding front
  front-nil o = ap (λ (t : List A). t ++ o) (take-nil (length o))

  pub length_front : (w o : List A) → length (front w o) ≡ length o
  unfolding front
  length_front [] o = ap length (front-nil o)
  length_front (x ∷ w) [] = refl
  length_front (x ∷ w) (y ∷ o) = ap suc (length_front w o)

  -- What fits can be read back.
  pub front-take : (w o : List A) → length w ≤ length o → take (length w) (front w o) ≡ w
  unfolding front
  front-take w o l = ap (λ (t : List A). take (length w) (t ++ drop (length w) o)) (take_all (length o) w l) ∙ take_at w (drop (length w) o) (length w) refl

  -- One entry more, behind what is written already.
  front_snoc : (w o : List A) (x : A) → length w < length o → set (front w o) (length w) x ≡ front (w ++ (x ∷ [])) o
  unfolding front
  front_snoc w [] x l = absurd (not-suc-le-zero l)
  front_snoc [] (y ∷ o) x l = ap (λ (t : List A). set t 0 x) (front-nil (y ∷ o)) ∙ ap (λ (t : List A). x ∷ (t ++ o)) (sym (take-nil (length o)))
  front_snoc (z ∷ w) (y ∷ o) x l = ap (λ (t : List A). z ∷ t) (front_snoc w o x (le_of_suc-le-suc l))

  -- Where it is full, nothing more is written.
  front_full : (w o : List A) (x : A) → length o ≤ length w → front w o ≡ front (w ++ (x ∷ [])) o
  unfolding front
  front_full w [] x l = drop-nil (length w) ∙ sym (drop-nil (length (w ++ (x ∷ []))))
  front_full [] (y ∷ o) x l = absurd (not-suc-le-zero l)
  front_full (z ∷ w) (y ∷ o) x l = ap (λ (t : List A). z ∷ t) (front_full w o x (le_of_suc-le-suc l))

  pub wrote_start : (o : List A) → Wrote [] o o 0
  wrote_start o = record { holds = sym (front-nil o); next = omega arith }

  module _ (w o out : List A) (at : ℕ) (s : Wrote w o out at) where
    pub wrote_length : length out ≡ length o
    wrote_length = ap length s.holds ∙ length_front w o

    wrote_push : (x : A) → at < length out → Wrote (w ++ (x ∷ [])) o (set out at x) (at + 1)
    wrote_push x l = record {
      holds = ap₂ (λ (t : List A) (i : ℕ). set t i x) s.holds here ∙ front_snoc w o x short;
      next = omega (arith, more, short, here);
    }
      where
        more : length (w ++ (x ∷ [])) ≡ length w + 1
        more = length-append w (x ∷ [])

        short : length w < length o
        short = omega (arith, s.next, wrote_length)

        here : at ≡ length w
        here = omega (arith, s.next, short)

    wrote_full : (x : A) → length out ≤ at → Wrote (w ++ (x ∷ [])) o out at
    wrote_full x l = record {
      holds = s.holds ∙ front_full w o x (omega (arith, s.next, wrote_length));
      next = omega (arith, s.next, wrote_length, length-append w (x ∷ []));
    }

  -- ---- additions
  pub adds-nil : (out : List A) (at : ℕ) → Adds [] out at out at
  adds-nil out at = record { adds = λ w o s. rw (append-nil w) s; past_out = λ h. refl; past_next = λ h. refl }

  pub adds-push : (out : List A) (at : ℕ) (x : A) → at < length out → Adds (x ∷ []) out at (set out at x) (at + 1)
  adds-push out at x l = record {
    adds = λ w o s. wrote_push w o out at s x l;
    past_out = λ h. absurd (not-le_of_lt h (omega arith));
    past_next = λ h. absurd (not-le_of_lt h (omega arith));
  }

  pub adds-full : (out : List A) (at : ℕ) (x : A) → length out ≤ at → Adds (x ∷ []) out at out at
  adds-full out at x l = record { adds = λ w o s. wrote_full w o out at s x l; past_out = λ h. refl; past_next = λ h. refl }

  pub adds-append : (s t a b c : List A) (i j k : ℕ) → Adds s a i b j → Adds t b j c k → Adds (s ++ t) a i c k
  adds-append s t a b c i j k f g = record {
    adds = λ w o h. rw append_assoc at (g.adds (w ++ s) o (f.adds w o h));
    past_out = λ h. g.past_out (further h) ∙ f.past_out h;
    past_next = λ h. g.past_next (further h) ∙ f.past_next h;
  }
    where
      further : length a < i → length b < j
      further h = omega (arith, f.past_next h, ap length (f.past_out h))

  pub adds_same : (s t a b : List A) (i j : ℕ) → s ≡ t → Adds s a i b j → Adds t a i b j
  adds_same s t a b i j e h = rw e at h

  pub adds-all : (t o out : List A) (r : ℕ) → Adds t o 0 out r → Wrote t o out r
  adds-all t o out r h = h.adds [] o (wrote_start o)

  -- Where the place is within the buffer, this is what stands in it.
  pub adds-within : (t out : List A) (at : ℕ) (out' : List A) (r : ℕ) → at ≤ length out → Adds t out at out' r → Wrote (take at out ++ t) out out' r
  unfolding front
  adds-within t out at out' r l h = h.adds (take at out) out (record {
    holds = sym (ap₂ (λ (s : List A) (k : ℕ). s ++ drop k out) (take_all (length out) (take at out) (omega (arith, size))) size ∙ take-append-drop at out);
    next = omega (arith, size);
  })
    where
      size : length (take at out) ≡ at
      size = length-take-le at out l

-- No second outcome fits.
pub record Same {A : Type 0} (a b : List A) (r s : ℕ) : Type 0 where
  pub buffer : a ≡ b
  pub next : r ≡ s

pub adds_unique : {A : Type 0} (t out : List A) (at : ℕ) (a b : List A) (r s : ℕ) → Adds t out at a r → Adds t out at b s → Same a b r s
adds_unique {A} t out at a b r s f g =
    ⊎_elim (λ h. record { buffer = f.past_out h ∙ sym (g.past_out h); next = f.past_next h ∙ sym (g.past_next h) })
    (λ h. let x : Wrote (take at out ++ t) out a r = adds-within t out at a r h f in
    let y : Wrote (take at out ++ t) out b s = adds-within t out at b s h g in
    record { buffer = x.holds ∙ sym y.holds; next = x.next ∙ sym y.next }) (less_or (length out) at)

-- What has been added to a buffer that has room for it: its length is the next place, and it can be read back.
module _ {A : Type 0} (t o out : List A) (r : ℕ) (l : length t ≤ length o) (h : Adds t o 0 out r) where
  pub adds-next : r ≡ length t
  adds-next = omega (arith, (adds-all t o out r h).next)

  pub adds-read : take r out ≡ t
  adds-read = ap₂ take adds-next (adds-all t o out r h).holds ∙ front-take t o l

pub written_unique : {A : Type 0} (at : ℕ) (out r s : List A) → r ≡ take at out → s ≡ take at out → r ≡ s
written_unique at out r s f g = f ∙ sym g
