-- How far the machine goes on in comments, in the fixed bytes of an end tag's name, and in tags.
--   stops_if, stops-cons      a stop that is one of two; one byte more in front
--   comment-stops             a comment, after its `<`
--   expect-stops              fixed bytes
--   Reaches s t k s'          == from s the reader comes to s' after k bytes of t, or t ends before
--   tag_reaches               the name of a tag and its white space
--   end_tag_reaches            the white space of an end tag
-- Letters as in specs/Pieces and proofs/Passes. Assumes nothing.
use Prim.Native.Nat.{ℕ, zero, suc, ◌+◌}
use mathlib.Core.Path.{◌≡◌, refl, sym, ap, subst, ◌∙◌}
use mathlib.Core.Logic.{⊎_elim}
use mathlib.Core.List.{List, [], ◌∷◌, ◌++◌}
use mathlib.Core.Bool.{Bool, true, false, cond}
use mathlib.Core.Option.{some}
use native.Mathlib.Omega.{arith}
use lib.Dec.{eqb}
use lib.ListN.{length, take, drop, take-append-drop}
use lib.Seq.{length-take-le, drop-drop}
use borrow.Author.Tests.{eqb-true, eqb-false, eq-eqb, ne_eqb}
use Rattle.seq.specs.Lists.{every_of}
use Rattle.seq.proofs.Laws.Bools.{bool_cases, and_both}
use Rattle.profile.specs.Bytes.{'!', '-', '>', char, white, name_start, name_char, is_name}
use Rattle.profile.specs.Spans.{span, common}
use Rattle.profile.specs.Machine.{Place, b0, State, between, angle, in_comment, in_name, in_tag, in_end_tag, owing, expect, step_comment, step, accepting}
use Rattle.profile.specs.Reader.{Memory, read}
use Rattle.profile.specs.Check.{Tally, check}
use Rattle.profile.specs.Pieces.{Stop, stop, after, close_stop, body_stop, comment_stop}
use Rattle.profile.proofs.Passes.{Silent, Passes, passes-one, Stops, stops-here, stops_dead, stops-short, stops-after, check-short}
use Rattle.profile.proofs.Pieces.{Enters, owed_silent, loop-passes, tag-white, name-stops, named, end_tag_white, comment_bang, comment_dashed, comment-closing, comment-goes}
use Rattle.profile.proofs.Laws.Spans.{span_le, span-keeps}
use Rattle.profile.proofs.Laws.Heads.{span-next}

-- ---- parts of a stop
pub stops_if : (s s' : State) (t : List ℕ) (b : Bool) (e f : Stop) → (b ≡ true → Stops s t e s') → (b ≡ false → Stops s t f s') → Stops s t (cond b e f) s'
stops_if s s' t true e f g h = g refl
stops_if s s' t false e f g h = h refl

pub stops-cons : (s s₁ s' : State) (x : ℕ) (t : List ℕ) (e : Stop) → Silent s x s₁ → Stops s₁ t e s' → Stops s (x ∷ t) (after 1 e) s'
stops-cons s s₁ s' x t e r p = stops-after s s₁ s' (x ∷ []) t e (passes-one s s₁ x r) p

-- ---- fixed bytes
after-cond : (b : Bool) (n c : ℕ) (e : Stop) → after 1 (cond b (after n e) (stop c false)) ≡ cond b (after (suc n) e) (stop (suc c) false)
after-cond true n c e = ap (λ z. stop z e.whole) longer
  where
    longer : 1 + (n + e.size) ≡ suc n + e.size
    longer = omega arith
after-cond false n c e = ap (λ z. stop z false) longer
  where
    longer : 1 + c ≡ suc c
    longer = omega arith

pub eqb-suc : (a b : ℕ) → eqb a b ≡ eqb (suc a) (suc b)
eqb-suc a b =
    ⊎_elim
    (λ q. q ∙ sym (eq-eqb (suc a) (suc b) (ap suc (eqb-true a b q))))
    (λ q. q ∙ sym (ne_eqb (suc a) (suc b) λ e. eqb-false a b q (omega arith)))
    (bool_cases (eqb a b))

-- No byte of some that must come.
none_of : (s s' : State) (t : List ℕ) (n : ℕ) (e : Stop) → Stops s t (stop 0 false) s' → Stops s t (cond (eqb 0 (suc n)) e (stop 0 false)) s'
none_of s s' t n e r = subst (λ b. Stops s t (cond b e (stop 0 false)) s') (sym (ne_eqb 0 (suc n) λ q. omega arith)) r

pub after-zero : (e : Stop) → e ≡ after 0 e
after-zero e = ap (λ z. stop z e.whole) none
  where
    none : e.size ≡ 0 + e.size
    none = omega arith

pub expect-stops : (w : List ℕ) (s s' : State) (t : List ℕ) (e : Stop) → Stops s (drop (length w) t) e s' →
    Stops (expect false w s) t (cond (eqb (common w t) (length w)) (after (length w) e) (stop (common w t) false)) s'
unfolding common
expect-stops [] s s' t e r = subst (λ a. Stops s t a s') (after-zero e) r
expect-stops (y ∷ w) s s' [] e r =
    none_of (owing false y w s) s' [] (length w) (after (suc (length w)) e) (stops-short (owing false y w s) s' (unfold accepting in refl))
expect-stops (y ∷ w) s s' (x ∷ t) e r = by_byte (eqb x y) refl (expect-stops w s s' t e r)
  where
    by_byte : (b : Bool) → eqb x y ≡ b →
        Stops (expect false w s) t (cond (eqb (common w t) (length w)) (after (length w) e) (stop (common w t) false)) s' →
        Stops (owing false y w s) (x ∷ t)
        (cond (eqb (cond b (suc (common w t)) 0) (suc (length w))) (after (suc (length w)) e) (stop (cond b (suc (common w t)) 0) false)) s'
    by_byte true q r =
        subst (λ a. Stops (owing false y w s) (x ∷ t) a s')
        (after-cond (eqb (common w t) (length w)) (length w) (common w t) e ∙
        ap (λ b. cond b (after (suc (length w)) e) (stop (suc (common w t)) false)) (eqb-suc (common w t) (length w)))
        (stops-cons (owing false y w s) (expect false w s) s' x t _ (subst (λ z. Silent (owing false y w s) z (expect false w s)) (sym (eqb-true x y q)) (owed_silent y w s)) r)
    by_byte false q r =
        none_of (owing false y w s) s' (x ∷ t) (length w) (after (suc (length w)) e) (stops_dead (owing false y w s) s' x t (unfold step in rw q))

-- ---- comments
pub closing-stops : (s : State) (t : List ℕ) → Stops (owing false '>' [] s) t (close_stop t) s
unfolding close_stop
closing-stops s [] = stops-short (owing false '>' [] s) s (unfold accepting in refl)
closing-stops s (x ∷ t) =
    stops_if (owing false '>' [] s) s (x ∷ t) (eqb x '>') (stop 1 true) (stop 0 false)
    (λ q. stops-cons (owing false '>' [] s) s s x t (stop 0 true) (subst (λ z. Silent (owing false '>' [] s) z s) (sym (eqb-true x '>' q)) (owed_silent '>' [] s)) (stops-here s t))
    (λ q. stops_dead (owing false '>' [] s) s x t (unfold step in rw q))

body-stops : (d : Bool) (p : Place) (t : List ℕ) → Stops (in_comment d p) t (body_stop d t) (between b0 p)
unfolding body_stop
body-stops d p [] = stops-short (in_comment d p) (between b0 p) (unfold accepting in refl)
body-stops d p (x ∷ t) =
    stops_if (in_comment d p) (between b0 p) (x ∷ t) (eqb x '-') (after 1 (cond d (close_stop t) (body_stop true t)))
    (cond (char x) (after 1 (body_stop false t)) (stop 0 false))
    (λ q. dash d q (body-stops true p t))
    (λ q. stops_if (in_comment d p) (between b0 p) (x ∷ t) (char x) (after 1 (body_stop false t)) (stop 0 false)
    (λ h. stops-cons (in_comment d p) (in_comment false p) (between b0 p) x t (body_stop false t) (comment-goes d p x q h) (body-stops false p t))
    (λ h. stops_dead (in_comment d p) (between b0 p) x t (unfold step step_comment in rw (q, h))))
  where
    dash : (d : Bool) → eqb x '-' ≡ true → Stops (in_comment true p) t (body_stop true t) (between b0 p) →
        Stops (in_comment d p) (x ∷ t) (after 1 (cond d (close_stop t) (body_stop true t))) (between b0 p)
    dash true q r =
        stops-cons (in_comment true p) (owing false '>' [] (between b0 p)) (between b0 p) x t (close_stop t) (comment-closing p x q)
        (closing-stops (between b0 p) t)
    dash false q r = stops-cons (in_comment false p) (in_comment true p) (between b0 p) x t (body_stop true t) (comment_dashed p x q) r

-- A comment after its `<`.
pub comment-stops : (p : Place) (t : List ℕ) → Stops (angle p) ('!' ∷ t) (after 1 (comment_stop t)) (between b0 p)
unfolding comment_stop
comment-stops p t =
    stops-cons (angle p) (owing false '-' ('-' ∷ []) (in_comment false p)) (between b0 p) '!' t _ (comment_bang p)
    (expect-stops ('-' ∷ '-' ∷ []) (in_comment false p) (between b0 p) t (body_stop false (drop 2 t)) (body-stops false p (drop 2 t)))

-- ---- tags
pub record Reaches (s : State) (t : List ℕ) (k : ℕ) (s' : State) : Type 0 where
  pub reading : (x : ℕ) (u : List ℕ) → drop k t ≡ x ∷ u → (j : ℕ) (m : Memory) → read j (some s) m t ≡ read (j + k) (some s') m (x ∷ u)
  pub checking : (L N j : ℕ) (c : Tally) → check L N j s c t ≡ check L N (j + k) s' c (drop k t)

-- The bytes of a span, and then the rest.
spanned : (f : ℕ → Bool) (t : List ℕ) → length (take (span f t) t) ≡ span f t
spanned f t = length-take-le (span f t) t (span_le f t)

-- White space in a state that stays.
pub white_reaches : (s : State) → ((w : List ℕ) → every_of white w ≡ true → Passes s w s) → (t : List ℕ) → Reaches s t (span white t) s
white_reaches s l t =
    record {
      reading = λ x u e j m.
          ap (λ a. read j (some s) m a) (sym split) ∙ r.reading j m (drop k t) ∙ ap (λ i. read (j + i) (some s) m (drop k t)) (spanned white t) ∙
          ap (λ a. read (j + k) (some s) m a) e;
      checking = λ L N j c.
          ap (λ a. check L N j s c a) (sym split) ∙ r.checking L N j c (drop k t) ∙ ap (λ i. check L N (j + i) s c (drop k t)) (spanned white t);
    }
  where
    k : ℕ
    k = span white t

    split : take k t ++ drop k t ≡ t
    split = take-append-drop k t

    r : Passes s (take k t) s
    r = l (take k t) (span-keeps white t)

pub end_tag_reaches : (p : Place) (t : List ℕ) → Reaches (in_end_tag p) t (span white t) (in_end_tag p)
end_tag_reaches p t = white_reaches (in_end_tag p) (loop-passes white (in_end_tag p) (end_tag_white p)) t

pub reaches_then : (s s₁ s' : State) (t : List ℕ) (k l : ℕ) → Reaches s t k s₁ → Reaches s₁ (drop k t) l s' → Reaches s t (k + l) s'
reaches_then s s₁ s' t k l a b =
    record {
      reading = λ x u e j m. both x u (drop-drop l k t ∙ e) (drop k t) refl j m;
      checking = λ L N j c. a.checking L N j c ∙ b.checking L N (j + k) c ∙ ap (λ i. check L N i s' c (drop l (drop k t))) (summed j) ∙ ap (λ z. check L N (j + (k + l)) s' c z) (drop-drop l k t);
    }
  where
    summed : (j : ℕ) → j + k + l ≡ j + (k + l)
    summed j = omega arith

    nil-cons : (n x : ℕ) (u : List ℕ) → ◌≡◌ {A = List ℕ} (drop n []) (x ∷ u) → ⊥
    nil-cons zero x u e = let z : 0 ≡ suc (length u) = ap length e in omega arith
    nil-cons (suc n) x u e = let z : 0 ≡ suc (length u) = ap length e in omega arith

    both : (x : ℕ) (u : List ℕ) → drop l (drop k t) ≡ x ∷ u → (v : List ℕ) → drop k t ≡ v → (j : ℕ) (m : Memory) →
        read j (some s) m t ≡ read (j + (k + l)) (some s') m (x ∷ u)
    both x u e [] f j m = absurd (nil-cons l x u (sym (ap (drop l) f) ∙ e))
    both x u e (y ∷ v) f j m =
        a.reading y v f j m ∙ ap (λ z. read (j + k) (some s₁) m z) (sym f) ∙ b.reading x u e (j + k) m ∙ ap (λ i. read i (some s') m (x ∷ u)) (summed j)

-- The name of a tag: after it the reader stands past the name, whatever comes but the end.
pub name-of : (x : ℕ) (t : List ℕ) → name_start x ≡ true → is_name (take (suc (span name_char t)) (x ∷ t)) ≡ true
unfolding is_name
name-of x t h = and_both (name_start x) (every_of name_char (take (span name_char t) t)) h (span-keeps name_char t)

pub name_reaches : (p : Place) → Enters p → (x : ℕ) (t : List ℕ) → name_start x ≡ true →
    Reaches (angle p) (x ∷ t) (suc (span name_char t)) (in_tag (take (suc (span name_char t)) (x ∷ t)) p)
name_reaches p g x t h =
    record {
      reading = λ y u e j m.
          ap (λ a. read j (some (angle p)) m a) (sym split) ∙ r.reading j m (drop k (x ∷ t)) ∙
          ap (λ i. read (j + i) (some (in_name n p)) m (drop k (x ∷ t))) size ∙ ap (λ a. read (j + k) (some (in_name n p)) m a) e ∙
          (name-stops n p y u (span-next name_char t y u e)).reading (j + k) m;
      checking = λ L N j c.
          ap (λ a. check L N j (angle p) c a) (sym split) ∙ r.checking L N j c (drop k (x ∷ t)) ∙
          ap (λ i. check L N (j + i) (in_name n p) c (drop k (x ∷ t))) size ∙ past-name (drop k (x ∷ t)) refl L N (j + k) c;
    }
  where
    k : ℕ
    k = suc (span name_char t)

    n : List ℕ
    n = take k (x ∷ t)

    split : n ++ drop k (x ∷ t) ≡ x ∷ t
    split = take-append-drop k (x ∷ t)

    size : length n ≡ k
    size = ap suc (spanned name_char t)

    r : Passes (angle p) n (in_name n p)
    r = named p g n (name-of x t h)

    past-name : (u : List ℕ) → drop k (x ∷ t) ≡ u → (L N j : ℕ) (c : Tally) → check L N j (in_name n p) c u ≡ check L N j (in_tag n p) c u
    past-name [] e L N j c =
        check-short L N j (in_name n p) c (unfold accepting in refl) ∙ sym (check-short L N j (in_tag n p) c (unfold accepting in refl))
    past-name (y ∷ u) e L N j c = (name-stops n p y u (span-next name_char t y u e)).checking L N j c

-- The name and the white space.
pub tag_reaches : (p : Place) → Enters p → (x : ℕ) (t : List ℕ) → name_start x ≡ true →
    Reaches (angle p) (x ∷ t) (suc (span name_char t) + span white (drop (span name_char t) t)) (in_tag (take (suc (span name_char t)) (x ∷ t)) p)
tag_reaches p g x t h =
    let n = take (suc (span name_char t)) (x ∷ t) in
    reaches_then (angle p) (in_tag n p) (in_tag n p) (x ∷ t) (suc (span name_char t)) (span white (drop (span name_char t) t)) (name_reaches p g x t h)
    (white_reaches (in_tag n p) (loop-passes white (in_tag n p) (tag-white n p)) (drop (span name_char t) t))
