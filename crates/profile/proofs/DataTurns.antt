-- The turn that data gives, by bytes and by pieces.
--   firm            a byte of data changes nothing once the data makes a node
--   reference_firm, data_firm   so a reference, and data up to the next `<`
--   data_turn_lem       data inside an element; space-turn: outside the root
-- Letters as in specs/Turns; d m the depth and the nodes met. Assumes nothing.
use Prim.Native.Nat.{ℕ, zero, suc, ◌+◌, ◌≤◌}
use mathlib.Core.Path.{◌≡◌, refl, sym, ap, ap₂, subst, ◌∙◌}
use mathlib.Core.Logic.{⊎_elim}
use mathlib.Core.List.{List, [], ◌∷◌}
use mathlib.Core.Bool.{Bool, true, false, not, cond, ◌&&◌, ◌||◌}
use mathlib.Core.Option.{none, some}
use native.Mathlib.Nat.{not-suc-le-zero}
use native.Mathlib.Omega.{arith}
use lib.Dec.{eqb, ltb}
use lib.ListN.{length, drop, length-drop}
use lib.Seq.{drop-drop}
use borrow.Author.Tests.{eqb-true, eqb-false, eq-eqb, ne_eqb, ltb-true, ltb-false, lt-ltb, le-ltb}
use Rattle.seq.proofs.Laws.Bools.{bool_cases, and_false-right}
use Rattle.profile.specs.Bytes.{'&', semicolon, '<', char, white, data_char, starts_with}
use Rattle.profile.specs.Spans.{span, common}
use Rattle.profile.specs.Machine.{Place, inside, Brackets, b0, State, between, ampersand, ampersand_a, owing, expect, run_byte, run_next, step_between, step_ampersand, step_ampersand_a, step, accepting}
use Rattle.profile.specs.Check.{Tally, Reply, broken, over, meets, depth_after, solid_after, count, full, check}
use Rattle.profile.specs.Pieces.{Stop, stop, meant, reference_stop, data_stop, DATA, piece}
use Rattle.profile.specs.Pieces as pieces
use Rattle.profile.specs.Turns.{halt, go, follow, tally, turn_space, turn_data}
use Rattle.profile.proofs.Passes.{check-goes, check_dead, check-short}
use Rattle.profile.proofs.Pieces.{Stays, loop-passes}
use Rattle.profile.proofs.Stops.{eqb-suc, after-zero, white_reaches}
use Rattle.profile.proofs.TagTurns.{check-meets, follow_if}
use Rattle.profile.proofs.Laws.Bytes.{white_elim, white-angle, run-angle, run_ampersand}
use Rattle.profile.proofs.Laws.Spans.{common-text}
use Rattle.profile.proofs.Laws.Heads.{span-next}

-- A stop with n bytes more in front.
abbrev pub later : ℕ → Stop → Stop
later n e = pieces.after n e

-- A byte that begins no reference.
no_reference : (x : ℕ) (t : List ℕ) → eqb x 108 ≡ false → eqb x 103 ≡ false → eqb x 113 ≡ false → eqb x 97 ≡ false →
    meant (x ∷ t) ≡ 97 ∷ 109 ∷ 112 ∷ semicolon ∷ []
unfolding meant starts_with
no_reference x t q r v u = rw (q, r, v, u)

-- The bytes of a reference are passed over.
pub stop-skips : (k : Brackets) (r : ℕ) (t : List ℕ) → r ≤ length t → data_stop k r t ≡ later r (data_stop k 0 (drop r t))
unfolding data_stop
stop-skips k zero t l = after-zero (data_stop k 0 t)
stop-skips k (suc r) [] l = absurd (not-suc-le-zero l)
stop-skips k (suc r) (x ∷ t) l =
    ap (later 1) (stop-skips k r t (omega (arith, l))) ∙ ap (λ z. stop z (data_stop k 0 (drop r t)).whole) more
  where
    more : 1 + (r + (data_stop k 0 (drop r t)).size) ≡ suc r + (data_stop k 0 (drop r t)).size
    more = omega arith

-- ---- data that makes a node already
module _ (L N m d : ℕ) where
  abbrev C : Tally
  C = tally m d true

  -- What comes of a row t that stops as e says, in the state s.
  abbrev came : ℕ → State → List ℕ → Stop → Reply
  came j s t e = cond e.whole (check L N (j + e.size) s C (drop e.size t)) (broken (j + e.size))

  firm : (j : ℕ) (s s' : State) (x : ℕ) (t : List ℕ) → step s x ≡ some s' → meets s x true ≡ false → depth_after s x d ≡ d → solid_after s x true ≡ true →
      check L N j s C (x ∷ t) ≡ check L N (suc j) s' C t
  firm j s s' x t e f g h =
      check-goes L N j s s' x C t e (ap (λ b. b && full L N C) f) ∙
      ap (λ b. check L N (suc j) s' (tally (cond b (suc m) m) (depth_after s x d) (solid_after s x true)) t) f ∙
      ap (λ e. check L N (suc j) s' (tally m e (solid_after s x true)) t) g ∙
      ap (λ b. check L N (suc j) s' (tally m d b) t) h

  -- One byte more in front.
  came-later : (j : ℕ) (s : State) (x : ℕ) (t : List ℕ) (e : Stop) → came (suc j) s t e ≡ came j s (x ∷ t) (later 1 e)
  came-later j s x t e =
      ap (λ i. cond e.whole (check L N i s C (drop e.size t)) (broken i)) place ∙
      ap (λ u. cond e.whole (check L N (j + (1 + e.size)) s C u) (broken (j + (1 + e.size)))) (ap (λ i. drop i (x ∷ t)) more)
    where
      place : suc j + e.size ≡ j + (1 + e.size)
      place = omega arith

      more : suc e.size ≡ 1 + e.size
      more = omega arith

  came-zero : (j : ℕ) (s : State) (t : List ℕ) → check L N j s C t ≡ came j s t (stop 0 true)
  came-zero j s t = ap (λ i. check L N i s C t) place
    where
      place : j ≡ j + 0
      place = omega arith

  broken-zero : (j : ℕ) (s : State) (t : List ℕ) → broken j ≡ came j s t (stop 0 false)
  broken-zero j s t = ap broken place
    where
      place : j ≡ j + 0
      place = omega arith

  came_laters : (j r : ℕ) (s : State) (t : List ℕ) (e : Stop) → came (j + r) s (drop r t) e ≡ came j s t (later r e)
  came_laters j r s t e =
      ap (λ i. cond e.whole (check L N i s C (drop e.size (drop r t))) (broken i)) place ∙
      ap (λ u. cond e.whole (check L N (j + (r + e.size)) s C u) (broken (j + (r + e.size)))) (drop-drop e.size r t)
    where
      place : j + r + e.size ≡ j + (r + e.size)
      place = omega arith

  -- The bytes w that a reference owes, and then s.
  abbrev owes : List ℕ → List ℕ → Stop
  owes w t = stop (common w t) (eqb (common w t) (length w))

  owes_firm : (w : List ℕ) (s : State) (j : ℕ) (t : List ℕ) → check L N j (expect true w s) C t ≡ came j s t (owes w t)
  unfolding common meets depth_after solid_after
  owes_firm [] s j t = came-zero j s t
  owes_firm (y ∷ w) s j [] =
      check-short L N j (owing true y w s) C (unfold accepting in refl) ∙ broken-zero j s [] ∙
      ap (λ b. came j s [] (stop 0 b)) (sym (ne_eqb 0 (suc (length w)) λ q. omega arith))
  owes_firm (y ∷ w) s j (x ∷ t) = by_byte (eqb x y) refl (owes_firm w s (suc j) t)
    where
      next : 1 + common w t ≡ suc (common w t)
      next = omega arith

      by_byte : (b : Bool) → eqb x y ≡ b → check L N (suc j) (expect true w s) C t ≡ came (suc j) s t (owes w t) →
          check L N j (owing true y w s) C (x ∷ t) ≡
          came j s (x ∷ t) (stop (cond b (suc (common w t)) 0) (eqb (cond b (suc (common w t)) 0) (suc (length w))))
      by_byte true q r =
          firm j (owing true y w s) (expect true w s) x t (unfold step in rw q) refl refl refl ∙ r ∙ came-later j s x t (owes w t) ∙
          ap (λ z. came j s (x ∷ t) (stop z (eqb (common w t) (length w)))) next ∙
          ap (λ b. came j s (x ∷ t) (stop (suc (common w t)) b)) (eqb-suc (common w t) (length w))
      by_byte false q r =
          check_dead L N j (owing true y w s) x C t (unfold step in rw q) ∙ broken-zero j s (x ∷ t) ∙
          ap (λ b. came j s (x ∷ t) (stop 0 b)) (sym (ne_eqb 0 (suc (length w)) λ q. omega arith))

  -- The first byte y of a reference and the others, w, that it owes then.
  begun : (s₀ s : State) (y : ℕ) (w : List ℕ) (j : ℕ) (t : List ℕ) → step s₀ y ≡ some (expect true w s) → meets s₀ y true ≡ false → depth_after s₀ y d ≡ d →
      solid_after s₀ y true ≡ true → check L N j s₀ C (y ∷ t) ≡ came j s (y ∷ t) (owes (y ∷ w) (y ∷ t))
  unfolding common
  begun s₀ s y w j t e f g h =
      firm j s₀ (expect true w s) y t e f g h ∙ owes_firm w s (suc j) t ∙ came-later j s y t (owes w t) ∙
      ap (λ z. came j s (y ∷ t) (stop z (eqb (common w t) (length w)))) next ∙
      ap (λ b. came j s (y ∷ t) (stop (suc (common w t)) b)) (eqb-suc (common w t) (length w)) ∙
      ap (λ b. came j s (y ∷ t) (stop (cond b (suc (common w t)) 0) (eqb (cond b (suc (common w t)) 0) (suc (length w))))) (sym (eq-eqb y y refl))
    where
      next : 1 + common w t ≡ suc (common w t)
      next = omega arith

  module _ (n : List ℕ) (p : Place) where
    abbrev S : State
    S = between b0 (inside n p)

    -- After `&a`: t is what follows the `a`.
    a_firm : (j : ℕ) (t : List ℕ) → check L N j (ampersand n p) C (97 ∷ t) ≡ came j S (97 ∷ t) (reference_stop (97 ∷ t))
    unfolding meant starts_with common meets depth_after solid_after
    a_firm j [] =
        firm j (ampersand n p) (ampersand_a n p) 97 [] (unfold step step_ampersand in refl) refl refl refl ∙
        check-short L N (suc j) (ampersand_a n p) C (unfold accepting in refl) ∙ ap broken place
      where
        place : suc j ≡ j + 1
        place = omega arith
    a_firm j (x ∷ t) =
        firm j (ampersand n p) (ampersand_a n p) 97 (x ∷ t) (unfold step step_ampersand in refl) refl refl refl ∙
        by_byte (eqb x 112) (eqb x 109) refl refl
      where
        place : suc j ≡ j + 1
        place = omega arith

        -- The second byte y, and the others, w.
        second : (y : ℕ) (w : List ℕ) → step (ampersand_a n p) y ≡ some (expect true w S) →
            check L N (suc j) (ampersand_a n p) C (y ∷ t) ≡ came j S (97 ∷ y ∷ t) (stop (suc (common (y ∷ w) (y ∷ t))) (eqb (suc (common (y ∷ w) (y ∷ t))) (suc (length (y ∷ w)))))
        second y w e =
            begun (ampersand_a n p) S y w (suc j) t e refl refl refl ∙ came-later j S 97 (y ∷ t) (owes (y ∷ w) (y ∷ t)) ∙
            ap (λ z. came j S (97 ∷ y ∷ t) (stop z (eqb (common (y ∷ w) (y ∷ t)) (length (y ∷ w))))) more ∙
            ap (λ b. came j S (97 ∷ y ∷ t) (stop (suc (common (y ∷ w) (y ∷ t))) b)) (eqb-suc (common (y ∷ w) (y ∷ t)) (length (y ∷ w)))
          where
            more : 1 + common (y ∷ w) (y ∷ t) ≡ suc (common (y ∷ w) (y ∷ t))
            more = omega arith

        goal : ℕ → Type 0
        goal x = check L N (suc j) (ampersand_a n p) C (x ∷ t) ≡ came j S (97 ∷ x ∷ t) (reference_stop (97 ∷ x ∷ t))

        by_byte : (a b : Bool) → eqb x 112 ≡ a → eqb x 109 ≡ b → goal x
        by_byte true b q r = subst goal (sym (eqb-true x 112 q)) (second 112 (111 ∷ 115 ∷ semicolon ∷ []) (unfold step step_ampersand_a in refl))
        by_byte false true q r = subst goal (sym (eqb-true x 109 r)) (second 109 (112 ∷ semicolon ∷ []) (unfold step step_ampersand_a in refl))
        by_byte false false q r = check_dead L N (suc j) (ampersand_a n p) x C t (unfold step step_ampersand_a in rw (r, q)) ∙ rw (q, r) (ap broken place)

    reference_firm : (j : ℕ) (t : List ℕ) → check L N j (ampersand n p) C t ≡ came j S t (reference_stop t)
    unfolding meant starts_with common meets depth_after solid_after
    reference_firm j [] = check-short L N j (ampersand n p) C (unfold accepting in refl) ∙ broken-zero j S []
    reference_firm j (x ∷ t) = by_byte (eqb x 108) (eqb x 103) (eqb x 97) (eqb x 113) refl refl refl refl
      where
        amp : List ℕ
        amp = 109 ∷ 112 ∷ semicolon ∷ []

        goal : ℕ → Type 0
        goal x = check L N j (ampersand n p) C (x ∷ t) ≡ came j S (x ∷ t) (reference_stop (x ∷ t))

        first : (y : ℕ) (w : List ℕ) → step (ampersand n p) y ≡ some (expect true w S) → check L N j (ampersand n p) C (y ∷ t) ≡ came j S (y ∷ t) (owes (y ∷ w) (y ∷ t))
        first y w e = begun (ampersand n p) S y w j t e refl refl refl

        by_byte : (a b c e : Bool) → eqb x 108 ≡ a → eqb x 103 ≡ b → eqb x 97 ≡ c → eqb x 113 ≡ e → goal x
        by_byte true b c e q r u v = subst goal (sym (eqb-true x 108 q)) (first 108 (116 ∷ semicolon ∷ []) (unfold step step_ampersand in refl))
        by_byte false true c e q r u v = subst goal (sym (eqb-true x 103 r)) (first 103 (116 ∷ semicolon ∷ []) (unfold step step_ampersand in refl))
        by_byte false false true e q r u v = subst goal (sym (eqb-true x 97 u)) (a_firm j t)
        by_byte false false false true q r u v =
            subst goal (sym (eqb-true x 113 v)) (first 113 (117 ∷ 111 ∷ 116 ∷ semicolon ∷ []) (unfold step step_ampersand in refl))
        by_byte false false false false q r u v =
            check_dead L N j (ampersand n p) x C t (unfold step step_ampersand in rw (q, r, u, v)) ∙ broken-zero j S (x ∷ t) ∙
            ap (λ b. came j S (x ∷ t) (stop (cond b (suc (common amp t)) 0) (eqb (cond b (suc (common amp t)) 0) 4))) (sym u) ∙
            ap (λ w. came j S (x ∷ t) (owes w (x ∷ t))) (sym (no_reference x t q r v u))

    -- At a `<` the brackets before it do not matter.
    any_brackets : (j : ℕ) (k : Brackets) (t : List ℕ) → check L N j (between k (inside n p)) C ('<' ∷ t) ≡ check L N j S C ('<' ∷ t)
    unfolding check step meets depth_after solid_after
    any_brackets j k t = refl

    firm_meets : (k : Brackets) (x : ℕ) → meets (between k (inside n p)) x true ≡ false
    unfolding meets
    firm_meets k x = and_false-right (not (eqb x '<')) (not (white x) && false) (and_false-right (not (white x)) false refl)

    firm_solid : (k : Brackets) (x : ℕ) → solid_after (between k (inside n p)) x true ≡ true
    unfolding solid_after
    firm_solid k x = same (eqb x '<')
      where
        same : (b : Bool) → cond b true true ≡ true
        same true = refl
        same false = refl

    data_ends : (k : Brackets) (j : ℕ) → check L N j (between k (inside n p)) C [] ≡ came j S [] (stop 0 true)
    data_ends k j =
        check-short L N j (between k (inside n p)) C (unfold accepting in refl) ∙ sym (check-short L N j S C (unfold accepting in refl)) ∙ came-zero j S []

    data_firm : (f : ℕ) (t : List ℕ) → length t ≤ f → (k : Brackets) (j : ℕ) → check L N j (between k (inside n p)) C t ≡ came j S t (data_stop k 0 t)
    unfolding data_stop
    data_firm zero [] l k j = data_ends k j
    data_firm zero (x ∷ t) l k j = absurd (not-suc-le-zero l)
    data_firm (suc f) [] l k j = data_ends k j
    data_firm (suc f) (x ∷ t) l k j =
        by_byte (eqb x '<') (eqb x '&') (run_byte k x) refl refl refl (λ u h k j. data_firm f u h k j)
      where
        shorter : (r : ℕ) → length (drop r t) ≤ f
        shorter r = omega (arith, l, length-drop r t)

        R : Stop
        R = reference_stop t

        referred : (b : Bool) → R.whole ≡ b → ((u : List ℕ) → length u ≤ f → (k : Brackets) (j : ℕ) → check L N j (between k (inside n p)) C u ≡ came j S u (data_stop k 0 u)) →
            cond b (check L N (suc j + R.size) S C (drop R.size t)) (broken (suc j + R.size)) ≡
            came j S (x ∷ t) (cond b (later 1 (data_stop b0 R.size t)) (later 1 (stop R.size b)))
        referred true e r =
            r (drop R.size t) (shorter R.size) b0 (suc j + R.size) ∙ came_laters (suc j) R.size S t (data_stop b0 0 (drop R.size t)) ∙
            ap (came (suc j) S t) (sym (stop-skips b0 R.size t (common-text (meant t) t))) ∙ came-later j S x t (data_stop b0 R.size t)
        referred false e r = came-later j S x t (stop R.size false)

        by_byte : (a b c : Bool) → eqb x '<' ≡ a → eqb x '&' ≡ b → run_byte k x ≡ c →
            ((u : List ℕ) → length u ≤ f → (k : Brackets) (j : ℕ) → check L N j (between k (inside n p)) C u ≡ came j S u (data_stop k 0 u)) →
            check L N j (between k (inside n p)) C (x ∷ t) ≡
            came j S (x ∷ t)
            (cond a (stop 0 true)
            (cond b (cond R.whole (later 1 (data_stop b0 R.size t)) (later 1 R)) (cond c (later 1 (data_stop (run_next k x) 0 t)) (stop 0 false))))
        by_byte true b c q h i r =
            ap (λ z. check L N j (between k (inside n p)) C (z ∷ t)) (eqb-true x '<' q) ∙
            any_brackets j k t ∙ ap (λ z. check L N j S C (z ∷ t)) (sym (eqb-true x '<' q)) ∙ came-zero j S (x ∷ t)
        by_byte false true c q h i r =
            ap (λ z. check L N j (between k (inside n p)) C (z ∷ t)) (eqb-true x '&' h) ∙
            firm j (between k (inside n p)) (ampersand n p) '&' t (unfold step step_between in refl) (unfold meets white in refl) (unfold depth_after in refl)
            (unfold solid_after in refl) ∙
            reference_firm (suc j) t ∙
            referred R.whole refl r
        by_byte false false true q h i r =
            firm j (between k (inside n p)) (between (run_next k x) (inside n p)) x t (unfold step step_between in rw (q, h, i)) (firm_meets k x)
            (unfold depth_after in refl) (firm_solid k x) ∙
            r t (omega (arith, l)) (run_next k x) (suc j) ∙
            came-later j S x t (data_stop (run_next k x) 0 t)
        by_byte false false false q h i r =
            check_dead L N j (between k (inside n p)) x C t (unfold step step_between in rw (q, h, i)) ∙ broken-zero j S (x ∷ t)

-- ---- one byte
pub run_step : (n : List ℕ) (p : Place) (k : Brackets) (x : ℕ) → run_byte k x ≡ true → step (between k (inside n p)) x ≡ some (between (run_next k x) (inside n p))
unfolding step step_between
run_step n p k x h = rw (run-angle k x h, run_ampersand k x h, h)

pub run-stop : (k : Brackets) (x : ℕ) (t : List ℕ) → run_byte k x ≡ true → data_stop k 0 (x ∷ t) ≡ later 1 (data_stop (run_next k x) 0 t)
unfolding data_stop
run-stop k x t h = rw (run-angle k x h, run_ampersand k x h, h)

white-meets : (n : List ℕ) (p : Place) (x : ℕ) (b : Bool) → white x ≡ true → meets (between b0 (inside n p)) x b ≡ false
unfolding meets
white-meets n p x b h = rw (white-angle x h, h)

white-count : (n : List ℕ) (p : Place) (x : ℕ) (c : Tally) → white x ≡ true → count (between b0 (inside n p)) x c ≡ c
unfolding meets depth_after solid_after
white-count n p x c h = rw (white-angle x h, h) (ap (tally c.met c.depth) (same c.solid))
  where
    same : (b : Bool) → (b || false) ≡ b
    same true = refl
    same false = refl

-- The first byte of data that is no white space.
first-meets : (n : List ℕ) (p : Place) (x : ℕ) (b : Bool) → white x ≡ false → eqb x '<' ≡ false → b ≡ false → meets (between b0 (inside n p)) x b ≡ true
unfolding meets
first-meets n p x b w a e = rw (w, a, e)

first_count : (n : List ℕ) (p : Place) (x : ℕ) (c : Tally) → white x ≡ false → eqb x '<' ≡ false → c.solid ≡ false →
    count (between b0 (inside n p)) x c ≡ tally (suc c.met) c.depth true
unfolding meets depth_after solid_after
first_count n p x c w a e = rw (w, a, e)

-- One byte is in front of either.
pulled : (b : Bool) (e f : Stop) → cond b (later 1 e) (later 1 f) ≡ later 1 (cond b e f)
pulled true e f = refl
pulled false e f = refl

shifted : (w n : ℕ) → ltb 0 n ≡ ltb w (w + n)
shifted w n =
    ⊎_elim
    (λ q. q ∙ sym (lt-ltb w (w + n) (omega (arith, ltb-true 0 n q))))
    (λ q. q ∙ sym (le-ltb w (w + n) (omega (arith, ltb-false 0 n q))))
    (bool_cases (ltb 0 n))

same_shift : (w n : ℕ) → eqb 0 n ≡ eqb w (w + n)
same_shift w n =
    ⊎_elim
    (λ q. q ∙ sym (eq-eqb w (w + n) (omega (arith, eqb-true 0 n q))))
    (λ q. q ∙ sym (ne_eqb w (w + n) λ e. eqb-false 0 n q (omega (arith, e))))
    (bool_cases (eqb 0 n))

nil-stop : data_stop b0 0 [] ≡ stop 0 true
unfolding data_stop
nil-stop = refl

pub angle-stop : (x : ℕ) (t : List ℕ) → eqb x '<' ≡ true → data_stop b0 0 (x ∷ t) ≡ stop 0 true
unfolding data_stop
angle-stop x t q = rw q

-- ---- white space first
pub white-run : (x : ℕ) → white x ≡ true → run_byte b0 x ≡ true
unfolding run_byte data_char char
white-run = white_elim (λ x. run_byte b0 x ≡ true) refl refl refl refl

pub white-next : (x : ℕ) → white x ≡ true → run_next b0 x ≡ b0
unfolding run_next
white-next = white_elim (λ x. run_next b0 x ≡ b0) refl refl refl refl

pub white-stop : (t : List ℕ) → data_stop b0 0 t ≡ later (span white t) (data_stop b0 0 (drop (span white t) t))
unfolding span
white-stop [] = after-zero (data_stop b0 0 [])
white-stop (x ∷ t) = by_byte (white x) refl (white-stop t)
  where
    by_byte : (b : Bool) → white x ≡ b → data_stop b0 0 t ≡ later (span white t) (data_stop b0 0 (drop (span white t) t)) →
        data_stop b0 0 (x ∷ t) ≡ later (cond b (suc (span white t)) 0) (data_stop b0 0 (drop (cond b (suc (span white t)) 0) (x ∷ t)))
    by_byte true q r =
        run-stop b0 x t (white-run x q) ∙ ap (λ k. later 1 (data_stop k 0 t)) (white-next x q) ∙ ap (later 1) r ∙
        ap (λ z. stop z (data_stop b0 0 (drop (span white t) t)).whole) more
      where
        more : 1 + (span white t + (data_stop b0 0 (drop (span white t) t)).size) ≡ suc (span white t) + (data_stop b0 0 (drop (span white t) t)).size
        more = omega arith
    by_byte false q r = after-zero (data_stop b0 0 (x ∷ t))

-- ---- data inside an element
-- The tally once data makes a node.
abbrev grown : Tally → Bool → Tally
grown c b = cond b (tally (cond c.solid c.met (suc c.met)) c.depth true) c

module _ (L N : ℕ) (n : List ℕ) (p : Place) where
  -- What comes of a row t of data that stops as e says; b tells whether it is more than white space.
  abbrev out : Tally → ℕ → List ℕ → Bool → Stop → Reply
  out c j t b e =
      cond (b && not c.solid && full L N c) (over c.met)
      (cond e.whole (check L N (j + e.size) (between b0 (inside n p)) (grown c b) (drop e.size t)) (broken (j + e.size)))

  white-inside : (j : ℕ) (c : Tally) (t : List ℕ) →
      check L N j (between b0 (inside n p)) c t ≡ check L N (j + span white t) (between b0 (inside n p)) c (drop (span white t) t)
  unfolding span
  white-inside j c [] = ap (λ i. check L N i (between b0 (inside n p)) c []) place
    where
      place : j ≡ j + 0
      place = omega arith
  white-inside j c (x ∷ t) = by_byte (white x) refl (white-inside (suc j) c t)
    where
      zero_more : j ≡ j + 0
      zero_more = omega arith

      place : suc j + span white t ≡ j + suc (span white t)
      place = omega arith

      by_byte : (b : Bool) → white x ≡ b →
          check L N (suc j) (between b0 (inside n p)) c t ≡ check L N (suc j + span white t) (between b0 (inside n p)) c (drop (span white t) t) →
          check L N j (between b0 (inside n p)) c (x ∷ t) ≡
          check L N (j + cond b (suc (span white t)) 0) (between b0 (inside n p)) c (drop (cond b (suc (span white t)) 0) (x ∷ t))
      by_byte true q r =
          check-goes L N j (between b0 (inside n p)) (between (run_next b0 x) (inside n p)) x c t (run_step n p b0 x (white-run x q))
          (ap (λ b. b && full L N c) (white-meets n p x c.solid q)) ∙
          ap (λ k. check L N (suc j) (between k (inside n p)) (count (between b0 (inside n p)) x c) t) (white-next x q) ∙
          ap (λ d. check L N (suc j) (between b0 (inside n p)) d t) (white-count n p x c q) ∙ r ∙
          ap (λ i. check L N i (between b0 (inside n p)) c (drop (span white t) t)) place
      by_byte false q r = ap (λ i. check L N i (between b0 (inside n p)) c (x ∷ t)) zero_more

  -- The first byte that is no white space, where data goes on with it to the state s.
  alive : (c : Tally) (i x : ℕ) (u : List ℕ) (s : State) (e : Stop) → white x ≡ false → eqb x '<' ≡ false →
      step (between b0 (inside n p)) x ≡ some s → data_stop b0 0 (x ∷ u) ≡ later 1 e →
      check L N i (between b0 (inside n p)) c (x ∷ u) ≡ out c i (x ∷ u) (ltb 0 (data_stop b0 0 (x ∷ u)).size) (data_stop b0 0 (x ∷ u))
  alive c i x u s e w a g f = by-solid c.solid refl ∙ ap (λ b. out c i (x ∷ u) b (data_stop b0 0 (x ∷ u))) (sym some_bytes)
    where
      some_bytes : ltb 0 (data_stop b0 0 (x ∷ u)).size ≡ true
      some_bytes = ap (λ (e : Stop). ltb 0 e.size) f ∙ lt-ltb 0 (1 + e.size) (omega arith)

      C' : Tally
      C' = tally (suc c.met) c.depth true

      D : Stop
      D = data_stop b0 0 (x ∷ u)

      by-solid : (b : Bool) → c.solid ≡ b → check L N i (between b0 (inside n p)) c (x ∷ u) ≡ out c i (x ∷ u) true D
      by-solid true q =
          ap (λ b. check L N i (between b0 (inside n p)) (tally c.met c.depth b) (x ∷ u)) q ∙
          data_firm L N c.met c.depth n p (length (x ∷ u)) (x ∷ u) (omega arith) b0 i ∙
          solid-out q
        where
          solid-out : c.solid ≡ true →
              came L N c.met c.depth i (between b0 (inside n p)) (x ∷ u) D ≡ out c i (x ∷ u) true D
          solid-out q = rw q
      by-solid false q =
          check-meets L N i (between b0 (inside n p)) s x c u g (first-meets n p x c.solid w a q) ∙
          ap (λ d. cond (full L N c) (over c.met) (check L N (suc i) s d u)) (first_count n p x c w a q) ∙
          ap (λ r. cond (full L N c) (over c.met) r)
          (sym (firm L N (suc c.met) c.depth i (between b0 (inside n p)) s x u g (firm_meets L N (suc c.met) c.depth n p b0 x) (unfold depth_after in refl)
          (firm_solid L N (suc c.met) c.depth n p b0 x)) ∙
          data_firm L N (suc c.met) c.depth n p (length (x ∷ u)) (x ∷ u) (omega arith) b0 i) ∙
          new-out q
        where
          new-out : c.solid ≡ false →
              cond (full L N c) (over c.met) (came L N (suc c.met) c.depth i (between b0 (inside n p)) (x ∷ u) D) ≡ out c i (x ∷ u) true D
          new-out q = rw q

  data_at : (c : Tally) (i : ℕ) (u : List ℕ) → ((x : ℕ) (t : List ℕ) → u ≡ x ∷ t → white x ≡ false) →
      check L N i (between b0 (inside n p)) c u ≡ out c i u (ltb 0 (data_stop b0 0 u).size) (data_stop b0 0 u)
  unfolding data_stop
  data_at c i [] w = ap (λ j. check L N j (between b0 (inside n p)) c []) place
    where
      place : i ≡ i + 0
      place = omega arith
  data_at c i (x ∷ t) w = by_byte (eqb x '<') (eqb x '&') (run_byte b0 x) refl refl refl
    where
      place : i ≡ i + 0
      place = omega arith

      D : Stop
      D = data_stop b0 0 (x ∷ t)

      goal : Type 0
      goal = check L N i (between b0 (inside n p)) c (x ∷ t) ≡ out c i (x ∷ t) (ltb 0 D.size) D

      stopped : (e : Stop) → D ≡ e → check L N i (between b0 (inside n p)) c (x ∷ t) ≡ out c i (x ∷ t) (ltb 0 e.size) e → goal
      stopped e q r = r ∙ ap (λ (e : Stop). out c i (x ∷ t) (ltb 0 e.size) e) (sym q)

      by_byte : (a b r : Bool) → eqb x '<' ≡ a → eqb x '&' ≡ b → run_byte b0 x ≡ r → goal
      by_byte true b r q h f = stopped (stop 0 true) (rw q) (ap (λ j. check L N j (between b0 (inside n p)) c (x ∷ t)) place)
      by_byte false true r q h f =
          alive c i x t (ampersand n p) (cond (reference_stop t).whole (data_stop b0 (reference_stop t).size t) (reference_stop t)) (w x t refl) q
          (unfold step step_between in rw (q, h)) (rw (q, h) (pulled (reference_stop t).whole (data_stop b0 (reference_stop t).size t) (reference_stop t)))
      by_byte false false true q h f =
          alive c i x t (between (run_next b0 x) (inside n p)) (data_stop (run_next b0 x) 0 t) (w x t refl) q (run_step n p b0 x f) (run-stop b0 x t f)
      by_byte false false false q h f =
          stopped (stop 0 false) (rw (q, h, f))
          (check_dead L N i (between b0 (inside n p)) x c t (unfold step step_between in rw (q, h, f)) ∙ ap broken place)

  -- From the white space on.
  out-later : (c : Tally) (j w : ℕ) (t : List ℕ) (b : Bool) (e : Stop) → out c (j + w) (drop w t) b e ≡ out c j t b (later w e)
  out-later c j w t b e =
      ap
      (λ i. cond (b && not c.solid && full L N c) (over c.met)
      (cond e.whole (check L N i (between b0 (inside n p)) (grown c b) (drop e.size (drop w t))) (broken i)))
      place ∙
      ap
      (λ u. cond (b && not c.solid && full L N c) (over c.met)
      (cond e.whole (check L N (j + (w + e.size)) (between b0 (inside n p)) (grown c b) u) (broken (j + (w + e.size)))))
      (drop-drop e.size w t)
    where
      place : j + w + e.size ≡ j + (w + e.size)
      place = omega arith

  pub data_turn_lem : (c : Tally) (j : ℕ) (t : List ℕ) →
      check L N j (between b0 (inside n p)) c t ≡
      follow (turn_data L N (inside n p) c j (piece DATA (span white t) (data_stop b0 0 t)))
      (λ p' c'. check L N (j + (data_stop b0 0 t).size) (between b0 p') c' (drop (data_stop b0 0 t).size t))
  unfolding turn_data
  data_turn_lem c j t =
      white-inside j c t ∙ data_at c (j + w) (drop w t) (λ x u e. span-next white t x u e) ∙ out-later c j w t (ltb 0 E.size) E ∙
      ap (λ e. out c j t (ltb 0 E.size) e) (sym (white-stop t)) ∙
      ap (λ b. out c j t b D) more ∙
      sym
      (follow_if (ltb w D.size && not c.solid && full L N c) (halt (over c.met))
      (cond D.whole (go (inside n p) (grown c (ltb w D.size))) (halt (broken (j + D.size)))) behind ∙
      ap (λ r. cond (ltb w D.size && not c.solid && full L N c) (over c.met) r)
      (follow_if D.whole (go (inside n p) (grown c (ltb w D.size))) (halt (broken (j + D.size))) behind))
    where
      w : ℕ
      w = span white t

      D : Stop
      D = data_stop b0 0 t

      E : Stop
      E = data_stop b0 0 (drop w t)

      behind : Place → Tally → Reply
      behind p' c' = check L N (j + D.size) (between b0 p') c' (drop D.size t)

      more : ltb 0 E.size ≡ ltb w D.size
      more = shifted w E.size ∙ ap (λ (e : Stop). ltb w e.size) (sym (white-stop t))

-- ---- data outside the root
-- Data that begins with no white space is no white space alone.
solid_data : (x : ℕ) (t : List ℕ) → white x ≡ false → eqb x '<' ≡ false → ((data_stop b0 0 (x ∷ t)).whole && eqb 0 (data_stop b0 0 (x ∷ t)).size) ≡ false
unfolding data_stop
solid_data x t w a = by_byte (eqb x '&') (run_byte b0 x) refl refl
  where
    D : Stop
    D = data_stop b0 0 (x ∷ t)

    longer : (e : Stop) → D ≡ later 1 e → (D.whole && eqb 0 D.size) ≡ false
    longer e q = ap (λ (e : Stop). e.whole && eqb 0 e.size) q ∙ and_false-right e.whole (eqb 0 (1 + e.size)) (ne_eqb 0 (1 + e.size) λ z. omega arith)

    by_byte : (b r : Bool) → eqb x '&' ≡ b → run_byte b0 x ≡ r → (D.whole && eqb 0 D.size) ≡ false
    by_byte true r h f =
        longer (cond (reference_stop t).whole (data_stop b0 (reference_stop t).size t) (reference_stop t))
        (rw (a, h) (pulled (reference_stop t).whole (data_stop b0 (reference_stop t).size t) (reference_stop t)))
    by_byte false true h f = longer (data_stop (run_next b0 x) 0 t) (run-stop b0 x t f)
    by_byte false false h f = rw (a, h, f)

pub space-turn : (L N : ℕ) (p : Place) → Stays white (between b0 p) → ((x : ℕ) → white x ≡ false → eqb x '<' ≡ false → step (between b0 p) x ≡ none) →
    (c : Tally) (j : ℕ) (t : List ℕ) →
    check L N j (between b0 p) c t ≡
    follow (turn_space p c j (piece DATA (span white t) (data_stop b0 0 t)))
    (λ p' c'. check L N (j + (data_stop b0 0 t).size) (between b0 p') c' (drop (data_stop b0 0 t).size t))
space-turn L N p stays dead c j t =
    (white_reaches (between b0 p) (loop-passes white (between b0 p) stays) t).checking L N j c ∙ by-rest (drop w t) refl
  where
    w : ℕ
    w = span white t

    D : Stop
    D = data_stop b0 0 t

    behind : Place → Tally → Reply
    behind p' c' = check L N (j + D.size) (between b0 p') c' (drop D.size t)

    result : Reply
    result = follow (turn_space p c j (piece DATA w D)) behind

    -- White space alone, up to u.
    spaces : data_stop b0 0 (drop w t) ≡ stop 0 true → check L N (j + w) (between b0 p) c (drop w t) ≡ result
    spaces q =
        ap (λ i. check L N (j + i) (between b0 p) c (drop i t)) same ∙
        sym (ap (λ b. follow (cond b (go p c) (halt (broken (j + w)))) behind) (ap₂ (λ a b. a && b) whole-one (eq-eqb w D.size same)))
      where
        all : D ≡ later w (stop 0 true)
        all = white-stop t ∙ ap (later w) q

        whole-one : D.whole ≡ true
        whole-one = ap (λ (e : Stop). e.whole) all

        same : w ≡ D.size
        same = let z : D.size ≡ w + 0 = ap (λ (e : Stop). e.size) all in omega (arith, z)

    by-rest : (u : List ℕ) → drop w t ≡ u → check L N (j + w) (between b0 p) c (drop w t) ≡ result
    by-rest [] e = spaces (ap (data_stop b0 0) e ∙ nil-stop)
    by-rest (x ∷ u) e = by_byte (eqb x '<') refl
      where
        by_byte : (a : Bool) → eqb x '<' ≡ a → check L N (j + w) (between b0 p) c (drop w t) ≡ result
        by_byte true q = spaces (ap (data_stop b0 0) e ∙ angle-stop x u q)
        by_byte false q =
            ap (λ z. check L N (j + w) (between b0 p) c z) e ∙ check_dead L N (j + w) (between b0 p) x c u (dead x (span-next white t x u e) q) ∙
            sym (ap (λ b. follow (cond b (go p c) (halt (broken (j + w)))) behind) not-alone)
          where
            E : Stop
            E = data_stop b0 0 (x ∷ u)

            all : D ≡ later w E
            all = white-stop t ∙ ap (λ z. later w (data_stop b0 0 z)) e

            not-alone : (D.whole && eqb w D.size) ≡ false
            not-alone =
                ap (λ (e : Stop). e.whole && eqb w e.size) all ∙ ap (λ b. E.whole && b) (sym (same_shift w E.size)) ∙
                solid_data x u (span-next white t x u e) q
