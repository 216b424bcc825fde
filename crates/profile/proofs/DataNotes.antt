-- What a whole run of data adds to the memory, by bytes and by pieces.
--   data_note    data inside an element, up to the next `<`
--   space-note   white space outside the root
-- Letters as in specs/Notes; f l c the first byte, the last and the first solid one of the data held; w the white space before it. Assumes nothing.
use Prim.Native.Nat.{ℕ, zero, suc, ◌+◌, ◌-◌, ◌≤◌}
use mathlib.Core.Path.{◌≡◌, refl, sym, ap, ◌∙◌}
use mathlib.Core.List.{List, [], ◌∷◌, ◌++◌}
use mathlib.Core.Bool.{Bool, true, false, cond, false≢true}
use mathlib.Core.Option.{none, some}
use native.Mathlib.Nat.{not-suc-le-zero}
use native.Mathlib.Omega.{arith}
use lib.Dec.{eqb}
use lib.ListN.{length, take, drop, length-drop, take-append-drop}
use lib.Seq.{drop-drop, length-take-le}
use borrow.Author.Tests.{eqb-true, eqb-false, ne_eqb, lt-ltb, le-ltb}
use Rattle.profile.specs.Bytes.{'&', semicolon, '<', white}
use Rattle.profile.specs.Bytes as bytes
use Rattle.profile.specs.Spans.{span, common}
use Rattle.profile.specs.Machine.{Place, inside, Brackets, b0, State, between, ampersand, ampersand_a, owing, expect, run_byte, run_next, step_between, step_ampersand, step_ampersand_a, step}
use Rattle.profile.specs.Tree.{Held, nothing, held, datum}
use Rattle.profile.specs.Reader.{Memory, Reading, holds, note, read}
use Rattle.profile.specs.Pieces.{Stop, stop, meant, reference_stop, data_stop}
use Rattle.profile.specs.Notes.{stretched, marked, with_run, holding}
use Rattle.profile.proofs.Passes.{read_goes}
use Rattle.profile.proofs.Pieces.{Stays, owed, loop-passes}
use Rattle.profile.proofs.DataTurns.{later, stop-skips, run_step, run-stop, angle-stop, white-run, white-next, white-stop}
use Rattle.profile.proofs.Laws.Bytes.{white-angle}
use Rattle.profile.proofs.Laws.Spans.{span_le, span-keeps, common-text}
use Rattle.profile.proofs.Laws.Heads.{span-next, common-whole}

-- The last byte of the data held once z bytes more are read from j on.
unfoldable last_after : ℕ → ℕ → ℕ → ℕ
last_after l j z = cond (eqb z 0) l (j + z - 1)

last_more : (l j z : ℕ) → last_after j (suc j) z ≡ last_after l j (1 + z)
unfolding last_after
last_more l j z = rw (ne_eqb (1 + z) 0 λ q. omega arith) (go (eqb z 0) refl)
  where
    go : (b : Bool) → eqb z 0 ≡ b → cond b j (suc j + z - 1) ≡ j + (1 + z) - 1
    go true q = omega (arith, eqb-true z 0 q)
    go false q = omega arith

last_sum : (l j r z : ℕ) → last_after (last_after l j r) (j + r) z ≡ last_after l j (r + z)
unfolding last_after
last_sum l j r z = go (eqb r 0) (eqb z 0) (eqb (r + z) 0) refl refl refl
  where
    go : (a b c : Bool) → eqb r 0 ≡ a → eqb z 0 ≡ b → eqb (r + z) 0 ≡ c → cond b (cond a l (j + r - 1)) (j + r + z - 1) ≡ cond c l (j + (r + z) - 1)
    go true true true p q s = refl
    go true true false p q s = absurd (eqb-false (r + z) 0 s (omega (arith, eqb-true r 0 p, eqb-true z 0 q)))
    go true false true p q s = absurd (eqb-false z 0 q (omega (arith, eqb-true (r + z) 0 s)))
    go true false false p q s = omega arith
    go false true true p q s = absurd (eqb-false r 0 p (omega (arith, eqb-true (r + z) 0 s)))
    go false true false p q s = omega (arith, eqb-true z 0 q)
    go false false true p q s = absurd (eqb-false r 0 p (omega (arith, eqb-true (r + z) 0 s)))
    go false false false p q s = omega arith

module _ (m : Memory) (f c : ℕ) (n : List ℕ) (p : Place) where
  -- Data that makes a node already, up to the byte l.
  abbrev solid : ℕ → Memory
  solid l = holding (held f l (some c)) m

  abbrev inner : State
  inner = between b0 (inside n p)

  abbrev comes : ℕ → ℕ → List ℕ → Stop → Reading
  comes j l t e = read (j + e.size) (some inner) (solid (last_after l j e.size)) (drop e.size t)

  comes-later : (j l x : ℕ) (t : List ℕ) (e : Stop) → comes (suc j) j t e ≡ comes j l (x ∷ t) (later 1 e)
  comes-later j l x t e =
      ap (λ i. read i (some inner) (solid (last_after j (suc j) e.size)) (drop e.size t)) place ∙
      ap (λ k. read (j + (1 + e.size)) (some inner) (solid k) (drop e.size t)) (last_more l j e.size) ∙
      ap (λ i. read (j + (1 + e.size)) (some inner) (solid (last_after l j (1 + e.size))) (drop i (x ∷ t))) more
    where
      place : suc j + e.size ≡ j + (1 + e.size)
      place = omega arith

      more : suc e.size ≡ 1 + e.size
      more = omega arith

  comes_laters : (j l r : ℕ) (t : List ℕ) (e : Stop) → comes (j + r) (last_after l j r) (drop r t) e ≡ comes j l t (later r e)
  comes_laters j l r t e =
      ap (λ i. read i (some inner) (solid (last_after (last_after l j r) (j + r) e.size)) (drop e.size (drop r t))) place ∙
      ap (λ k. read (j + (r + e.size)) (some inner) (solid k) (drop e.size (drop r t))) (last_sum l j r e.size) ∙
      ap (λ u. read (j + (r + e.size)) (some inner) (solid (last_after l j (r + e.size))) u) (drop-drop e.size r t)
    where
      place : j + r + e.size ≡ j + (r + e.size)
      place = omega arith

  comes-zero : (j l : ℕ) (t : List ℕ) → read j (some inner) (solid l) t ≡ comes j l t (stop 0 true)
  unfolding last_after
  comes-zero j l t = ap (λ i. read i (some inner) (solid l) t) place
    where
      place : j ≡ j + 0
      place = omega arith

  -- ---- references
  owes-note : (w : List ℕ) (s : State) (j l : ℕ) (u : List ℕ) →
      read j (some (expect true w s)) (solid l) (w ++ u) ≡ read (j + length w) (some s) (solid (last_after l j (length w))) u
  unfolding last_after
  owes-note [] s j l u = ap (λ i. read i (some s) (solid l) u) place
    where
      place : j ≡ j + 0
      place = omega arith
  owes-note (y ∷ w) s j l u =
      read_goes j (owing true y w s) (expect true w s) (solid l) (solid j) y (w ++ u) (owed true y w s) (unfold note in refl) ∙
      owes-note w s (suc j) j u ∙
      ap (λ i. read i (some s) (solid (last_after j (suc j) (length w))) u) place ∙
      ap (λ k. read (j + suc (length w)) (some s) (solid k) u) (last_more l j (length w) ∙ ap (last_after l j) one_more)
    where
      place : suc j + length w ≡ j + suc (length w)
      place = omega arith

      one_more : 1 + length w ≡ suc (length w)
      one_more = omega arith

  -- The first byte y, and the others, w.
  begun-note : (s : State) (y : ℕ) (w : List ℕ) (j l : ℕ) (u : List ℕ) → step s y ≡ some (expect true w inner) → note s y j (solid l) ≡ solid j →
      read j (some s) (solid l) (y ∷ (w ++ u)) ≡ read (j + suc (length w)) (some inner) (solid (last_after l j (suc (length w)))) u
  begun-note s y w j l u e g =
      read_goes j s (expect true w inner) (solid l) (solid j) y (w ++ u) e g ∙ owes-note w inner (suc j) j u ∙
      ap (λ i. read i (some inner) (solid (last_after j (suc j) (length w))) u) place ∙
      ap (λ k. read (j + suc (length w)) (some inner) (solid k) u) (last_more l j (length w) ∙ ap (last_after l j) one_more)
    where
      place : suc j + length w ≡ j + suc (length w)
      place = omega arith

      one_more : 1 + length w ≡ suc (length w)
      one_more = omega arith

  -- The word w stands at the head of t.
  abbrev Referred : ℕ → ℕ → List ℕ → List ℕ → Type 0
  Referred j l t w =
      common w t ≡ length w → read j (some (ampersand n p)) (solid l) t ≡ read (j + length w) (some inner) (solid (last_after l j (length w))) (drop (length w) t)

  one_byte : (y : ℕ) (w : List ℕ) (j l : ℕ) (t : List ℕ) → step (ampersand n p) y ≡ some (expect true w inner) → Referred j l t (y ∷ w)
  unfolding note
  one_byte y w j l t e h =
      ap (λ z. read j (some (ampersand n p)) (solid l) z) (sym (common-whole (y ∷ w) t h)) ∙
      begun-note (ampersand n p) y w j l (drop (length (y ∷ w)) t) e refl

  two_bytes : (y : ℕ) (w : List ℕ) (j l : ℕ) (t : List ℕ) → step (ampersand_a n p) y ≡ some (expect true w inner) → Referred j l t (97 ∷ y ∷ w)
  unfolding note
  two_bytes y w j l t e h =
      ap (λ z. read j (some (ampersand n p)) (solid l) z) (sym (common-whole (97 ∷ y ∷ w) t h)) ∙
      read_goes j (ampersand n p) (ampersand_a n p) (solid l) (solid j) 97 (y ∷ (w ++ u)) (unfold step step_ampersand in refl) refl ∙
      begun-note (ampersand_a n p) y w (suc j) j u e refl ∙
      ap (λ i. read i (some inner) (solid (last_after j (suc j) (suc (length w)))) u) place ∙
      ap (λ k. read (j + suc (suc (length w))) (some inner) (solid k) u) (last_more l j (suc (length w)) ∙ ap (last_after l j) one_more)
    where
      u : List ℕ
      u = drop (length (97 ∷ y ∷ w)) t

      place : suc j + suc (length w) ≡ j + suc (suc (length w))
      place = omega arith

      one_more : 1 + suc (length w) ≡ suc (suc (length w))
      one_more = omega arith

  reference_note : (j l : ℕ) (t : List ℕ) → Referred j l t (meant t)
  unfolding meant step step_ampersand step_ampersand_a
  reference_note j l t =
      either (bytes.starts_with (108 ∷ []) t) lt (cond g gt (cond q quot (cond a apos amp))) (one_byte 108 (116 ∷ semicolon ∷ []) j l t refl)
      (either g gt (cond q quot (cond a apos amp)) (one_byte 103 (116 ∷ semicolon ∷ []) j l t refl)
      (either q quot (cond a apos amp) (one_byte 113 (117 ∷ 111 ∷ 116 ∷ semicolon ∷ []) j l t refl)
      (either a apos amp (two_bytes 112 (111 ∷ 115 ∷ semicolon ∷ []) j l t refl) (two_bytes 109 (112 ∷ semicolon ∷ []) j l t refl))))
    where
      g : Bool
      g = bytes.starts_with (103 ∷ []) t

      q : Bool
      q = bytes.starts_with (113 ∷ []) t

      a : Bool
      a = bytes.starts_with (97 ∷ 112 ∷ []) t

      lt : List ℕ
      lt = 108 ∷ 116 ∷ semicolon ∷ []

      gt : List ℕ
      gt = 103 ∷ 116 ∷ semicolon ∷ []

      quot : List ℕ
      quot = 113 ∷ 117 ∷ 111 ∷ 116 ∷ semicolon ∷ []

      apos : List ℕ
      apos = 97 ∷ 112 ∷ 111 ∷ 115 ∷ semicolon ∷ []

      amp : List ℕ
      amp = 97 ∷ 109 ∷ 112 ∷ semicolon ∷ []

      either : (b : Bool) (v w : List ℕ) → Referred j l t v → Referred j l t w → Referred j l t (cond b v w)
      either true v w r s = r
      either false v w r s = s

  -- ---- data
  -- At a `<` the brackets before it do not matter.
  any_brackets : (k : Brackets) (j : ℕ) (h : Memory) (x : ℕ) (t : List ℕ) → eqb x '<' ≡ true →
      read j (some (between k (inside n p))) h (x ∷ t) ≡ read j (some inner) h (x ∷ t)
  unfolding read step note
  any_brackets k j h x t q = rw q

  data_solid : (F : ℕ) (t : List ℕ) → length t ≤ F → (k : Brackets) (j l : ℕ) → (data_stop k 0 t).whole ≡ true → (drop (data_stop k 0 t).size t ≡ [] → ⊥) →
      read j (some (between k (inside n p))) (solid l) t ≡ comes j l t (data_stop k 0 t)
  unfolding data_stop
  data_solid zero [] b k j l h r = absurd (r refl)
  data_solid zero (x ∷ t) b k j l h r = absurd (not-suc-le-zero b)
  data_solid (suc F) [] b k j l h r = absurd (r refl)
  data_solid (suc F) (x ∷ t) b k j l h r = by_byte (eqb x '<') (eqb x '&') (run_byte k x) refl refl refl h r (λ u v. data_solid F u v)
    where
      shorter : (r : ℕ) → length (drop r t) ≤ F
      shorter r = omega (arith, b, length-drop r t)

      R : Stop
      R = reference_stop t

      Q : Bool → Bool → Bool → Bool → Stop
      Q a b c d =
          cond a (stop 0 true) (cond b (cond d (later 1 (data_stop b0 R.size t)) (later 1 R)) (cond c (later 1 (data_stop (run_next k x) 0 t)) (stop 0 false)))

      Ahead : Type 0
      Ahead =
          (u : List ℕ) → length u ≤ F → (k : Brackets) (j l : ℕ) → (data_stop k 0 u).whole ≡ true → (drop (data_stop k 0 u).size u ≡ [] → ⊥) →
          read j (some (between k (inside n p))) (solid l) u ≡ comes j l u (data_stop k 0 u)

      -- The reference is whole: the data goes on behind it.
      referred : (d : Bool) → R.whole ≡ d → (Q false true false d).whole ≡ true → (drop (Q false true false d).size (x ∷ t) ≡ [] → ⊥) → Ahead →
          read (suc j) (some (ampersand n p)) (solid j) t ≡ comes j l (x ∷ t) (Q false true false d)
      referred true e h r go =
          reference_note (suc j) j t (eqb-true (common (meant t) t) (length (meant t)) e) ∙
          ap (λ z. read (suc j + z) (some inner) (solid (last_after j (suc j) z)) (drop z t)) (sym (eqb-true (common (meant t) t) (length (meant t)) e)) ∙
          go (drop R.size t) (shorter R.size) b0 (suc j + R.size) (last_after j (suc j) R.size) whole-rest rest_more ∙
          comes_laters (suc j) j R.size t (data_stop b0 0 (drop R.size t)) ∙
          ap (comes (suc j) j t) (sym skips) ∙
          comes-later j l x t (data_stop b0 R.size t)
        where
          skips : data_stop b0 R.size t ≡ later R.size (data_stop b0 0 (drop R.size t))
          skips = stop-skips b0 R.size t (common-text (meant t) t)

          whole-rest : (data_stop b0 0 (drop R.size t)).whole ≡ true
          whole-rest = sym (ap (λ (e : Stop). e.whole) skips) ∙ h

          rest_more : drop (data_stop b0 0 (drop R.size t)).size (drop R.size t) ≡ [] → ⊥
          rest_more z = r (ap (λ (e : Stop). drop (1 + e.size) (x ∷ t)) skips ∙ ap (λ i. drop i (x ∷ t)) one ∙ sym (drop-drop (data_stop b0 0 (drop R.size t)).size R.size t) ∙ z)
            where
              one : 1 + (R.size + (data_stop b0 0 (drop R.size t)).size) ≡ suc (R.size + (data_stop b0 0 (drop R.size t)).size)
              one = omega arith
      referred false e h r go = absurd (false≢true (sym e ∙ h))

      by_byte : (a b c : Bool) → eqb x '<' ≡ a → eqb x '&' ≡ b → run_byte k x ≡ c → (Q a b c R.whole).whole ≡ true →
          (drop (Q a b c R.whole).size (x ∷ t) ≡ [] → ⊥) → Ahead →
          read j (some (between k (inside n p))) (solid l) (x ∷ t) ≡ comes j l (x ∷ t) (Q a b c R.whole)
      by_byte true b c q i e h r go = any_brackets k j (solid l) x t q ∙ comes-zero j l (x ∷ t)
      by_byte false true c q i e h r go =
          ap (λ z. read j (some (between k (inside n p))) (solid l) (z ∷ t)) (eqb-true x '&' i) ∙
          read_goes j (between k (inside n p)) (ampersand n p) (solid l) (solid j) '&' t (unfold step step_between in refl) (unfold note in refl) ∙
          referred R.whole refl h r go
      by_byte false false true q i e h r go =
          read_goes j (between k (inside n p)) (between (run_next k x) (inside n p)) (solid l) (solid j) x t (run_step n p k x e) (unfold note in rw q) ∙
          go t (omega (arith, b)) (run_next k x) (suc j) j h more ∙
          comes-later j l x t (data_stop (run_next k x) 0 t)
        where
          more : drop (data_stop (run_next k x) 0 t).size t ≡ [] → ⊥
          more z = r (ap (λ i. drop i (x ∷ t)) one ∙ z)
            where
              one : 1 + (data_stop (run_next k x) 0 t).size ≡ suc (data_stop (run_next k x) 0 t).size
              one = omega arith
      by_byte false false false q i e h r go = absurd (false≢true h)

-- ---- white space first
-- The data held, h, with w bytes of white space from j on.
unfoldable whited : Held → ℕ → ℕ → Held
whited h j w = cond (eqb w 0) h (stretched h j (j + w - 1))

stretched-twice : (h : Held) (j k l i : ℕ) → stretched (stretched h j k) i l ≡ stretched h j l
stretched-twice nothing j k l i = refl
stretched-twice (held f k' o) j k l i = refl

datum-white : (h : Held) (j : ℕ) → datum false j h ≡ stretched h j j
datum-white nothing j = refl
datum-white (held f l none) j = refl
datum-white (held f l (some c)) j = refl

whited-more : (h : Held) (j w : ℕ) → whited (stretched h j j) (suc j) w ≡ whited h j (suc w)
unfolding whited
whited-more h j w = rw (ne_eqb (suc w) 0 λ q. omega arith) (by_zero (eqb w 0) refl)
  where
    by_zero : (b : Bool) → eqb w 0 ≡ b → cond b (stretched h j j) (stretched (stretched h j j) (suc j) (suc j + w - 1)) ≡ stretched h j (j + suc w - 1)
    by_zero true q = ap (stretched h j) last
      where
        last : j ≡ j + suc w - 1
        last = omega (arith, eqb-true w 0 q)
    by_zero false q = stretched-twice h j j (suc j + w - 1) (suc j) ∙ ap (stretched h j) last
      where
        last : suc j + w - 1 ≡ j + suc w - 1
        last = omega arith

-- The first byte that is no white space.
entered : (h : Held) (j w : ℕ) → datum true (j + w) (whited h j w) ≡ marked (stretched h j (j + w)) (j + w)
unfolding whited
entered h j w = by_zero (eqb w 0) refl
  where
    by_zero : (b : Bool) → eqb w 0 ≡ b → datum true (j + w) (cond b h (stretched h j (j + w - 1))) ≡ marked (stretched h j (j + w)) (j + w)
    by_zero true q = first h
      where
        none_more : j + w ≡ j
        none_more = omega (arith, eqb-true w 0 q)

        first : (h : Held) → datum true (j + w) h ≡ marked (stretched h j (j + w)) (j + w)
        first nothing = ap (λ i. held i (j + w) (some (j + w))) none_more
        first (held f l none) = refl
        first (held f l (some c)) = refl
    by_zero false q = later-byte h
      where
        later-byte : (h : Held) → datum true (j + w) (stretched h j (j + w - 1)) ≡ marked (stretched h j (j + w)) (j + w)
        later-byte nothing = refl
        later-byte (held f l none) = refl
        later-byte (held f l (some c)) = refl

white-noted : (n : List ℕ) (p : Place) (x j : ℕ) (m : Memory) → white x ≡ true → note (between b0 (inside n p)) x j m ≡ holds false j m
unfolding note
white-noted n p x j m q = rw (white-angle x q, q)

solid-noted : (n : List ℕ) (p : Place) (x j : ℕ) (m : Memory) → white x ≡ false → eqb x '<' ≡ false → note (between b0 (inside n p)) x j m ≡ holds true j m
unfolding note
solid-noted n p x j m q e = rw (e, q)

-- ---- the stops of one byte
drop-none : (k : ℕ) → ◌≡◌ {A = List ℕ} (drop k []) []
drop-none zero = refl
drop-none (suc k) = refl

pub ampersand_size : (x : ℕ) (u : List ℕ) → eqb x '<' ≡ false → eqb x '&' ≡ true → 1 ≤ (data_stop b0 0 (x ∷ u)).size
unfolding data_stop
ampersand_size x u a b = rw (a, b) (either (reference_stop u).whole)
  where
    either : (b : Bool) → 1 ≤ (cond b (later 1 (data_stop b0 (reference_stop u).size u)) (later 1 (reference_stop u))).size
    either true = omega arith
    either false = omega arith

pub run-size : (k : Brackets) (x : ℕ) (u : List ℕ) → run_byte k x ≡ true → 1 ≤ (data_stop k 0 (x ∷ u)).size
run-size k x u h = rw (run-stop k x u h) (omega arith)

pub dead_stop : (x : ℕ) (u : List ℕ) → eqb x '<' ≡ false → eqb x '&' ≡ false → run_byte b0 x ≡ false → (data_stop b0 0 (x ∷ u)).whole ≡ false
unfolding data_stop
dead_stop x u a b c = rw (a, b, c)

module _ (m : Memory) (n : List ℕ) (p : Place) where
  abbrev innerly : State
  innerly = between b0 (inside n p)

  white-note : (h : Held) (j : ℕ) (t : List ℕ) →
      read j (some innerly) (holding h m) t ≡ read (j + span white t) (some innerly) (holding (whited h j (span white t)) m) (drop (span white t) t)
  unfolding span
  white-note h j [] = ap (λ i. read i (some innerly) (holding h m) []) place ∙ ap (λ g. read (j + 0) (some innerly) (holding g m) []) (unfold whited in refl)
    where
      place : j ≡ j + 0
      place = omega arith
  white-note h j (x ∷ t) = by_byte (white x) refl (white-note (stretched h j j) (suc j) t)
    where
      place : suc j + span white t ≡ j + suc (span white t)
      place = omega arith

      zero_more : j ≡ j + 0
      zero_more = omega arith

      by_byte : (b : Bool) → white x ≡ b →
          read (suc j) (some innerly) (holding (stretched h j j) m) t ≡
          read (suc j + span white t) (some innerly) (holding (whited (stretched h j j) (suc j) (span white t)) m) (drop (span white t) t) →
          read j (some innerly) (holding h m) (x ∷ t) ≡
          read (j + cond b (suc (span white t)) 0) (some innerly) (holding (whited h j (cond b (suc (span white t)) 0)) m)
          (drop (cond b (suc (span white t)) 0) (x ∷ t))
      by_byte true q r =
          read_goes j innerly (between (run_next b0 x) (inside n p)) (holding h m) (holding (datum false j h) m) x t (run_step n p b0 x (white-run x q))
          (white-noted n p x j (holding h m) q) ∙
          ap (λ k. read (suc j) (some (between k (inside n p))) (holding (datum false j h) m) t) (white-next x q) ∙
          ap (λ g. read (suc j) (some innerly) (holding g m) t) (datum-white h j) ∙ r ∙
          ap (λ i. read i (some innerly) (holding (whited (stretched h j j) (suc j) (span white t)) m) (drop (span white t) t)) place ∙
          ap (λ g. read (j + suc (span white t)) (some innerly) (holding g m) (drop (span white t) t)) (whited-more h j (span white t))
      by_byte false q r =
          ap (λ i. read i (some innerly) (holding h m) (x ∷ t)) zero_more ∙ ap (λ g. read (j + 0) (some innerly) (holding g m) (x ∷ t)) (unfold whited in refl)

  -- From the first byte x that is no white space, on which the machine goes on to s; F and C are the data's first byte and its first solid one.
  solid-first : (g : Held) (F C i x : ℕ) (u : List ℕ) (s : State) → datum true i g ≡ held F i (some C) → white x ≡ false → eqb x '<' ≡ false →
      step innerly x ≡ some s → (data_stop b0 0 (x ∷ u)).whole ≡ true → (drop (data_stop b0 0 (x ∷ u)).size (x ∷ u) ≡ [] → ⊥) →
      read i (some innerly) (holding g m) (x ∷ u) ≡ comes m F C n p i i (x ∷ u) (data_stop b0 0 (x ∷ u))
  solid-first g F C i x u s e w a f h r =
      read_goes i innerly s (holding g m) (holding (held F i (some C)) m) x u f
      (solid-noted n p x i (holding g m) w a ∙ ap (λ z. holding z m) e) ∙
      sym (read_goes i innerly s (holding (held F i (some C)) m) (holding (held F i (some C)) m) x u f (solid-noted n p x i (holding (held F i (some C)) m) w a)) ∙
      data_solid m F C n p (length (x ∷ u)) (x ∷ u) (omega arith) b0 i i h r

  -- Data as a whole.
  module _ (h : Held) (j : ℕ) (t : List ℕ) where
    abbrev w : ℕ
    w = span white t

    abbrev D : Stop
    D = data_stop b0 0 t

    abbrev ahead : List ℕ
    ahead = drop w t

    abbrev E : Stop
    E = data_stop b0 0 ahead

    D_is : D ≡ later w E
    D_is = white-stop t

    D_size : D.size ≡ w + E.size
    D_size = ap (λ (e : Stop). e.size) D_is

    -- White space alone.
    spaces-only : E.size ≡ 0 → 1 ≤ D.size →
        read (j + w) (some innerly) (holding (whited h j w) m) ahead ≡ read (j + D.size) (some innerly) (holding (with_run h j w D.size) m) (drop D.size t)
    unfolding whited with_run
    spaces-only z l =
        ap (λ i. read (j + i) (some innerly) (holding (whited h j w) m) (drop i t)) same ∙
        ap (λ g. read (j + D.size) (some innerly) (holding g m) (drop D.size t)) runs
      where
        same : w ≡ D.size
        same = omega (arith, z, D_size)

        runs : whited h j w ≡ with_run h j w D.size
        runs = rw (ne_eqb w 0 (λ q. omega (arith, q, l, same)), le-ltb w D.size (omega (arith, same))) (ap (λ i. stretched h j (j + i - 1)) same)

    solid-run : (F C : ℕ) → ((l : ℕ) → marked (stretched h j l) (j + w) ≡ held F l (some C)) → 1 ≤ E.size →
        comes m F C n p (j + w) (j + w) ahead E ≡ read (j + D.size) (some innerly) (holding (with_run h j w D.size) m) (drop D.size t)
    unfolding with_run last_after
    solid-run F C e l =
        ap (λ i. read i (some innerly) (holding (held F (last_after (j + w) (j + w) E.size) (some C)) m) (drop E.size (drop w t))) place ∙
        ap (λ i. read (j + D.size) (some innerly) (holding (held F (last_after (j + w) (j + w) E.size) (some C)) m) i) rest ∙
        ap (λ g. read (j + D.size) (some innerly) (holding g m) (drop D.size t)) (ap (λ i. held F i (some C)) last ∙ sym (e (j + D.size - 1)) ∙ runs)
      where
        place : j + w + E.size ≡ j + D.size
        place = omega (arith, D_size)

        rest : drop E.size (drop w t) ≡ drop D.size t
        rest = drop-drop E.size w t ∙ ap (λ i. drop i t) (sym D_size)

        last : last_after (j + w) (j + w) E.size ≡ j + D.size - 1
        last = rw (ne_eqb E.size 0 λ q. omega (arith, q, l)) (omega (arith, D_size))

        runs : marked (stretched h j (j + D.size - 1)) (j + w) ≡ with_run h j w D.size
        runs = rw (lt-ltb w D.size (omega (arith, l, D_size)))

    -- By the byte after the white space.
    data_with : (F C : ℕ) → ((l : ℕ) → marked (stretched h j l) (j + w) ≡ held F l (some C)) → D.whole ≡ true → (drop D.size t ≡ [] → ⊥) → 1 ≤ D.size →
        (v : List ℕ) → ahead ≡ v →
        read (j + w) (some innerly) (holding (whited h j w) m) ahead ≡ read (j + D.size) (some innerly) (holding (with_run h j w D.size) m) (drop D.size t)
    data_with F C e d r l [] q = absurd (r (ap (λ i. drop i t) D_size ∙ sym (drop-drop E.size w t) ∙ ap (drop E.size) q ∙ drop-none E.size))
    data_with F C e d r l (x ∷ u) q = by_byte (eqb x '<') (eqb x '&') (run_byte b0 x) refl refl refl
      where
        solid-byte : white x ≡ false
        solid-byte = span-next white t x u q

        E_is : E ≡ data_stop b0 0 (x ∷ u)
        E_is = ap (data_stop b0 0) q

        E_whole : (data_stop b0 0 (x ∷ u)).whole ≡ true
        E_whole = sym (ap (λ (e : Stop). e.whole) E_is) ∙ sym (ap (λ (e : Stop). e.whole) D_is) ∙ d

        E_more : drop (data_stop b0 0 (x ∷ u)).size (x ∷ u) ≡ [] → ⊥
        E_more z =
            r
            (ap (λ i. drop i t) D_size ∙ sym (drop-drop E.size w t) ∙ ap (drop E.size) q ∙ ap (λ (e : Stop). drop e.size (x ∷ u)) E_is ∙ z)

        goal : Type 0
        goal =
            read (j + w) (some innerly) (holding (whited h j w) m) ahead ≡
            read (j + D.size) (some innerly) (holding (with_run h j w D.size) m) (drop D.size t)

        first : (s : State) → eqb x '<' ≡ false → step innerly x ≡ some s → 1 ≤ (data_stop b0 0 (x ∷ u)).size → goal
        first s a f g =
            ap (λ z. read (j + w) (some innerly) (holding (whited h j w) m) z) q ∙
            solid-first (whited h j w) F C (j + w) x u s (entered h j w ∙ e (j + w)) solid-byte a f E_whole E_more ∙
            ap (λ z. comes m F C n p (j + w) (j + w) z (data_stop b0 0 z)) (sym q) ∙
            solid-run F C e (omega (arith, g, ap (λ (e : Stop). e.size) E_is))

        by_byte : (a b c : Bool) → eqb x '<' ≡ a → eqb x '&' ≡ b → run_byte b0 x ≡ c → goal
        by_byte true b c k i o = spaces-only (ap (λ (e : Stop). e.size) (E_is ∙ angle-stop x u k)) l
        by_byte false true c k i o = first (ampersand n p) k (unfold step step_between in rw (k, i)) (ampersand_size x u k i)
        by_byte false false true k i o = first (between (run_next b0 x) (inside n p)) k (run_step n p b0 x o) (run-size b0 x u o)
        by_byte false false false k i o = absurd (false≢true (sym (dead_stop x u k i o) ∙ E_whole))

  pub data_note : (h : Held) (j : ℕ) (t : List ℕ) → (data_stop b0 0 t).whole ≡ true → (drop (data_stop b0 0 t).size t ≡ [] → ⊥) → 1 ≤ (data_stop b0 0 t).size →
      read j (some innerly) (holding h m) t ≡
      read (j + (data_stop b0 0 t).size) (some innerly) (holding (with_run h j (span white t) (data_stop b0 0 t).size) m) (drop (data_stop b0 0 t).size t)
  data_note nothing j t d r l =
      white-note nothing j t ∙ data_with nothing j t j (j + span white t) (λ l. refl) d r l (drop (span white t) t) refl
  data_note (held f k none) j t d r l =
      white-note (held f k none) j t ∙ data_with (held f k none) j t f (j + span white t) (λ l. refl) d r l (drop (span white t) t) refl
  data_note (held f k (some c)) j t d r l =
      white-note (held f k (some c)) j t ∙ data_with (held f k (some c)) j t f c (λ l. refl) d r l (drop (span white t) t) refl

-- ---- outside the root
pub space-note : (p : Place) → Stays white (between b0 p) → (m : Memory) (j : ℕ) (t : List ℕ) →
    read j (some (between b0 p)) m t ≡ read (j + span white t) (some (between b0 p)) m (drop (span white t) t)
space-note p stays m j t =
    ap (λ z. read j (some (between b0 p)) m z) (sym (take-append-drop (span white t) t)) ∙
    (loop-passes white (between b0 p) stays (take (span white t) t) (span-keeps white t)).reading j m (drop (span white t) t) ∙
    ap (λ i. read (j + i) (some (between b0 p)) m (drop (span white t) t)) (length-take-le (span white t) t (span_le white t))
