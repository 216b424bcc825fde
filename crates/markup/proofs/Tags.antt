-- The parts of tags, at the places of a text. Assumes nothing.
--   close-greater, close_other                a `>` at a place; another byte, or none
--   name-none, name-low, name-is              a name at a place: none, for want of a byte or of one that begins a name; or as many bytes as go on with one
--   Named                                     a name and the white space after it; `named`: as they are read
-- Letters: t text, i k places, m the place after a name.
use Prim.Native.Nat.{ℕ, suc, ◌+◌, ◌≤◌, ◌<◌}
use mathlib.Core.Path.{◌≡◌, refl, sym, ap, ◌∙◌}
use mathlib.Core.Logic.{⊎_elim}
use mathlib.Core.List.{List, ◌∷◌}
use mathlib.Core.Bool.{Bool, true, false, cond, ◌||◌}
use native.Mathlib.Omega.{arith}
use lib.ListN.{length, get_or, drop}
use lib.Seq.{drop-drop}
use lib.Dec.{leb, ltb}
use borrow.Author.Tests.{ne_eqb, lt-leb, ltb-true, ltb-false}
use Rattle.seq.proofs.Laws.Bools.{bool_cases, and_false-right}
use Rattle.profile.specs.Bytes.{'>', white, name_start, name_char}
use Rattle.profile.specs.Classes.{within, NAMECHARS}
use Rattle.profile.specs.Spans.{span}
use Rattle.profile.specs.Pieces.{stop, close_stop, name_size}
use Rattle.markup.specs.Inner.{reached, reached_from}
use Rattle.markup.proofs.Classes.{rule, span-rule}
use Rattle.markup.proofs.Reading.{reached-stop, row_at, row-end}

-- ---- a `>`
module _ (t : List ℕ) (i : ℕ) where
  pub close-greater : i < length t → get_or t i 0 ≡ '>' → reached (i + 1) true ≡ reached_from i (close_stop (drop i t))
  unfolding close_stop
  close-greater l e = ap (λ u. reached_from i (close_stop u)) (sym (row_at t i l ∙ ap (λ y. y ∷ drop (i + 1) t) e))

  pub close_other : (i < length t → get_or t i 0 ≡ '>' → ⊥) → reached i false ≡ reached_from i (close_stop (drop i t))
  unfolding close_stop
  close_other e = ⊎_elim (λ q. within (ltb-true i (length t) q)) (λ q. past (ltb-false i (length t) q)) (bool_cases (ltb i (length t)))
    where
      within : i < length t → reached i false ≡ reached_from i (close_stop (drop i t))
      within l =
          sym (ap (λ u. reached_from i (close_stop u)) (row_at t i l) ∙ ap (λ (b : Bool). reached_from i (cond b (stop 1 true) (stop 0 false))) (ne_eqb _ _ (e l)) ∙ reached-stop i false)

      past : length t ≤ i → reached i false ≡ reached_from i (close_stop (drop i t))
      past l = sym (ap (λ u. reached_from i (close_stop u)) (row-end t i l) ∙ reached-stop i false)

-- ---- names
-- Below `:` no byte begins a name; from `:` on each that goes on with one begins one.
start-low : (x : ℕ) → x < 58 → name_start x ≡ false
unfolding name_start
start-low x l = simp (ne_eqb x 58 (λ (q : x ≡ 58). omega arith), ne_eqb x 95 (λ (q : x ≡ 95). omega arith), lt-leb 65 x (omega arith), lt-leb 97 x (omega arith))

start-high : (x : ℕ) → 58 ≤ x → name_start x ≡ name_char x
unfolding name_char
start-high x l = alone (name_start x) _ _ _ (ne_eqb x 45 (λ (q : x ≡ 45). omega arith)) (ne_eqb x 46 (λ (q : x ≡ 46). omega arith)) (and_false-right (leb 48 x) _ (lt-leb x 57 (omega arith)))
  where
    alone : (a b c d : Bool) → b ≡ false → c ≡ false → d ≡ false → a ≡ (a || b || c || d)
    alone true b c d e f g = refl
    alone false b c d e f g = rw (e, f, g)

run-head : (x : ℕ) (u : List ℕ) → name_start x ≡ name_char x → span name_char (x ∷ u) ≡ cond (name_start x) (suc (span name_char u)) 0
unfolding span
run-head x u e = rw e

module _ (t : List ℕ) (i : ℕ) where
  pub name-none : length t ≤ i → i ≡ i + name_size (drop i t)
  unfolding name_size
  name-none l = omega (arith, ap name_size (row-end t i l))

  name-head : i < length t → name_size (drop i t) ≡ cond (name_start (get_or t i 0)) (suc (span name_char (drop (i + 1) t))) 0
  unfolding name_size
  name-head l = ap name_size (row_at t i l)

  pub name-low : i < length t → get_or t i 0 < 58 → i ≡ i + name_size (drop i t)
  name-low l h = omega (arith, name-head l ∙ ap (λ (b : Bool). cond b (suc (span name_char (drop (i + 1) t))) 0) (start-low (get_or t i 0) h))

  pub name-is : i < length t → 58 ≤ get_or t i 0 → (r : ℕ) → r ≡ i + span (within NAMECHARS) (drop i t) → r ≡ i + name_size (drop i t)
  name-is l h r p = omega (arith, p, span-rule name_char (within NAMECHARS) (λ x. (rule x).of-name_char) (drop i t), name-head l ∙ sym goes)
    where
      goes : span name_char (drop i t) ≡ cond (name_start (get_or t i 0)) (suc (span name_char (drop (i + 1) t))) 0
      goes = ap (span name_char) (row_at t i l) ∙ run-head (get_or t i 0) (drop (i + 1) t) (start-high (get_or t i 0) h)

-- The name at k, n bytes long and so ending at m, and s bytes of white space after it, ending at i.
pub record Named (t : List ℕ) (k m i n s : ℕ) : Type 0 where
  pub name : name_size (drop k t) ≡ n
  pub spaces : span white (drop n (drop k t)) ≡ s
  pub rest : drop s (drop n (drop k t)) ≡ drop i t
  pub middle : m ≡ k + n
  pub place : i ≡ m + s

pub named : (t : List ℕ) (k m i : ℕ) → m ≡ k + name_size (drop k t) → i ≡ m + span white (drop m t) → Named t k m i (name_size (drop k t)) (span white (drop m t))
named t k m i p q =
    record {
      name = refl;
      spaces = ap (span white) named_end;
      rest = ap (drop (span white (drop m t))) named_end ∙ drop-drop (span white (drop m t)) m t ∙ ap (λ j. drop j t) (sym q);
      middle = p;
      place = q;
    }
  where
    named_end : drop (name_size (drop k t)) (drop k t) ≡ drop m t
    named_end = drop-drop (name_size (drop k t)) k t ∙ ap (λ j. drop j t) (sym p)
