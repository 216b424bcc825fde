-- Each turn in numbers is `profile`'s turn.
--   end-told, data_told, close-told, start-told, empty-told, other-told   by the kind of the piece
-- Letters as in specs/Inner; q a piece of `profile`, t the text from the piece on. Assumes nothing.
use Prim.Native.Nat.{ℕ, zero, suc, pred, ◌+◌, ◌-◌, ◌≤◌, ◌<◌}
use mathlib.Core.Path.{◌≡◌, refl, sym, ap, ap₂, subst, ◌∙◌}
use mathlib.Core.Logic.{⊎_elim}
use mathlib.Core.List.{List}
use mathlib.Core.Bool.{Bool, true, false, not, cond, ◌&&◌, ◌||◌, false≢true}
use native.Mathlib.Omega.{arith}
use lib.Dec.{eqb, ltb, leb}
use lib.ListN.{length, get_or, set, take, drop, length-set, length-take, length-drop}
use lib.Seq.{drop-drop, get_or-set_same, get_or-set_other}
use borrow.Author.Tests.{eqb-true, eqb-false, eq-eqb, ne_eqb, ltb-true, ltb-false, lt-ltb, le-ltb, leb-false, le-leb, lt-leb}
use Rattle.seq.proofs.Laws.Bools.{bool_cases, and_left, and_right, cond-true, cond-false}
use Rattle.profile.specs.Spans.{common}
use Rattle.profile.specs.Machine.{Place, before, after, inside, past}
use Rattle.profile.specs.Check.{Tally, whole, broken, over, full}
use Rattle.profile.specs.Pieces.{START, EMPTY}
use Rattle.profile.specs.Pieces as pieces
use Rattle.profile.specs.Turns.{halt, go, tally, name_of, with_data, tag_tally, turn_space, turn_end, turn_data, turn_element, turn_tag, turn_close}
use Rattle.profile.specs.Turns as turns
use Rattle.std.proofs.Common.{Ok}
use Rattle.std.specs.declared.ops.ControlFlow.TheVariants.{Break}
use Rattle.markup.specs.declared.Piece.{Piece}
use Rattle.markup.specs.Pieces.{piece_from}
use Rattle.judge.specs.Judge.{max_level, max_nodes, in_numbers}
use Rattle.judge.specs.Inner.{no_name, Turn, name_in, open_place, place_of, tally_in, broken_at, over_at, goes_on, is_full, is_closed, passed, space_turn, data_turn, tag_turn, close_turn, Holds, Told}
use Rattle.judge.specs.declared.turns.Name.{Name}
use Rattle.judge.specs.declared.turns.State.{State}

-- ---- numbers
eqb_shift : (w m n : ℕ) → eqb m n ≡ eqb (w + m) (w + n)
eqb_shift w m n =
    ⊎_elim
    (λ q. q ∙ sym (eq-eqb (w + m) (w + n) (omega (arith, eqb-true m n q))))
    (λ q. q ∙ sym (ne_eqb (w + m) (w + n) λ e. eqb-false m n q (omega (arith, e))))
    (bool_cases (eqb m n))

ltb_shift : (w m n : ℕ) → ltb m n ≡ ltb (w + m) (w + n)
ltb_shift w m n =
    ⊎_elim
    (λ q. q ∙ sym (lt-ltb (w + m) (w + n) (omega (arith, ltb-true m n q))))
    (λ q. q ∙ sym (le-ltb (w + m) (w + n) (omega (arith, ltb-false m n q))))
    (bool_cases (ltb m n))

ltb-leb : (m n : ℕ) → ltb m (suc n) ≡ leb m n
ltb-leb m n =
    ⊎_elim
    (λ q. q ∙ sym (le-leb m n (omega (arith, ltb-true m (suc n) q))))
    (λ q. q ∙ sym (lt-leb m n (omega (arith, ltb-false m (suc n) q))))
    (bool_cases (ltb m (suc n)))

pub full_is : (m d : ℕ) (b : Bool) → full max_level max_nodes (tally m d b) ≡ is_full d m
unfolding is_full
full_is m d b = ap (λ a. a || leb 65536 m) (ltb-leb 64 d)

-- ---- the two ways a turn is told
module _ (T : List ℕ) (N : List Name) where
  told_if : (b : Bool) (x y : turns.Turn) (u v : Turn) → (b ≡ true → Told x T u N) → (b ≡ false → Told y T v N) → Told (cond b x y) T (cond b u v) N
  told_if true x y u v f g = f refl
  told_if false x y u v f g = g refl

  pub told_move : (x y : turns.Turn) (u v : Turn) → x ≡ y → u ≡ v → Told y T v N → Told x T u N
  told_move x y u v e f r = subst (λ z. Told z T u N) (sym e) (subst (λ z. Told y T z N) (sym f) r)

  told-broken : (i i' : ℕ) → i' ≡ i → Told (halt (broken i)) T (broken_at i') N
  told-broken i i' e = ap (λ z. in_numbers (broken z)) e

  told_over : (v : ℕ) → Told (halt (over v)) T (over_at v) N
  told_over v = refl

  told-ended : (n : ℕ) → Told (halt (whole n)) T (Break (Ok n)) N
  told-ended n = refl

  told-goes : (p : Place) (d m : ℕ) (b r : Bool) → place_of T N r d ≡ p → Holds T (record { depth = d; met = m; solid = b; rooted = r }) N →
      Told (go p (tally m d b)) T (goes_on d m b r) N
  told-goes p d m b r e h = record { tally = refl; place = e; holds = h }

  -- The state with other numbers, and no more open elements.
  holds-with : (s : State) → Holds T s N → (d m : ℕ) (b r : Bool) → d ≤ s.depth → m ≤ 65536 → (1 ≤ d → r ≡ true) →
      Holds T (record { depth = d; met = m; solid = b; rooted = r }) N
  holds-with s h d m b r l k f =
      record {
        short = h.short;
        names = h.names;
        deep = omega (arith, l, h.deep);
        many = k;
        rooted = f;
        within = λ i g. h.within i (omega (arith, g, l));
      }

-- Not full: one node more fits.
more-nodes : (d m : ℕ) → is_full d m ≡ false → suc m ≤ 65536
unfolding is_full
more-nodes d m e = by_test (leb 64 d) (leb 65536 m) refl e
  where
    by_test : (a b : Bool) → leb 65536 m ≡ b → (a || b) ≡ false → suc m ≤ 65536
    by_test true b q e = absurd (false≢true (sym e))
    by_test false true q e = absurd (false≢true (sym e))
    by_test false false q e = omega (arith, leb-false 65536 m q)

less-deep : (d m : ℕ) → is_full d m ≡ false → suc d ≤ 64
unfolding is_full
less-deep d m e = by_test (leb 64 d) (leb 65536 m) refl e
  where
    by_test : (a b : Bool) → leb 64 d ≡ a → (a || b) ≡ false → suc d ≤ 64
    by_test true b q e = absurd (false≢true (sym e))
    by_test false b q e = omega (arith, leb-false 64 d q)

-- ---- places
module _ (T : List ℕ) (N : List Name) where
  -- Where no element is open the root is before or behind.
  place-zero : (r : Bool) → place_of T N r 0 ≡ cond r after before
  unfolding place_of
  place-zero r = refl

  place-suc : (r : Bool) (d : ℕ) → place_of T N r (suc d) ≡ inside (name_in T N d) (open_place T N d)
  unfolding place_of open_place
  place-suc r d = refl

  past-place : (r : Bool) (d : ℕ) → r ≡ true → past (open_place T N d) ≡ place_of T N r d
  unfolding place_of open_place
  past-place r zero e = sym (ap (λ b. cond b after before) e)
  past-place r (suc d) e = refl

space-is : (c : Tally) (r : Bool) (at : ℕ) (q : pieces.Piece) (T : List ℕ) (N : List Name) →
    turn_data max_level max_nodes (place_of T N r 0) c at q ≡ turn_space (place_of T N r 0) c at q
unfolding place_of turn_data
space-is c true at q T N = refl
space-is c false at q T N = refl

close-outside : (c : Tally) (r : Bool) (at : ℕ) (t : List ℕ) (q : pieces.Piece) (T : List ℕ) (N : List Name) →
    turn_close max_level max_nodes (place_of T N r 0) c at t q ≡ halt (broken (at + 1))
unfolding place_of turn_close
close-outside c true at t q T N = refl
close-outside c false at t q T N = refl

tag-after : (c : Tally) (at : ℕ) (t : List ℕ) (q : pieces.Piece) (T : List ℕ) (N : List Name) → turn_tag max_level max_nodes (place_of T N true 0) c at t q ≡ halt (broken (at + 1))
unfolding place_of turn_tag
tag-after c at t q T N = refl

tag-before : (c : Tally) (at : ℕ) (t : List ℕ) (q : pieces.Piece) (T : List ℕ) (N : List Name) →
    turn_tag max_level max_nodes (place_of T N false 0) c at t q ≡ turn_element max_level max_nodes before c at t q
unfolding place_of turn_tag
tag-before c at t q T N = refl

tag-inside : (c : Tally) (at : ℕ) (t : List ℕ) (q : pieces.Piece) (T : List ℕ) (N : List Name) (r : Bool) (d : ℕ) →
    turn_tag max_level max_nodes (place_of T N r (suc d)) c at t q ≡ turn_element max_level max_nodes (open_place T N (suc d)) c at t q
unfolding place_of open_place turn_tag
tag-inside c at t q T N r d = refl

open_zero : (T : List ℕ) (N : List Name) → open_place T N 0 ≡ before
unfolding open_place
open_zero T N = refl

end_before : (c : Tally) (at : ℕ) (T : List ℕ) (N : List Name) → turn_end (place_of T N false 0) c at ≡ halt (broken at)
unfolding place_of turn_end
end_before c at T N = refl

end-inside : (c : Tally) (at : ℕ) (n : List ℕ) (P : Place) → turn_end (inside n P) c at ≡ halt (broken at)
unfolding turn_end
end-inside c at n P = refl

module _ (at : ℕ) (T : List ℕ) (s : State) (N : List Name) (h : Holds T s N) (q : pieces.Piece) where
  p : Piece
  p = piece_from at q

  -- ---- data
  space-told : (P : Place) → place_of T N s.rooted 0 ≡ P → s.depth ≡ 0 →
      Told (turn_space P (tally_in s) at q) T (cond (q.whole && eqb (at + q.middle) (at + q.size)) (goes_on 0 s.met s.solid s.rooted) (broken_at (at + q.middle))) N
  space-told P e z =
      subst (λ b. Told (turn_space P (tally_in s) at q) T (cond (q.whole && b) (goes_on 0 s.met s.solid s.rooted) (broken_at (at + q.middle))) N)
      (eqb_shift at q.middle q.size)
      (told_if T N (q.whole && eqb q.middle q.size) (go P (tally_in s)) (halt (broken (at + q.middle))) (goes_on 0 s.met s.solid s.rooted)
      (broken_at (at + q.middle))
      (λ w. subst (λ d. Told (go P (tally s.met d s.solid)) T (goes_on 0 s.met s.solid s.rooted) N) (sym z)
      (told-goes T N P 0 s.met s.solid s.rooted e
      (holds-with T N s h 0 s.met s.solid s.rooted (omega arith) h.many (λ l. absurd (zero_one l)))))
      (λ w. told-broken T N (at + q.middle) (at + q.middle) refl))
    where
      zero_one : 1 ≤ 0 → ⊥
      zero_one l = omega arith

  -- Inside an element, by the tests: more than white space, the data makes a node already, full, whole.
  data_tests : (n : List ℕ) (P : Place) → place_of T N s.rooted s.depth ≡ inside n P →
      (b so f w : Bool) → s.solid ≡ so → is_full s.depth s.met ≡ f →
      Told
      (cond (b && not so && f) (halt (over s.met))
      (cond w (go (inside n P) (cond b (tally (cond so s.met (suc s.met)) s.depth true) (tally s.met s.depth so))) (halt (broken (at + q.size)))))
      T
      (cond (b && not so)
      (cond f (over_at s.met) (cond w (goes_on s.depth (suc s.met) true s.rooted) (broken_at (at + q.size))))
      (cond w (goes_on s.depth s.met so s.rooted) (broken_at (at + q.size))))
      N
  data_tests n P e true true f w k g = passing w
    where
      passing : (w : Bool) →
          Told (cond w (go (inside n P) (tally s.met s.depth true)) (halt (broken (at + q.size)))) T
          (cond w (goes_on s.depth s.met true s.rooted) (broken_at (at + q.size))) N
      passing true =
          told-goes T N (inside n P) s.depth s.met true s.rooted e (holds-with T N s h s.depth s.met true s.rooted (omega arith) h.many h.rooted)
      passing false = told-broken T N (at + q.size) (at + q.size) refl
  data_tests n P e true false true w k g = told_over T N s.met
  data_tests n P e true false false true k g =
      told-goes T N (inside n P) s.depth (suc s.met) true s.rooted e
      (holds-with T N s h s.depth (suc s.met) true s.rooted (omega arith) (more-nodes s.depth s.met g) h.rooted)
  data_tests n P e true false false false k g = told-broken T N (at + q.size) (at + q.size) refl
  data_tests n P e false so f true k g =
      told-goes T N (inside n P) s.depth s.met so s.rooted e (holds-with T N s h s.depth s.met so s.rooted (omega arith) h.many h.rooted)
  data_tests n P e false so f false k g = told-broken T N (at + q.size) (at + q.size) refl

  run-told : (n : List ℕ) (P : Place) → place_of T N s.rooted s.depth ≡ inside n P →
      Told (turn_data max_level max_nodes (inside n P) (tally_in s) at q) T
      (cond (ltb (at + q.middle) (at + q.size) && not s.solid)
      (cond (is_full s.depth s.met) (over_at s.met) (cond q.whole (goes_on s.depth (suc s.met) true s.rooted) (broken_at (at + q.size))))
      (passed (piece_from at q) s)) N
  unfolding turn_data passed
  run-told n P e =
      subst
      (λ b. Told (turn_data max_level max_nodes (inside n P) (tally_in s) at q) T
      (cond (b && not s.solid)
      (cond (is_full s.depth s.met) (over_at s.met) (cond q.whole (goes_on s.depth (suc s.met) true s.rooted) (broken_at (at + q.size))))
      (passed (piece_from at q) s))
      N)
      (ltb_shift at q.middle q.size)
      (subst
      (λ f. Told
      (cond (ltb q.middle q.size && not s.solid && f) (halt (over s.met))
      (cond q.whole (go (inside n P) (with_data (tally_in s) q)) (halt (broken (at + q.size)))))
      T
      (cond (ltb q.middle q.size && not s.solid)
      (cond (is_full s.depth s.met) (over_at s.met) (cond q.whole (goes_on s.depth (suc s.met) true s.rooted) (broken_at (at + q.size))))
      (passed (piece_from at q) s))
      N)
      (sym (full_is s.met s.depth s.solid))
      (data_tests n P e (ltb q.middle q.size) s.solid (is_full s.depth s.met) q.whole refl refl))

  pub data_told : Told (turn_data max_level max_nodes (place_of T N s.rooted s.depth) (tally_in s) at q) T (data_turn (piece_from at q) s) N
  unfolding data_turn space_turn
  data_told = by-depth s.depth refl
    where
      by-depth : (d : ℕ) → s.depth ≡ d → Told (turn_data max_level max_nodes (place_of T N s.rooted s.depth) (tally_in s) at q) T (data_turn (piece_from at q) s) N
      by-depth zero e =
          told_move T N _ _ _ _ (ap (λ d. turn_data max_level max_nodes (place_of T N s.rooted d) (tally_in s) at q) e ∙ space-is (tally_in s) s.rooted at q T N)
          (cond-true (eqb s.depth 0) (eq-eqb s.depth 0 e) _ _) (space-told (place_of T N s.rooted 0) refl e)
      by-depth (suc d) e =
          told_move T N _ _ _ _ (ap (λ P. turn_data max_level max_nodes P (tally_in s) at q) (place_in e))
          (cond-false (eqb s.depth 0) (ne_eqb s.depth 0 λ z. omega (arith, e, z)) _ _) (run-told (name_in T N d) (open_place T N d) (place_in e))
        where
          place_in : s.depth ≡ suc d → place_of T N s.rooted s.depth ≡ inside (name_in T N d) (open_place T N d)
          place_in e = ap (place_of T N s.rooted) e ∙ place-suc T N s.rooted d

  -- ---- the end, comments, and what begins no piece
  pub end-told : is_closed s.depth s.rooted ≡ true → Told (turn_end (place_of T N s.rooted s.depth) (tally_in s) at) T (Break (Ok s.met)) N
  unfolding turn_end place_of is_closed
  end-told c =
      let e : s.depth ≡ 0 = eqb-true s.depth 0 (and_left (eqb s.depth 0) s.rooted c) in
      let r : s.rooted ≡ true = and_right (eqb s.depth 0) s.rooted c in
      told_move T N _ _ _ _ (ap₂ (λ d b. turn_end (place_of T N b d) (tally_in s) at) e r) refl (told-ended T N s.met)

  pub short-told : is_closed s.depth s.rooted ≡ false → Told (turn_end (place_of T N s.rooted s.depth) (tally_in s) at) T (broken_at at) N
  unfolding is_closed
  short-told f = told_move T N _ _ _ _ (by-depth s.depth s.rooted refl refl) refl (told-broken T N at at refl)
    where
      by-depth : (d : ℕ) (r : Bool) → s.depth ≡ d → s.rooted ≡ r → turn_end (place_of T N s.rooted s.depth) (tally_in s) at ≡ halt (broken at)
      by-depth zero true e r = absurd (false≢true (sym f ∙ ap₂ (λ a b. a && b) (eq-eqb s.depth 0 e) r))
      by-depth zero false e r = ap₂ (λ d b. turn_end (place_of T N b d) (tally_in s) at) e r ∙ end_before (tally_in s) at T N
      by-depth (suc d) b e r = ap (λ P. turn_end P (tally_in s) at) (ap (place_of T N s.rooted) e ∙ place-suc T N s.rooted d) ∙ end-inside (tally_in s) at (name_in T N d) (open_place T N d)

  pub other-told : Told (cond q.whole (go (place_of T N s.rooted s.depth) (tally_in s)) (halt (broken (at + q.size)))) T (passed (piece_from at q) s) N
  unfolding passed
  other-told =
      told_if T N q.whole (go (place_of T N s.rooted s.depth) (tally_in s)) (halt (broken (at + q.size))) (goes_on s.depth s.met s.solid s.rooted)
      (broken_at (at + q.size)) (λ w. told-goes T N (place_of T N s.rooted s.depth) s.depth s.met s.solid s.rooted refl h)
      (λ w. told-broken T N (at + q.size) (at + q.size) refl)

-- ---- end tags
-- The name of an open element is as long as its size says.
name-length : (T : List ℕ) (N : List Name) (d : ℕ) → (get_or N d no_name).start + (get_or N d no_name).size ≤ length T → length (name_in T N d) ≡ (get_or N d no_name).size
name-length T N d l = omega (arith, l, length-take (get_or N d no_name).size (drop (get_or N d no_name).start T), length-drop (get_or N d no_name).start T)

module _ (at : ℕ) (T : List ℕ) (s : State) (N : List Name) (h : Holds T s N) (q : pieces.Piece) where
  -- Inside the element d, with the name n and the size z.
  close-inside : (d : ℕ) → s.depth ≡ suc d →
      Told (turn_close max_level max_nodes (inside (name_in T N d) (open_place T N d)) (tally_in s) at (drop at T) q) T
      (cond (eqb (common (name_in T N d) (drop (at + 2) T)) (get_or N d no_name).size && eqb (at + q.middle) (at + 2 + (get_or N d no_name).size))
      (cond q.whole (goes_on d s.met false s.rooted) (broken_at (at + q.size))) (broken_at (at + 2 + common (name_in T N d) (drop (at + 2) T)))) N
  unfolding turn_close
  close-inside d e =
      told_move T N _
      (cond (eqb m z && eqb (at + q.middle) (at + 2 + z)) (cond q.whole (go (past P) (tally s.met d false)) (halt (broken (at + q.size)))) (halt (broken (at + (2 + m)))))
      _ _ tests refl
      (told_if T N (eqb m z && eqb (at + q.middle) (at + 2 + z)) (cond q.whole (go (past P) (tally s.met d false)) (halt (broken (at + q.size))))
      (halt (broken (at + (2 + m)))) (cond q.whole (goes_on d s.met false s.rooted) (broken_at (at + q.size))) (broken_at (at + 2 + m))
      (λ r. told_if T N q.whole (go (past P) (tally s.met d false)) (halt (broken (at + q.size))) (goes_on d s.met false s.rooted) (broken_at (at + q.size))
      (λ w. told-goes T N (past P) d s.met false s.rooted (sym (past-place T N s.rooted d rooted))
      (holds-with T N s h d s.met false s.rooted (omega (arith, e)) h.many (λ l. rooted)))
      (λ w. told-broken T N (at + q.size) (at + q.size) refl))
      (λ r. told-broken T N (at + (2 + m)) (at + 2 + m) sum))
    where
      n : List ℕ
      n = name_in T N d

      P : Place
      P = open_place T N d

      z : ℕ
      z = (get_or N d no_name).size

      m : ℕ
      m = common n (drop (at + 2) T)

      rooted : s.rooted ≡ true
      rooted = h.rooted (omega (arith, e))

      sum : at + 2 + m ≡ at + (2 + m)
      sum = omega arith

      size : length n ≡ z
      size = name-length T N d (h.within d (omega (arith, e)))

      there : drop 2 (drop at T) ≡ drop (at + 2) T
      there = drop-drop 2 at T

      same-middle : eqb q.middle (2 + z) ≡ eqb (at + q.middle) (at + 2 + z)
      same-middle = eqb_shift at q.middle (2 + z) ∙ ap (eqb (at + q.middle)) assoc
        where
          assoc : at + (2 + z) ≡ at + 2 + z
          assoc = omega arith

      depth : pred s.depth ≡ d
      depth = ap pred e

      tests :
          cond (eqb (common n (drop 2 (drop at T))) (length n) && eqb q.middle (2 + length n))
          (cond q.whole (go (past P) (tally s.met (pred s.depth) false)) (halt (broken (at + q.size)))) (halt (broken (at + (2 + common n (drop 2 (drop at T)))))) ≡
          cond (eqb m z && eqb (at + q.middle) (at + 2 + z)) (cond q.whole (go (past P) (tally s.met d false)) (halt (broken (at + q.size)))) (halt (broken (at + (2 + m))))
      tests = rw (there, size, depth, same-middle)

  pub close-told : Told (turn_close max_level max_nodes (place_of T N s.rooted s.depth) (tally_in s) at (drop at T) q) T (close_turn T at (piece_from at q) s N) N
  unfolding close_turn
  close-told = by-depth s.depth refl
    where
      goal : Type 0
      goal = Told (turn_close max_level max_nodes (place_of T N s.rooted s.depth) (tally_in s) at (drop at T) q) T (close_turn T at (piece_from at q) s N) N

      by-depth : (d : ℕ) → s.depth ≡ d → goal
      by-depth zero e =
          told_move T N _ _ _ _
          (ap (λ d. turn_close max_level max_nodes (place_of T N s.rooted d) (tally_in s) at (drop at T) q) e ∙ close-outside (tally_in s) s.rooted at (drop at T) q T N)
          (cond-true (eqb s.depth 0) (eq-eqb s.depth 0 e) _ _) (told-broken T N (at + 1) (at + 1) refl)
      by-depth (suc d) e =
          told_move T N _ _ _ _
          (ap (λ P. turn_close max_level max_nodes P (tally_in s) at (drop at T) q) (ap (place_of T N s.rooted) e ∙ place-suc T N s.rooted d))
          (cond-false (eqb s.depth 0) (ne_eqb s.depth 0 λ z. omega (arith, e, z)) _ _ ∙ ap (λ i. closing i) top) (close-inside d e)
        where
          closing : ℕ → Turn
          closing i =
              cond (eqb (common (name_in T N i) (drop (at + 2) T)) (get_or N i no_name).size && eqb (at + q.middle) (at + 2 + (get_or N i no_name).size))
              (cond q.whole (goes_on i s.met false s.rooted) (broken_at (at + q.size))) (broken_at (at + 2 + common (name_in T N i) (drop (at + 2) T)))

          top : s.depth - 1 ≡ d
          top = omega (arith, e)

-- ---- start tags and empty-element tags
-- The names below an entry do not change with it.
open_below : (T : List ℕ) (N : List Name) (k : ℕ) (a : Name) (d : ℕ) → d ≤ k → open_place T (set N k a) d ≡ open_place T N d
unfolding open_place
open_below T N k a zero l = refl
open_below T N k a (suc d) l =
    ap₂ inside (ap (λ (z : Name). take z.size (drop z.start T)) (get_or-set_other N k d a no_name (λ e. omega (arith, e, l)))) (open_below T N k a d (omega (arith, l)))

module _ (at : ℕ) (T : List ℕ) (s : State) (N : List Name) (h : Holds T s N) (q : pieces.Piece) where
  -- The tests of a tag where an element may stand, told with the rows S' and Z' afterwards.
  element_tests : (P : Place) (N' : List Name) →
      (is_full s.depth s.met ≡ false →
      Told (go (cond (eqb q.kind START) (inside (name_of (drop at T) q) P) (past P)) (tag_tally (tally_in s) q)) T
      (goes_on (cond (eqb q.kind START) (suc s.depth) s.depth) (suc s.met) false true) N') →
      Told (turn_element max_level max_nodes P (tally_in s) at (drop at T) q) T
      (cond q.whole
      (cond (is_full s.depth s.met) (over_at s.met) (goes_on (cond (eqb q.kind START) (suc s.depth) s.depth) (suc s.met) false true))
      (broken_at (at + q.size))) N'
  element_tests P N' f =
      told_if T N' q.whole _ (halt (broken (at + q.size))) _ (broken_at (at + q.size))
      (λ w.
      subst
      (λ b. Told (cond b (halt (over s.met)) next) T
      (cond (is_full s.depth s.met) (over_at s.met) (goes_on (cond (eqb q.kind START) (suc s.depth) s.depth) (suc s.met) false true)) N')
      (sym (full_is s.met s.depth s.solid))
      (told_if T N' (is_full s.depth s.met) (halt (over s.met)) next (over_at s.met)
      (goes_on (cond (eqb q.kind START) (suc s.depth) s.depth) (suc s.met) false true) (λ g. told_over T N' s.met) f))
      (λ w. told-broken T N' (at + q.size) (at + q.size) refl)
    where
      next : turns.Turn
      next = go (cond (eqb q.kind START) (inside (name_of (drop at T) q) P) (past P)) (tag_tally (tally_in s) q)

  -- By where the judge stands.
  tag_tests : (N' : List Name) →
      ((P : Place) → P ≡ open_place T N s.depth → is_full s.depth s.met ≡ false →
      Told (go (cond (eqb q.kind START) (inside (name_of (drop at T) q) P) (past P)) (tag_tally (tally_in s) q)) T
      (goes_on (cond (eqb q.kind START) (suc s.depth) s.depth) (suc s.met) false true) N') →
      Told (turn_tag max_level max_nodes (place_of T N s.rooted s.depth) (tally_in s) at (drop at T) q) T (tag_turn at (piece_from at q) s (cond (eqb q.kind START) (suc s.depth) s.depth)) N'
  unfolding tag_turn is_closed
  tag_tests N' f = by-depth s.depth s.rooted refl refl
    where
      goal : Type 0
      goal = Told (turn_tag max_level max_nodes (place_of T N s.rooted s.depth) (tally_in s) at (drop at T) q) T (tag_turn at (piece_from at q) s (cond (eqb q.kind START) (suc s.depth) s.depth)) N'

      placed_at : (d : ℕ) (r : Bool) → s.depth ≡ d → s.rooted ≡ r →
          turn_tag max_level max_nodes (place_of T N s.rooted s.depth) (tally_in s) at (drop at T) q ≡
          turn_tag max_level max_nodes (place_of T N r d) (tally_in s) at (drop at T) q
      placed_at d r e g = ap₂ (λ d r. turn_tag max_level max_nodes (place_of T N r d) (tally_in s) at (drop at T) q) e g

      by-depth : (d : ℕ) (r : Bool) → s.depth ≡ d → s.rooted ≡ r → goal
      by-depth zero true e g =
          told_move T N' _ _ _ _ (placed_at zero true e g ∙ tag-after (tally_in s) at (drop at T) q T N)
          (cond-true (eqb s.depth 0 && s.rooted) (ap₂ (λ a b. a && b) (eq-eqb s.depth 0 e) g) _ _) (told-broken T N' (at + 1) (at + 1) refl)
      by-depth zero false e g =
          told_move T N' _ _ _ _ (placed_at zero false e g ∙ tag-before (tally_in s) at (drop at T) q T N)
          (cond-false (eqb s.depth 0 && s.rooted) (ap₂ (λ a b. a && b) (eq-eqb s.depth 0 e) g) _ _)
          (element_tests before N' (f before (sym (ap (open_place T N) e ∙ open_zero T N))))
      by-depth (suc d) r e g =
          told_move T N' _ _ _ _ (placed_at (suc d) r e g ∙ tag-inside (tally_in s) at (drop at T) q T N r d)
          (cond-false (eqb s.depth 0 && s.rooted) (ap (λ b. b && s.rooted) (ne_eqb s.depth 0 λ z. omega (arith, e, z))) _ _)
          (element_tests (open_place T N (suc d)) N' (f (open_place T N (suc d)) (sym (ap (open_place T N) e))))

  -- How many elements are open behind the tag.
  deeper : q.kind ≡ START → suc s.depth ≡ cond (eqb q.kind START) (suc s.depth) s.depth
  deeper k = sym (ap (λ i. cond (eqb i START) (suc s.depth) s.depth) k)

  pub empty-told : q.kind ≡ EMPTY → Told (turn_tag max_level max_nodes (place_of T N s.rooted s.depth) (tally_in s) at (drop at T) q) T (tag_turn at (piece_from at q) s s.depth) N
  empty-told k =
      told_move T N _ _ _ _ refl (ap (tag_turn at (piece_from at q) s) (sym (ap (λ i. cond (eqb i START) (suc s.depth) s.depth) k)))
      (tag_tests N λ P e g. subst (λ b. Told (go (cond b (inside (name_of (drop at T) q) P) (past P)) (tally (suc s.met) (cond b (suc s.depth) s.depth) false)) T
      (goes_on (cond b (suc s.depth) s.depth) (suc s.met) false true) N) (sym (ap (λ i. eqb i START) k))
      (told-goes T N (past P) s.depth (suc s.met) false true (sym (past-place T N true s.depth refl) ∙ ap past (sym e))
      (holds-with T N s h s.depth (suc s.met) false true (omega arith) (more-nodes s.depth s.met g) (λ l. refl))))

  -- Where 64 elements are open already the tag is refused, whatever is in the row.
  pub full-told : (N' : List Name) → q.kind ≡ START → 64 ≤ s.depth →
      Told (turn_tag max_level max_nodes (place_of T N s.rooted s.depth) (tally_in s) at (drop at T) q) T (tag_turn at (piece_from at q) s (suc s.depth)) N'
  full-told N' k l =
      told_move T N' _ _ _ _ refl (ap (tag_turn at (piece_from at q) s) (deeper k)) (tag_tests N' λ P e g. absurd (too_deep (less-deep s.depth s.met g)))
    where
      too_deep : suc s.depth ≤ 64 → ⊥
      too_deep g = omega (arith, l, g)

  pub start-told : q.kind ≡ START → s.depth < 64 → 2 ≤ q.middle → q.middle ≤ q.size → at + q.size ≤ length T →
      Told (turn_tag max_level max_nodes (place_of T N s.rooted s.depth) (tally_in s) at (drop at T) q) T (tag_turn at (piece_from at q) s (suc s.depth))
      (set N s.depth (record { start = at + 1; size = at + q.middle - (at + 1) }))
  start-told k l two fits end =
      told_move T N' _ _ _ _ refl (ap (tag_turn at (piece_from at q) s) (deeper k))
      (tag_tests N' λ P e g.
      subst (λ b. Told (go (cond b (inside (name_of (drop at T) q) P) (past P)) (tally (suc s.met) (cond b (suc s.depth) s.depth) false)) T
      (goes_on (cond b (suc s.depth) s.depth) (suc s.met) false true) N') (sym (ap (λ i. eqb i START) k))
      (told-goes T N' (inside (name_of (drop at T) q) P) (suc s.depth) (suc s.met) false true (opened P e) (held g)))
    where
      named : Name
      named = record { start = at + 1; size = at + q.middle - (at + 1) }

      N' : List Name
      N' = set N s.depth named

      name_set : get_or N' s.depth no_name ≡ named
      name_set = get_or-set_same N s.depth named no_name (omega (arith, l, h.names))

      start_is : (get_or N' s.depth no_name).start ≡ at + 1
      start_is = ap (λ (z : Name). z.start) name_set

      size_is : (get_or N' s.depth no_name).size ≡ q.middle - 1
      size_is = ap (λ (z : Name). z.size) name_set ∙ less
        where
          less : at + q.middle - (at + 1) ≡ q.middle - 1
          less = omega (arith, two)

      name-is : name_in T N' s.depth ≡ name_of (drop at T) q
      name-is = ap₂ (λ z i. take z (drop i T)) size_is start_is ∙ ap (take (q.middle - 1)) (sym (drop-drop 1 at T))

      opened : (P : Place) → P ≡ open_place T N s.depth → place_of T N' true (suc s.depth) ≡ inside (name_of (drop at T) q) P
      opened P e =
          place-suc T N' true s.depth ∙
          ap₂ inside name-is (open_below T N s.depth named s.depth (omega arith) ∙ sym e)

      inside-text : (d : ℕ) → d < suc s.depth → (get_or N' d no_name).start + (get_or N' d no_name).size ≤ length T
      inside-text d g = by_place (eqb d s.depth) refl
        where
          by_place : (b : Bool) → eqb d s.depth ≡ b → (get_or N' d no_name).start + (get_or N' d no_name).size ≤ length T
          by_place true f =
              let e : d ≡ s.depth = eqb-true d s.depth f in
              omega (arith, ap (λ i. (get_or N' i no_name).start) e, ap (λ i. (get_or N' i no_name).size) e, start_is, size_is, two, fits, end)
          by_place false f =
              let n : d ≡ s.depth → ⊥ = eqb-false d s.depth f in
              let o : get_or N' d no_name ≡ get_or N d no_name = get_or-set_other N s.depth d named no_name n in
              omega (arith, ap (λ (z : Name). z.start) o, ap (λ (z : Name). z.size) o, h.within d (omega (arith, g, n)))

      held : is_full s.depth s.met ≡ false → Holds T (record { depth = suc s.depth; met = suc s.met; solid = false; rooted = true }) N'
      held g =
          record {
            short = h.short;
            names = length-set N s.depth named ∙ h.names;
            deep = less-deep s.depth s.met g;
            many = more-nodes s.depth s.met g;
            rooted = λ l. refl;
            within = inside-text;
          }
