-- What holds of every piece, and of every turn that goes on.
--   piece_cases    what holds of each kind of head holds of every row
--   piece_le       a piece fits the row
--   tag_bounds     the name of a tag fits its piece, and is not empty
--   turn-good      a turn that goes on passes a byte or more, and leaves lawful names
-- Letters as in specs/Turns. Assumes nothing.
use Prim.Native.Nat.{ℕ, zero, suc, pred, zero-le, ◌+◌, ◌≤◌}
use mathlib.Core.Path.{◌≡◌, refl, sym, ap, ap₂, subst, ◌∙◌}
use mathlib.Core.Logic.{◌⊎◌, ⊎_elim}
use mathlib.Core.List.{List, [], ◌∷◌}
use mathlib.Core.Bool.{Bool, true, false, not, cond, ◌&&◌, ◌||◌}
use native.Mathlib.Omega.{arith}
use lib.Dec.{eqb, ltb}
use lib.ListN.{length, drop, length-drop}
use borrow.Author.Tests.{eqb-true, ne_eqb}
use Rattle.seq.proofs.Laws.Bools.{bool_cases, and_left, and_right, cond-true, cond-false}
use Rattle.profile.specs.Bytes.{'!', '&', '-', '/', '<', '>', char, white, name_start, name_char, is_name}
use Rattle.profile.specs.Spans.{span, common}
use Rattle.profile.specs.Machine.{Place, before, after, inside, past, Brackets, b0, run_byte, run_next}
use Rattle.profile.specs.Reader.{fresh}
use Rattle.profile.specs.Check.{Tally, broken, over, full}
use Rattle.profile.specs.Pieces.{Stop, stop, close_stop, body_stop, comment_stop, reference_stop, meant, data_stop, END, DATA, COMMENT, START, EMPTY, CLOSE, NONE, Piece, piece, name_size, tag_end, tag_piece, close_piece, piece_of}
use Rattle.profile.specs.Pieces as pieces
use Rattle.profile.specs.Turns.{Turn, halt, go, tally, name_of, with_data, tag_tally, named, turn_end, turn_space, turn_data, turn_element, turn_tag, turn_close, turn_by, turn, lawful}
use Rattle.profile.proofs.Pieces.{enters-before}
use Rattle.profile.proofs.Turns.{close-kind, tag-kind, by-close, by-tag}
use Rattle.profile.proofs.TagTurns.{tag_end-middle}
use Rattle.profile.proofs.TagNotes.{placed, tag-named}
use Rattle.profile.proofs.DataTurns.{later, stop-skips, white-stop}
use Rattle.profile.proofs.Went.{bang_piece, slash-piece, letter-piece, other-piece, lone_piece, data_piece_lem, data_moves, close-size, tag-size, tag_end-size, past-lawful, placed-lawful, data_by}
use Rattle.profile.proofs.Laws.Spans.{span_le, common-text}

-- ---- by the head
abbrev pub comment_piece : List ℕ → Piece
comment_piece t = piece COMMENT 2 (pieces.after 2 (comment_stop t))

abbrev pub none_piece : Piece
none_piece = piece NONE 1 (stop 1 false)

abbrev pub data_piece : List ℕ → Piece
data_piece t = piece DATA (span white t) (data_stop b0 0 t)

module _ (P : List ℕ → Piece → Type 0) (ends : P [] (piece END 0 (stop 0 true))) (runs : (x : ℕ) (t : List ℕ) → eqb x '<' ≡ false → P (x ∷ t) (data_piece (x ∷ t)))
    (comments : (t : List ℕ) → P ('<' ∷ '!' ∷ t) (comment_piece t)) (closes : (t : List ℕ) → P ('<' ∷ '/' ∷ t) (close_piece t))
    (tags : (x : ℕ) (t : List ℕ) → name_start x ≡ true → P ('<' ∷ x ∷ t) (tag_piece (x ∷ t))) (others : (t : List ℕ) → P ('<' ∷ t) none_piece) where
  angle_cases : (t : List ℕ) → P ('<' ∷ t) (piece_of ('<' ∷ t))
  angle_cases [] = subst (P ('<' ∷ [])) (sym lone_piece) (others [])
  angle_cases (x ∷ t) = by_byte (eqb x '!') (eqb x '/') (name_start x) refl refl refl
    where
      goal : ℕ → Type 0
      goal x = P ('<' ∷ x ∷ t) (piece_of ('<' ∷ x ∷ t))

      by_byte : (a b e : Bool) → eqb x '!' ≡ a → eqb x '/' ≡ b → name_start x ≡ e → goal x
      by_byte true b e q r k = subst goal (sym (eqb-true x '!' q)) (subst (P ('<' ∷ '!' ∷ t)) (sym (bang_piece t)) (comments t))
      by_byte false true e q r k = subst goal (sym (eqb-true x '/' r)) (subst (P ('<' ∷ '/' ∷ t)) (sym (slash-piece t)) (closes t))
      by_byte false false true q r k = subst (P ('<' ∷ x ∷ t)) (sym (letter-piece x t k)) (tags x t k)
      by_byte false false false q r k = subst (P ('<' ∷ x ∷ t)) (sym (other-piece x t q r k)) (others (x ∷ t))

  pub piece_cases : (t : List ℕ) → P t (piece_of t)
  unfolding piece_of
  piece_cases [] = ends
  piece_cases (x ∷ t) = by_byte (eqb x '<') refl
    where
      by_byte : (b : Bool) → eqb x '<' ≡ b → P (x ∷ t) (piece_of (x ∷ t))
      by_byte true q = subst (λ z. P (z ∷ t) (piece_of (z ∷ t))) (sym (eqb-true x '<' q)) (angle_cases t)
      by_byte false q = subst (P (x ∷ t)) (sym (data_piece_lem x t q)) (runs x t q)

-- ---- a piece fits the row
close_le : (t : List ℕ) → (close_stop t).size ≤ length t
unfolding close_stop
close_le [] = zero-le
close_le (x ∷ t) = ⊎_elim (λ q. rw q (omega arith)) (λ q. rw q zero-le) (bool_cases (eqb x '>'))

body_le : (d : Bool) (t : List ℕ) → (body_stop d t).size ≤ length t
unfolding body_stop
body_le d [] = zero-le
body_le d (x ∷ t) = by_byte (eqb x '-') (char x) (body_le true t) (body_le false t)
  where
    by_byte : (a b : Bool) → (body_stop true t).size ≤ length t → (body_stop false t).size ≤ length t →
        (cond a (pieces.after 1 (cond d (close_stop t) (body_stop true t))) (cond b (pieces.after 1 (body_stop false t)) (stop 0 false))).size ≤ suc (length t)
    by_byte true b r s = dash d r
      where
        dash : (d : Bool) → (body_stop true t).size ≤ length t → 1 + (cond d (close_stop t) (body_stop true t)).size ≤ suc (length t)
        dash true r = omega (arith, close_le t)
        dash false r = omega (arith, r)
    by_byte false true r s = omega (arith, s)
    by_byte false false r s = zero-le

comment_le : (t : List ℕ) → (comment_stop t).size ≤ length t
unfolding comment_stop
comment_le t = by_test (eqb (common ('-' ∷ '-' ∷ []) t) 2) refl
  where
    n : ℕ
    n = common ('-' ∷ '-' ∷ []) t

    by_test : (b : Bool) → eqb n 2 ≡ b → (cond b (pieces.after 2 (body_stop false (drop 2 t))) (stop n false)).size ≤ length t
    by_test true q = omega (arith, eqb-true n 2 q, common-text ('-' ∷ '-' ∷ []) t, body_le false (drop 2 t), length-drop 2 t)
    by_test false q = common-text ('-' ∷ '-' ∷ []) t

data_le : (F : ℕ) (t : List ℕ) → length t ≤ F → (k : Brackets) → (data_stop k 0 t).size ≤ length t
unfolding data_stop
data_le zero [] l k = zero-le
data_le zero (x ∷ t) l k = absurd (absurd_le (length t) l)
  where
    absurd_le : (n : ℕ) → suc n ≤ 0 → ⊥
    absurd_le n l = omega arith
data_le (suc F) [] l k = zero-le
data_le (suc F) (x ∷ t) l k = by_byte (eqb x '<') (eqb x '&') (run_byte k x) (reference_stop t).whole (λ u h k. data_le F u h k)
  where
    R : Stop
    R = reference_stop t

    shorter : (r : ℕ) → length (drop r t) ≤ F
    shorter r = omega (arith, l, length-drop r t)

    by_byte : (a b c d : Bool) → ((u : List ℕ) → length u ≤ F → (k : Brackets) → (data_stop k 0 u).size ≤ length u) →
        (cond a (stop 0 true)
        (cond b (cond d (later 1 (data_stop b0 R.size t)) (later 1 R)) (cond c (later 1 (data_stop (run_next k x) 0 t)) (stop 0 false)))).size ≤ suc (length t)
    by_byte true b c d r = zero-le
    by_byte false true c true r =
        omega (
          arith,
          ap (λ (e : Stop). e.size) (stop-skips b0 R.size t (common-text (meant t) t)),
          r (drop R.size t) (shorter R.size) b0,
          length-drop R.size t,
          common-text (meant t) t,
        )
    by_byte false true c false r = omega (arith, common-text (meant t) t)
    by_byte false false true d r = omega (arith, r t (omega (arith, l)) (run_next k x))
    by_byte false false false d r = zero-le

name_size_le : (t : List ℕ) → name_size t ≤ length t
unfolding name_size
name_size_le [] = zero-le
name_size_le (x ∷ t) = ⊎_elim (λ q. rw q (omega (arith, span_le name_char t))) (λ q. rw q zero-le) (bool_cases (name_start x))

module _ (t : List ℕ) where
  -- The name and the white space of a tag, and what follows.
  abbrev n : ℕ
  n = name_size t

  abbrev s : ℕ
  s = span white (drop n t)

  abbrev rest : List ℕ
  rest = drop s (drop n t)

  spaced_le : n + s + length rest ≤ length t
  spaced_le = omega (arith, name_size_le t, span_le white (drop n t), length-drop n t, length-drop s (drop n t))

  closing_le : (close_piece t).size ≤ 2 + length t
  unfolding close_piece
  closing_le = ⊎_elim (λ q. rw q (omega arith)) (λ q. rw q (omega (arith, close_le rest, spaced_le))) (bool_cases (eqb (name_size t) 0))

tag_end_le : (m k : ℕ) (v : List ℕ) → (tag_end m k v).size ≤ k + length v
unfolding tag_end
tag_end_le m k [] = omega arith
tag_end_le m k (x ∷ t) = either (eqb x '>') (eqb x '/')
  where
    either : (a b : Bool) →
        (cond a (piece START m (stop (suc k) true)) (cond b (piece EMPTY m (pieces.after (suc k) (close_stop t))) (piece START m (stop k false)))).size ≤
        k + suc (length t)
    either true b = omega arith
    either false true = omega (arith, close_le t)
    either false false = omega arith

tagging_le : (t : List ℕ) → (tag_piece t).size ≤ 1 + length t
unfolding tag_piece
tagging_le t = omega (arith, tag_end_le (1 + n t) (1 + n t + s t) (rest t), spaced_le t)

pub piece_le : (t : List ℕ) → (piece_of t).size ≤ length t
piece_le =
    piece_cases (λ t q. q.size ≤ length t) zero-le (λ x t a. data_le (length (x ∷ t)) (x ∷ t) (omega arith) b0) (λ t. omega (arith, comment_le t))
    (λ t. omega (arith, closing_le t)) (λ x t h. omega (arith, tagging_le (x ∷ t))) (λ t. omega arith)

-- ---- the name of a tag
pub record TagBounds (q : Piece) : Type 0 where
  pub named : 2 ≤ q.middle
  pub fits : q.middle ≤ q.size

abbrev IsTag : Piece → Type 0
IsTag q = q.kind ≡ START ⊎ q.kind ≡ EMPTY

other-kind : (k : ℕ) (q : Piece) → q.kind ≡ k → (k ≡ START → ⊥) → (k ≡ EMPTY → ⊥) → IsTag q → TagBounds q
other-kind k q e a b = λ t. absurd (⊎_elim (λ f. a (sym e ∙ f)) (λ f. b (sym e ∙ f)) t)

letter_bounds : (x : ℕ) (t : List ℕ) → name_start x ≡ true → TagBounds (tag_piece (x ∷ t))
unfolding tag_piece name_size
letter_bounds x t h =
    record {
      named = omega (arith, middle, positive);
      fits = omega (arith, middle, tag_end-size (1 + n (x ∷ t)) (1 + n (x ∷ t) + s (x ∷ t)) (rest (x ∷ t)));
    }
  where
    middle : (tag_end (1 + n (x ∷ t)) (1 + n (x ∷ t) + s (x ∷ t)) (rest (x ∷ t))).middle ≡ 1 + n (x ∷ t)
    middle = tag_end-middle (1 + n (x ∷ t)) (1 + n (x ∷ t) + s (x ∷ t)) (rest (x ∷ t))

    positive : 1 ≤ n (x ∷ t)
    positive = rw h (omega arith)

pub tag_bounds : (t : List ℕ) → IsTag (piece_of t) → TagBounds (piece_of t)
tag_bounds =
    piece_cases (λ t q. IsTag q → TagBounds q) (other-kind END _ refl (λ e. omega arith) (λ e. omega arith))
    (λ x t a. other-kind DATA _ refl (λ e. omega arith) (λ e. omega arith)) (λ t. other-kind COMMENT _ refl (λ e. omega arith) (λ e. omega arith))
    (λ t. other-kind CLOSE _ (close-kind t) (λ e. omega arith) (λ e. omega arith)) (λ x t h k. letter_bounds x t h)
    (λ t. other-kind NONE _ refl (λ e. omega arith) (λ e. omega arith))

pub tag-is-named : (x : ℕ) (t : List ℕ) → name_start x ≡ true → is_name (name_of ('<' ∷ x ∷ t) (tag_piece (x ∷ t))) ≡ true
tag-is-named x t h = tag-named before enters-before 0 fresh x t h

-- ---- turns that go on
-- A turn that goes on does so as f says.
abbrev Goes : (Place → Tally → Type 0) → Turn → Type 0
Goes f (halt r) = Unit {0}
Goes f (go p c) = f p c

goes_if : (f : Place → Tally → Type 0) (b : Bool) (x y : Turn) → (b ≡ true → Goes f x) → (b ≡ false → Goes f y) → Goes f (cond b x y)
goes_if f true x y g h = g refl
goes_if f false x y g h = h refl

pub went-of : (f : Place → Tally → Type 0) (t : Turn) (p : Place) (c : Tally) → Goes f t → t ≡ go p c → f p c
went-of f t p c g e = subst (Goes f) e g

-- Behind a piece that moves, with lawful names.
pub record Good (q : Piece) (p : Place) (c : Tally) : Type 0 where
  pub moves : 1 ≤ q.size
  pub names : lawful p ≡ true

module _ (L N : ℕ) (c : Tally) (j : ℕ) where
  good : (q : Piece) (p : Place) (c : Tally) → 1 ≤ q.size → lawful p ≡ true → Goes (Good q) (go p c)
  good q p c l h = record { moves = l; names = h }

  space-good : (p : Place) (q : Piece) → lawful p ≡ true → (q.whole ≡ true → 1 ≤ q.size) → Goes (Good q) (turn_space p c j q)
  space-good p q h l =
      goes_if (Good q) (q.whole && eqb q.middle q.size) (go p c) (halt (broken (j + q.middle)))
      (λ e. good q p c (l (and_left q.whole (eqb q.middle q.size) e)) h) (λ e. tt)

  run-good : (p : Place) (q : Piece) → lawful p ≡ true → (q.whole ≡ true → 1 ≤ q.size) → Goes (Good q) (turn_data L N p c j q)
  unfolding turn_data
  run-good before q h l = space-good before q h l
  run-good after q h l = space-good after q h l
  run-good (inside n' p) q h l =
      goes_if (Good q) (ltb q.middle q.size && not c.solid && full L N c) (halt (over c.met)) rest (λ e. tt)
      (λ e. goes_if (Good q) q.whole (go (inside n' p) (with_data c q)) (halt (broken (j + q.size))) (λ w. good q (inside n' p) (with_data c q) (l w) h) (λ w. tt))
    where
      rest : Turn
      rest = cond q.whole (go (inside n' p) (with_data c q)) (halt (broken (j + q.size)))

  element-good : (p : Place) (t : List ℕ) (q : Piece) → lawful p ≡ true → 1 ≤ q.size → is_name (name_of t q) ≡ true → Goes (Good q) (turn_element L N p c j t q)
  element-good p t q h l g =
      goes_if (Good q) q.whole (cond (full L N c) (halt (over c.met)) next) (halt (broken (j + q.size)))
      (λ w. goes_if (Good q) (full L N c) (halt (over c.met)) next (λ e. tt) (λ e. good q (placed q (name_of t q) p) (tag_tally c q) l (placed-lawful q (name_of t q) p g h)))
      (λ w. tt)
    where
      next : Turn
      next = go (placed q (name_of t q) p) (tag_tally c q)

  tag-good : (p : Place) (t : List ℕ) (q : Piece) → lawful p ≡ true → 1 ≤ q.size → is_name (name_of t q) ≡ true → Goes (Good q) (turn_tag L N p c j t q)
  unfolding turn_tag
  tag-good before t q h l g = element-good before t q h l g
  tag-good after t q h l g = tt
  tag-good (inside n' p) t q h l g = element-good (inside n' p) t q h l g

  close-good : (p : Place) (t : List ℕ) (q : Piece) → lawful p ≡ true → 1 ≤ q.size → Goes (Good q) (turn_close L N p c j t q)
  unfolding turn_close lawful
  close-good before t q h l = tt
  close-good after t q h l = tt
  close-good (inside n' p) t q h l =
      goes_if (Good q) (named n' t q) (cond q.whole next (halt (broken (j + q.size)))) (halt (broken (j + (2 + common n' (drop 2 t)))))
      (λ e. goes_if (Good q) q.whole next (halt (broken (j + q.size)))
      (λ w. good q (past p) (tally c.met (pred c.depth) false) l (past-lawful p (and_right (is_name n') (lawful p) h))) (λ w. tt))
      (λ e. tt)
    where
      next : Turn
      next = go (past p) (tally c.met (pred c.depth) false)

  end-good : (p : Place) (q : Piece) → Goes (Good q) (turn_end p c j)
  unfolding turn_end
  end-good before q = tt
  end-good after q = tt
  end-good (inside n' p) q = tt

  comment-good : (p : Place) (t T : List ℕ) → lawful p ≡ true → Goes (Good (comment_piece t)) (turn_by L N p c j T (comment_piece t))
  unfolding turn_by
  comment-good p t T h =
      goes_if (Good (comment_piece t)) (comment_piece t).whole (go p c) (halt (broken (j + (comment_piece t).size)))
      (λ w. good (comment_piece t) p c (omega arith) h) (λ w. tt)

  run_by : (p : Place) (T : List ℕ) (q : Piece) → q.kind ≡ DATA → Goes (Good q) (turn_data L N p c j q) → Goes (Good q) (turn_by L N p c j T q)
  run_by p T q k g = subst (Goes (Good q)) (sym (data_by L N p c j T q k)) g

  none-good : (p : Place) (T : List ℕ) → Goes (Good none_piece) (turn_by L N p c j T none_piece)
  unfolding turn_by
  none-good p T = tt

  ended-good : (p : Place) → Goes (Good (piece END 0 (stop 0 true))) (turn_by L N p c j [] (piece END 0 (stop 0 true)))
  unfolding turn_by
  ended-good p = end-good p (piece END 0 (stop 0 true))

  pub turn-good : (p : Place) → lawful p ≡ true → (t : List ℕ) → Goes (Good (piece_of t)) (turn L N p c j t)
  unfolding turn
  turn-good p h =
      piece_cases (λ t q. Goes (Good q) (turn_by L N p c j t q)) (ended-good p)
      (λ x t a. run_by p (x ∷ t) (data_piece (x ∷ t)) refl (run-good p (data_piece (x ∷ t)) h (data_moves x t a)))
      (λ t. comment-good p t ('<' ∷ '!' ∷ t) h)
      (λ t. subst (Goes (Good (close_piece t))) (by-close L N p c j ('<' ∷ '/' ∷ t) (close_piece t) (close-kind t)) (close-good p ('<' ∷ '/' ∷ t) (close_piece t) h (close-size t)))
      (λ x t k.
      subst (Goes (Good (tag_piece (x ∷ t)))) (by-tag L N p c j ('<' ∷ x ∷ t) (tag_piece (x ∷ t)) (tag-kind (x ∷ t)))
      (tag-good p ('<' ∷ x ∷ t) (tag_piece (x ∷ t)) h (tag-size (x ∷ t)) (tag-is-named x t k)))
      (λ t. none-good p ('<' ∷ t))

-- ---- the bytes of an end tag
close-two-of : (t : List ℕ) → 2 ≤ (close_piece t).size
unfolding close_piece
close-two-of t = ⊎_elim (λ q. rw q (omega arith)) (λ q. rw q (omega arith)) (bool_cases (eqb (name_size t) 0))

-- ---- kinds
module _ (L N : ℕ) (p : Place) (c : Tally) (j : ℕ) (t : List ℕ) (q : Piece) where
  pub end_by : q.kind ≡ END → turn_by L N p c j t q ≡ turn_end p c j
  unfolding turn_by
  end_by e = cond-true (eqb q.kind END) (ap (λ i. eqb i END) e) _ _

  -- A comment, or a `<` that begins no piece.
  pub other-by : (q.kind ≡ END → ⊥) → (q.kind ≡ DATA → ⊥) → (q.kind ≡ CLOSE → ⊥) → (q.kind ≡ EMPTY → ⊥) → (q.kind ≡ START → ⊥) →
      turn_by L N p c j t q ≡ cond q.whole (go p c) (halt (broken (j + q.size)))
  unfolding turn_by
  other-by a b e f g =
      cond-false (eqb q.kind END) (ne_eqb q.kind END a) _ _ ∙ cond-false (eqb q.kind DATA) (ne_eqb q.kind DATA b) _ _ ∙
      cond-false (eqb q.kind CLOSE) (ne_eqb q.kind CLOSE e) _ _ ∙
      cond-false (eqb q.kind START || eqb q.kind EMPTY) (ap₂ (λ x y. x || y) (ne_eqb q.kind START g) (ne_eqb q.kind EMPTY f)) _ _

pub close-two : (t : List ℕ) → (piece_of t).kind ≡ CLOSE → 2 ≤ (piece_of t).size
close-two =
    piece_cases (λ t q. q.kind ≡ CLOSE → 2 ≤ q.size) (λ e. absurd (omega_kind END e (λ z. omega arith))) (λ x t a e. absurd (omega_kind DATA e (λ z. omega arith)))
    (λ t e. omega arith) (λ t e. close-two-of t) (λ x t h e. absurd (tag-close (tag_piece (x ∷ t)) (tag-kind (x ∷ t)) e)) (λ t e. absurd (omega_kind NONE e (λ z. omega arith)))
  where
    omega_kind : (k : ℕ) → k ≡ CLOSE → (k ≡ CLOSE → ⊥) → ⊥
    omega_kind k e f = f e

    tag-close : (q : Piece) → IsTag q → q.kind ≡ CLOSE → ⊥
    tag-close q t e = ⊎_elim (λ f. omega (arith, e, f)) (λ f. omega (arith, e, f)) t

-- ---- the middle
data_middle : (t : List ℕ) → span white t ≤ (data_stop b0 0 t).size
data_middle t = omega (arith, ap (λ (e : Stop). e.size) (white-stop t))

close-middle_le : (t : List ℕ) → (close_piece t).middle ≤ (close_piece t).size
unfolding close_piece
close-middle_le t = ⊎_elim (λ q. rw q (omega arith)) (λ q. rw q (omega arith)) (bool_cases (eqb (name_size t) 0))

pub middle_le : (t : List ℕ) → (piece_of t).middle ≤ (piece_of t).size
middle_le =
    piece_cases (λ t q. q.middle ≤ q.size) zero-le (λ x t a. data_middle (x ∷ t)) (λ t. omega arith) close-middle_le (λ x t h. (letter_bounds x t h).fits)
    (λ t. omega arith)
