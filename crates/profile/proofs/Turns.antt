-- Turn after turn the reader comes to the same reply as byte after byte.
--   check-turn   the rest of a text from the state between two pieces, by its next piece
--   turn-lawful  a turn that goes on leaves lawful names
-- Letters as in specs/Turns. Assumes nothing.
use Prim.Native.Nat.{ℕ, suc, ◌+◌}
use mathlib.Core.Path.{◌≡◌, refl, sym, ap, subst, ◌∙◌}
use mathlib.Core.Logic.{◌⊎◌, inl, inr, ⊎_elim}
use mathlib.Core.List.{List, [], ◌∷◌}
use mathlib.Core.Bool.{Bool, true, false, cond}
use mathlib.Core.Option.{none}
use native.Mathlib.Omega.{arith}
use lib.Dec.{eqb}
use lib.ListN.{drop}
use borrow.Author.Tests.{eqb-true}
use Rattle.seq.proofs.Laws.Bools.{bool_cases, and_left}
use Rattle.profile.specs.Bytes.{'!', '/', '<', '>', white, name_start, is_name}
use Rattle.profile.specs.Spans.{span}
use Rattle.profile.specs.Machine.{Place, before, after, inside, b0, between, angle, step_between, step_angle, step, accepting}
use Rattle.profile.specs.Check.{Tally, Reply, broken, meets, depth_after, solid_after, check}
use Rattle.profile.specs.Pieces.{Stop, stop, close_stop, comment_stop, data_stop, DATA, COMMENT, START, EMPTY, CLOSE, NONE, Piece, piece, name_size, tag_end, tag_piece, close_piece, markup_piece, piece_of}
use Rattle.profile.specs.Pieces as pieces
use Rattle.profile.specs.Turns.{halt, go, follow, turn_end, turn_data, turn_tag, turn_close, turn_by, turn, lawful}
use Rattle.profile.proofs.Passes.{check_dead, check-short}
use Rattle.profile.proofs.Pieces.{enters-before, enters-inside, before-white, after-white}
use Rattle.profile.proofs.Stops.{comment-stops}
use Rattle.profile.proofs.Laws.Bytes.{apart}
use Rattle.profile.proofs.TagTurns.{follow_if, element-turn, close-turn}
use Rattle.profile.proofs.DataTurns.{data_turn_lem, space-turn}

-- ---- the kinds of tags
after-letter : (x : ℕ) → name_start x ≡ true → step (angle after) x ≡ none
unfolding step step_angle name_start
after-letter x h = rw (apart name_start x '!' refl h)

pub close-kind : (t : List ℕ) → (close_piece t).kind ≡ CLOSE
unfolding close_piece
close-kind t = ⊎_elim (λ q. rw q) (λ q. rw q) (bool_cases (eqb (name_size t) 0))

tag_end-kind : (m k : ℕ) (v : List ℕ) → (tag_end m k v).kind ≡ START ⊎ (tag_end m k v).kind ≡ EMPTY
unfolding tag_end
tag_end-kind m k [] = inl refl
tag_end-kind m k (x ∷ t) = either (eqb x '>') (eqb x '/')
  where
    Q : Bool → Bool → Piece
    Q a b = cond a (piece START m (stop (suc k) true)) (cond b (piece EMPTY m (pieces.after (suc k) (close_stop t))) (piece START m (stop k false)))

    either : (a b : Bool) → (Q a b).kind ≡ START ⊎ (Q a b).kind ≡ EMPTY
    either true b = inl refl
    either false true = inr refl
    either false false = inl refl

pub tag-kind : (t : List ℕ) → (tag_piece t).kind ≡ START ⊎ (tag_piece t).kind ≡ EMPTY
unfolding tag_piece
tag-kind t = tag_end-kind _ _ _

module _ (L N : ℕ) where
  -- What comes of the row t if q is its first piece.
  abbrev by : Place → Tally → ℕ → List ℕ → Piece → Reply
  by p c j t q = follow (turn_by L N p c j t q) (λ p' c'. check L N (j + q.size) (between b0 p') c' (drop q.size t))

  -- ---- the end, and data
  end-turn : (p : Place) (c : Tally) (j : ℕ) → check L N j (between b0 p) c [] ≡ by p c j [] (piece_of [])
  unfolding check accepting piece_of turn_by turn_end
  end-turn before c j = refl
  end-turn after c j = refl
  end-turn (inside n p) c j = refl

  before_dead : (x : ℕ) → white x ≡ false → eqb x '<' ≡ false → step (between b0 before) x ≡ none
  unfolding step step_between
  before_dead x w a = rw (a, w)

  after_dead : (x : ℕ) → white x ≡ false → eqb x '<' ≡ false → step (between b0 after) x ≡ none
  unfolding step step_between
  after_dead x w a = rw (a, w)

  run-turn : (p : Place) (c : Tally) (j : ℕ) (t : List ℕ) → check L N j (between b0 p) c t ≡ by p c j t (piece DATA (span white t) (data_stop b0 0 t))
  unfolding turn_by turn_data
  run-turn before c j t = space-turn L N before before-white before_dead c j t
  run-turn after c j t = space-turn L N after after-white after_dead c j t
  run-turn (inside n p) c j t = data_turn_lem L N n p c j t

  -- ---- markup
  check_open : (p : Place) (c : Tally) (j : ℕ) (t : List ℕ) → check L N j (between b0 p) c ('<' ∷ t) ≡ check L N (suc j) (angle p) c t
  unfolding check step meets depth_after solid_after
  check_open before c j t = refl
  check_open after c j t = refl
  check_open (inside n p) c j t = refl

  -- A `<` that goes on with no piece that may stand there.
  none-turn : (p : Place) (c : Tally) (j x : ℕ) (t : List ℕ) → step (angle p) x ≡ none → check L N (suc j) (angle p) c (x ∷ t) ≡ broken (j + 1)
  none-turn p c j x t e = check_dead L N (suc j) (angle p) x c t e ∙ ap broken place
    where
      place : suc j ≡ j + 1
      place = omega arith

  comment-turn : (p : Place) (c : Tally) (j : ℕ) (t : List ℕ) →
      check L N (suc j) (angle p) c ('!' ∷ t) ≡ by p c j ('<' ∷ '!' ∷ t) (piece COMMENT 2 (pieces.after 2 (comment_stop t)))
  unfolding turn_by
  comment-turn p c j t =
      (comment-stops p t).checking L N (suc j) c ∙
      ap (λ i. cond e.whole (check L N i (between b0 p) c (drop (1 + e.size) ('!' ∷ t))) (broken i)) place ∙
      ap (λ u. cond e.whole (check L N (j + (2 + e.size)) (between b0 p) c u) (broken (j + (2 + e.size)))) rest ∙
      sym (follow_if e.whole (go p c) (halt (broken (j + (2 + e.size)))) (λ p' c'. check L N (j + (2 + e.size)) (between b0 p') c' (drop (2 + e.size) ('<' ∷ '!' ∷ t))))
    where
      e : Stop
      e = comment_stop t

      place : suc j + (1 + e.size) ≡ j + (2 + e.size)
      place = omega arith

      rest : drop (1 + e.size) ('!' ∷ t) ≡ drop (2 + e.size) ('<' ∷ '!' ∷ t)
      rest = ap (λ i. drop i ('<' ∷ '!' ∷ t)) more
        where
          more : suc (1 + e.size) ≡ 2 + e.size
          more = omega arith

  -- The turns by the kinds of a tag and of an end tag.
  pub by-close : (p : Place) (c : Tally) (j : ℕ) (t : List ℕ) (q : Piece) → q.kind ≡ CLOSE → turn_close L N p c j t q ≡ turn_by L N p c j t q
  unfolding turn_by
  by-close p c j t q e = rw e

  pub by-tag : (p : Place) (c : Tally) (j : ℕ) (t : List ℕ) (q : Piece) → q.kind ≡ START ⊎ q.kind ≡ EMPTY → turn_tag L N p c j t q ≡ turn_by L N p c j t q
  unfolding turn_by
  by-tag p c j t q k = ⊎_elim (λ e. rw e) (λ e. rw e) k

  slash-turn : (p : Place) → lawful p ≡ true → (c : Tally) (j : ℕ) (t : List ℕ) →
      check L N (suc j) (angle p) c ('/' ∷ t) ≡
      follow (turn_close L N p c j ('<' ∷ '/' ∷ t) (close_piece t))
      (λ p' c'. check L N (j + (close_piece t).size) (between b0 p') c' (drop (close_piece t).size ('<' ∷ '/' ∷ t)))
  unfolding turn_close lawful
  slash-turn before h c j t = none-turn before c j '/' t (unfold step step_angle name_start in refl)
  slash-turn after h c j t = none-turn after c j '/' t (unfold step step_angle in refl)
  slash-turn (inside n p) h c j t = close-turn L N n p (and_left (is_name n) (lawful p) h) c j '<' t

  letter-turn : (p : Place) (c : Tally) (j x : ℕ) (t : List ℕ) → name_start x ≡ true →
      check L N (suc j) (angle p) c (x ∷ t) ≡
      follow (turn_tag L N p c j ('<' ∷ x ∷ t) (tag_piece (x ∷ t)))
      (λ p' c'. check L N (j + (tag_piece (x ∷ t)).size) (between b0 p') c' (drop (tag_piece (x ∷ t)).size ('<' ∷ x ∷ t)))
  unfolding turn_tag
  letter-turn before c j x t h = element-turn L N before enters-before c j '<' x t h
  letter-turn after c j x t h = none-turn after c j x t (after-letter x h)
  letter-turn (inside n p) c j x t h = element-turn L N (inside n p) (enters-inside n p) c j '<' x t h

  -- Some other byte after the `<`.
  other_dead : (p : Place) (x : ℕ) → eqb x '!' ≡ false → eqb x '/' ≡ false → name_start x ≡ false → step (angle p) x ≡ none
  unfolding step step_angle
  other_dead before x a b e = rw (a, e)
  other_dead after x a b e = rw a
  other_dead (inside n p) x a b e = rw (a, b, e)

  markup-turn : (p : Place) → lawful p ≡ true → (c : Tally) (j : ℕ) (t : List ℕ) → check L N (suc j) (angle p) c t ≡ by p c j ('<' ∷ t) (markup_piece t)
  unfolding markup_piece
  markup-turn p h c j [] = check-short L N (suc j) (angle p) c (unfold accepting in refl) ∙ ap broken place ∙ unfold turn_by in refl
    where
      place : suc j ≡ j + 1
      place = omega arith
  markup-turn p h c j (x ∷ t) = by_byte (eqb x '!') (eqb x '/') (name_start x) refl refl refl
    where
      result : Piece → Reply
      result q = by p c j ('<' ∷ x ∷ t) q

      comment-of : Piece
      comment-of = piece COMMENT 2 (pieces.after 2 (comment_stop t))

      none_of : Piece
      none_of = piece NONE 1 (stop 1 false)

      behind : Piece → Place → Tally → Reply
      behind q p' c' = check L N (j + q.size) (between b0 p') c' (drop q.size ('<' ∷ x ∷ t))

      by_byte : (a b e : Bool) → eqb x '!' ≡ a → eqb x '/' ≡ b → name_start x ≡ e →
          check L N (suc j) (angle p) c (x ∷ t) ≡ result (cond a comment-of (cond b (close_piece t) (cond e (tag_piece (x ∷ t)) none_of)))
      by_byte true b e q r k =
          subst (λ z. check L N (suc j) (angle p) c (z ∷ t) ≡ by p c j ('<' ∷ z ∷ t) comment-of) (sym (eqb-true x '!' q)) (comment-turn p c j t)
      by_byte false true e q r k =
          subst
          (λ z. check L N (suc j) (angle p) c (z ∷ t) ≡
          follow (turn_close L N p c j ('<' ∷ z ∷ t) (close_piece t))
          (λ p' c'. check L N (j + (close_piece t).size) (between b0 p') c' (drop (close_piece t).size ('<' ∷ z ∷ t))))
          (sym (eqb-true x '/' r)) (slash-turn p h c j t) ∙
          ap (λ a. follow a (behind (close_piece t))) (by-close p c j ('<' ∷ x ∷ t) (close_piece t) (close-kind t))
      by_byte false false true q r k =
          letter-turn p c j x t k ∙ ap (λ a. follow a (behind (tag_piece (x ∷ t)))) (by-tag p c j ('<' ∷ x ∷ t) (tag_piece (x ∷ t)) (tag-kind (x ∷ t)))
      by_byte false false false q r k = none-turn p c j x t (other_dead p x q r k) ∙ unfold turn_by in refl

  pub check-turn : (p : Place) → lawful p ≡ true → (c : Tally) (j : ℕ) (t : List ℕ) →
      check L N j (between b0 p) c t ≡
      follow (turn L N p c j t) (λ p' c'. check L N (j + (piece_of t).size) (between b0 p') c' (drop (piece_of t).size t))
  unfolding turn
  check-turn p h c j [] = end-turn p c j
  check-turn p h c j (x ∷ t) = by_byte (eqb x '<') refl ∙ ap (by p c j (x ∷ t)) (unfold piece_of in refl)
    where
      data_of : Piece
      data_of = piece DATA (span white (x ∷ t)) (data_stop b0 0 (x ∷ t))

      by_byte : (a : Bool) → eqb x '<' ≡ a → check L N j (between b0 p) c (x ∷ t) ≡ by p c j (x ∷ t) (cond a (markup_piece t) data_of)
      by_byte true q =
          subst (λ z. check L N j (between b0 p) c (z ∷ t) ≡ by p c j (z ∷ t) (markup_piece t)) (sym (eqb-true x '<' q))
          (check_open p c j t ∙ markup-turn p h c j t)
      by_byte false q = run-turn p c j (x ∷ t)
