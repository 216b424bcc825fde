-- The turn that a tag gives, by bytes and by pieces.
--   element-turn   a start tag or an empty-element tag, where an element may stand
--   close-turn     an end tag inside an element
-- Letters as in specs/Turns; T the row from the `<` on, k how much of it is read. Assumes nothing.
use Prim.Native.Nat.{ℕ, zero, suc, ◌+◌, ◌-◌, pred}
use mathlib.Core.Path.{◌≡◌, refl, sym, ap, ◌∙◌}
use mathlib.Core.Logic.{⊎_elim}
use mathlib.Core.List.{List, [], ◌∷◌, ◌++◌}
use mathlib.Core.Bool.{Bool, true, false, cond, ◌&&◌, false≢true}
use mathlib.Core.Option.{none, some}
use native.Mathlib.Omega.{arith}
use lib.Dec.{eqb}
use lib.ListN.{length, take, drop}
use lib.Seq.{drop-drop, drop-append_seam}
use borrow.Author.Tests.{eqb-true, eq-eqb, ne_eqb}
use Rattle.seq.specs.Lists.{every_of}
use Rattle.seq.proofs.Laws.Bools.{bool_cases, bool_false, and_left, and_right}
use Rattle.profile.specs.Bytes.{'/', '<', '>', white, name_start, name_char, is_name}
use Rattle.profile.specs.Spans.{span, common}
use Rattle.profile.specs.Machine.{Place, inside, past, b0, State, between, angle, in_tag, in_empty, in_end_tag, expect, step_tag, step, accepting}
use Rattle.profile.specs.Check.{Tally, Reply, broken, over, meets, depth_after, solid_after, count, weighed, full, check}
use Rattle.profile.specs.Pieces.{Stop, stop, after, close_stop, START, EMPTY, CLOSE, Piece, piece, name_size, tag_end, tag_piece, close_piece, markup_piece, piece_of}
use Rattle.profile.specs.Turns.{Turn, halt, go, follow, tally, name_of, tag_tally, turn_element, turn_close}
use Rattle.profile.proofs.Passes.{passes-one, check-goes, check_dead, check-short, stops-here}
use Rattle.profile.proofs.Pieces.{Enters, tag-slash, end_tag_slash}
use Rattle.profile.proofs.Stops.{expect-stops, tag_reaches, end_tag_reaches}
use Rattle.profile.proofs.Laws.Bytes.{apart, white-name_char}
use Rattle.profile.proofs.Laws.Heads.{span-fails, span-passing, span-next, common-whole}

-- ---- rows and replies
module _ {A : Type 0} where
  tail_of : List A → List A
  tail_of [] = []
  tail_of (x ∷ t) = t

  tail-drop : (k : ℕ) (T : List A) → tail_of (drop k T) ≡ drop (suc k) T
  unfolding tail_of
  tail-drop zero [] = refl
  tail-drop zero (x ∷ T) = refl
  tail-drop (suc k) [] = refl
  tail-drop (suc k) (x ∷ T) = tail-drop k T

  pub drop-next : (k : ℕ) (T : List A) (x : A) (u : List A) → drop k T ≡ x ∷ u → drop (suc k) T ≡ u
  unfolding tail_of
  drop-next k T x u e = sym (tail-drop k T) ∙ ap tail_of e

pub follow_if : (b : Bool) (x y : Turn) (f : Place → Tally → Reply) → follow (cond b x y) f ≡ cond b (follow x f) (follow y f)
follow_if true x y f = refl
follow_if false x y f = refl

opened-count : (n : List ℕ) (p : Place) (c : Tally) → count (in_tag n p) '>' c ≡ tally (suc c.met) (suc c.depth) false
unfolding meets depth_after solid_after
opened-count n p c = refl

emptied-count : (n : List ℕ) (p : Place) (x : ℕ) (c : Tally) → count (in_empty n p) x c ≡ tally (suc c.met) c.depth false
unfolding meets depth_after solid_after
emptied-count n p x c = refl

pub tag_end-middle : (m k : ℕ) (v : List ℕ) → (tag_end m k v).middle ≡ m
unfolding tag_end
tag_end-middle m k [] = refl
tag_end-middle m k (x ∷ t) = by_byte (eqb x '>') (eqb x '/')
  where
    by_byte : (a b : Bool) →
        (cond a (piece START m (stop (suc k) true)) (cond b (piece EMPTY m (after (suc k) (close_stop t))) (piece START m (stop k false)))).middle ≡ m
    by_byte true b = refl
    by_byte false true = refl
    by_byte false false = refl

-- ---- end tags, by themselves
span_more : (f : ℕ → Bool) (w u : List ℕ) → every_of f w ≡ true → span f (w ++ u) ≡ length w + span f u
unfolding every_of
span_more f [] u h = none
  where
    none : span f u ≡ 0 + span f u
    none = omega arith
span_more f (x ∷ w) u h =
    span-passing f x (w ++ u) (and_left (f x) (every_of f w) h) ∙ ap suc (span_more f w u (and_right (f x) (every_of f w) h)) ∙ sum
  where
    sum : suc (length w + span f u) ≡ suc (length w) + span f u
    sum = omega arith

span-nil : (f : ℕ → Bool) → span f [] ≡ 0
unfolding span
span-nil f = refl

pub not-empty : (n : List ℕ) → is_name n ≡ true → length n ≡ 0 → ⊥
unfolding is_name
not-empty [] h e = absurd (false≢true h)
not-empty (x ∷ n) h e = omega arith

-- The name of an end tag: after the bytes n comes u.
name-more : (n u : List ℕ) → is_name n ≡ true → name_size (n ++ u) ≡ length n + span name_char u
unfolding is_name name_size
name-more [] u h = absurd (false≢true h)
name-more (x ∷ n) u h =
    rw (and_left (name_start x) (every_of name_char n) h) (ap suc (span_more name_char n u (and_right (name_start x) (every_of name_char n) h)) ∙ sum)
  where
    sum : suc (length n + span name_char u) ≡ suc (length n) + span name_char u
    sum = omega arith

-- The end tag of a name of k bytes.
pub closed-piece : (t : List ℕ) (k : ℕ) → name_size t ≡ k → (k ≡ 0 → ⊥) →
    close_piece t ≡ piece CLOSE (2 + k) (after (2 + k + span white (drop k t)) (close_stop (drop (span white (drop k t)) (drop k t))))
unfolding close_piece
closed-piece t k e h = rw (e, ne_eqb k 0 h)

pub close-middle : (t : List ℕ) → (name_size t ≡ 0 → ⊥) → (close_piece t).middle ≡ 2 + name_size t
close-middle t h = ap (λ (q : Piece). q.middle) (closed-piece t (name_size t) refl h)

-- The end tag of the name n, without white space.
pub close-bare : (n v : List ℕ) → is_name n ≡ true → piece_of ('<' ∷ '/' ∷ (n ++ ('>' ∷ v))) ≡ piece CLOSE (2 + length n) (stop (3 + length n) true)
unfolding piece_of markup_piece name_char name_start white span close_stop
close-bare n v h = closed-piece u (length n) size (not-empty n h) ∙ ap (λ w. piece CLOSE (2 + length n) (after (2 + length n + span white w) (close_stop (drop (span white w) w)))) rest ∙ ends
  where
    u : List ℕ
    u = n ++ ('>' ∷ v)

    size : name_size u ≡ length n
    size = omega (arith, name-more n ('>' ∷ v) h, span-fails name_char '>' v refl)

    rest : drop (length n) u ≡ '>' ∷ v
    rest = drop-append_seam n ('>' ∷ v)

    ends : piece CLOSE (2 + length n) (after (2 + length n + span white ('>' ∷ v)) (close_stop (drop (span white ('>' ∷ v)) ('>' ∷ v)))) ≡ piece CLOSE (2 + length n) (stop (3 + length n) true)
    ends = ap (λ k. piece CLOSE (2 + length n) (stop k true)) three
      where
        three : 2 + length n + 0 + 1 ≡ 3 + length n
        three = omega arith

name-greater : (x : ℕ) → name_char x ≡ true → eqb x '>' ≡ false
unfolding name_char name_start
name-greater x h = apart name_char x '>' refl h

name-white : (x : ℕ) → name_char x ≡ true → white x ≡ false
name-white x h = bool_false (white x) λ w. false≢true (sym (white-name_char x w) ∙ h)

-- A byte of a name is refused in an end tag past its name.
wrong_byte : (p : Place) (x : ℕ) → name_char x ≡ true → step (in_end_tag p) x ≡ none
unfolding step
wrong_byte p x h = rw (name-white x h, name-greater x h)

module _ (L N : ℕ) where
  weighed_if : (s : State) (b : Bool) (v j : ℕ) (f : State → Reply) → weighed L N (some s) b v j f ≡ cond b (over v) (f s)
  weighed_if s true v j f = refl
  weighed_if s false v j f = refl

  -- A byte that meets a node.
  pub check-meets : (j : ℕ) (s s' : State) (x : ℕ) (c : Tally) (t : List ℕ) → step s x ≡ some s' → meets s x c.solid ≡ true →
      check L N j s c (x ∷ t) ≡ cond (full L N c) (over c.met) (check L N (suc j) s' (count s x c) t)
  unfolding check
  check-meets j s s' x c t e f =
      ap (λ o. weighed L N o (meets s x c.solid && full L N c) c.met j (λ z. check L N (suc j) z (count s x c) t)) e ∙
      ap (λ b. weighed L N (some s') (b && full L N c) c.met j (λ z. check L N (suc j) z (count s x c) t)) f ∙
      weighed_if s' (full L N c) c.met j (λ z. check L N (suc j) z (count s x c) t)

  -- ---- start tags and empty-element tags
  module _ (p : Place) (c : Tally) (j : ℕ) (T n : List ℕ) where
    -- What follows the piece q, and the turn that it gives; its name is n.
    abbrev behind : Piece → Place → Tally → Reply
    behind q p' c' = check L N (j + q.size) (between b0 p') c' (drop q.size T)

    abbrev turned : Piece → Turn
    turned q =
        cond q.whole
        (cond (full L N c) (halt (over c.met)) (go (cond (eqb q.kind START) (inside n p) (past p)) (tag_tally c q)))
        (halt (broken (j + q.size)))

    -- A tag that breaks at its byte k, or ends there.
    breaks : (k m i : ℕ) → i ≡ j + k → broken i ≡ follow (turned (piece START m (stop k false))) (behind (piece START m (stop k false)))
    breaks k m i e = ap broken e

    opens : (k m : ℕ) (t : List ℕ) → drop (suc k) T ≡ t →
        check L N (j + k) (in_tag n p) c ('>' ∷ t) ≡ follow (turned (piece START m (stop (suc k) true))) (behind (piece START m (stop (suc k) true)))
    opens k m t e =
        check-meets (j + k) (in_tag n p) (between b0 (inside n p)) '>' c t (unfold step step_tag white in refl) (unfold meets in refl) ∙
        ap (λ d. cond (full L N c) (over c.met) (check L N (suc (j + k)) (between b0 (inside n p)) d t)) (opened-count n p c) ∙
        ap (λ i. cond (full L N c) (over c.met) (check L N i (between b0 (inside n p)) (tally (suc c.met) (suc c.depth) false) t)) next ∙
        ap (λ u. cond (full L N c) (over c.met) (check L N (j + suc k) (between b0 (inside n p)) (tally (suc c.met) (suc c.depth) false) u)) (sym e) ∙
        sym (follow_if (full L N c) (halt (over c.met)) (go (inside n p) (tally (suc c.met) (suc c.depth) false)) (behind (piece START m (stop (suc k) true))))
      where
        next : suc (j + k) ≡ j + suc k
        next = omega arith

    -- After the `/`, of which the place is k.
    empties : (k m : ℕ) (t : List ℕ) → drop (suc k) T ≡ t →
        check L N (j + suc k) (in_empty n p) c t ≡
        follow (turned (piece EMPTY m (after (suc k) (close_stop t)))) (behind (piece EMPTY m (after (suc k) (close_stop t))))
    unfolding close_stop
    empties k m [] e = check-short L N (j + suc k) (in_empty n p) c (unfold accepting in refl) ∙ ap broken same
      where
        same : j + suc k ≡ j + (suc k + 0)
        same = omega arith
    empties k m (x ∷ t) e = by_byte (eqb x '>') refl
      where
        same : j + suc k ≡ j + (suc k + 0)
        same = omega arith

        next : suc (j + suc k) ≡ j + (suc k + 1)
        next = omega arith

        behind_it : drop (suc k + 1) T ≡ t
        behind_it = ap (λ i. drop i T) more ∙ drop-next (suc k) T x t e
          where
            more : suc k + 1 ≡ suc (suc k)
            more = omega arith

        by_byte : (b : Bool) → eqb x '>' ≡ b →
            check L N (j + suc k) (in_empty n p) c (x ∷ t) ≡
            follow (turned (piece EMPTY m (after (suc k) (cond b (stop 1 true) (stop 0 false)))))
            (behind (piece EMPTY m (after (suc k) (cond b (stop 1 true) (stop 0 false)))))
        by_byte true q =
            check-meets (j + suc k) (in_empty n p) (between b0 (past p)) x c t (unfold step in rw q) (unfold meets in refl) ∙
            ap (λ d. cond (full L N c) (over c.met) (check L N (suc (j + suc k)) (between b0 (past p)) d t)) (emptied-count n p x c) ∙
            ap (λ i. cond (full L N c) (over c.met) (check L N i (between b0 (past p)) (tally (suc c.met) c.depth false) t)) next ∙
            ap (λ u. cond (full L N c) (over c.met) (check L N (j + (suc k + 1)) (between b0 (past p)) (tally (suc c.met) c.depth false) u)) (sym behind_it) ∙
            sym (follow_if (full L N c) (halt (over c.met)) (go (past p) (tally (suc c.met) c.depth false)) (behind (piece EMPTY m (stop (suc k + 1) true))))
        by_byte false q = check_dead L N (j + suc k) (in_empty n p) x c t (unfold step in rw q) ∙ ap broken same

    -- Past the name and the white space, k bytes in all.
    tag-end : (k m : ℕ) (v : List ℕ) → drop k T ≡ v → ((x : ℕ) (t : List ℕ) → v ≡ x ∷ t → white x ≡ false) →
        check L N (j + k) (in_tag n p) c v ≡ follow (turned (tag_end m k v)) (behind (tag_end m k v))
    unfolding tag_end
    tag-end k m [] e w = check-short L N (j + k) (in_tag n p) c (unfold accepting in refl) ∙ breaks k m (j + k) refl
    tag-end k m (x ∷ t) e w = by_byte (eqb x '>') (eqb x '/') refl refl
      where
        behind_it : drop (suc k) T ≡ t
        behind_it = drop-next k T x t e

        next : suc (j + k) ≡ j + suc k
        next = omega arith

        by_byte : (a b : Bool) → eqb x '>' ≡ a → eqb x '/' ≡ b →
            check L N (j + k) (in_tag n p) c (x ∷ t) ≡
            follow (turned (cond a (piece START m (stop (suc k) true)) (cond b (piece EMPTY m (after (suc k) (close_stop t))) (piece START m (stop k false)))))
            (behind (cond a (piece START m (stop (suc k) true)) (cond b (piece EMPTY m (after (suc k) (close_stop t))) (piece START m (stop k false)))))
        by_byte true b q r = ap (λ z. check L N (j + k) (in_tag n p) c (z ∷ t)) (eqb-true x '>' q) ∙ opens k m t behind_it
        by_byte false true q r =
            ap (λ z. check L N (j + k) (in_tag n p) c (z ∷ t)) (eqb-true x '/' r) ∙
            (passes-one (in_tag n p) (in_empty n p) '/' (tag-slash n p)).checking L N (j + k) c t ∙
            ap (λ i. check L N i (in_empty n p) c t) one ∙ empties k m t behind_it
          where
            one : j + k + 1 ≡ j + suc k
            one = omega arith
        by_byte false false q r =
            check_dead L N (j + k) (in_tag n p) x c t (unfold step step_tag in rw (w x t refl, r, q)) ∙ breaks k m (j + k) refl

  pub element-turn : (p : Place) → Enters p → (c : Tally) (j y x : ℕ) (t : List ℕ) → name_start x ≡ true →
      check L N (suc j) (angle p) c (x ∷ t) ≡
      follow (turn_element L N p c j (y ∷ x ∷ t) (tag_piece (x ∷ t)))
      (λ p' c'. check L N (j + (tag_piece (x ∷ t)).size) (between b0 p') c' (drop (tag_piece (x ∷ t)).size (y ∷ x ∷ t)))
  element-turn p g c j y x t h =
      (tag_reaches p g x t h).checking L N (suc j) c ∙
      ap (λ i. check L N i (in_tag n p) c (drop (k + s) (x ∷ t))) place ∙
      ap (λ u. check L N (j + (1 + k + s)) (in_tag n p) c u) (sym (drop-drop s k (x ∷ t))) ∙
      tag-end p c j T n (1 + k + s) (1 + k) (drop s (drop k (x ∷ t))) behind_it (λ z u e. span-next white (drop k (x ∷ t)) z u e) ∙
      ap (λ m. follow (turned p c j T m Q) (behind p c j T n Q)) name-is ∙
      ap (λ q. follow (turn_element L N p c j T q) (behind p c j T n q)) (sym piece_is)
    where
      k : ℕ
      k = suc (span name_char t)

      s : ℕ
      s = span white (drop k (x ∷ t))

      n : List ℕ
      n = take k (x ∷ t)

      T : List ℕ
      T = y ∷ x ∷ t

      Q : Piece
      Q = tag_end (1 + k) (1 + k + s) (drop s (drop k (x ∷ t)))

      place : suc j + (k + s) ≡ j + (1 + k + s)
      place = omega arith

      behind_it : drop (1 + k + s) T ≡ drop s (drop k (x ∷ t))
      behind_it = ap (λ i. drop i T) more ∙ sym (drop-drop s k (x ∷ t))
        where
          more : 1 + k + s ≡ suc (k + s)
          more = omega arith

      name-is : n ≡ name_of T Q
      name-is = ap (λ i. take i (x ∷ t)) less ∙ ap (λ i. take (i - 1) (x ∷ t)) (sym (tag_end-middle (1 + k) (1 + k + s) (drop s (drop k (x ∷ t)))))
        where
          less : k ≡ 1 + k - 1
          less = omega arith

      piece_is : tag_piece (x ∷ t) ≡ Q
      piece_is = unfold tag_piece name_size in rw h

  -- ---- end tags
  closed-count : (p : Place) (x : ℕ) (c : Tally) → eqb x '>' ≡ true → count (in_end_tag p) x c ≡ tally c.met (pred c.depth) false
  unfolding meets depth_after solid_after
  closed-count p x c e = rw e

  module _ (n : List ℕ) (p : Place) (c : Tally) (j : ℕ) (T : List ℕ) where
    -- The turn of an end tag whose name is right.
    abbrev ended : Piece → Turn
    ended q = cond q.whole (go (past p) (tally c.met (pred c.depth) false)) (halt (broken (j + q.size)))

    abbrev ended_behind : Piece → Place → Tally → Reply
    ended_behind q p' c' = check L N (j + q.size) (between b0 p') c' (drop q.size T)

    -- Past the name and the white space, k bytes in all.
    close-end : (k m : ℕ) (v : List ℕ) → drop k T ≡ v → ((x : ℕ) (t : List ℕ) → v ≡ x ∷ t → white x ≡ false) →
        check L N (j + k) (in_end_tag p) c v ≡ follow (ended (piece CLOSE m (after k (close_stop v)))) (ended_behind (piece CLOSE m (after k (close_stop v))))
    unfolding close_stop
    close-end k m [] e w = check-short L N (j + k) (in_end_tag p) c (unfold accepting in refl) ∙ ap broken same
      where
        same : j + k ≡ j + (k + 0)
        same = omega arith
    close-end k m (x ∷ t) e w = by_byte (eqb x '>') refl
      where
        same : j + k ≡ j + (k + 0)
        same = omega arith

        next : suc (j + k) ≡ j + (k + 1)
        next = omega arith

        behind_it : drop (k + 1) T ≡ t
        behind_it = ap (λ i. drop i T) more ∙ drop-next k T x t e
          where
            more : k + 1 ≡ suc k
            more = omega arith

        by_byte : (b : Bool) → eqb x '>' ≡ b →
            check L N (j + k) (in_end_tag p) c (x ∷ t) ≡
            follow (ended (piece CLOSE m (after k (cond b (stop 1 true) (stop 0 false)))))
            (ended_behind (piece CLOSE m (after k (cond b (stop 1 true) (stop 0 false)))))
        by_byte true q =
            check-goes L N (j + k) (in_end_tag p) (between b0 (past p)) x c t (unfold step in rw (w x t refl, q)) (unfold meets in refl) ∙
            ap (λ d. check L N (suc (j + k)) (between b0 (past p)) d t) (closed-count p x c q) ∙
            ap (λ i. check L N i (between b0 (past p)) (tally c.met (pred c.depth) false) t) next ∙
            ap (λ u. check L N (j + (k + 1)) (between b0 (past p)) (tally c.met (pred c.depth) false) u) (sym behind_it)
        by_byte false q = check_dead L N (j + k) (in_end_tag p) x c t (unfold step in rw (w x t refl, q)) ∙ ap broken same

  pub close-turn : (n : List ℕ) (p : Place) → is_name n ≡ true → (c : Tally) (j y : ℕ) (t : List ℕ) →
      check L N (suc j) (angle (inside n p)) c ('/' ∷ t) ≡
      follow (turn_close L N (inside n p) c j (y ∷ '/' ∷ t) (close_piece t))
      (λ p' c'. check L N (j + (close_piece t).size) (between b0 p') c' (drop (close_piece t).size (y ∷ '/' ∷ t)))
  unfolding turn_close
  close-turn n p h c j y t =
      (passes-one (angle (inside n p)) (expect false n (in_end_tag p)) '/' (end_tag_slash n p)).checking L N (suc j) c t ∙
      (expect-stops n (in_end_tag p) (in_end_tag p) t (stop 0 true) (stops-here (in_end_tag p) (drop (length n) t))).checking L N (suc j + 1) c ∙
      by_name (eqb (common n t) (length n)) refl
    where
      T : List ℕ
      T = y ∷ '/' ∷ t

      E : Bool → Stop
      E b = cond b (stop (length n + 0) true) (stop (common n t) false)

      R : Bool → Reply
      R b =
          follow
          (cond (b && eqb (close_piece t).middle (2 + length n)) (ended n p c j T (close_piece t)) (halt (broken (j + (2 + common n t)))))
          (ended_behind n p c j T (close_piece t))

      u : List ℕ
      u = drop (length n) t

      s : ℕ
      s = span white u

      -- The whole name, and what comes of the byte after it.
      matched : eqb (common n t) (length n) ≡ true → check L N (suc j + 1 + (length n + 0)) (in_end_tag p) c (drop (length n + 0) t) ≡ R true
      matched q = ap (λ i. check L N (suc j + 1 + i) (in_end_tag p) c (drop i t)) zero_more ∙ by_next u refl (span name_char u) refl
        where
          zero_more : length n + 0 ≡ length n
          zero_more = omega arith

          size_is : name_size t ≡ length n + span name_char u
          size_is = ap name_size (sym (common-whole n t (eqb-true (common n t) (length n) q))) ∙ name-more n u h

          named-one : is_name n ≡ true → (length n ≡ 0 → ⊥)
          named-one = not-empty n

          closes : name_size t ≡ length n → close_piece t ≡ piece CLOSE (2 + length n) (after (2 + length n + s) (close_stop (drop s u)))
          closes e = closed-piece t (length n) e (named-one h)

          by_next : (v : List ℕ) → u ≡ v → (r : ℕ) → span name_char u ≡ r → check L N (suc j + 1 + length n) (in_end_tag p) c u ≡ R true
          by_next v e zero f =
              (end_tag_reaches p u).checking L N (suc j + 1 + length n) c ∙
              ap (λ i. check L N i (in_end_tag p) c (drop s u)) place ∙
              close-end n p c j T (2 + length n + s) (2 + length n) (drop s u) behind_it (λ x w g. span-next white u x w g) ∙
              sym (right-name (eqb (2 + length n) (2 + length n)) (eq-eqb (2 + length n) (2 + length n) refl)) ∙
              ap
              (λ (q : Piece).
              follow (cond (eqb q.middle (2 + length n)) (ended n p c j T q) (halt (broken (j + (2 + common n t))))) (ended_behind n p c j T q))
              (sym (closes (size_is ∙ all)))
            where
              Q : Piece
              Q = piece CLOSE (2 + length n) (after (2 + length n + s) (close_stop (drop s u)))

              right-name : (b : Bool) → b ≡ true →
                  follow (cond b (ended n p c j T Q) (halt (broken (j + (2 + common n t))))) (ended_behind n p c j T Q) ≡
                  follow (ended n p c j T Q) (ended_behind n p c j T Q)
              right-name true g = refl
              right-name false g = absurd (false≢true g)

              all : length n + span name_char u ≡ length n
              all = omega (arith, f)

              place : suc j + 1 + length n + s ≡ j + (2 + length n + s)
              place = omega arith

              behind_it : drop (2 + length n + s) T ≡ drop s u
              behind_it = ap (λ i. drop i T) more ∙ sym (drop-drop s (length n) t)
                where
                  more : 2 + length n + s ≡ suc (suc (length n + s))
                  more = omega arith
          by_next [] e (suc r) f = absurd (no (sym f ∙ ap (span name_char) e ∙ span-nil name_char))
            where
              no : suc r ≡ 0 → ⊥
              no z = omega arith
          by_next (x ∷ w) e (suc r) f =
              ap (λ z. check L N (suc j + 1 + length n) (in_end_tag p) c z) e ∙
              check_dead L N (suc j + 1 + length n) (in_end_tag p) x c w (wrong_byte p x named-byte) ∙
              ap broken place ∙
              sym (wrong_name (eqb (close_piece t).middle (2 + length n)) (ne_eqb (close_piece t).middle (2 + length n) longer))
            where
              named-byte : name_char x ≡ true
              named-byte = ⊎_elim (λ g. g) (λ g. absurd (no (sym f ∙ ap (span name_char) e ∙ span-fails name_char x w g))) (bool_cases (name_char x))
                where
                  no : suc r ≡ 0 → ⊥
                  no z = omega arith

              place : suc j + 1 + length n ≡ j + (2 + common n t)
              place = omega (arith, eqb-true (common n t) (length n) q)

              longer : (close_piece t).middle ≡ 2 + length n → ⊥
              longer g = omega (arith, g, close-middle t (λ z. named-one h (omega (arith, z, size_is))), size_is, f)

              wrong_name : (b : Bool) → b ≡ false →
                  follow (cond b (ended n p c j T (close_piece t)) (halt (broken (j + (2 + common n t))))) (ended_behind n p c j T (close_piece t)) ≡
                  broken (j + (2 + common n t))
              wrong_name true g = absurd (false≢true (sym g))
              wrong_name false g = refl

      by_name : (b : Bool) → eqb (common n t) (length n) ≡ b →
          cond (E b).whole (check L N (suc j + 1 + (E b).size) (in_end_tag p) c (drop (E b).size t)) (broken (suc j + 1 + (E b).size)) ≡ R b
      by_name true q = matched q
      by_name false q = ap broken place
        where
          place : suc j + 1 + common n t ≡ j + (2 + common n t)
          place = omega arith
