-- What a whole comment, tag or end tag adds to the memory, by bytes and by pieces.
--   read_open      the `<`
--   comment-note, element-note, close-note
-- Letters as in specs/Notes; T the row from the `<` on, k how much of it is read. Assumes nothing.
use Prim.Native.Nat.{ℕ, suc, ◌+◌, ◌-◌}
use mathlib.Core.Path.{◌≡◌, refl, sym, ap, ◌∙◌}
use mathlib.Core.List.{List, [], ◌∷◌}
use mathlib.Core.Bool.{Bool, true, false, cond, false≢true}
use mathlib.Core.Option.{some}
use native.Mathlib.Omega.{arith}
use lib.Dec.{eqb}
use lib.ListN.{length, take, drop}
use lib.Seq.{drop-drop}
use borrow.Author.Tests.{eqb-true}
use Rattle.seq.proofs.Laws.Bools.{and_left, and_right}
use Rattle.profile.specs.Bytes.{'!', '/', '<', '>', white, name_start, name_char, is_name}
use Rattle.profile.specs.Spans.{span, common}
use Rattle.profile.specs.Machine.{Place, inside, past, b0, between, angle, in_tag, in_empty, in_end_tag, expect, step_tag, step}
use Rattle.profile.specs.Reader.{Memory, Reading, opened, emptied, closed, note, read}
use Rattle.profile.specs.Reader as reader
use Rattle.profile.specs.Pieces.{Stop, stop, after, close_stop, comment_stop, START, EMPTY, CLOSE, Piece, piece, name_size, tag_end, tag_piece, close_piece}
use Rattle.profile.specs.Turns.{name_of, named}
use Rattle.profile.proofs.Passes.{passes-one, read_goes}
use Rattle.profile.proofs.Pieces.{Enters, expect-passes, tag-slash, end_tag_slash}
use Rattle.profile.proofs.Stops.{comment-stops, tag_reaches, end_tag_reaches, name-of}
use Rattle.profile.proofs.TagTurns.{drop-next, tag_end-middle, closed-piece, close-middle, not-empty}
use Rattle.profile.proofs.Laws.Heads.{span-next, common-whole}

pub read_open : (p : Place) (j : ℕ) (m : Memory) (t : List ℕ) → read j (some (between b0 p)) m ('<' ∷ t) ≡ read (suc j) (some (angle p)) (reader.marked j m) t
unfolding read step note
read_open p j m t = refl

pub comment-note : (p : Place) (j : ℕ) (m : Memory) (t : List ℕ) → (comment_stop t).whole ≡ true →
    read j (some (between b0 p)) m ('<' ∷ '!' ∷ t) ≡
    read (j + (2 + (comment_stop t).size)) (some (between b0 p)) (reader.marked j m) (drop (2 + (comment_stop t).size) ('<' ∷ '!' ∷ t))
comment-note p j m t h =
    read_open p j m ('!' ∷ t) ∙ (comment-stops p t).reading h (suc j) (reader.marked j m) ∙
    ap (λ i. read i (some (between b0 p)) (reader.marked j m) (drop (1 + e.size) ('!' ∷ t))) place ∙
    ap (λ i. read (j + (2 + e.size)) (some (between b0 p)) (reader.marked j m) (drop i ('<' ∷ '!' ∷ t))) more
  where
    e : Stop
    e = comment_stop t

    place : suc j + (1 + e.size) ≡ j + (2 + e.size)
    place = omega arith

    more : suc (1 + e.size) ≡ 2 + e.size
    more = omega arith

-- ---- start tags and empty-element tags
-- Where an element leaves the reader, and what its tag adds.
abbrev pub placed : Piece → List ℕ → Place → Place
placed q n p = cond (eqb q.kind START) (inside n p) (past p)

abbrev pub added : Piece → List ℕ → ℕ → Memory → Memory
added q n l m = cond (eqb q.kind START) (opened n l m) (emptied n l m)

module _ (p : Place) (j : ℕ) (m : Memory) (T n : List ℕ) where
  abbrev through : Piece → Reading
  through q = read (j + q.size) (some (between b0 (placed q n p))) (added q n (j + q.size - 1) m) (drop q.size T)

  opens-note : (k i : ℕ) (t : List ℕ) → drop (suc k) T ≡ t →
      read (j + k) (some (in_tag n p)) m ('>' ∷ t) ≡ through (piece START i (stop (suc k) true))
  opens-note k i t e =
      read_goes (j + k) (in_tag n p) (between b0 (inside n p)) m (opened n (j + k) m) '>' t (unfold step step_tag white in refl) (unfold note in refl) ∙
      ap (λ l. read l (some (between b0 (inside n p))) (opened n (j + k) m) t) next ∙
      ap (λ l. read (j + suc k) (some (between b0 (inside n p))) (opened n l m) t) last ∙
      ap (λ u. read (j + suc k) (some (between b0 (inside n p))) (opened n (j + suc k - 1) m) u) (sym e)
    where
      next : suc (j + k) ≡ j + suc k
      next = omega arith

      last : j + k ≡ j + suc k - 1
      last = omega arith

  empties_note : (k i : ℕ) (t : List ℕ) → drop (suc k) T ≡ t → (close_stop t).whole ≡ true →
      read (j + suc k) (some (in_empty n p)) m t ≡ through (piece EMPTY i (after (suc k) (close_stop t)))
  unfolding close_stop
  empties_note k i [] e h = absurd (false≢true h)
  empties_note k i (x ∷ t) e h = by_byte (eqb x '>') refl h
    where
      next : suc (j + suc k) ≡ j + (suc k + 1)
      next = omega arith

      last : j + suc k ≡ j + (suc k + 1) - 1
      last = omega arith

      behind_it : drop (suc k + 1) T ≡ t
      behind_it = ap (λ i. drop i T) more ∙ drop-next (suc k) T x t e
        where
          more : suc k + 1 ≡ suc (suc k)
          more = omega arith

      by_byte : (b : Bool) → eqb x '>' ≡ b → (cond b (stop 1 true) (stop 0 false)).whole ≡ true →
          read (j + suc k) (some (in_empty n p)) m (x ∷ t) ≡ through (piece EMPTY i (after (suc k) (cond b (stop 1 true) (stop 0 false))))
      by_byte true q h =
          read_goes (j + suc k) (in_empty n p) (between b0 (past p)) m (emptied n (j + suc k) m) x t (unfold step in rw q) (unfold note in refl) ∙
          ap (λ l. read l (some (between b0 (past p))) (emptied n (j + suc k) m) t) next ∙
          ap (λ l. read (j + (suc k + 1)) (some (between b0 (past p))) (emptied n l m) t) last ∙
          ap (λ u. read (j + (suc k + 1)) (some (between b0 (past p))) (emptied n (j + (suc k + 1) - 1) m) u) (sym behind_it)
      by_byte false q h = absurd (false≢true h)

  tag-note : (k i : ℕ) (v : List ℕ) → drop k T ≡ v → (tag_end i k v).whole ≡ true → read (j + k) (some (in_tag n p)) m v ≡ through (tag_end i k v)
  unfolding tag_end
  tag-note k i [] e h = absurd (false≢true h)
  tag-note k i (x ∷ t) e h = by_byte (eqb x '>') (eqb x '/') refl refl h
    where
      Q : Bool → Bool → Piece
      Q a b = cond a (piece START i (stop (suc k) true)) (cond b (piece EMPTY i (after (suc k) (close_stop t))) (piece START i (stop k false)))

      by_byte : (a b : Bool) → eqb x '>' ≡ a → eqb x '/' ≡ b → (Q a b).whole ≡ true → read (j + k) (some (in_tag n p)) m (x ∷ t) ≡ through (Q a b)
      by_byte true b q r h = ap (λ z. read (j + k) (some (in_tag n p)) m (z ∷ t)) (eqb-true x '>' q) ∙ opens-note k i t (drop-next k T x t e)
      by_byte false true q r h =
          ap (λ z. read (j + k) (some (in_tag n p)) m (z ∷ t)) (eqb-true x '/' r) ∙
          (passes-one (in_tag n p) (in_empty n p) '/' (tag-slash n p)).reading (j + k) m t ∙
          ap (λ l. read l (some (in_empty n p)) m t) one ∙ empties_note k i t (drop-next k T x t e) h
        where
          one : j + k + 1 ≡ j + suc k
          one = omega arith
      by_byte false false q r h = absurd (false≢true h)

-- A tag that is whole has a byte after its name and its white space.
tag_end-more : (i k : ℕ) (v : List ℕ) → (tag_end i k v).whole ≡ true → (P : Type 0) → ((x : ℕ) (t : List ℕ) → v ≡ x ∷ t → P) → P
unfolding tag_end
tag_end-more i k [] h P f = absurd (false≢true h)
tag_end-more i k (x ∷ t) h P f = f x t refl

module _ (p : Place) (g : Enters p) (j : ℕ) (m : Memory) (x : ℕ) (t : List ℕ) (h : name_start x ≡ true) where
  k : ℕ
  k = suc (span name_char t)

  s : ℕ
  s = span white (drop k (x ∷ t))

  v : List ℕ
  v = drop s (drop k (x ∷ t))

  T : List ℕ
  T = '<' ∷ x ∷ t

  Q : Piece
  Q = tag_end (1 + k) (1 + k + s) v

  piece_is : tag_piece (x ∷ t) ≡ Q
  unfolding Q v s k
  piece_is = unfold tag_piece name_size in rw h

  name-is : take k (x ∷ t) ≡ name_of T Q
  unfolding Q v s k T
  name-is = ap (λ i. take i (x ∷ t)) less ∙ ap (λ i. take (i - 1) (x ∷ t)) (sym (tag_end-middle (1 + k) (1 + k + s) v))
    where
      less : k ≡ 1 + k - 1
      less = omega arith

  behind_it : drop (1 + k + s) T ≡ v
  unfolding T v k
  behind_it = ap (λ i. drop i T) more ∙ sym (drop-drop s k (x ∷ t))
    where
      more : 1 + k + s ≡ suc (k + s)
      more = omega arith

  whole-note : Q.whole ≡ true → read j (some (between b0 p)) m T ≡ through p j (reader.marked j m) T (name_of T Q) Q
  unfolding Q T v s k
  whole-note w =
      tag_end-more (1 + k) (1 + k + s) v w _ λ y u e.
      read_open p j m (x ∷ t) ∙ (tag_reaches p g x t h).reading y u (sym (drop-drop s k (x ∷ t)) ∙ e) (suc j) (reader.marked j m) ∙
      ap (λ l. read l (some (in_tag (take k (x ∷ t)) p)) (reader.marked j m) (y ∷ u)) place ∙
      ap (λ z. read (j + (1 + k + s)) (some (in_tag (take k (x ∷ t)) p)) (reader.marked j m) z) (sym e) ∙
      tag-note p j (reader.marked j m) T (take k (x ∷ t)) (1 + k + s) (1 + k) v behind_it w ∙
      ap (λ n. through p j (reader.marked j m) T n Q) name-is
    where
      place : suc j + (k + s) ≡ j + (1 + k + s)
      place = omega arith

  -- The name of the tag is a Name, and its size is that of the longest.
  pub tag-named : is_name (name_of ('<' ∷ x ∷ t) (tag_piece (x ∷ t))) ≡ true
  unfolding T k
  tag-named = ap (λ q. is_name (name_of T q)) piece_is ∙ ap is_name (sym name-is) ∙ name-of x t h

  pub element-note : (tag_piece (x ∷ t)).whole ≡ true →
      read j (some (between b0 p)) m ('<' ∷ x ∷ t) ≡
      through p j (reader.marked j m) ('<' ∷ x ∷ t) (name_of ('<' ∷ x ∷ t) (tag_piece (x ∷ t))) (tag_piece (x ∷ t))
  unfolding T
  element-note w =
      whole-note (sym (ap (λ (q : Piece). q.whole) piece_is) ∙ w) ∙ ap (λ q. through p j (reader.marked j m) T (name_of T q) q) (sym piece_is)

-- ---- end tags
module _ (n : List ℕ) (p : Place) (j : ℕ) (m : Memory) (T : List ℕ) where
  abbrev through_end : Stop → Reading
  through_end e = read (j + e.size) (some (between b0 (past p))) (closed (j + e.size - 1) m) (drop e.size T)

  close-end-note : (k : ℕ) (w : List ℕ) → drop k T ≡ w → ((x : ℕ) (t : List ℕ) → w ≡ x ∷ t → white x ≡ false) → (close_stop w).whole ≡ true →
      read (j + k) (some (in_end_tag p)) m w ≡ through_end (after k (close_stop w))
  unfolding close_stop
  close-end-note k [] e f h = absurd (false≢true h)
  close-end-note k (x ∷ t) e f h = by_byte (eqb x '>') refl h
    where
      next : suc (j + k) ≡ j + (k + 1)
      next = omega arith

      last : j + k ≡ j + (k + 1) - 1
      last = omega arith

      rest : drop (k + 1) T ≡ t
      rest = ap (λ i. drop i T) more ∙ drop-next k T x t e
        where
          more : k + 1 ≡ suc k
          more = omega arith

      by_byte : (b : Bool) → eqb x '>' ≡ b → (cond b (stop 1 true) (stop 0 false)).whole ≡ true →
          read (j + k) (some (in_end_tag p)) m (x ∷ t) ≡ through_end (after k (cond b (stop 1 true) (stop 0 false)))
      by_byte true q h =
          read_goes (j + k) (in_end_tag p) (between b0 (past p)) m (closed (j + k) m) x t (unfold step in rw (f x t refl, q)) (unfold note in rw q) ∙
          ap (λ l. read l (some (between b0 (past p))) (closed (j + k) m) t) next ∙
          ap (λ l. read (j + (k + 1)) (some (between b0 (past p))) (closed l m) t) last ∙
          ap (λ u. read (j + (k + 1)) (some (between b0 (past p))) (closed (j + (k + 1) - 1) m) u) (sym rest)
      by_byte false q h = absurd (false≢true h)

-- An end tag that is whole has a byte after its name and its white space.
close_stop-more : (w : List ℕ) → (close_stop w).whole ≡ true → (P : Type 0) → ((x : ℕ) (t : List ℕ) → w ≡ x ∷ t → P) → P
unfolding close_stop
close_stop-more [] h P f = absurd (false≢true h)
close_stop-more (x ∷ t) h P f = f x t refl

-- Without a name an end tag breaks.
no_name : (t : List ℕ) → name_size t ≡ 0 → (close_piece t).whole ≡ false
unfolding close_piece
no_name t z = rw z

pub close-note : (n : List ℕ) (p : Place) → is_name n ≡ true → (j : ℕ) (m : Memory) (t : List ℕ) → named n ('<' ∷ '/' ∷ t) (close_piece t) ≡ true →
    (close_piece t).whole ≡ true →
    read j (some (between b0 (inside n p))) m ('<' ∷ '/' ∷ t) ≡
    read (j + (close_piece t).size) (some (between b0 (past p))) (closed (j + (close_piece t).size - 1) (reader.marked j m)) (drop (close_piece t).size ('<' ∷ '/' ∷ t))
close-note n p h j m t right w =
    close_stop-more (drop s u) ended _ λ x r e.
    read_open (inside n p) j m ('/' ∷ t) ∙
    (passes-one (angle (inside n p)) (expect false n (in_end_tag p)) '/' (end_tag_slash n p)).reading (suc j) M t ∙
    expect-through (suc j + 1) ∙
    spaces x r e ∙
    ap (λ l. read l (some (in_end_tag p)) M (x ∷ r)) place ∙
    ap (λ z. read (j + (2 + length n + s)) (some (in_end_tag p)) M z) (sym e) ∙
    close-end-note n p j M T (2 + length n + s) (drop s u) rest (λ y z f. span-next white u y z f) ended ∙
    ap (λ (q : Piece). read (j + q.size) (some (between b0 (past p))) (closed (j + q.size - 1) M) (drop q.size T)) (sym piece_as)
  where
    T : List ℕ
    T = '<' ∷ '/' ∷ t

    M : Memory
    M = reader.marked j m

    u : List ℕ
    u = drop (length n) t

    s : ℕ
    s = span white u

    all : common n t ≡ length n
    all = eqb-true (common n t) (length n) (and_left (eqb (common n t) (length n)) (eqb (close_piece t).middle (2 + length n)) right)

    middle : (close_piece t).middle ≡ 2 + length n
    middle = eqb-true (close_piece t).middle (2 + length n) (and_right (eqb (common n t) (length n)) (eqb (close_piece t).middle (2 + length n)) right)

    size : name_size t ≡ length n
    size = omega (arith, middle, close-middle t named-one)
      where
        named-one : name_size t ≡ 0 → ⊥
        named-one z = false≢true (sym (no_name t z) ∙ w)

    piece_as : close_piece t ≡ piece CLOSE (2 + length n) (after (2 + length n + s) (close_stop (drop s u)))
    piece_as = closed-piece t (length n) size (not-empty n h)

    ended : (close_stop (drop s u)).whole ≡ true
    ended = sym (ap (λ (q : Piece). q.whole) piece_as) ∙ w

    expect-through : (i : ℕ) → read i (some (expect false n (in_end_tag p))) M t ≡ read (i + length n) (some (in_end_tag p)) M u
    expect-through i =
        ap (λ z. read i (some (expect false n (in_end_tag p))) M z) (sym (common-whole n t all)) ∙ (expect-passes n (in_end_tag p)).reading i M u

    spaces : (x : ℕ) (r : List ℕ) → drop s u ≡ x ∷ r →
        read (suc j + 1 + length n) (some (in_end_tag p)) M u ≡ read (suc j + 1 + length n + s) (some (in_end_tag p)) M (x ∷ r)
    spaces x r e = (end_tag_reaches p u).reading x r e (suc j + 1 + length n) M

    place : suc j + 1 + length n + s ≡ j + (2 + length n + s)
    place = omega arith

    rest : drop (2 + length n + s) T ≡ drop s u
    rest = ap (λ i. drop i T) more ∙ sym (drop-drop s (length n) t)
      where
        more : 2 + length n + s ≡ suc (suc (length n + s))
        more = omega arith
