-- Where a whole piece of the profile ends: behind the first byte that can be its last. Assumes nothing.
--   data_ends, data_low      of whole data: it ends at its first `<`, and its bytes up to 32 at the front are its white space
--   comment-size             of a whole comment: three bytes behind the first `--` of its body
--   tag-run                  the name and the white space of a tag hold no byte that is in neither
--   tag-told, close-told     of a whole tag: it ends behind its first `>`, and the bytes after its `<` and before its `>` tell its kind
-- Letters: t u rows of bytes, x y z bytes, k brackets, n s sizes of a name and of the white space after it.
use Prim.Native.Nat.{ℕ, zero, suc, zero-le, ◌+◌, ◌≤◌, ◌<◌}
use mathlib.Core.Path.{◌≡◌, refl, sym, ap, ap₂, ◌∙◌}
use mathlib.Core.Logic.{⊎_elim}
use mathlib.Core.List.{List, [], ◌∷◌, ◌++◌}
use mathlib.Core.Bool.{Bool, true, false, not, cond, ◌&&◌, false≢true}
use native.Mathlib.Nat.{not-suc-le-zero, le_of_suc-le-suc}
use native.Mathlib.Omega.{arith}
use lib.Dec.{eqb}
use lib.ListN.{get_or, drop}
use lib.Seq.{get_or-drop}
use borrow.Author.Tests.{eqb-true, leb-true, not-true}
use Rattle.seq.specs.Below.{every_below}
use Rattle.seq.specs.Lists.{every_of}
use Rattle.seq.proofs.Laws.Below.{every-at}
use Rattle.seq.proofs.Laws.Bools.{bool_cases, bool_false, bool-not_both, and_left, and_both, and_false-left, not_at}
use Rattle.profile.specs.Bytes.{'&', '-', '/', semicolon, '<', '>', char, white, name_start, name_char, data_char, starts_with}
use Rattle.profile.specs.Spans.{span, other, low, common}
use Rattle.profile.specs.Machine.{Brackets, b0, run_byte, run_next}
use Rattle.profile.specs.Pieces.{Stop, stop, after, meant, reference_stop, data_stop, close_stop, body_stop, comment_stop, START, EMPTY, CLOSE, Piece, piece, name_size, tag_end, tag_piece, close_piece}
use Rattle.profile.proofs.Laws.Bytes.{apart, white_elim, dashes}
use Rattle.profile.proofs.Laws.Heads.{span-fails, span-passing}
use Rattle.profile.proofs.Laws.Spans.{span-passes, span-past, common-span}
use Rattle.profile.proofs.Turns.{close-kind}
use Rattle.profile.proofs.DataTurns.{later, run-stop, white-run, white-next}
use Rattle.profile.proofs.DataNotes.{dead_stop}
use Rattle.skim.specs.Skim.{until, tag_kind}

-- A byte that passes a test that y fails is not y.
other-apart : (f : ℕ → Bool) (y : ℕ) → f y ≡ false → (x : ℕ) → f x ≡ true → other y x ≡ true
unfolding other
other-apart f y g x h = ap not (apart f x y g h)

-- ---- data
-- No reference holds a `<`.
meant-other : (t : List ℕ) → every_of (other '<') (meant t) ≡ true
unfolding meant every_of other
meant-other t = by_word (starts_with (108 ∷ []) t) (starts_with (103 ∷ []) t) (starts_with (113 ∷ []) t) (starts_with (97 ∷ 112 ∷ []) t)
  where
    by_word : (a b c d : Bool) →
        every_of (other '<')
        (cond a (108 ∷ 116 ∷ semicolon ∷ [])
        (cond b (103 ∷ 116 ∷ semicolon ∷ [])
        (cond c (113 ∷ 117 ∷ 111 ∷ 116 ∷ semicolon ∷ []) (cond d (97 ∷ 112 ∷ 111 ∷ 115 ∷ semicolon ∷ []) (97 ∷ 109 ∷ 112 ∷ semicolon ∷ []))))) ≡ true
    by_word true b c d = refl
    by_word false true c d = refl
    by_word false false true d = refl
    by_word false false false true = refl
    by_word false false false false = refl

data_size : (k : Brackets) (n : ℕ) (t : List ℕ) → n ≤ span (other '<') t → (data_stop k n t).whole ≡ true → (data_stop k n t).size ≡ span (other '<') t
unfolding data_stop span other
data_size k n [] l w = refl
data_size k (suc n) (x ∷ t) l w =
    ⊎_elim
    (λ (q : not (eqb x '<') ≡ true). rw q (omega (arith, data_size k n t (le_of_suc-le-suc (rw q at l)) w)))
    (λ (q : not (eqb x '<') ≡ false). absurd (not-suc-le-zero (rw q at l)))
    (bool_cases (not (eqb x '<')))
data_size k zero (x ∷ t) l w =
    by_byte (eqb x '<') (eqb x '&') (run_byte k x) R.whole refl w (data_size b0 R.size t (common-span (other '<') (meant t) t (meant-other t)))
    (data_size (run_next k x) 0 t zero-le)
  where
    R : Stop
    R = reference_stop t

    by_byte : (a b c d : Bool) → R.whole ≡ d →
        (cond a (stop 0 true)
        (cond b (cond d (after 1 (data_stop b0 R.size t)) (after 1 R)) (cond c (after 1 (data_stop (run_next k x) 0 t)) (stop 0 false)))).whole ≡ true →
        ((data_stop b0 R.size t).whole ≡ true → (data_stop b0 R.size t).size ≡ span (other '<') t) →
        ((data_stop (run_next k x) 0 t).whole ≡ true → (data_stop (run_next k x) 0 t).size ≡ span (other '<') t) →
        (cond a (stop 0 true)
        (cond b (cond d (after 1 (data_stop b0 R.size t)) (after 1 R)) (cond c (after 1 (data_stop (run_next k x) 0 t)) (stop 0 false)))).size ≡
        cond (not a) (suc (span (other '<') t)) 0
    by_byte true b c d e w f g = refl
    by_byte false true c true e w f g = omega (arith, f w)
    by_byte false true c false e w f g = absurd (bool-not_both R.whole w e)
    by_byte false false true d e w f g = omega (arith, g w)
    by_byte false false false d e w f g = absurd (false≢true w)

-- The Chars up to 32 are white space.
char-low : (x : ℕ) → char x ≡ true → white x ≡ false → low x ≡ false
unfolding every_below char white low
char-low x a b =
    bool_false (low x) λ h. not_at (char x && not (white x)) (every-at 33 (λ y. not (char y && not (white y))) refl x (omega (arith, leb-true x 32 h))) (and_both _ _ a (ap not b))

white_low : (x : ℕ) → white x ≡ true → low x ≡ true
unfolding low
white_low = white_elim (λ x. low x ≡ true) refl refl refl refl

run-char : (x : ℕ) → run_byte b0 x ≡ true → char x ≡ true
unfolding run_byte data_char
run-char x h = and_left (char x) _ (and_left (char x && not (eqb x '<')) _ (and_left (data_char x) _ h))

-- The first byte of whole data that is no white space is above 32.
data_high : (x : ℕ) (t : List ℕ) → white x ≡ false → (data_stop b0 0 (x ∷ t)).whole ≡ true → low x ≡ false
data_high x t q w = by_byte (eqb x '<') (eqb x '&') (run_byte b0 x) refl refl refl
  where
    is : (y : ℕ) → low y ≡ false → eqb x y ≡ true → low x ≡ false
    is y l e = ap low (eqb-true x y e) ∙ l

    by_byte : (a b c : Bool) → eqb x '<' ≡ a → eqb x '&' ≡ b → run_byte b0 x ≡ c → low x ≡ false
    by_byte true b c e f g = is '<' (unfold low in refl) e
    by_byte false true c e f g = is '&' (unfold low in refl) f
    by_byte false false true e f g = char-low x (run-char x g) q
    by_byte false false false e f g = absurd (bool-not_both (data_stop b0 0 (x ∷ t)).whole w (dead_stop x t e f g))

pub data_low : (t : List ℕ) → (data_stop b0 0 t).whole ≡ true → span low t ≡ span white t
data_low [] w = unfold span in refl
data_low (x ∷ t) w = by_byte (white x) refl (data_low t)
  where
    by_byte : (b : Bool) → white x ≡ b → ((data_stop b0 0 t).whole ≡ true → span low t ≡ span white t) → span low (x ∷ t) ≡ span white (x ∷ t)
    by_byte true q r =
        span-passing low x t (white_low x q) ∙
        ap suc (r (sym (ap (λ (e : Stop). e.whole) (run-stop b0 x t (white-run x q) ∙ ap (λ k. later 1 (data_stop k 0 t)) (white-next x q))) ∙ w)) ∙
        sym (span-passing white x t q)
    by_byte false q r = span-fails low x t (data_high x t q w) ∙ sym (span-fails white x t q)

-- In two runs.
pub data_ends : (t : List ℕ) → (data_stop b0 0 t).whole ≡ true → span low t + span (other '<') (drop (span low t) t) ≡ (data_stop b0 0 t).size
unfolding low
data_ends t w = sym (span-past low (other '<') (other-apart low '<' refl) t) ∙ sym (data_size b0 0 t zero-le w)

-- ---- a `>`
close-one : (t : List ℕ) → (close_stop t).whole ≡ true → (close_stop t).size ≡ 1
unfolding close_stop
close-one [] w = absurd (false≢true w)
close-one (x ∷ t) w = ⊎_elim (λ q. rw q) (λ q. absurd (false≢true (rw q at w))) (bool_cases (eqb x '>'))

close-here : (t : List ℕ) → (close_stop t).whole ≡ true → span (other '>') t ≡ 0
unfolding close_stop span other
close-here [] w = absurd (false≢true w)
close-here (x ∷ t) w = ⊎_elim (λ q. rw q) (λ q. absurd (false≢true (rw q at w))) (bool_cases (eqb x '>'))

-- ---- comments
until-at : (w : List ℕ) (x : ℕ) (t : List ℕ) → starts_with w (x ∷ t) ≡ true → until w (x ∷ t) ≡ 0
unfolding until
until-at w x t e = rw e

until-over : (w : List ℕ) (x : ℕ) (t : List ℕ) → starts_with w (x ∷ t) ≡ false → until w (x ∷ t) ≡ suc (until w t)
unfolding until
until-over w x t e = rw e

abbrev pair : List ℕ
pair = '-' ∷ '-' ∷ []

other-first : (x : ℕ) (t : List ℕ) → eqb x '-' ≡ false → starts_with pair (x ∷ t) ≡ false
unfolding starts_with
other-first x t e = rw e

dash_other : (x : ℕ) (t : List ℕ) → eqb x '-' ≡ false → starts_with pair ('-' ∷ x ∷ t) ≡ false
unfolding starts_with
dash_other x t e = rw e

dash_dash : (x : ℕ) (t : List ℕ) → eqb x '-' ≡ true → starts_with pair ('-' ∷ x ∷ t) ≡ true
unfolding starts_with
dash_dash x t e = rw e

-- After a `-` (d) or not; that one is counted.
body-size : (d : Bool) (t : List ℕ) → (body_stop d t).whole ≡ true → cond d 1 0 + (body_stop d t).size ≡ until pair (dashes d ++ t) + 3
unfolding body_stop
body-size d [] w = absurd (false≢true w)
body-size d (x ∷ t) w = by_byte d (eqb x '-') (char x) refl w (body-size true t) (body-size false t)
  where
    by_byte : (d a b : Bool) → eqb x '-' ≡ a →
        (cond a (after 1 (cond d (close_stop t) (body_stop true t))) (cond b (after 1 (body_stop false t)) (stop 0 false))).whole ≡ true →
        ((body_stop true t).whole ≡ true → 1 + (body_stop true t).size ≡ until pair ('-' ∷ t) + 3) →
        ((body_stop false t).whole ≡ true → 0 + (body_stop false t).size ≡ until pair t + 3) →
        cond d 1 0 + (cond a (after 1 (cond d (close_stop t) (body_stop true t))) (cond b (after 1 (body_stop false t)) (stop 0 false))).size ≡
        until pair (dashes d ++ (x ∷ t)) + 3
    by_byte true true b e w f g = omega (arith, close-one t w, until-at pair '-' (x ∷ t) (dash_dash x t e))
    by_byte false true b e w f g = omega (arith, f w, ap (λ y. until pair (y ∷ t)) (eqb-true x '-' e))
    by_byte true false true e w f g = omega (arith, g w, until-over pair '-' (x ∷ t) (dash_other x t e), until-over pair x t (other-first x t e))
    by_byte false false true e w f g = omega (arith, g w, until-over pair x t (other-first x t e))
    by_byte d false false e w f g = absurd (false≢true w)

-- t is what follows the `<!`.
pub comment-size : (t : List ℕ) → (comment_stop t).whole ≡ true → (comment_stop t).size ≡ 2 + until pair (drop 2 t) + 3
unfolding comment_stop
comment-size t w = by_test (eqb (common pair t) 2) w
  where
    by_test : (b : Bool) → (cond b (after 2 (body_stop false (drop 2 t))) (stop (common pair t) false)).whole ≡ true →
        (cond b (after 2 (body_stop false (drop 2 t))) (stop (common pair t) false)).size ≡ 2 + until pair (drop 2 t) + 3
    by_test true w = omega (arith, body-size false (drop 2 t) w)
    by_test false w = absurd (false≢true w)

-- ---- tags
module _ (t : List ℕ) where
  -- The name and the white space of a tag, and what follows.
  abbrev n : ℕ
  n = name_size t

  abbrev s : ℕ
  s = span white (drop n t)

  abbrev rest : List ℕ
  rest = drop s (drop n t)

module _ (y : ℕ) (a : name_start y ≡ false) (b : name_char y ≡ false) (c : white y ≡ false) where
  name-run : (t : List ℕ) → span (other y) t ≡ n t + span (other y) (drop (n t) t)
  unfolding name_size span
  name-run [] = refl
  name-run (x ∷ t) = by_byte (name_start x) refl
    where
      by_byte : (e : Bool) → name_start x ≡ e →
          span (other y) (x ∷ t) ≡ cond e (suc (span name_char t)) 0 + span (other y) (drop (cond e (suc (span name_char t)) 0) (x ∷ t))
      by_byte true q = omega (arith, span-passing (other y) x t (other-apart name_start y a x q), span-past name_char (other y) (other-apart name_char y b) t)
      by_byte false q = omega arith

  tag-run : (t : List ℕ) → span (other y) t ≡ n t + s t + span (other y) (rest t)
  tag-run t = omega (arith, name-run t, span-past white (other y) (other-apart white y c) (drop (n t) t))

greater-run : (t : List ℕ) → span (other '>') t ≡ n t + s t + span (other '>') (rest t)
unfolding name_start name_char white
greater-run = tag-run '>' refl refl refl

slash-run : (t : List ℕ) → span (other '/') t ≡ n t + s t + span (other '/') (rest t)
unfolding name_start name_char white
slash-run = tag-run '/' refl refl refl

-- What the first `>` tells of the tag that t is, behind its `<`.
pub record Told (t : List ℕ) (q : Piece) : Type 0 where
  pub kind : tag_kind ('<' ∷ t) ≡ q.kind
  pub size : 1 + span (other '>') t + 1 ≡ q.size

-- Behind a byte that is no y.
before-other : (y : ℕ) (t : List ℕ) (i : ℕ) → 0 < i → i ≤ span (other y) t → eqb (get_or ('<' ∷ t) i 0) y ≡ false
unfolding other
before-other y t zero l m = absurd (not-suc-le-zero l)
before-other y t (suc i) l m = not-true (eqb (get_or t i 0) y) (span-passes (other y) t i m)

-- A start tag or an empty-element tag.
module _ (x : ℕ) (t : List ℕ) (h : name_start x ≡ true) where
  abbrev u : List ℕ
  u = x ∷ t

  named : 0 < n u
  unfolding name_size
  named = rw h (omega arith)

  no_slash : starts_with ('/' ∷ []) u ≡ false
  unfolding starts_with name_start
  no_slash = and_false-left (eqb x '/') true (apart name_start x '/' refl h)

  -- where the first `>` is i bytes on
  kind_at : (i : ℕ) → span (other '>') u ≡ i → tag_kind ('<' ∷ u) ≡ cond (eqb (get_or ('<' ∷ u) i 0) '/') EMPTY START
  unfolding tag_kind
  kind_at i e = ap₂ (λ (b : Bool) (j : ℕ). cond b CLOSE (cond (eqb (get_or ('<' ∷ u) j 0) '/') EMPTY START)) no_slash e

  module _ (z : ℕ) (v : List ℕ) (e : rest u ≡ z ∷ v) where
    start-told : eqb z '>' ≡ true → Told u (piece START (1 + n u) (stop (suc (1 + n u + s u)) true))
    start-told q =
        record {
          kind = kind_at (n u + s u) ends ∙ ap (λ (b : Bool). cond b EMPTY START) (before-other '/' u (n u + s u) (omega (arith, named)) (omega (arith, slash-run u)));
          size = omega (arith, ends);
        }
      where
        ends : span (other '>') u ≡ n u + s u
        ends = omega (arith, greater-run u, ap (span (other '>')) e, span-fails (other '>') z v (unfold other in ap not q))

    empty-told : eqb z '>' ≡ false → eqb z '/' ≡ true → (close_stop v).whole ≡ true → Told u (piece EMPTY (1 + n u) (after (suc (1 + n u + s u)) (close_stop v)))
    empty-told q r w =
        record {
          kind = kind_at (suc (n u + s u)) ends ∙ ap (λ (b : Bool). cond b EMPTY START) (ap (λ y. eqb y '/') slash ∙ r);
          size = omega (arith, ends, close-one v w);
        }
      where
        ends : span (other '>') u ≡ suc (n u + s u)
        ends = omega (arith, greater-run u, ap (span (other '>')) e, span-passing (other '>') z v (unfold other in ap not q), close-here v w)

        slash : get_or u (n u + s u) 0 ≡ z
        slash = ap (λ i. get_or u i 0) none ∙ sym (get_or-drop (n u) u (s u + 0) 0) ∙ sym (get_or-drop (s u) (drop (n u) u) 0 0) ∙ ap (λ l. get_or l 0 0) e
          where
            none : n u + s u ≡ n u + (s u + 0)
            none = omega arith

  pub tag-told : (tag_piece u).whole ≡ true → Told u (tag_piece u)
  unfolding tag_piece tag_end
  tag-told w = by-rest (rest u) refl w
    where
      by-rest : (v : List ℕ) → rest u ≡ v → (tag_end (1 + n u) (1 + n u + s u) v).whole ≡ true → Told u (tag_end (1 + n u) (1 + n u + s u) v)
      by-rest [] e w = absurd (false≢true w)
      by-rest (z ∷ v) e w = by_byte (eqb z '>') (eqb z '/') refl refl w
        where
          by_byte : (a b : Bool) → eqb z '>' ≡ a → eqb z '/' ≡ b →
              (cond a (piece START (1 + n u) (stop (suc (1 + n u + s u)) true))
              (cond b (piece EMPTY (1 + n u) (after (suc (1 + n u + s u)) (close_stop v))) (piece START (1 + n u) (stop (1 + n u + s u) false)))).whole ≡ true →
              Told u
              (cond a (piece START (1 + n u) (stop (suc (1 + n u + s u)) true))
              (cond b (piece EMPTY (1 + n u) (after (suc (1 + n u + s u)) (close_stop v))) (piece START (1 + n u) (stop (1 + n u + s u) false))))
          by_byte true b q r w = start-told z v e q
          by_byte false true q r w = empty-told z v e q r w
          by_byte false false q r w = absurd (false≢true w)

-- An end tag: t is what follows its `</`.
close-end : (t : List ℕ) → (close_piece t).whole ≡ true → 1 + suc (span (other '>') t) + 1 ≡ (close_piece t).size
unfolding close_piece
close-end t w = by_test (eqb (n t) 0) w
  where
    by_test : (b : Bool) → (cond b (piece CLOSE 2 (stop 2 false)) (piece CLOSE (2 + n t) (after (2 + n t + s t) (close_stop (rest t))))).whole ≡ true →
        1 + suc (span (other '>') t) + 1 ≡ (cond b (piece CLOSE 2 (stop 2 false)) (piece CLOSE (2 + n t) (after (2 + n t + s t) (close_stop (rest t))))).size
    by_test true w = absurd (false≢true w)
    by_test false w = omega (arith, greater-run t, close-one (rest t) w, close-here (rest t) w)

pub close-told : (t : List ℕ) → (close_piece t).whole ≡ true → Told ('/' ∷ t) (close_piece t)
unfolding tag_kind starts_with span other
close-told t w = record { kind = sym (close-kind t); size = close-end t w }
