-- Laws of the pass over a text, byte by byte and piece by piece.
--   scan-skip                       bytes that are passed over may as well be dropped
--   scan-on, scan-new               a letter or digit that belongs to a word, and one that starts it
--   scan_data, scan-tag, scan-end   another byte: of data, of a tag, and the `>` of a tag
--   scan-comment, scan-close, scan_open, scan_reference    the pieces that begin with `<` or `&`
-- Letters: g in a tag, o a word is going on, b the data makes a node, v the node. Assumes nothing.
use Prim.Native.Nat.{ℕ, zero, suc, ◌+◌, pred}
use mathlib.Core.Path.{◌≡◌, refl, sym, ap, ◌∙◌}
use mathlib.Core.List.{List, [], ◌∷◌, ◌++◌, append_assoc}
use mathlib.Core.Bool.{Bool, true, false, not, cond, ◌||◌, or-true}
use native.Mathlib.Omega.{arith}
use lib.Dec.{eqb}
use borrow.Author.Tests.{eq-eqb}
use lib.ListN.{length, get_or, drop, length-append}
use lib.Seq.{drop_at}
use Rattle.seq.specs.Lists.{every_of}
use Rattle.seq.proofs.Laws.Bools.{and_left, and_right}
use Rattle.profile.specs.Bytes.{'!', '&', '-', '/', semicolon, '<', '>', white, starts_with}
use Rattle.profile.specs.Spans.{span, other}
use Rattle.profile.specs.Grammar.{Comment, Entity, lt, gt, amp, apos, quot, entity_name, comment_then, reference_then}
use Rattle.profile.specs.Pieces.{COMMENT, START, EMPTY, CLOSE}
use Rattle.skim.specs.Skim.{skim_comment, skim_tag, tag_kind, skim_of}
use Rattle.words.specs.Runs.{word_byte}
use Rattle.words.specs.Places.{mention}
use Rattle.words.specs.Scan.{Ahead, ahead, behind, past_markup, skips_markup, past_other, skips_other, past, skips, starts, scan}
use Rattle.words.proofs.Laws.Reading.{closing, comment-size, comment-rest}

-- A span up to a byte.
span-through : (y : ℕ) (w t : List ℕ) → every_of (other y) w ≡ true → span (other y) (w ++ (y ∷ t)) ≡ length w
unfolding span every_of
span-through y [] t h = unfold other in rw (eq-eqb y y refl)
span-through y (x ∷ w) t h = rw (and_left (other y x) (every_of (other y) w) h) (ap suc (span-through y w t (and_right (other y x) (every_of (other y) w) h)))

module _ (place : List ℕ → ℕ) where
  pub scan-skip : (k : ℕ) (a : Ahead) (t : List ℕ) → scan place k a t ≡ scan place 0 a (drop k t)
  unfolding scan
  scan-skip zero a t = refl
  scan-skip (suc k) a [] = refl
  scan-skip (suc k) a (x ∷ t) = scan-skip k a t

  -- ---- letters and digits
  module _ (x : ℕ) (t : List ℕ) (e : word_byte x ≡ true) where
    pub scan-on : (g b : Bool) (v : ℕ) → scan place 0 (ahead g true b v) (x ∷ t) ≡ scan place 0 (ahead g true (b || not g) v) t
    unfolding scan starts skips past
    scan-on g b v = rw e

    pub scan-new : (g b : Bool) (v : ℕ) → scan place 0 (ahead g false b v) (x ∷ t) ≡ mention v (place (x ∷ t)) ∷ scan place 0 (ahead g true (b || not g) v) t
    unfolding scan starts skips past
    scan-new g b v = rw e

  -- ---- other bytes
  module _ (x : ℕ) (t : List ℕ) (e : word_byte x ≡ false) (n : eqb x '<' ≡ false) where
    other_byte : (a : Ahead) → scan place 0 a (x ∷ t) ≡ scan place (skips_other a x t) (past_other a x) t
    unfolding scan starts skips past
    other_byte a = rw (e, n)

    pub scan_data : (o b : Bool) (v : ℕ) → eqb x '&' ≡ false → scan place 0 (ahead false o b v) (x ∷ t) ≡ scan place 0 (ahead false false (b || not (white x)) v) t
    unfolding skips_other past_other
    scan_data o b v q = other_byte (ahead false o b v) ∙ ap (λ z. scan place (cond z (suc (span (other semicolon) t)) 0) (ahead false false (b || not (white x)) v) t) q

    pub scan-tag : (o b : Bool) (v : ℕ) → eqb x '>' ≡ false → scan place 0 (ahead true o b v) (x ∷ t) ≡ scan place 0 (ahead true false b v) t
    unfolding skips_other past_other
    scan-tag o b v q = other_byte (ahead true o b v) ∙ ap (λ z. scan place 0 (cond z (ahead false false false (suc v)) (ahead true false b v)) t) q

  pub scan-end : (t : List ℕ) (o b : Bool) (v : ℕ) → scan place 0 (ahead true o b v) ('>' ∷ t) ≡ scan place 0 (ahead false false false (suc v)) t
  unfolding skips_other past_other word_byte
  scan-end t o b v = other_byte '>' t refl refl (ahead true o b v)

  -- ---- pieces
  at-angle : (a : Ahead) (t : List ℕ) → scan place 0 a ('<' ∷ t) ≡ scan place (skips_markup (skim_of ('<' ∷ t))) (past_markup a (skim_of ('<' ∷ t)).kind) t
  unfolding scan starts skips past word_byte
  at-angle a t = refl

  -- A comment or an end tag of k + 1 bytes, and another tag.
  over-piece : (a : Ahead) (t : List ℕ) (k : ℕ) → (eqb (skim_of ('<' ∷ t)).kind COMMENT || eqb (skim_of ('<' ∷ t)).kind CLOSE) ≡ true → (skim_of ('<' ∷ t)).size ≡ suc k →
      scan place 0 a ('<' ∷ t) ≡ scan place 0 (past_markup a (skim_of ('<' ∷ t)).kind) (drop k t)
  unfolding skips_markup
  over-piece a t k h e =
      at-angle a t ∙ ap (λ z. scan place (cond z (pred (skim_of ('<' ∷ t)).size) 0) (past_markup a (skim_of ('<' ∷ t)).kind) t) h ∙
      ap (λ (z : ℕ). scan place (pred z) (past_markup a (skim_of ('<' ∷ t)).kind) t) e ∙ scan-skip k (past_markup a (skim_of ('<' ∷ t)).kind) t

  module _ (b : Comment) (t : List ℕ) where
    abbrev inner : List ℕ
    inner = '!' ∷ '-' ∷ '-' ∷ closing b.bytes t

    comment-kind : (skim_of ('<' ∷ inner)).kind ≡ COMMENT
    unfolding skim_of starts_with skim_comment
    comment-kind = refl

    comment-long : (skim_of ('<' ∷ inner)).size ≡ suc (3 + length b.bytes + 3)
    unfolding skim_of starts_with
    comment-long = size_of ∙ omega arith
      where
        size_of : (skim_comment ('<' ∷ inner)).size ≡ 4 + length b.bytes + 3
        size_of = unfold comment_then in comment-size b t

    pub scan-comment : (a : Ahead) → scan place 0 a (comment_then b t) ≡ scan place 0 a t
    unfolding comment_then past_markup
    scan-comment a =
        over-piece a inner (3 + length b.bytes + 3) (ap (λ (k : ℕ). eqb k COMMENT || eqb k CLOSE) comment-kind) comment-long ∙
        ap (λ (k : ℕ). scan place 0 (past_markup a k) (drop (3 + length b.bytes + 3) inner)) comment-kind ∙ ap (scan place 0 a) (comment-rest b t)

  -- An end tag whose bytes behind its `</` are w and a `>`.
  module _ (w t : List ℕ) (h : every_of (other '>') w ≡ true) where
    abbrev tail : List ℕ
    tail = '/' ∷ (w ++ ('>' ∷ t))

    close-kind : (skim_of ('<' ∷ tail)).kind ≡ CLOSE
    unfolding skim_of starts_with skim_tag tag_kind
    close-kind = refl

    close-long : (skim_of ('<' ∷ tail)).size ≡ suc (suc (length w) + 1)
    unfolding skim_of starts_with skim_tag
    close-long = ap (λ (z : ℕ). 1 + z + 1) through ∙ omega arith
      where
        through : span (other '>') tail ≡ suc (length w)
        through = unfold span other in ap suc (span-through '>' w t h)

    close-rest : drop (suc (length w) + 1) tail ≡ t
    close-rest =
        ap (λ z. drop (suc (length w) + 1) ('/' ∷ z)) (sym (append_assoc w ('>' ∷ []) t)) ∙
        drop_at ('/' ∷ (w ++ ('>' ∷ []))) t (suc (length w) + 1) (omega (arith, length-append w ('>' ∷ [])))

    pub scan-close : (g o b : Bool) (v : ℕ) → scan place 0 (ahead g o b v) ('<' ∷ tail) ≡ scan place 0 (ahead false false false (behind b v)) t
    unfolding past_markup
    scan-close g o b v =
        over-piece (ahead g o b v) tail (suc (length w) + 1) (ap (λ (k : ℕ). eqb k COMMENT || eqb k CLOSE) close-kind) close-long ∙
        ap (λ (k : ℕ). scan place 0 (past_markup (ahead g o b v) k) (drop (suc (length w) + 1) tail)) close-kind ∙
        ap (scan place 0 (ahead false false false (behind b v))) close-rest

  -- A tag that begins with x, and not with `!` or `/`.
  module _ (x : ℕ) (t : List ℕ) (m : eqb x '!' ≡ false) (n : eqb x '/' ≡ false) where
    ends : Bool
    ends = eqb (get_or ('<' ∷ x ∷ t) (span (other '>') (x ∷ t)) 0) '/'

    open_kind : (skim_of ('<' ∷ x ∷ t)).kind ≡ cond ends EMPTY START
    unfolding skim_of starts_with skim_tag tag_kind ends
    open_kind = rw (m, n)

    pub scan_open : (g o b : Bool) (v : ℕ) → scan place 0 (ahead g o b v) ('<' ∷ x ∷ t) ≡ scan place 0 (ahead true false false (behind b v)) (x ∷ t)
    unfolding skips_markup
    scan_open g o b v =
        at-angle (ahead g o b v) (x ∷ t) ∙
        ap (λ (k : ℕ). scan place (cond (eqb k COMMENT || eqb k CLOSE) (pred (skim_of ('<' ∷ x ∷ t)).size) 0) (past_markup (ahead g o b v) k) (x ∷ t)) open_kind ∙ by ends
      where
        by : (z : Bool) →
            scan place (cond (eqb (cond z EMPTY START) COMMENT || eqb (cond z EMPTY START) CLOSE) (pred (skim_of ('<' ∷ x ∷ t)).size) 0)
            (past_markup (ahead g o b v) (cond z EMPTY START)) (x ∷ t) ≡ scan place 0 (ahead true false false (behind b v)) (x ∷ t)
        by true = unfold past_markup in refl
        by false = unfold past_markup in refl

  -- A reference is solid, and no word goes on over it.
  pub scan_reference : (o b : Bool) (v : ℕ) (e : Entity) (t : List ℕ) → scan place 0 (ahead false o b v) (reference_then e t) ≡ scan place 0 (ahead false false true v) t
  unfolding reference_then entity_name scan starts skips past word_byte skips_other past_other white span other
  scan_reference o b v e t = passed e ∙ ap (λ z. scan place 0 (ahead false false z v) t) (or-true b)
    where
      passed : (e : Entity) → scan place 0 (ahead false o b v) (reference_then e t) ≡ scan place 0 (ahead false false (b || true) v) t
      passed lt = refl
      passed gt = refl
      passed amp = refl
      passed apos = refl
      passed quot = refl
