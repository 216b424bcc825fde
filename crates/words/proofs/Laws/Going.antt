-- A word that is going on: the pass comes to its end without starting another.
--   scan-ended    where no letter or digit of the word is left, it does not matter whether it was going on
--   scan-to-end   from behind the first byte of a word the pass comes to the place behind its last letter or digit
-- Letters: g in a tag, b the data makes a node, v the node; T the text. Assumes nothing.
use Prim.Native.Nat.{ℕ, zero, suc, pred, ◌+◌, ◌<◌}
use mathlib.Core.Path.{◌≡◌, refl, sym, ap, ◌∙◌}
use mathlib.Core.Logic.{⊎_elim}
use mathlib.Core.List.{List, [], ◌∷◌}
use mathlib.Core.Bool.{Bool, true, false, not, cond, ◌&&◌, ◌||◌}
use native.Mathlib.Omega.{arith}
use lib.Dec.{eqb}
use lib.ListN.{length, get_or, drop}
use lib.Seq.{drop-cons, drop-drop}
use Rattle.seq.proofs.Laws.Bools.{bool_cases, and_both, and_false-left, and_false-right}
use Rattle.profile.specs.Bytes.{'!', '/', '<', '>', starts_with}
use Rattle.profile.specs.Spans.{span, other}
use Rattle.profile.specs.Pieces.{COMMENT, START, EMPTY, CLOSE}
use Rattle.skim.specs.Skim.{skim_comment, tag_kind, skim_tag, skim_of}
use Rattle.words.specs.Runs.{word_byte, lower}
use Rattle.words.specs.Reading.{gap, word_from, end_from, end_at}
use Rattle.words.proofs.Laws.Reading.{word_on, word_over, word_gap, end_on_lem, end-over, end-gap, gap_or}
use Rattle.words.proofs.Laws.Runs.{cons-nil}
use Rattle.words.proofs.Laws.Scan.{scan-on}
use Rattle.words.specs.Scan.{Ahead, ahead, past_markup, skips_markup, past_other, skips_other, past, skips, starts, scan}

-- A tag is no comment.
no_comment : (t : List ℕ) → eqb (tag_kind t) COMMENT ≡ false
unfolding tag_kind
no_comment t = by (starts_with ('/' ∷ []) (drop 1 t)) (eqb (get_or t (span (other '>') (drop 1 t)) 0) '/')
  where
    by : (p q : Bool) → eqb (cond p CLOSE (cond q EMPTY START)) COMMENT ≡ false
    by true q = refl
    by false true = refl
    by false false = refl

gap_is : (x : ℕ) (t : List ℕ) → gap (x ∷ t) ≡ cond (eqb x '<' && starts_with ('!' ∷ []) t) (skim_comment (x ∷ t)).size 0
unfolding gap starts_with
gap_is x t = refl

-- A comment has bytes.
comment-some : (t : List ℕ) → (skim_comment t).size ≡ 0 → ⊥
unfolding skim_comment
comment-some t e = omega arith

module _ (place : List ℕ → ℕ) where
  -- A byte that is no letter or digit starts no word.
  step-on : (a : Ahead) (x : ℕ) (t : List ℕ) → word_byte x ≡ false → scan place 0 a (x ∷ t) ≡ scan place (skips a x t) (past a x t) t
  unfolding scan starts
  step-on a x t e = rw e

  module _ (g b : Bool) (v : ℕ) where
    abbrev state : Bool → Ahead
    state o = ahead g o b v

    abbrev banged : List ℕ → Bool
    banged t = starts_with ('!' ∷ []) t

    -- A comment is passed over; after another `<`, and after any other byte, no word goes on.
    over-comment : (x : ℕ) (t : List ℕ) → word_byte x ≡ false → eqb x '<' ≡ true → banged t ≡ true → (o : Bool) →
        scan place 0 (state o) (x ∷ t) ≡ scan place (pred (skim_comment (x ∷ t)).size) (state o) t
    unfolding scan starts skips past skips_markup past_markup skim_of skim_comment
    over-comment x t n p q o = rw (n, p, q)

    at_tag : (x : ℕ) (t : List ℕ) → word_byte x ≡ false → eqb x '<' ≡ true → banged t ≡ false → scan place 0 (state true) (x ∷ t) ≡ scan place 0 (state false) (x ∷ t)
    unfolding scan starts skips past skips_markup past_markup skim_of skim_tag
    at_tag x t n p q = rw (n, p, q, no_comment (x ∷ t))

    at_other : (x : ℕ) (t : List ℕ) → word_byte x ≡ false → eqb x '<' ≡ false → scan place 0 (state true) (x ∷ t) ≡ scan place 0 (state false) (x ∷ t)
    unfolding scan starts skips past past_other skips_other
    at_other x t n p = rw (n, p)

    -- Where the reader of words passes over k + 1 bytes the pass does; where it passes over none, the word ends.
    gap-comment : (x : ℕ) (t : List ℕ) (k : ℕ) → gap (x ∷ t) ≡ suc k → word_byte x ≡ false → (o : Bool) → scan place 0 (state o) (x ∷ t) ≡ scan place k (state o) t
    gap-comment x t k e n o = ⊎_elim (λ p. ⊎_elim (λ q. yes p q) (λ q. no (and_false-right (eqb x '<') (banged t) q)) (bool_cases (banged t))) (λ p. no (and_false-left (eqb x '<') (banged t) p)) (bool_cases (eqb x '<'))
      where
        no : (eqb x '<' && starts_with ('!' ∷ []) t) ≡ false → scan place 0 (ahead g o b v) (x ∷ t) ≡ scan place k (ahead g o b v) t
        no p = let z : ◌≡◌ {A = ℕ} 0 (suc k) = sym (gap_is x t ∙ ap (λ y. cond y (skim_comment (x ∷ t)).size 0) p) ∙ e in absurd (omega arith)

        yes : eqb x '<' ≡ true → starts_with ('!' ∷ []) t ≡ true → scan place 0 (ahead g o b v) (x ∷ t) ≡ scan place k (ahead g o b v) t
        yes p q =
            over-comment x t n p q o ∙
            ap (λ (z : ℕ). scan place (pred z) (ahead g o b v) t) (sym (gap_is x t ∙ ap (λ y. cond y (skim_comment (x ∷ t)).size 0) (and_both _ _ p q)) ∙ e)

    gap-none : (x : ℕ) (t : List ℕ) → gap (x ∷ t) ≡ 0 → word_byte x ≡ false → scan place 0 (state true) (x ∷ t) ≡ scan place 0 (state false) (x ∷ t)
    gap-none x t e n =
        ⊎_elim
        (λ p. ⊎_elim
        (λ q. absurd (comment-some (x ∷ t) (sym (gap_is x t ∙ ap (λ y. cond y (skim_comment (x ∷ t)).size 0) (and_both _ _ p q)) ∙ e)))
        (λ q. at_tag x t n p q)
        (bool_cases (banged t)))
        (λ p. at_other x t n p)
        (bool_cases (eqb x '<'))

    -- ---- at the end of a word
    scan-ended : (k : ℕ) (t : List ℕ) → word_from k t ≡ [] → scan place k (state true) t ≡ scan place k (state false) t
    unfolding scan word_from
    scan-ended k [] e = refl
    scan-ended (suc k) (x ∷ t) e = scan-ended k t e
    scan-ended zero (x ∷ t) e =
        ⊎_elim
        (λ n. absurd (cons-nil (lower x) (word_from 0 t) (sym (word_on x t n) ∙ e)))
        (λ n. ⊎_elim
        (λ z. gap-none x t z n)
        (λ z. gap-comment x t (pred (gap (x ∷ t))) z n true ∙ scan-ended (pred (gap (x ∷ t))) t (sym (word_gap x t (pred (gap (x ∷ t))) n z) ∙ e) ∙
        sym (gap-comment x t (pred (gap (x ∷ t))) z n false))
        (gap_or (x ∷ t)))
        (bool_cases (word_byte x))

    module _ (T : List ℕ) (kept : (b || not g) ≡ b) where
      -- What follows the first byte at a place.
      next_row : (i x : ℕ) (t : List ℕ) → x ∷ t ≡ drop i T → t ≡ drop (suc i) T
      next_row i x t h = let one : i + 1 ≡ suc i = omega arith in ap (drop 1) h ∙ drop-drop 1 i T ∙ ap (λ (z : ℕ). drop z T) one

      -- Nothing of the word is left behind e.
      ended : (e : ℕ) (k : ℕ) (t : List ℕ) → scan place 0 (state true) (drop e T) ≡ scan place k (state true) t → word_from 0 (drop e T) ≡ [] →
          scan place k (state true) t ≡ scan place 0 (state false) (drop e T)
      ended e k t p q = sym p ∙ scan-ended 0 (drop e T) q

      letter : (x : ℕ) (t : List ℕ) → word_byte x ≡ true → scan place 0 (state true) (x ∷ t) ≡ scan place 0 (state true) t
      letter x t e = scan-on place x t e g b v ∙ ap (λ z. scan place 0 (ahead g true z v) t) kept

      -- The place e is behind the last letter or digit so far; from there to i, and k bytes on, comments are passed over.
      to_end : (t : List ℕ) (k e i : ℕ) → t ≡ drop i T → scan place 0 (state true) (drop e T) ≡ scan place k (state true) t → word_from 0 (drop e T) ≡ word_from k t →
          scan place k (state true) t ≡ scan place 0 (state false) (drop (end_from k e i t) T)
      unfolding scan word_from end_from
      to_end [] k e i h p q = ended e k [] p q
      to_end (x ∷ t) (suc k) e i h p q = to_end t k e (suc i) (next_row i x t h) p q
      to_end (x ∷ t) zero e i h p q =
          ⊎_elim
          (λ n. letter x t n ∙
          to_end t 0 (suc i) (suc i) (next_row i x t h) (ap (scan place 0 (state true)) (sym (next_row i x t h))) (ap (word_from 0) (sym (next_row i x t h))) ∙
          ap (λ (z : ℕ). scan place 0 (state false) (drop z T)) (sym (end_on_lem e i x t n)))
          (λ n. ⊎_elim
          (λ z. ended e 0 (x ∷ t) p (q ∙ word_over x t n z) ∙ ap (λ (y : ℕ). scan place 0 (state false) (drop y T)) (sym (end-over e i x t n z)))
          (λ z. let j = pred (gap (x ∷ t)) in
          gap-comment x t j z n true ∙
          to_end t j e (suc i) (next_row i x t h) (p ∙ gap-comment x t j z n true) (q ∙ word_gap x t j n z) ∙
          ap (λ (y : ℕ). scan place 0 (state false) (drop y T)) (sym (end-gap e i x t j n z)))
          (gap_or (x ∷ t)))
          (bool_cases (word_byte x))

      pub scan-to-end : (i : ℕ) → i < length T → word_byte (get_or T i 0) ≡ true → scan place 0 (state true) (drop (suc i) T) ≡ scan place 0 (state false) (drop (end_at T i) T)
      scan-to-end i l e =
          to_end (drop (suc i) T) 0 (suc i) (suc i) refl refl refl ∙
          ap (λ (z : ℕ). scan place 0 (state false) (drop z T)) (sym (end_on_lem i i (get_or T i 0) (drop (suc i) T) e) ∙ whole)
        where
          whole : end_from 0 i i (get_or T i 0 ∷ drop (suc i) T) ≡ end_at T i
          whole = unfold end_at in ap (end_from 0 i i) (sym (drop-cons T i 0 l))
