-- The pieces, made of their parts, at the places of a text. Assumes nothing.
--   told                                      a piece, by its fields
--   tag-none, tag-greater, tag-empty, tag-other, tag-ends
--   close-none, close-is; comment-short, comment-is
--   piece-end, piece_data, piece-comment, piece-close, piece-tag, piece-bare
-- Letters: t text, o where the piece begins, m the place after its name and i that after its white space, n s sizes, q what was reached.
use Prim.Native.Nat.{ℕ, suc, ◌+◌, ◌≤◌, ◌<◌}
use mathlib.Core.Path.{◌≡◌, refl, sym, ap, ap₂, ◌∙◌}
use mathlib.Core.List.{List, [], ◌∷◌}
use mathlib.Core.Logic.{⊎_elim}
use mathlib.Core.Bool.{Bool, true, false, ◌&&◌, cond, true≢false}
use native.Mathlib.Omega.{arith}
use lib.Dec.{eqb, ltb}
use lib.ListN.{length, get_or, drop}
use lib.Seq.{drop-drop}
use borrow.Author.Tests.{ne_eqb, eqb-true, ltb-true, ltb-false}
use Rattle.seq.proofs.Laws.Bools.{bool_cases}
use Rattle.profile.specs.Bytes.{'!', '-', '/', '<', '>', white, name_start, starts_with}
use Rattle.profile.specs.Spans.{span, common}
use Rattle.profile.specs.Machine.{b0}
use Rattle.profile.specs.Pieces.{Stop, stop, after, data_stop, close_stop, body_stop, comment_stop, DATA, START, EMPTY, CLOSE, NONE, Piece as Piece', piece, name_size, tag_end, tag_piece, close_piece, markup_piece, piece_of}
use Rattle.markup.specs.declared.Kind.{Kind}
use Rattle.markup.specs.declared.Kind.TheVariants.{End, Data, Comment, Start, Empty, Close, Nothing}
use Rattle.markup.specs.declared.Piece.{Piece}
use Rattle.std.proofs.Common.{Result, Ok, Err}
use Rattle.markup.specs.Pieces.{kind_of, piece_from, piece_at}
use Rattle.markup.specs.Inner.{reached, reached_from, ended_piece, word_stop, named_piece}
use Rattle.markup.proofs.Reading.{reached-after, ok-whole, ok_place, err-broken, row_at, row_is, row-end}
use Rattle.markup.proofs.Loops.{data_white}
use Rattle.markup.proofs.Tags.{Named}

abbrev pub told : Kind → Bool → ℕ → ℕ → Piece
told k b m e = record { kind = k; whole = b; middle = m; end = e }

ended-is : (k : Kind) (m n : ℕ) (b : Bool) → ended_piece k m (reached n b) ≡ told k b m n
ended-is k m n true = refl
ended-is k m n false = refl

-- A piece that is read last from the place i on: as s says, n bytes behind its beginning at o.
last-is : (k : Kind) (o i m' m n : ℕ) (s : Stop) (z : Result ℕ ℕ) → z ≡ reached_from i s → m ≡ o + m' → i ≡ o + n →
    ended_piece k m z ≡ told k s.whole (o + m') (o + (n + s.size))
last-is k o i m' m n s z p a b =
    ap (ended_piece k m) p ∙ ended-is k m (i + s.size) s.whole ∙ ap₂ (told k s.whole) a (omega (arith, b))

-- ---- start tags and empty-element tags
pub tag-none : (t : List ℕ) (o m : ℕ) → m ≡ o + 1 + name_size (drop (o + 1) t) → m ≡ o + 1 → told Nothing false m m ≡ piece_from o (named_piece (drop (o + 1) t))
unfolding named_piece kind_of
tag-none t o m p e = rw none (ap (λ k. told Nothing false k k) e)
  where
    none : name_size (drop (o + 1) t) ≡ 0
    none = omega (arith, p)

-- Where no `/` stands, a `>` must.
end-start : (m n : ℕ) (u : List ℕ) → starts_with ('/' ∷ []) u ≡ false → tag_end m n u ≡ piece START m (after n (close_stop u))
unfolding tag_end close_stop starts_with
end-start m n [] e = ap (λ k. piece START m (stop k false)) (omega arith)
end-start m n (x ∷ u) e = by_test (eqb x '>') (eqb x '/') e
  where
    by_test : (a b : Bool) → (b && true) ≡ false →
        cond a (piece START m (stop (suc n) true)) (cond b (piece EMPTY m (after (suc n) (close_stop u))) (piece START m (stop n false))) ≡
        piece START m (after n (cond a (stop 1 true) (stop 0 false)))
    by_test true b e = ap (λ k. piece START m (stop k true)) (omega arith)
    by_test false false e = ap (λ k. piece START m (stop k false)) (omega arith)
    by_test false true e = absurd (true≢false e)

end-empty : (m n : ℕ) (u : List ℕ) → tag_end m n ('/' ∷ u) ≡ piece EMPTY m (after (suc n) (close_stop u))
unfolding tag_end
end-empty m n u = refl

module _ (t : List ℕ) (o m i n s : ℕ) (r : Named t (o + 1) m i n s) (e : m ≡ o + 1 → ⊥) where
  tag_is : named_piece (drop (o + 1) t) ≡ tag_end (1 + n) (1 + n + s) (drop i t)
  unfolding named_piece tag_piece
  tag_is = rw (r.name, r.spaces, r.rest, ne_eqb n 0 (λ (z : n ≡ 0). e (omega (arith, r.middle))))

  middle : o + (1 + n) ≡ m
  middle = omega (arith, r.middle)

  place : o + (1 + n + s) ≡ i
  place = omega (arith, r.middle, r.place)

  after-place : o + suc (1 + n + s) ≡ i + 1
  after-place = omega (arith, r.middle, r.place)

  pub tag-empty : i < length t → get_or t i 0 ≡ '/' → (z : Result ℕ ℕ) → z ≡ reached_from (i + 1) (close_stop (drop (i + 1) t)) →
      ended_piece Empty m z ≡ piece_from o (named_piece (drop (o + 1) t))
  unfolding kind_of
  tag-empty l q z p =
      last-is Empty o (i + 1) (1 + n) m (suc (1 + n + s)) (close_stop (drop (i + 1) t)) z p (sym middle) (sym after-place)
      ∙ sym (ap (piece_from o) (tag_is ∙ ap (tag_end (1 + n) (1 + n + s)) (row_is t i l '/' q) ∙ end-empty (1 + n) (1 + n + s) (drop (i + 1) t)))

  pub tag-start : starts_with ('/' ∷ []) (drop i t) ≡ false → (z : Result ℕ ℕ) → z ≡ reached_from i (close_stop (drop i t)) →
      ended_piece Start m z ≡ piece_from o (named_piece (drop (o + 1) t))
  unfolding kind_of
  tag-start q z p =
      last-is Start o i (1 + n) m (1 + n + s) (close_stop (drop i t)) z p (sym middle) (sym place)
      ∙ sym (ap (piece_from o) (tag_is ∙ end-start (1 + n) (1 + n + s) (drop i t) q))

-- ---- end tags
pub close-none : (t : List ℕ) (o m : ℕ) → m ≡ o + 2 + name_size (drop (o + 2) t) → m ≡ o + 2 → told Close false m m ≡ piece_from o (close_piece (drop (o + 2) t))
unfolding close_piece kind_of
close-none t o m p e = rw none (ap (λ k. told Close false k k) e)
  where
    none : name_size (drop (o + 2) t) ≡ 0
    none = omega (arith, p)

pub close-is : (t : List ℕ) (o m i n s : ℕ) → Named t (o + 2) m i n s → (m ≡ o + 2 → ⊥) → (z : Result ℕ ℕ) → z ≡ reached_from i (close_stop (drop i t)) →
    ended_piece Close m z ≡ piece_from o (close_piece (drop (o + 2) t))
unfolding kind_of
close-is t o m i n s r e z p =
    last-is Close o i (2 + n) m (2 + n + s) (close_stop (drop i t)) z p (omega (arith, r.middle)) (omega (arith, r.middle, r.place)) ∙ sym (ap (piece_from o) is)
  where
    is : close_piece (drop (o + 2) t) ≡ piece CLOSE (2 + n) (after (2 + n + s) (close_stop (drop i t)))
    is = unfold close_piece in rw (r.name, r.spaces, r.rest, ne_eqb n 0 (λ (z : n ≡ 0). e (omega (arith, r.middle))))

-- ---- comments
-- The opening of a comment, as far as it stands.
module _ (t : List ℕ) (o j : ℕ) where
  pub comment-short : Err j ≡ reached_from o (word_stop ('-' ∷ '-' ∷ []) (drop o t)) → Err j ≡ reached_from o (comment_stop (drop o t))
  comment-short p = p ∙ ap (reached_from o) (sym is)
    where
      short : eqb (common ('-' ∷ '-' ∷ []) (drop o t)) 2 ≡ false
      short = err-broken _ _ _ p

      is : comment_stop (drop o t) ≡ word_stop ('-' ∷ '-' ∷ []) (drop o t)
      is = unfold comment_stop in rw short

  pub comment-is : Ok j ≡ reached_from o (word_stop ('-' ∷ '-' ∷ []) (drop o t)) → (z : Result ℕ ℕ) → z ≡ reached_from j (body_stop false (drop j t)) →
      z ≡ reached_from o (comment_stop (drop o t))
  comment-is p z e = e ∙ ap (λ k. reached_from k (body_stop false (drop k t))) place ∙ sym (reached-after o 2 (body_stop false (drop (o + 2) t))) ∙ ap (reached_from o) (sym is)
    where
      both : eqb (common ('-' ∷ '-' ∷ []) (drop o t)) 2 ≡ true
      both = ok-whole _ _ _ p

      place : j ≡ o + 2
      place = ok_place _ _ _ p ∙ ap (λ k. o + k) (eqb-true _ _ both)

      is : comment_stop (drop o t) ≡ after 2 (body_stop false (drop (o + 2) t))
      is = unfold comment_stop in rw both (ap (λ u. after 2 (body_stop false u)) (drop-drop 2 o t))

-- ---- a piece, by its first bytes
pub piece-end : (t : List ℕ) (o : ℕ) → length t ≤ o → told End true o o ≡ piece_at t o
unfolding piece_at piece_of kind_of
piece-end t o l = sym (ap (λ u. piece_from o (piece_of u)) (row-end t o l) ∙ ap (λ k. told End true k k) none)
  where
    none : o + 0 ≡ o
    none = omega arith

data_of : (x : ℕ) (u : List ℕ) → eqb x '<' ≡ false → piece_of (x ∷ u) ≡ piece DATA (span white (x ∷ u)) (data_stop b0 0 (x ∷ u))
unfolding piece_of
data_of x u h = rw h

-- data, its white space skipped
pub piece_data : (t : List ℕ) (o m : ℕ) → o < length t → (get_or t o 0 ≡ '<' → ⊥) → m ≡ o + span white (drop o t) →
    (z : Result ℕ ℕ) → z ≡ reached_from m (data_stop b0 0 (drop m t)) → ended_piece Data m z ≡ piece_at t o
unfolding piece_at kind_of
piece_data t o m l h p z e =
    last-is Data o o (span white (drop o t)) m 0 (data_stop b0 0 (drop o t)) z (e ∙ (data_white t o m p).same) p (omega arith)
    ∙ ap (told Data (data_stop b0 0 (drop o t)).whole (o + span white (drop o t))) (omega arith) ∙ ap (piece_from o) (sym is)
  where
    is : piece_of (drop o t) ≡ piece DATA (span white (drop o t)) (data_stop b0 0 (drop o t))
    is = ap piece_of (row_at t o l) ∙ data_of (get_or t o 0) (drop (o + 1) t) (ne_eqb _ _ h) ∙ ap (λ u. piece DATA (span white u) (data_stop b0 0 u)) (sym (row_at t o l))

-- markup
module _ (t : List ℕ) (o : ℕ) (l : o < length t) (e : get_or t o 0 ≡ '<') where
  markup-is : piece_at t o ≡ piece_from o (markup_piece (drop (o + 1) t))
  unfolding piece_at piece_of
  markup-is = ap (λ u. piece_from o (piece_of u)) (row_at t o l ∙ ap (λ y. y ∷ drop (o + 1) t) e)

  -- nothing after the `<`
  piece-bare : length t ≤ o + 1 → piece_from o (named_piece (drop (o + 1) t)) ≡ piece_at t o
  unfolding markup_piece named_piece name_size
  piece-bare b = ap (λ u. piece_from o (named_piece u)) (row-end t (o + 1) b) ∙ sym (markup-is ∙ ap (λ u. piece_from o (markup_piece u)) (row-end t (o + 1) b))

  module _ (b : o + 1 < length t) where
    row : (x : ℕ) → get_or t (o + 1) 0 ≡ x → drop (o + 1) t ≡ x ∷ drop (o + 2) t
    row x q = row_at t (o + 1) b ∙ ap₂ (λ (y k : ℕ). y ∷ drop k t) q two-on
      where
        two-on : o + 1 + 1 ≡ o + 2
        two-on = omega arith

    pub piece-comment : get_or t (o + 1) 0 ≡ '!' → (z : Result ℕ ℕ) → z ≡ reached_from (o + 2) (comment_stop (drop (o + 2) t)) → ended_piece Comment (o + 2) z ≡ piece_at t o
    unfolding markup_piece kind_of
    piece-comment q z p =
        last-is Comment o (o + 2) 2 (o + 2) 2 (comment_stop (drop (o + 2) t)) z p refl refl ∙ sym (markup-is ∙ ap (λ u. piece_from o (markup_piece u)) (row '!' q))

    pub piece-close : get_or t (o + 1) 0 ≡ '/' → piece_from o (close_piece (drop (o + 2) t)) ≡ piece_at t o
    unfolding markup_piece
    piece-close q = sym (markup-is ∙ ap (λ u. piece_from o (markup_piece u)) (row '/' q))

    piece-other : (get_or t (o + 1) 0 ≡ '!' → ⊥) → (get_or t (o + 1) 0 ≡ '/' → ⊥) → piece_from o (named_piece (drop (o + 1) t)) ≡ piece_at t o
    piece-other a c = sym (markup-is ∙ ap (λ u. piece_from o (markup_piece u)) (row_at t (o + 1) b) ∙ ap (piece_from o) is ∙ ap (λ u. piece_from o (named_piece u)) (sym (row_at t (o + 1) b)))
      where
        x : ℕ
        x = get_or t (o + 1) 0

        named-of : (b : Bool) (n : ℕ) (p : Piece') → cond b p (piece NONE 1 (stop 1 false)) ≡ cond (eqb (cond b (suc n) 0) 0) (piece NONE 1 (stop 1 false)) p
        named-of true n p = rw (ne_eqb (suc n) 0 (λ (z : suc n ≡ 0). omega arith))
        named-of false n p = refl

        is : markup_piece (x ∷ drop (o + 1 + 1) t) ≡ named_piece (x ∷ drop (o + 1 + 1) t)
        is = unfold markup_piece named_piece name_size in rw (ne_eqb _ _ a, ne_eqb _ _ c) (named-of (name_start x) _ _)

  pub piece-tag : (o + 1 < length t → get_or t (o + 1) 0 ≡ '!' → ⊥) → (o + 1 < length t → get_or t (o + 1) 0 ≡ '/' → ⊥) → piece_from o (named_piece (drop (o + 1) t)) ≡ piece_at t o
  piece-tag a c =
      ⊎_elim (λ q. let b = ltb-true (o + 1) (length t) q in piece-other b (a b) (c b)) (λ q. piece-bare (ltb-false (o + 1) (length t) q)) (bool_cases (ltb (o + 1) (length t)))
