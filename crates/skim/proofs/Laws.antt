-- Laws for callers. What is skimmed is in specs/Skim; what a piece is, in `profile`, specs/Pieces. Assumes nothing.
--   skim_unique      no second outcome fits `skim_at`
--   skim_number      the number of the kind that is skimmed
--   Agrees p q       == two pieces of one kind that end at one place, both whole or neither, and of data with one middle
--   skim_whole       where the piece at a place is whole, what is skimmed there agrees with it
-- Letters: t text, o place, p q pieces.
use Prim.Native.Nat.{ℕ, ◌+◌, ◌≤◌}
use mathlib.Core.Path.{◌≡◌, refl, sym, ap, subst, ◌∙◌}
use mathlib.Core.Logic.{⊎_elim}
use mathlib.Core.List.{List, [], ◌∷◌}
use mathlib.Core.Bool.{Bool, true, false, cond, false≢true}
use native.Mathlib.Omega.{arith}
use lib.Dec.{eqb}
use lib.ListN.{get_or, drop}
use Rattle.profile.specs.Bytes.{'!', '/', '<', '>', name_start, starts_with}
use Rattle.profile.specs.Spans.{span, other}
use Rattle.profile.specs.Machine.{b0}
use Rattle.profile.specs.Pieces.{stop, data_stop, END, DATA, START, EMPTY, CLOSE, piece, tag_piece, close_piece}
use Rattle.profile.specs.Pieces as pieces
use Rattle.profile.proofs.Laws.Bytes.{apart}
use Rattle.profile.proofs.Turns.{close-kind, tag-kind}
use Rattle.profile.proofs.PieceLaws.{piece_cases, comment_piece, data_piece}
use Rattle.markup.specs.declared.Kind.TheVariants.{Data}
use Rattle.markup.specs.declared.Piece.{Piece}
use Rattle.markup.specs.Pieces.{number, kind_of, piece_from, piece_at}
use Rattle.markup.proofs.Numbers.{number-of, of_number}
use Rattle.skim.specs.Skim.{skim_data, skim_comment, tag_kind, skim_tag, skim_of, skim_at}
use Rattle.skim.proofs.Ends.{data_ends, data_low, comment-size, Told, tag-told, close-told}

pub skim_unique : (t : List ℕ) (o : ℕ) (r r' : Piece) → r ≡ skim_at t o → r' ≡ skim_at t o → r ≡ r'
skim_unique t o r r' a b = a ∙ sym b

tag_kind-most : (t : List ℕ) → tag_kind t ≤ 6
unfolding tag_kind
tag_kind-most t = most (starts_with ('/' ∷ []) (drop 1 t)) (eqb (get_or t (span (other '>') (drop 1 t)) 0) '/')
  where
    most : (a b : Bool) → cond a CLOSE (cond b EMPTY START) ≤ 6
    most true b = omega arith
    most false true = omega arith
    most false false = omega arith

skim_kind-most : (t : List ℕ) → (skim_of t).kind ≤ 6
unfolding skim_of skim_data skim_comment skim_tag
skim_kind-most [] = omega arith
skim_kind-most (x ∷ t) = most (eqb x '<') (starts_with ('!' ∷ []) t)
  where
    most : (a b : Bool) → (cond a (cond b (skim_comment (x ∷ t)) (skim_tag (x ∷ t))) (skim_data (x ∷ t))).kind ≤ 6
    most true true = omega arith
    most true false = tag_kind-most (x ∷ t)
    most false b = omega arith

pub skim_number : (t : List ℕ) (o : ℕ) → number (skim_at t o).kind ≡ (skim_of (drop o t)).kind
unfolding skim_at
skim_number t o = number-of _ (skim_kind-most (drop o t))

pub record Agrees (p q : Piece) : Type 0 where
  pub kind : p.kind ≡ q.kind
  pub whole : p.whole ≡ q.whole
  pub middle : q.kind ≡ Data → p.middle ≡ q.middle
  pub end : p.end ≡ q.end

-- ---- at the head of a row, the place being o
module _ (o : ℕ) where
  abbrev Skims : List ℕ → pieces.Piece → Type 0
  Skims u q = q.whole ≡ true → Agrees (piece_from o (skim_of u)) (piece_from o q)

  -- Markup has no middle to compare.
  agree : (p q : pieces.Piece) → p.kind ≡ q.kind → p.whole ≡ true → (q.kind ≡ DATA → ⊥) → p.size ≡ q.size → q.whole ≡ true → Agrees (piece_from o p) (piece_from o q)
  unfolding number
  agree p q k a d s w = record { kind = ap kind_of k; whole = a ∙ sym w; middle = λ e. absurd (d (of_number _ Data (λ z. cc) e)); end = ap (λ i. o + i) s }

  ends : Skims [] (piece END 0 (stop 0 true))
  unfolding skim_of
  ends w = record { kind = refl; whole = refl; middle = λ e. refl; end = refl }

  data_agrees : (t : List ℕ) → (data_stop b0 0 t).whole ≡ true → Agrees (piece_from o (skim_data t)) (piece_from o (data_piece t))
  unfolding skim_data
  data_agrees t w = record { kind = refl; whole = sym w; middle = λ e. ap (λ i. o + i) (data_low t w); end = ap (λ i. o + i) (data_ends t w) }

  runs : (x : ℕ) (t : List ℕ) → eqb x '<' ≡ false → Skims (x ∷ t) (data_piece (x ∷ t))
  unfolding skim_of
  runs x t a w = rw a (data_agrees (x ∷ t) w)

  comments : (t : List ℕ) → Skims ('<' ∷ '!' ∷ t) (comment_piece t)
  unfolding skim_of starts_with skim_comment
  comments t w = agree _ _ refl refl (λ e. omega arith) (omega (arith, comment-size t w)) w

  tagged : (u : List ℕ) (q : pieces.Piece) → Told u q → (q.kind ≡ DATA → ⊥) → q.whole ≡ true → Agrees (piece_from o (skim_tag ('<' ∷ u))) (piece_from o q)
  unfolding skim_tag
  tagged u q r d w = agree _ q r.kind refl d r.size w

  closes : (t : List ℕ) → Skims ('<' ∷ '/' ∷ t) (close_piece t)
  unfolding skim_of starts_with
  closes t w = tagged ('/' ∷ t) (close_piece t) (close-told t w) (λ e. omega (arith, close-kind t)) w

  tags : (x : ℕ) (t : List ℕ) → name_start x ≡ true → Skims ('<' ∷ x ∷ t) (tag_piece (x ∷ t))
  tags x t h w =
      subst (λ p. Agrees (piece_from o p) (piece_from o (tag_piece (x ∷ t)))) (sym is)
      (tagged (x ∷ t) (tag_piece (x ∷ t)) (tag-told x t h w) (λ e. ⊎_elim (λ k. omega (arith, k)) (λ k. omega (arith, k)) (tag-kind (x ∷ t))) w)
    where
      is : skim_of ('<' ∷ x ∷ t) ≡ skim_tag ('<' ∷ x ∷ t)
      is = unfold skim_of starts_with in rw (apart name_start x '!' (unfold name_start in refl) h)

pub skim_whole : (t : List ℕ) (o : ℕ) → (piece_at t o).whole ≡ true → Agrees (skim_at t o) (piece_at t o)
unfolding skim_at piece_at
skim_whole t o = piece_cases (Skims o) (ends o) (runs o) (comments o) (closes o) (tags o) (λ t w. absurd (false≢true w)) (drop o t)
