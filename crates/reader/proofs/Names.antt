-- The name of a tag's element, by its first place in the text.
--   tag-named       the name of a tag is the name behind its `<`, and its mark is 1
--   names-map       the names by marks and first places, node by node
-- Letters as in specs/Inner; t the text from a place on, q the piece at its head. Assumes nothing.
use Prim.Native.Nat.{ℕ, suc, ◌+◌, ◌-◌}
use mathlib.Core.Path.{◌≡◌, refl, sym, ap, ◌∙◌}
use mathlib.Core.Logic.{◌⊎◌, ⊎_elim}
use mathlib.Core.List.{List, [], ◌∷◌, map}
use mathlib.Core.Bool.{true, cond, false≢true}
use native.Mathlib.Omega.{arith}
use lib.ListN.{drop, take}
use lib.Seq.{drop-drop}
use Rattle.profile.specs.Bytes.{'<', white, name_start, name_char, is_name}
use Rattle.profile.specs.Spans.{span, name_at}
use Rattle.profile.specs.Tree.{Node}
use Rattle.profile.specs.Pieces.{END, DATA, COMMENT, START, EMPTY, CLOSE, NONE, Piece, name_size, tag_piece, piece_of}
use Rattle.profile.specs.Turns as turns
use Rattle.profile.proofs.Laws.Heads.{span-passing}
use Rattle.profile.proofs.Turns.{close-kind}
use Rattle.profile.proofs.TagTurns.{tag_end-middle}
use Rattle.profile.proofs.PieceLaws.{piece_cases, tag-is-named}
use Rattle.names.specs.Names.{name_of, names}
use Rattle.reader.specs.Inner.{mark_of, mark}

abbrev pub IsTag : Piece → Type 0
IsTag q = (q.kind ≡ START) ⊎ (q.kind ≡ EMPTY)

pub record TagNamed (t : List ℕ) (q : Piece) : Type 0 where
  pub name : turns.name_of t q ≡ name_at t 1
  pub marked : mark_of (turns.name_of t q) ≡ 1

name-marked : (w : List ℕ) → is_name w ≡ true → mark_of w ≡ 1
unfolding is_name
name-marked [] h = absurd (false≢true h)
name-marked (x ∷ w) h = refl

start-char : (x : ℕ) → name_start x ≡ true → name_char x ≡ true
unfolding name_char
start-char x h = rw h

letter-size : (x : ℕ) (t : List ℕ) → name_start x ≡ true → name_size (x ∷ t) ≡ span name_char (x ∷ t)
unfolding name_size
letter-size x t h = ap (λ b. cond b (suc (span name_char t)) 0) h ∙ sym (span-passing name_char x t (start-char x h))

letter-middle : (x : ℕ) (t : List ℕ) → (tag_piece (x ∷ t)).middle ≡ 1 + name_size (x ∷ t)
unfolding tag_piece
letter-middle x t =
    let k = name_size (x ∷ t) in
    let s = span white (drop k (x ∷ t)) in
    tag_end-middle (1 + k) (1 + k + s) (drop s (drop k (x ∷ t)))

letter-named : (x : ℕ) (t : List ℕ) → name_start x ≡ true → TagNamed ('<' ∷ x ∷ t) (tag_piece (x ∷ t))
letter-named x t h =
    record { name = ap (λ i. take i (x ∷ t)) size; marked = name-marked (turns.name_of ('<' ∷ x ∷ t) (tag_piece (x ∷ t))) (tag-is-named x t h) }
  where
    size : (tag_piece (x ∷ t)).middle - 1 ≡ span name_char (x ∷ t)
    size = omega (arith, letter-middle x t, letter-size x t h)

other-kind : (k : ℕ) (t : List ℕ) (q : Piece) → q.kind ≡ k → (k ≡ START → ⊥) → (k ≡ EMPTY → ⊥) → IsTag q → TagNamed t q
other-kind k t q e a b = λ i. absurd (⊎_elim (λ f. a (sym e ∙ f)) (λ f. b (sym e ∙ f)) i)

pub tag-named : (t : List ℕ) → IsTag (piece_of t) → TagNamed t (piece_of t)
tag-named =
    piece_cases (λ t q. IsTag q → TagNamed t q) (other-kind END [] _ refl (λ e. omega arith) (λ e. omega arith))
    (λ x t a. other-kind DATA (x ∷ t) _ refl (λ e. omega arith) (λ e. omega arith))
    (λ t. other-kind COMMENT _ _ refl (λ e. omega arith) (λ e. omega arith))
    (λ t. other-kind CLOSE _ _ (close-kind t) (λ e. omega arith) (λ e. omega arith)) (λ x t h k. letter-named x t h)
    (λ t. other-kind NONE ('<' ∷ t) _ refl (λ e. omega arith) (λ e. omega arith))

-- Behind a place of the text.
pub name-behind : (T : List ℕ) (at : ℕ) → name_at (drop at T) 1 ≡ name_at T (at + 1)
name-behind T at = ap (λ u. take (span name_char u) u) (drop-drop 1 at T)

pub names-map : (T : List ℕ) (ns : List Node) → names T (map mark ns) (map (λ a. a.first) ns) ≡ map (λ a. name_of T (mark a) a.first) ns
unfolding names
names-map T [] = refl
names-map T (a ∷ ns) = ap (λ l. name_of T (mark a) a.first ∷ l) (names-map T ns)
