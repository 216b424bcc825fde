-- On a text that is accepted the pieces, one after the other, are the text, and its tags nest as its elements do.
--   pieces_are-text   the bytes of the pieces are those of the text: each byte is in one piece
--   reader_cuts       a call of the reader gives the first of the pieces from its place on, and leaves it where the others begin
--   pieces_nest       the elements that the tags make, and the data between them, are the nodes of the text's tree
-- Letters as in specs/Pieces; n how many nodes the text has. Assumes nothing.
use Prim.Native.Nat.{ℕ, zero, suc, ◌+◌, ◌≤◌}
use mathlib.Core.Path.{◌≡◌, refl, sym, ap, subst, ◌∙◌}
use mathlib.Core.Logic.{⊎_elim}
use mathlib.Core.List.{List, [], ◌∷◌, ◌++◌}
use mathlib.Core.Bool.{Bool, true, false, not, cond, ◌&&◌}
use mathlib.Core.Option.{some}
use native.Mathlib.Omega.{arith}
use lib.Dec.{eqb}
use lib.ListN.{length, take, drop, length-drop, take-append-drop}
use lib.Seq.{drop-drop}
use borrow.Author.Tests.{eqb-true, eqb-false, ne_eqb}
use Rattle.seq.proofs.Laws.Bools.{bool_cases}
use Rattle.profile.specs.Grammar.{Document, text}
use Rattle.profile.specs.Machine.{Place, before, b0, between}
use Rattle.profile.specs.Tree.{tree}
use Rattle.profile.specs.Reader.{Memory, read, fresh, tree_of}
use Rattle.profile.specs.Check.{whole, reply_to}
use Rattle.profile.specs.Pieces.{END, DATA, COMMENT, START, EMPTY, CLOSE, NONE, piece_of}
use Rattle.profile.specs.Notes.{noted}
use Rattle.profile.proofs.Complete.{tree-read}
use Rattle.profile.proofs.Turns.{close-kind, tag-kind}
use Rattle.profile.proofs.Went.{Stands, Went, went, stands-start}
use Rattle.profile.proofs.PieceLaws.{piece_cases}
use Rattle.markup.specs.declared.Piece as markup
use Rattle.markup.specs.Pieces.{number, piece_at}
use Rattle.markup.proofs.Laws.{piece_number}
use Rattle.pieces.specs.declared.Reader.{Reader}
use Rattle.pieces.specs.Reading.{place_after, Gives}
use Rattle.pieces.proofs.Laws.{place-whole}
use Rattle.reader_laws.specs.Pieces.{Cut, cut, cuts_from, cuts_of, joined, noting}

-- Only the end of a text is no piece.
end-only : (t : List ℕ) → (piece_of t).kind ≡ END → t ≡ []
end-only =
    piece_cases (λ t q. q.kind ≡ END → t ≡ []) (λ e. refl) (λ x t a e. absurd (other DATA e (λ z. omega arith))) (λ t e. absurd (other COMMENT e (λ z. omega arith)))
    (λ t e. absurd (other CLOSE (sym (close-kind t) ∙ e) (λ z. omega arith)))
    (λ x t h e. absurd (⊎_elim (λ k. other START (sym k ∙ e) (λ z. omega arith)) (λ k. other EMPTY (sym k ∙ e) (λ z. omega arith)) (tag-kind (x ∷ t))))
    (λ t e. absurd (other NONE e (λ z. omega arith)))
  where
    other : (k : ℕ) → k ≡ END → (k ≡ END → ⊥) → ⊥
    other k e f = f e

cuts_nil : (k j : ℕ) → cuts_from k j [] ≡ []
unfolding cuts_from piece_of
cuts_nil zero j = refl
cuts_nil (suc k) j = refl

cuts_on : (k j : ℕ) (t : List ℕ) → (piece_of t).whole ≡ true → ((piece_of t).kind ≡ END → ⊥) →
    cuts_from (suc k) j t ≡ cut j (piece_of t) ∷ cuts_from k (j + (piece_of t).size) (drop (piece_of t).size t)
unfolding cuts_from
cuts_on k j t w e = rw (w, ne_eqb (piece_of t).kind END e)

-- ---- the reader's calls
cuts_by : (k j : ℕ) (t : List ℕ) (l : List Cut) → ((piece_of t).whole ≡ true → cuts_from k (j + (piece_of t).size) (drop (piece_of t).size t) ≡ l) →
    cuts_from (suc k) j t ≡ cond ((piece_of t).whole && not (eqb (piece_of t).kind END)) (cut j (piece_of t) ∷ l) []
unfolding cuts_from
cuts_by k j t l e = by_tests (piece_of t).whole (not (eqb (piece_of t).kind END)) e
  where
    by_tests : (a b : Bool) → (a ≡ true → cuts_from k (j + (piece_of t).size) (drop (piece_of t).size t) ≡ l) →
        cond (a && b) (cut j (piece_of t) ∷ cuts_from k (j + (piece_of t).size) (drop (piece_of t).size t)) [] ≡ cond (a && b) (cut j (piece_of t) ∷ l) []
    by_tests true true e = ap (λ l. cut j (piece_of t) ∷ l) (e refl)
    by_tests true false e = refl
    by_tests false b e = refl

-- What `next` gives, and where it leaves the reader: the pieces from its place on are that one, if it is whole and not the end, and those from its next place on.
pub reader_cuts : (k : ℕ) (r : Reader) (p : markup.Piece) (s : Reader) → Gives r p s →
    cuts_from (suc k) r.at (drop r.at r.text.now) ≡
    cond (p.whole && not (eqb (number p.kind) END)) (cut r.at (piece_of (drop r.at r.text.now)) ∷ cuts_from k s.at (drop s.at s.text.now)) []
unfolding piece_at
reader_cuts k r p s g =
    cuts_by k r.at (drop r.at r.text.now) (cuts_from k s.at (drop s.at s.text.now)) behind ∙
    ap (λ (e : ℕ). cond ((piece_of (drop r.at r.text.now)).whole && not (eqb e END)) (cut r.at (piece_of (drop r.at r.text.now)) ∷ cuts_from k s.at (drop s.at s.text.now)) [])
    (sym (piece_number r.text.now r.at)) ∙
    ap (λ (p : markup.Piece). cond (p.whole && not (eqb (number p.kind) END)) (cut r.at (piece_of (drop r.at r.text.now)) ∷ cuts_from k s.at (drop s.at s.text.now)) []) (sym g.piece)
  where
    size : ℕ
    size = (piece_of (drop r.at r.text.now)).size

    behind : (piece_of (drop r.at r.text.now)).whole ≡ true →
        cuts_from k (r.at + size) (drop size (drop r.at r.text.now)) ≡ cuts_from k s.at (drop s.at s.text.now)
    behind w =
        ap (cuts_from k (r.at + size)) (drop-drop size r.at r.text.now) ∙ ap (λ i. cuts_from k i (drop i r.text.now)) place ∙
        sym (ap (λ (s : Reader). cuts_from k s.at (drop s.at s.text.now)) g.moved)
      where
        place : r.at + size ≡ place_after p r.at
        place = sym (ap (λ (p : markup.Piece). p.end) g.piece) ∙ place-whole p r.at (ap (λ (p : markup.Piece). p.whole) g.piece ∙ w)

-- ---- of an accepted text
module _ (L N n : ℕ) (T : List ℕ) where
  -- From the place j on, where the reader stands.
  record Cuts (k j : ℕ) (p : Place) (m : Memory) : Type 0 where
    bytes : joined T (cuts_from k j (drop j T)) ≡ drop j T
    notes : (read j (some (between b0 p)) m (drop j T)).memory ≡ noting T (cuts_from k j (drop j T)) m

  cuts_end : (k j : ℕ) (p : Place) (m : Memory) → drop j T ≡ [] → Cuts k j p m
  unfolding joined noting read
  cuts_end k j p m e =
      record {
        bytes = ap (λ t. joined T (cuts_from k j t)) e ∙ ap (joined T) (cuts_nil k j) ∙ sym e;
        notes = ap (λ t. (read j (some (between b0 p)) m t).memory) e ∙ sym (ap (λ t. noting T (cuts_from k j t) m) e ∙ ap (λ c. noting T c m) (cuts_nil k j));
      }

  -- Behind the first piece.
  cuts_next : (k j : ℕ) (p : Place) (m : Memory) → ((piece_of (drop j T)).kind ≡ END → ⊥) → (w : Went L N n p m j (drop j T) (piece_of (drop j T))) →
      Cuts k (j + (piece_of (drop j T)).size) w.place (noted j (drop j T) (piece_of (drop j T)) m) → Cuts (suc k) j p m
  unfolding joined noting
  cuts_next k j p m e w r =
      record {
        bytes =
            ap (joined T) first ∙ ap (λ u. take size t ++ joined T (cuts_from k (j + size) u)) behind ∙ ap (λ u. take size t ++ u) r.bytes ∙
            ap (λ u. take size t ++ u) (sym behind) ∙ take-append-drop size t;
        notes =
            ap (λ z. z.memory) w.reading ∙
            ap (λ u. (read (j + size) (some (between b0 w.place)) m' u).memory) behind ∙ r.notes ∙
            sym (ap (λ c. noting T c m) first ∙ ap (λ u. noting T (cuts_from k (j + size) u) m') behind);
      }
    where
      t : List ℕ
      t = drop j T

      size : ℕ
      size = (piece_of t).size

      m' : Memory
      m' = noted j t (piece_of t) m

      behind : drop size t ≡ drop (j + size) T
      behind = drop-drop size j T

      first : cuts_from (suc k) j t ≡ cut j (piece_of t) ∷ cuts_from k (j + size) (drop size t)
      first = cuts_on k j t w.whole-piece e

  cuts_from_lem : (k j : ℕ) (p : Place) (m : Memory) → length (drop j T) ≤ k → Stands L N n p m j (drop j T) → Cuts k j p m
  cuts_from_lem zero j p m l s = cuts_end zero j p m (empty (drop j T) l)
    where
      empty : (t : List ℕ) → length t ≤ 0 → t ≡ []
      empty [] l = refl
      empty (x ∷ t) l = absurd (no l)
        where
          no : suc (length t) ≤ 0 → ⊥
          no l = omega arith
  cuts_from_lem (suc k) j p m l s =
      by_kind (λ w. cuts_from_lem k (j + (piece_of (drop j T)).size) w.place (noted j (drop j T) (piece_of (drop j T)) m) (shorter w)
      (subst (Stands L N n w.place (noted j (drop j T) (piece_of (drop j T)) m) (j + (piece_of (drop j T)).size)) (drop-drop (piece_of (drop j T)).size j T) w.stands))
    where
      shorter : Went L N n p m j (drop j T) (piece_of (drop j T)) → length (drop (j + (piece_of (drop j T)).size) T) ≤ k
      shorter w = omega (arith, l, w.moves, length-drop j T, length-drop (j + (piece_of (drop j T)).size) T)

      by_kind : ((w : Went L N n p m j (drop j T) (piece_of (drop j T))) → Cuts k (j + (piece_of (drop j T)).size) w.place (noted j (drop j T) (piece_of (drop j T)) m)) →
          Cuts (suc k) j p m
      by_kind r =
          ⊎_elim
          (λ q. cuts_end (suc k) j p m (end-only (drop j T) (eqb-true (piece_of (drop j T)).kind END q)))
          (λ q.
          let e : (piece_of (drop j T)).kind ≡ END → ⊥ = eqb-false (piece_of (drop j T)).kind END q in
          let w = went L N n p m j (drop j T) s e in
          cuts_next k j p m e w (r w))
          (bool_cases (eqb (piece_of (drop j T)).kind END))

  module _ (e : reply_to L N T ≡ whole n) where
    all_cuts : Cuts (length T) 0 before fresh
    all_cuts = cuts_from_lem (length T) 0 before fresh (omega arith) (stands-start L N n T e)

    pub pieces_are-text : joined T (cuts_of T) ≡ T
    unfolding cuts_of
    pieces_are-text = all_cuts.bytes

    pub pieces_note : (noting T (cuts_of T) fresh).nodes ≡ tree_of T
    unfolding cuts_of tree_of
    pieces_note = sym (ap (λ (m : Memory). m.nodes) all_cuts.notes)

-- The same of any document that has this text.
pub pieces_nest : (L N n : ℕ) (d : Document) → reply_to L N (text d) ≡ whole n → (noting (text d) (cuts_of (text d)) fresh).nodes ≡ tree d
pieces_nest L N n d e = pieces_note L N n (text d) e ∙ tree-read d
