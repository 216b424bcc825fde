-- End tags without white space, which `bare_close` finds.
--   bare-is                what it finds is such a tag
--   name-top               the name of the element that was opened last is within the text
--   closing-piece          such a tag is a whole piece
--   walk-bare, walk-closes, closes-less   the walk asks for what it needs, and goes on behind it
-- Letters as in specs/Inner; e the place behind the tag. Assumes nothing.
use Prim.Native.Nat.{ℕ, suc, ◌+◌, ◌-◌, ◌<◌, ◌≤◌}
use mathlib.Core.Path.{◌≡◌, refl, sym, ap, ap₂, subst, ◌∙◌}
use mathlib.Core.List.{List, ◌∷◌, ◌++◌}
use mathlib.Core.Bool.{Bool, true, false}
use native.Mathlib.Numerals.{add-one}
use native.Mathlib.Omega.{arith}
use lib.ListN.{length, get_or, take, drop, length-drop}
use lib.Seq.{drop-cons, drop-drop, length-take-le}
use Rattle.seq.proofs.Laws.Bools.{and_left}
use Rattle.profile.specs.Bytes.{'/', '<', '>', is_name}
use Rattle.profile.specs.Spans.{common}
use Rattle.profile.specs.Pieces.{stop, CLOSE, piece, piece_of}
use Rattle.profile.specs.Turns.{lawful}
use Rattle.profile.proofs.Laws.Heads.{common-whole}
use Rattle.profile.proofs.TagTurns.{close-bare}
use Rattle.std.specs.declared.ops.ControlFlow.TheVariants.{Continue}
use Rattle.markup.specs.declared.Piece.{Piece}
use Rattle.markup.specs.Pieces.{kind_of, piece_from, piece_at}
use Rattle.judge.specs.Inner.{no_name, name_in, open_place, place_of, BarePre, Closes, turn_of, Told}
use Rattle.judge.specs.declared.turns.Name.{Name}
use Rattle.judge.specs.declared.turns.State.{State}
use Rattle.judge.proofs.Numbers.{close-on}
use Rattle.judge.proofs.Taking.{ending_told}
use Rattle.judge.proofs.Walk.{Walk, walk_asks, walk-goes}

module _ (T : List ℕ) (at d : ℕ) (N : List Name) where
  abbrev top : ℕ
  top = d - 1

  abbrev size : ℕ
  size = (get_or N (d - 1) no_name).size

  abbrev start : ℕ
  start = (get_or N (d - 1) no_name).start

  pub name-top : BarePre T at d N → (d ≡ 0 → ⊥) → start + size ≤ length T
  name-top p n = p.within (d - 1) (omega (arith, n))

  -- r bytes of the name, as the code lends it, stand in the tag.
  pub bare-is : (d ≡ 0 → ⊥) → at + 2 + size < length T → get_or T at 0 ≡ '<' → get_or T (at + 1) 0 ≡ '/' → get_or T (at + 2 + size) 0 ≡ '>' →
      (r : ℕ) → r ≡ common (take (start + size - start) (drop start T)) (drop (at + 2) T) → r ≡ size → Closes T at d N (at + 2 + size + 1)
  bare-is n f a b g r e h = record { some = n; less = a; slash = b; name = sym same ∙ h; greater = g; fits = f; end = refl }
    where
      same : r ≡ common (name_in T N (d - 1)) (drop (at + 2) T)
      same = e ∙ ap (λ z. common (take z (drop start T)) (drop (at + 2) T)) back
        where
          back : start + size - start ≡ size
          back = omega arith

  -- ---- the piece
  module _ (e : ℕ) (c : Closes T at d N e) (w : start + size ≤ length T) (named : is_name (name_in T N (d - 1)) ≡ true) where
    abbrev name : List ℕ
    name = name_in T N (d - 1)

    long : length name ≡ size
    long = length-take-le size (drop start T) (omega (arith, length-drop start T))

    tail : drop size (drop (at + 2) T) ≡ '>' ∷ drop (suc (at + 2 + size)) T
    tail = drop-drop size (at + 2) T ∙ drop-cons T (at + 2 + size) 0 c.fits ∙ ap (λ y. y ∷ drop (suc (at + 2 + size)) T) c.greater

    rest : drop (at + 2) T ≡ name ++ ('>' ∷ drop (suc (at + 2 + size)) T)
    rest = sym (common-whole name (drop (at + 2) T) (c.name ∙ sym long)) ∙ ap (λ u. name ++ u) (ap (λ k. drop k (drop (at + 2) T)) long ∙ tail)

    row : drop at T ≡ '<' ∷ '/' ∷ (name ++ ('>' ∷ drop (suc (at + 2 + size)) T))
    row =
        drop-cons T at 0 (omega (arith, c.fits))
        ∙ ap₂ (λ y u. y ∷ u) c.less (ap (λ k. drop k T) (sym (add-one at)) ∙ drop-cons T (at + 1) 0 (omega (arith, c.fits)) ∙ ap₂ (λ y u. y ∷ u) c.slash (ap (λ k. drop k T) two ∙ rest))
      where
        two : suc (at + 1) ≡ at + 2
        two = omega arith

    closing-piece : piece_of (drop at T) ≡ piece CLOSE (2 + size) (stop (3 + size) true)
    closing-piece = ap piece_of row ∙ close-bare name _ named ∙ ap (λ k. piece CLOSE (2 + k) (stop (3 + k) true)) long

    closing_at : piece_at T at ≡ piece_from at (piece CLOSE (2 + size) (stop (3 + size) true))
    unfolding piece_at
    closing_at = ap (piece_from at) closing-piece

-- ---- the walk
top-named : (T : List ℕ) (N : List Name) (r : Bool) (k : ℕ) → lawful (place_of T N r (suc k)) ≡ true → is_name (name_in T N k) ≡ true
unfolding place_of open_place lawful
top-named T N r k e = and_left (is_name (name_in T N k)) _ e

module _ (T : List ℕ) (N : List Name) (at : ℕ) (s : State) (w : Walk T N at s) where
  pub walk-bare : BarePre T at s.depth N
  walk-bare = record { short = w.holds.short; deep = w.holds.deep; within = w.holds.within }

  module _ (e : ℕ) (c : Closes T at s.depth N e) where
    abbrev p : Piece
    p = piece_at T at

    abbrev gone : State
    gone = record { depth = s.depth - 1; met = s.met; solid = false; rooted = s.rooted }

    abbrev long_name : ℕ
    long_name = (get_or N (s.depth - 1) no_name).size

    -- The name that is open is a Name.
    named : is_name (name_in T N (s.depth - 1)) ≡ true
    named = top-named T N s.rooted (s.depth - 1) (ap (λ k. lawful (place_of T N s.rooted k)) one_less ∙ w.names)
      where
        one_less : suc (s.depth - 1) ≡ s.depth
        one_less = omega (arith, c.some)

    is : p ≡ piece_from at (piece CLOSE (2 + long_name) (stop (3 + long_name) true))
    is = closing_at T at s.depth N e c (name-top T at s.depth N walk-bare c.some) named

    told : Told (turn_of T at s N) T (Continue gone) N
    unfolding kind_of
    told =
        ending_told T at p s N (walk_asks T N at s w p refl) (Continue gone) (ap (λ (p : Piece). p.kind) is)
        (close-on T at p s N c.some long_name (sym (ap (λ z. common (take z (drop (get_or N (s.depth - 1) no_name).start T)) (drop (at + 2) T)) back ∙ c.name)) refl
        (ap (λ (p : Piece). p.middle) is ∙ middle) (ap (λ (p : Piece). p.whole) is))
      where
        back : (get_or N (s.depth - 1) no_name).start + long_name - (get_or N (s.depth - 1) no_name).start ≡ long_name
        back = omega arith

        middle : at + (2 + long_name) ≡ at + 2 + long_name
        middle = omega arith

    behind : p.end ≡ e
    behind = ap (λ (p : Piece). p.end) is ∙ omega (arith, c.end)

    pub walk-closes : Walk T N e gone
    walk-closes = subst (λ i. Walk T N i gone) behind (walk-goes T N at s w gone N told p refl)

    pub closes-less : length T - e < length T - at
    closes-less = omega (arith, c.fits, c.end)
