-- The turn that the piece at a place gives, by the kind of the piece: a lemma for each way that `take_turn` returns, and what it asks of the others.
-- Letters as in specs/Inner; q the piece in `profile`. Assumes nothing.
use Prim.Native.Nat.{ℕ, suc, ◌+◌, ◌-◌, ◌≤◌, ◌<◌}
use mathlib.Core.Path.{◌≡◌, sym, ap, ap₂, subst, ◌∙◌}
use mathlib.Core.Logic.{◌⊎◌, inl, inr, ⊎_elim}
use mathlib.Core.List.{List}
use mathlib.Core.Bool.{true, false}
use native.Mathlib.Numerals.{add-one}
use native.Mathlib.Omega.{arith}
use lib.ListN.{length, set, drop, length-drop}
use Rattle.profile.specs.Pieces.{piece_of}
use Rattle.profile.specs.Pieces as pieces
use Rattle.profile.specs.Turns.{turn}
use Rattle.profile.proofs.Turns.{by-close, by-tag}
use Rattle.profile.proofs.Went.{data_by}
use Rattle.profile.proofs.PieceLaws.{piece_le, middle_le, TagBounds, tag_bounds, close-two, end_by, other-by}
use Rattle.std.proofs.Common.{Ok}
use Rattle.std.specs.declared.ops.ControlFlow.TheVariants.{Break}
use Rattle.markup.specs.declared.Kind.{Kind}
use Rattle.markup.specs.declared.Kind.TheVariants.{End, Data, Comment, Start, Empty, Close, Nothing}
use Rattle.markup.specs.declared.Piece.{Piece}
use Rattle.markup.specs.Pieces.{number, piece_from, piece_at}
use Rattle.markup.proofs.Numbers.{number_same}
use Rattle.markup.proofs.Laws.{piece_number}
use Rattle.judge.specs.Judge.{max_level, max_nodes}
use Rattle.judge.specs.Inner.{Turn, tally_in, turn_of, broken_at, is_closed, passed, data_turn, tag_turn, close_turn, DataPre, TagPre, ClosePre, TurnPre, Told}
use Rattle.judge.specs.declared.turns.Name.{Name}
use Rattle.judge.specs.declared.turns.State.{State}
use Rattle.judge.proofs.Turning.{told_move, end-told, short-told, data_told, close-told, empty-told, full-told, start-told, other-told}

module _ (T : List ℕ) (at : ℕ) (p : Piece) (s : State) (N : List Name) (w : TurnPre T at p s N) where
  abbrev t : List ℕ
  t = drop at T

  abbrev q : pieces.Piece
  q = piece_of t

  piece_is : p ≡ piece_from at q
  unfolding piece_at
  piece_is = w.piece

  -- The number of its kind.
  pub kind-is : (k : Kind) → p.kind ≡ k → q.kind ≡ number k
  unfolding piece_at
  kind-is k e = sym (piece_number T at) ∙ ap number (sym (ap (λ (p : Piece). p.kind) w.piece) ∙ e)

  kind_not : (k : Kind) → (p.kind ≡ k → ⊥) → q.kind ≡ number k → ⊥
  unfolding piece_at
  kind_not k n e = n (ap (λ (p : Piece). p.kind) w.piece ∙ number_same _ k (piece_number T at ∙ e))

  end_fits : at + q.size ≤ length T
  end_fits = omega (arith, piece_le t, length-drop at T, w.place)

  end_is : p.end ≡ at + q.size
  end_is = ap (λ (p : Piece). p.end) piece_is

  -- ---- what is asked
  pub place-fits : at ≤ 4294967295
  place-fits = omega (arith, w.place, w.holds.short)

  pub pass-pre : p.end ≤ 4294967295
  pass-pre = omega (arith, end_is, end_fits, w.holds.short)

  pub data_pre : DataPre p s
  data_pre =
      record {
        many = w.holds.many;
        middle = omega (arith, ap (λ (p : Piece). p.middle) piece_is, middle_le t, end_fits, w.holds.short);
        fits = omega (arith, end_is, end_fits, w.holds.short);
      }

  pub tag-pre : TagPre at p s
  tag-pre =
      record { many = w.holds.many; place = omega (arith, w.place, w.holds.short); fits = omega (arith, end_is, end_fits, w.holds.short) }

  pub close-pre : p.kind ≡ Close → ClosePre T at p s N
  unfolding number
  close-pre k =
      record { holds = w.holds; place = omega (arith, close-two t (kind-is Close k), end_fits); fits = omega (arith, end_is, end_fits, w.holds.short) }

  pub name-after : p.kind ≡ Start → at + 1 ≤ p.middle
  unfolding number
  name-after k = omega (arith, ap (λ (p : Piece). p.middle) piece_is, (tag_bounds t (inl (kind-is Start k))).named)

  -- ---- what is told
  -- By `profile`'s turn x and the turn v in numbers.
  module _ (r : Turn) where
    pub ended-told : p.kind ≡ End → is_closed s.depth s.rooted ≡ true → r ≡ Break (Ok s.met) → Told (turn_of T at s N) T r N
    unfolding turn number
    ended-told k c e = told_move T N _ _ r (Break (Ok s.met)) (end_by max_level max_nodes _ (tally_in s) at t q (kind-is End k)) e (end-told at T s N w.holds q c)

    pub stopped_told : p.kind ≡ End → is_closed s.depth s.rooted ≡ false → r ≡ broken_at at → Told (turn_of T at s N) T r N
    unfolding turn number
    stopped_told k c e = told_move T N _ _ r (broken_at at) (end_by max_level max_nodes _ (tally_in s) at t q (kind-is End k)) e (short-told at T s N w.holds q c)

    pub run-told : p.kind ≡ Data → r ≡ data_turn p s → Told (turn_of T at s N) T r N
    unfolding turn number
    run-told k e =
        told_move T N _ _ r (data_turn (piece_from at q) s) (data_by max_level max_nodes _ (tally_in s) at t q (kind-is Data k)) (e ∙ ap (λ p. data_turn p s) piece_is)
        (data_told at T s N w.holds q)

    pub ending_told : p.kind ≡ Close → r ≡ close_turn T at p s N → Told (turn_of T at s N) T r N
    unfolding turn number
    ending_told k e =
        told_move T N _ _ r (close_turn T at (piece_from at q) s N) (sym (by-close max_level max_nodes _ (tally_in s) at t q (kind-is Close k)))
        (e ∙ ap (λ p. close_turn T at p s N) piece_is) (close-told at T s N w.holds q)

    pub emptied-told : p.kind ≡ Empty → r ≡ tag_turn at p s s.depth → Told (turn_of T at s N) T r N
    unfolding turn number
    emptied-told k e =
        told_move T N _ _ r (tag_turn at (piece_from at q) s s.depth) (sym (by-tag max_level max_nodes _ (tally_in s) at t q (inr (kind-is Empty k))))
        (e ∙ ap (λ p. tag_turn at p s s.depth) piece_is) (empty-told at T s N w.holds q (kind-is Empty k))

    pub deepest_told : p.kind ≡ Start → 64 ≤ s.depth → r ≡ tag_turn at p s (s.depth + 1) → Told (turn_of T at s N) T r N
    unfolding turn number
    deepest_told k l e =
        told_move T N _ _ r (tag_turn at (piece_from at q) s (suc s.depth)) (sym (by-tag max_level max_nodes _ (tally_in s) at t q (inl (kind-is Start k))))
        (e ∙ ap₂ (λ p d. tag_turn at p s d) piece_is (add-one s.depth)) (full-told at T s N w.holds q N (kind-is Start k) l)

    pub opened-told : p.kind ≡ Start → s.depth < 64 → r ≡ tag_turn at p s (s.depth + 1) →
        Told (turn_of T at s N) T r (set N s.depth (record { start = at + 1; size = p.middle - (at + 1) }))
    unfolding turn number
    opened-told k l e =
        subst (λ z. Told (turn_of T at s N) T r (set N s.depth (record { start = at + 1; size = z - (at + 1) }))) (sym (ap (λ (p : Piece). p.middle) piece_is))
        (told_move T (set N s.depth (record { start = at + 1; size = at + q.middle - (at + 1) })) _ _ r (tag_turn at (piece_from at q) s (suc s.depth))
        (sym (by-tag max_level max_nodes _ (tally_in s) at t q (inl (kind-is Start k)))) (e ∙ ap₂ (λ p d. tag_turn at p s d) piece_is (add-one s.depth))
        (start-told at T s N w.holds q (kind-is Start k) l bounds.named bounds.fits end_fits))
      where
        bounds : TagBounds q
        bounds = tag_bounds t (inl (kind-is Start k))

    pub passed-told : (p.kind ≡ Comment) ⊎ (p.kind ≡ Nothing) → r ≡ passed p s → Told (turn_of T at s N) T r N
    unfolding turn number
    passed-told h e =
        told_move T N _ _ r (passed (piece_from at q) s)
        (other-by max_level max_nodes _ (tally_in s) at t q (other End (λ c. cc) (λ c. cc)) (other Data (λ c. cc) (λ c. cc)) (other Close (λ c. cc) (λ c. cc))
        (other Empty (λ c. cc) (λ c. cc)) (other Start (λ c. cc) (λ c. cc)))
        (e ∙ ap (λ p. passed p s) piece_is) (other-told at T s N w.holds q)
      where
        other : (k : Kind) → (Comment ≡ k → ⊥) → (Nothing ≡ k → ⊥) → q.kind ≡ number k → ⊥
        other k a b = kind_not k (λ e. ⊎_elim (λ c. a (sym c ∙ e)) (λ c. b (sym c ∙ e)) h)
