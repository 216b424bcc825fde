-- The judge's walk over the pieces of a text.
--   Walk T N at s          == at the place `at` the rest of the text comes to the same reply as the whole, from the state s
--   begun                  == the state in which a text begins
--   walk_start, walk_halts, walk-goes, walk-less
-- Letters as in specs/Inner; t the state behind the piece, N' the row then. Assumes nothing.
use Prim.Native.Nat.{ℕ, ◌+◌, ◌-◌, ◌≤◌, ◌<◌}
use mathlib.Core.Path.{◌≡◌, refl, sym, ap, ap₂, subst, ◌∙◌}
use mathlib.Core.List.{List}
use mathlib.Core.Bool.{true, false}
use native.Mathlib.Omega.{arith}
use lib.ListN.{length, drop, length-drop}
use lib.Seq.{drop-drop}
use borrow.Author.Tests.{lt-ltb, le-ltb}
use Rattle.std.proofs.Common.{Result}
use Rattle.std.specs.declared.ops.ControlFlow.TheVariants.{Continue, Break}
use Rattle.index.specs.Replies.{SIZE, refused, reply_of}
use Rattle.profile.specs.Machine.{Place, b0, between}
use Rattle.profile.specs.Check.{Tally, check, reply_to}
use Rattle.profile.specs.Check as check
use Rattle.profile.specs.Pieces.{piece_of}
use Rattle.profile.specs.Turns.{halt, go, follow, tally, turn, lawful}
use Rattle.profile.specs.Turns as turns
use Rattle.profile.proofs.Turns.{check-turn}
use Rattle.profile.proofs.PieceLaws.{piece_le, Good, went-of, turn-good}
use Rattle.markup.specs.declared.Piece as markup
use Rattle.markup.specs.Pieces.{piece_at}
use Rattle.judge.specs.Judge.{longest, max_level, max_nodes, in_numbers, judge_reply}
use Rattle.judge.specs.Inner.{place_of, tally_in, turn_of, Holds, TurnPre, Told}
use Rattle.judge.specs.declared.turns.Name.{Name}
use Rattle.judge.specs.declared.turns.State.{State}
use Rattle.index.specs.declared.replies.Refusal.{Refusal}

abbrev pub begun : State
begun = record { depth = 0; met = 0; solid = false; rooted = false }

pub record Walk (T : List ℕ) (N : List Name) (at : ℕ) (s : State) : Type 0 where
  pub holds : Holds T s N
  pub place : at ≤ length T
  pub names : lawful (place_of T N s.rooted s.depth) ≡ true
  pub same : reply_to max_level max_nodes T ≡ check max_level max_nodes at (between b0 (place_of T N s.rooted s.depth)) (tally_in s) (drop at T)

pub walk_start : (T : List ℕ) (N : List Name) → length T ≤ longest → length N ≡ 64 → Walk T N 0 begun
unfolding reply_to place_of lawful
walk_start T N l n =
    record {
      holds =
          record {
            short = l;
            names = n;
            deep = omega arith;
            many = omega arith;
            rooted = λ h. absurd (none h);
            within = λ d h. absurd (below d h);
          };
      place = omega arith;
      names = refl;
      same = refl;
    }
  where
    none : 1 ≤ 0 → ⊥
    none h = omega arith

    below : (d : ℕ) → d < 0 → ⊥
    below d h = omega arith

pub size-reply : (T : List ℕ) → longest < length T → refused SIZE 0 ≡ judge_reply T
unfolding judge_reply
size-reply T l = rw (lt-ltb longest (length T) l)

module _ (T : List ℕ) (N : List Name) (at : ℕ) (s : State) (w : Walk T N at s) where
  pub walk_asks : (p : markup.Piece) → p ≡ piece_at T at → TurnPre T at p s N
  walk_asks p e = record { holds = w.holds; place = w.place; piece = e }

  -- What the turn comes to.
  abbrev behind : Place → Tally → check.Reply
  behind p c = check max_level max_nodes (at + (piece_of (drop at T)).size) (between b0 p) c (drop (piece_of (drop at T)).size (drop at T))

  followed : reply_to max_level max_nodes T ≡ follow (turn_of T at s N) behind
  followed = w.same ∙ check-turn max_level max_nodes (place_of T N s.rooted s.depth) w.names (tally_in s) at (drop at T)

  -- By `profile`'s turn x.
  halts_by : (e : Result ℕ Refusal) (N' : List Name) (x : turns.Turn) → turn_of T at s N ≡ x → Told x T (Break e) N' → reply_of e ≡ in_numbers (reply_to max_level max_nodes T)
  halts_by r N' (halt q) e h = h ∙ ap in_numbers (sym (followed ∙ ap (λ x. follow x behind) e))
  halts_by r N' (go p c) e h = absurd h

  pub walk_halts : (e : Result ℕ Refusal) (N' : List Name) → Told (turn_of T at s N) T (Break e) N' → reply_of e ≡ judge_reply T
  unfolding judge_reply
  walk_halts e N' told = halts_by e N' (turn_of T at s N) refl told ∙ sym (rw (le-ltb longest (length T) w.holds.short))

  module _ (t : State) (N' : List Name) (told : Told (turn_of T at s N) T (Continue t) N') where
    size : ℕ
    size = (piece_of (drop at T)).size

    goes_by : (x : turns.Turn) → turn_of T at s N ≡ x → Told x T (Continue t) N' → Walk T N' (at + size) t
    unfolding size
    goes_by (halt q) e h = absurd h
    goes_by (go p c) e h =
        record {
          holds = h.holds;
          place = omega (arith, piece_le (drop at T), length-drop at T, w.place);
          names = ap lawful h.place ∙ good.names;
          same =
              followed ∙ ap (λ x. follow x behind) e ∙
              ap₂ (λ p c. check max_level max_nodes (at + size) (between b0 p) c (drop size (drop at T))) (sym h.place) (sym h.tally) ∙
              ap (λ u. check max_level max_nodes (at + size) (between b0 (place_of T N' t.rooted t.depth)) (tally_in t) u) (drop-drop size at T);
        }
      where
        good : Good (piece_of (drop at T)) p c
        good = went-of (Good (piece_of (drop at T))) (turn_of T at s N) p c (turn-good max_level max_nodes (tally_in s) at (place_of T N s.rooted s.depth) w.names (drop at T)) e

    pub walk-goes : (p : markup.Piece) → p ≡ piece_at T at → Walk T N' p.end t
    unfolding piece_at size
    walk-goes p e = subst (λ i. Walk T N' i t) (sym (ap (λ (p : markup.Piece). p.end) e)) (goes_by (turn_of T at s N) refl told)

    moves-by : (x : turns.Turn) → turn_of T at s N ≡ x → Told x T (Continue t) N' → 1 ≤ size
    unfolding size
    moves-by (halt q) e h = absurd h
    moves-by (go p c) e h =
        (went-of (Good (piece_of (drop at T))) (turn_of T at s N) p c (turn-good max_level max_nodes (tally_in s) at (place_of T N s.rooted s.depth) w.names (drop at T)) e).moves

    pub walk-less : (p : markup.Piece) → p ≡ piece_at T at → length T - p.end < length T - at
    unfolding piece_at size
    walk-less p e =
        omega
        (arith, ap (λ (p : markup.Piece). p.end) e, moves-by (turn_of T at s N) refl told, piece_le (drop at T), length-drop at T, w.place)
