-- Known words. Assumes nothing.
--   known_in_tree, in_tree-known   in a right index a word is known exactly if it is in the tree
--   unknown_lowest                 a place below p that `unknown_word` gives is that of the lowest positive word not in the tree
--   all_known, known-all           it gives p exactly if every positive word is in the tree
--   unknown_has, has_unknown       and a place below p exactly if some positive word has an empty list
--   Moves, moves-..                the loop over the ends, and how a turn keeps what it knows
--   lowest_unknown                 what the loop finds is the lowest unknown word
-- Letters: I index; k words, j word; begin where word j's list begins.
use Prim.Native.Nat.{ℕ, ◌+◌, ◌-◌, ◌≤◌, ◌<◌}
use mathlib.Core.Path.{◌≡◌, refl, sym, ap, ◌∙◌}
use mathlib.Core.Logic.{⊎_elim}
use mathlib.Core.List.{List}
use mathlib.Core.Bool.{true, not}
use native.Mathlib.Nat.{le_antisymm, not-le_of_lt}
use native.Mathlib.Numerals.{add-one}
use native.Mathlib.Omega.{arith}
use borrow.Author.Tests.{le-leb, leb-true, leb-false, eq-eqb, eqb-true}
use lib.Dec.{eqb, leb}
use lib.ListN.{length, get_or, drop, length-drop}
use lib.Seq.{length-take-le}
use Rattle.std.specs.Prelude.{Option, Some, None}
use Rattle.seq.specs.Below.{Lowest}
use Rattle.seq.specs.Plain.{LowestBad}
use Rattle.seq.proofs.Laws.Bools.{bool_ext, not-of, not_at}
use Rattle.seq.proofs.Laws.Numbers.{less_or}
use Rattle.seq.proofs.Laws.Below.{first_below, first-at, first-all}
use Rattle.seq.proofs.Laws.Plain.{lowest-first}
use Rattle.seq.proofs.Laws.Scan.{Scan, scan-start, scan_step, scan-found, scan-none, lowest_ext}
use Rattle.index.specs.Index.{Index, nodes, start, word_list, wanted}
use Rattle.index.specs.Plain.{WordKept, ListsKept}
use Rattle.known.specs.Known.{known, unknown_word}
use Rattle.known.specs.Plain.{InTree, AllInTree, HasUnknown}
use Rattle.known.specs.Inner.{end_moves}

-- ---- what known means
pub in_tree-known : (I : Index) (j : ℕ) → InTree I j → known I j ≡ true
unfolding known
in_tree-known I j t = le-leb 1 (length (wanted I j)) (omega (arith, t.within))

pub all_known : (I : Index) → AllInTree I → unknown_word I ≡ I.positive
unfolding unknown_word
all_known I h = first-all I.positive (known I) (λ j l. in_tree-known I j (h j l))

module _ (I : Index) (kept : ListsKept I) (some : I.positive ≤ length I.ends) where
  pub known_in_tree : (j : ℕ) → j < I.positive → known I j ≡ true → InTree I j
  unfolding known
  known_in_tree j l e =
      let one : 1 ≤ length (wanted I j) = leb-true 1 (length (wanted I j)) e in
      record { place = 0; within = omega (arith, one); node = (kept j (omega arith)).list.below 0 (omega (arith, one)) }

  pub known-all : I.positive ≤ unknown_word I → AllInTree I
  unfolding unknown_word
  known-all h j l = known_in_tree j l (first_below I.positive (known I) j (omega arith))

  pub unknown_lowest : unknown_word I < I.positive → LowestBad I.positive (InTree I) (unknown_word I)
  unfolding unknown_word
  unknown_lowest = lowest-first I.positive (known I) (InTree I) known_in_tree (λ j l. in_tree-known I j)

pub unknown_has : (I : Index) → unknown_word I < I.positive → HasUnknown I
unfolding unknown_word known
unknown_has I l = record {
  word = unknown_word I;
  positive = l;
  empty = omega (arith, leb-false 1 (length (wanted I (unknown_word I))) (first-at I.positive (known I) l));
}

pub has_unknown : (I : Index) → HasUnknown I → unknown_word I < I.positive
unfolding unknown_word known
has_unknown I u =
    ⊎_elim (λ l. l) (λ l. absurd (not-le_of_lt (leb-true 1 (length (wanted I u.word)) (at u.word (omega (arith, l, u.positive)))) (omega (arith, u.empty))))
    (less_or (unknown_word I) I.positive)
  where
    at : (j : ℕ) → j < unknown_word I → leb 1 (length (wanted I j)) ≡ true
    at = first_below I.positive (known I)

-- ---- the loop over the ends
pub record Moves (k : ℕ) (ends : List ℕ) (j begin : ℕ) : Type 0 where
  pub scan : Scan k (end_moves ends) j
  pub begins : begin ≡ start ends j

pub moves-start : (k : ℕ) (ends : List ℕ) → Moves k ends 0 0
unfolding start
moves-start k ends = record { scan = scan-start k (end_moves ends); begins = refl }

module _ (k : ℕ) (ends : List ℕ) (j begin : ℕ) (m : Moves k ends j begin) where
  pub moves-stop : j < k → get_or ends j 0 ≡ begin → Lowest k (end_moves ends) (Some j)
  unfolding end_moves
  moves-stop l q = scan-found k (end_moves ends) j m.scan l (ap not (eq-eqb (get_or ends j 0) (start ends j) (q ∙ m.begins)))

  pub moves-step : j < k → (get_or ends j 0 ≡ begin → ⊥) → Moves k ends (j + 1) (get_or ends j 0)
  unfolding end_moves start
  moves-step l ne = record {
    scan = scan_step k (end_moves ends) j m.scan l (not-of _ (λ q. ne (eqb-true (get_or ends j 0) (start ends j) q ∙ sym m.begins)));
    begins = rw (add-one j) refl;
  }

  pub moves-end : k ≤ j → Lowest k (end_moves ends) None
  moves-end h = scan-none k (end_moves ends) j m.scan h

-- ---- the ends tell which lists are empty
-- A list that keeps the rules is as long as its end is beyond the one before it.
word-long : (n : ℕ) (ends occ : List ℕ) (j : ℕ) → WordKept n ends occ j → length (word_list ends occ j) ≡ get_or ends j 0 - start ends j
unfolding word_list
word-long n ends occ j kept = length-take-le _ (drop (start ends j) occ) (omega (arith, length-drop (start ends j) occ, kept.within))

-- So it is empty exactly if its end is not another.
moves-known : (I : Index) (j : ℕ) → WordKept (nodes I) I.ends I.occurrences j → end_moves I.ends j ≡ known I j
unfolding end_moves known
moves-known I j kept =
    bool_ext _ _
    (λ q. le-leb 1 (length (wanted I j)) (⊎_elim (λ l. omega (arith, long, l)) (λ l. absurd (not_at _ q (eq-eqb (get_or I.ends j 0) (start I.ends j) (le_antisymm l kept.rising))))
    (less_or (start I.ends j) (get_or I.ends j 0))))
    (λ q. not-of _ (λ (z : eqb (get_or I.ends j 0) (start I.ends j) ≡ true). not-le_of_lt (leb-true 1 (length (wanted I j)) q) (omega (arith, long, eqb-true (get_or I.ends j 0) (start I.ends j) z))))
  where
    long : length (wanted I j) ≡ get_or I.ends j 0 - start I.ends j
    long = word-long (nodes I) I.ends I.occurrences j kept

pub lowest_unknown : (I : Index) → ListsKept I → I.positive ≤ length I.ends → (r : Option ℕ) → Lowest I.positive (end_moves I.ends) r → Lowest I.positive (known I) r
lowest_unknown I kept some r = lowest_ext I.positive (end_moves I.ends) (known I) (λ j l. moves-known I j (kept j (omega arith))) r
