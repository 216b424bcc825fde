-- Laws of the names of a row of nodes, and of the numbering's contract.
--   length-names, names_at   there is a name for each mark
--   fits-of, fits-at         the test in plain statements
--   number_unique            no second outcome fits `number`
-- Letters as in specs/Names. Assumes nothing.
use Prim.Native.Nat.{ℕ, zero, suc, ◌+◌, ◌*◌, ◌<◌}
use mathlib.Core.Path.{◌≡◌, refl, sym, ap, ◌∙◌}
use mathlib.Core.List.{List, [], ◌∷◌}
use mathlib.Core.Bool.{Bool, true, cond, ◌&&◌}
use native.Mathlib.Nat.{not-suc-le-zero, le_of_suc-le-suc}
use native.Mathlib.Omega.{arith}
use lib.Dec.{leb}
use lib.ListN.{length, get_or, drop}
use lib.Seq.{get_or-drop}
use borrow.Author.Tests.{le-leb, leb-true}
use Rattle.seq.specs.Memory.{zeroed}
use Rattle.seq.proofs.Laws.Bools.{and_both, and_left, and_right}
use Rattle.profile.specs.Tags.{tags_of}
use Rattle.names.specs.Names.{name_of, names, fits, Numbered}
use Rattle.names.specs.Inner.Calls.{Fit}

pub length-names : (t ms fs : List ℕ) → length (names t ms fs) ≡ length ms
unfolding names
length-names t [] fs = refl
length-names t (m ∷ ms) fs = ap suc (length-names t ms (drop 1 fs))

pub names_at : (t ms fs : List ℕ) (v : ℕ) → v < length ms → get_or (names t ms fs) v [] ≡ name_of t (get_or ms v 0) (get_or fs v 0)
unfolding names
names_at t [] fs v l = absurd (not-suc-le-zero l)
names_at t (m ∷ ms) fs zero l = refl
names_at t (m ∷ ms) fs (suc v) l =
    names_at t ms (drop 1 fs) v (le_of_suc-le-suc l) ∙ ap (name_of t (get_or ms v 0)) (get_or-drop 1 fs v 0 ∙ ap (λ (k : ℕ). get_or fs k 0) next)
  where
    next : 1 + v ≡ suc v
    next = omega arith

-- ---- the contract
module _ (t fs ms w : List ℕ) where
  pub fits-of : Fit t fs ms w → fits t fs ms w ≡ true
  unfolding fits
  fits-of f =
      and_both _ _ (and_both _ _ (and_both _ _ (le-leb _ _ f.few) (le-leb _ _ f.placed)) (le-leb _ _ f.long)) (le-leb _ _ f.short)

  pub fits-at : fits t fs ms w ≡ true → Fit t fs ms w
  unfolding fits
  fits-at e =
      let three : (leb (length ms) 65536 && leb (length ms) (length fs) && leb (3 * length ms) (length w)) ≡ true = and_left _ _ e in
      let two : (leb (length ms) 65536 && leb (length ms) (length fs)) ≡ true = and_left _ _ three in
      record {
        few = leb-true (length ms) 65536 (and_left _ _ two);
        placed = leb-true (length ms) (length fs) (and_right (leb (length ms) 65536) _ two);
        long = leb-true (3 * length ms) (length w) (and_right (leb (length ms) 65536 && leb (length ms) (length fs)) _ three);
        short = leb-true (length t) 16777216 (and_right (leb (length ms) 65536 && leb (length ms) (length fs) && leb (3 * length ms) (length w)) _ e);
      }

  pub number_unique : (a a' b b' : List ℕ) (r r' : Bool) → Numbered t fs ms w a b r → Numbered t fs ms w a' b' r' → (r ≡ r') × ((a ≡ a') × (b ≡ b'))
  number_unique a a' b b' r r' x y =
      (same, (x.tags ∙ ap (λ (k : Bool). cond k (tags_of (names t ms fs)) ms) same ∙ sym y.tags, x.work ∙ ap (λ (k : Bool). cond k (zeroed (3 * length ms) w) w) same ∙ sym y.work))
    where
      same : r ≡ r'
      same = x.reply ∙ sym y.reply
