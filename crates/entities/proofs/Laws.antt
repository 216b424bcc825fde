-- Laws of the row of closest entities: when rows stay, what stands over their front, and that no second outcome fits. Assumes nothing.
-- Letters: p parents, t tags, w rows; v node; a, the row of closest entities as the code has it.
use Prim.Native.Nat.{ℕ, ◌*◌, ◌≤◌, ◌<◌}
use mathlib.Core.Path.{◌≡◌, refl, sym, ap, ap₂, ◌∙◌}
use mathlib.Core.List.{List, [], ◌++◌, append_assoc}
use mathlib.Core.Bool.{true, false}
use mathlib.Core.Logic.{⊎_elim}
use native.Mathlib.Omega.{arith}
use borrow.Author.Tests.{leb-true, eqb-true}
use lib.Dec.{eqb, leb}
use lib.ListN.{length, get_or, take, drop, replicate, length-append, length-replicate, get_or-append, drop_of_length-le}
use lib.Seq.{length-take-le, get_or-take, drop_at, ext_get_or}
use Rattle.seq.specs.Below.{tabulate}
use Rattle.seq.specs.Memory.{over}
use Rattle.seq.proofs.Laws.Bools.{bool_cases, and_left, and_right}
use Rattle.seq.proofs.Laws.Memory.{length_over}
use Rattle.seq.proofs.Laws.Gather.{length-tabulate, get_d_tabulate}
use Rattle.tree.specs.Rules.{tree_bad}
use Rattle.tree.specs.Plain.{Lawful}
use Rattle.tree.proofs.Laws.Under.{parents-before}
use Rattle.tree.proofs.Laws.Rules.{lawful-of}
use Rattle.answers.specs.Classes.{closest}
use Rattle.types.specs.Repeated.{repeat_flag, fits_types, flag_rows, repeat_rows}
use Rattle.types.proofs.Laws.{length-flag_rows, repeat_fit, repeat_unfit}
use Rattle.entities.specs.Inner.{Holds, TreePre}
use Rattle.entities.specs.Closest.{closest_rows}

flags-at : (p t : List ℕ) (v : ℕ) → v < length p → get_or (flag_rows p t) v 0 ≡ repeat_flag p t v
unfolding flag_rows
flags-at p t v l =
    get_or-append (tabulate (length p) (repeat_flag p t)) _ 0 v (omega (arith, length-tabulate (length p) (repeat_flag p t))) ∙ get_d_tabulate (length p) (repeat_flag p t) v 0 l

-- A row of n entries and two of zeros, written over the front.
over-rows : (n : ℕ) (x w : List ℕ) → length x ≡ n → over (x ++ replicate (n * 2) 0) w ≡ x ++ (replicate (n * 2) 0 ++ drop (n * 3) w)
unfolding over
over-rows n x w e = append_assoc x (replicate (n * 2) 0) _ ∙ ap (λ (k : ℕ). x ++ (replicate (n * 2) 0 ++ drop k w)) three
  where
    three : length (x ++ replicate (n * 2) 0) ≡ n * 3
    three = omega (arith, length-append x (replicate (n * 2) 0), length-replicate {A = ℕ} (n * 2) 0)

-- What is behind the flags.
behind-flags : (p t w : List ℕ) → drop (length p) (over (flag_rows p t) w) ≡ replicate (length p * 2) 0 ++ drop (length p * 3) w
unfolding flag_rows
behind-flags p t w =
    ap (drop (length p)) (over-rows (length p) (tabulate (length p) (repeat_flag p t)) w (length-tabulate (length p) (repeat_flag p t)))
    ∙ drop_at (tabulate (length p) (repeat_flag p t)) _ (length p) (length-tabulate (length p) (repeat_flag p t))

module _ (p t w : List ℕ) where
  -- Where the types do not fit, nothing is written.
  pub closest_unfit : fits_types p t (length w) ≡ false → repeat_rows p t w ≡ closest_rows p t w
  unfolding closest_rows
  closest_unfit e = rw e (repeat_unfit p t w e)

  -- Where they fit, the closest entities and two rows of zeros stand over their front.
  pub closest-fit : fits_types p t (length w) ≡ true → closest_rows p t w ≡ over (tabulate (length p) (closest p t) ++ replicate (length p * 2) 0) w
  unfolding closest_rows
  closest-fit e = rw e

  -- w₁ is what `flag_repeated` leaves.
  module _ (fit : fits_types p t (length w) ≡ true) (w₁ : List ℕ) (e₁ : w₁ ≡ repeat_rows p t w) where
    few : length p ≤ 65536
    unfolding fits_types
    few = leb-true (length p) 65536 (and_left _ _ fit)

    tagged : length t ≡ length p
    unfolding fits_types
    tagged = eqb-true (length t) (length p) (and_left _ _ (and_right (leb (length p) 65536) _ fit))

    room : length p * 3 ≤ length w
    unfolding fits_types
    room = leb-true (length p * 3) (length w) (and_left _ _ (and_right (eqb (length t) (length p)) _ (and_right (leb (length p) 65536) _ fit)))

    tree : Lawful p t
    unfolding fits_types
    tree = lawful-of p t (omega (arith, eqb-true (tree_bad p t) (length p) (and_right (leb (length p * 3) (length w)) _ (and_right (eqb (length t) (length p)) _ (and_right (leb (length p) 65536) _ fit)))))

    flagged : w₁ ≡ over (flag_rows p t) w
    flagged = e₁ ∙ repeat_fit p t w fit

    pub closest-length : length w₁ ≡ length w
    closest-length = ap length flagged ∙ length_over (flag_rows p t) w (omega (arith, length-flag_rows p t, room))

    pub closest-nodes : length p ≤ length w₁
    closest-nodes = omega (arith, closest-length, room)

    pub closest-pre : (length p ≡ 0 → ⊥) → TreePre p t (repeat_flag p t) (take (length p) w₁)
    unfolding over
    closest-pre ne = record {
      some = omega arith;
      few = few;
      tagged = tagged;
      down = parents-before p (length p) tree.preorder;
      row = record {
        long = length-take-le (length p) w₁ closest-nodes;
        holds = λ v l.
            get_or-take (length p) w₁ v 0 l ∙ ap (λ (x : List ℕ). get_or x v 0) flagged ∙ get_or-append (flag_rows p t) _ 0 v (omega (arith, length-flag_rows p t))
            ∙ flags-at p t v l;
      };
    }

    pub closest-made : (a : List ℕ) → Holds (length p) (closest p t) a → a ++ drop (length p) w₁ ≡ closest_rows p t w
    closest-made a h =
        ap₂ (λ (x y : List ℕ). x ++ y) row (ap (drop (length p)) flagged ∙ behind-flags p t w)
        ∙ sym (closest-fit fit ∙ over-rows (length p) (tabulate (length p) (closest p t)) w (length-tabulate (length p) (closest p t)))
      where
        row : a ≡ tabulate (length p) (closest p t)
        row =
            ext_get_or 0 a (tabulate (length p) (closest p t)) (h.long ∙ sym (length-tabulate (length p) (closest p t)))
            (λ v l. h.holds v (omega (arith, h.long)) ∙ sym (get_d_tabulate (length p) (closest p t) v 0 (omega (arith, h.long))))

    -- With no node there is nothing to write.
    pub closest-empty : length p ≡ 0 → w₁ ≡ closest_rows p t w
    closest-empty z =
        ap₂ (λ (x : List ℕ) (k : ℕ). x ++ drop k w₁) (sym none) (sym z)
        ∙ closest-made (tabulate (length p) (closest p t))
        (record { long = length-tabulate (length p) (closest p t); holds = λ v l. get_d_tabulate (length p) (closest p t) v 0 l })
      where
        none : tabulate (length p) (closest p t) ≡ []
        none = drop_of_length-le (tabulate (length p) (closest p t)) {i = 0} (omega (arith, length-tabulate (length p) (closest p t)))

-- Rows keep their length.
pub length-closest_rows : (p t w : List ℕ) → length (closest_rows p t w) ≡ length w
length-closest_rows p t w = ⊎_elim fits (λ q. ap length (sym (closest_unfit p t w q) ∙ repeat_unfit p t w q)) (bool_cases (fits_types p t (length w)))
  where
    rows : length (tabulate (length p) (closest p t) ++ replicate (length p * 2) 0) ≡ length p * 3
    rows = omega (arith, length-append (tabulate (length p) (closest p t)) (replicate (length p * 2) 0), length-tabulate (length p) (closest p t), length-replicate {A = ℕ} (length p * 2) 0)

    fits : fits_types p t (length w) ≡ true → length (closest_rows p t w) ≡ length w
    fits q = ap length (closest-fit p t w q) ∙ length_over _ w (omega (arith, rows, room p t w q (repeat_rows p t w) refl))

-- ---- no second outcome fits
pub closest_unique : (p t w w' w'' : List ℕ) → w' ≡ closest_rows p t w → w'' ≡ closest_rows p t w → w' ≡ w''
closest_unique p t w w' w'' a b = a ∙ sym b
