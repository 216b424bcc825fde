-- The counts, from flags: the loops of `sum_row` and `sum_rows`, over the laws of the count check's sums with one word.
--   sum-pre, row-*           one row, from the last node to the first
--   AllSums, all-sums-*      row after row
-- Letters: p parents, w row, c counts, k words, v node, j word. Assumes nothing.
use Prim.Native.Nat.{ℕ, zero, suc, zero-le, ◌+◌, ◌*◌, ◌-◌, ◌≤◌, ◌<◌, ◌^◌}
use mathlib.Core.Path.{◌≡◌, refl, sym, ap, ap₂, subst, ◌∙◌}
use mathlib.Core.Logic.{◌⊎◌, ⊎_elim}
use mathlib.Core.List.{List, ◌++◌}
use mathlib.Core.Bool.{false, cond}
use native.Mathlib.Nat.{not-suc-le-zero, eq-or-lt_of_le, mul-one, add-mul, one-mul, mul-le-mul_right}
use native.Mathlib.Omega.{arith}
use lib.Dec.{eqb}
use lib.ListN.{length, get_or, take, drop, set, length-set, length-drop, length-append, get_or-append}
use lib.Seq.{get_or-set_same, get_or-set_other, length-take-le, get_or-take, get_or-drop, drop_at, drop-drop}
use borrow.Author.Tests.{eqb-true, eqb-false}
use Rattle.seq.specs.Below.{sum_below}
use Rattle.seq.proofs.Laws.Bools.{bool_cases}
use Rattle.seq.proofs.Laws.Sums.{sum-zero, sum-suc, sum_ext, sum_mono}
use Rattle.tree.specs.Tree.{parent, under, sum_under}
use Rattle.index.specs.Inner.{cell, SumPre}
use borrow.Rule.Slice.PartMut.{mid_of, put_mid, mid_len}
use Rattle.index.proofs.Laws.Cells.{cell_below}
use Rattle.index.proofs.Summing.{Summing, summing_start, up-less, hand_pre, summing_step, summing_end}
use Rattle.build.specs.Inner.{SumRowPre, SumsRow, SumRowsPre, SumsRows}

-- ---- one row: the sums of one word stand one behind the other
cell-one : (w : List ℕ) (v j : ℕ) → j < 1 → cell 1 w v j ≡ get_or w v 0
cell-one w v j l = let at : v * 1 + j ≡ v = omega (arith, mul-one v) in ap (λ (z : ℕ). get_or w z 0) at

-- Two rows with the same entries have the same sums.
under_ext : (p : List ℕ) (f g : ℕ → ℕ) (v : ℕ) → ((u : ℕ) → u < length p → f u ≡ g u) → sum_under p f v ≡ sum_under p g v
unfolding sum_under
under_ext p f g v h = sum_ext (length p) (λ u. cond (under p v u) (f u) 0) (λ u. cond (under p v u) (g u) 0) (λ u a. ap (λ (z : ℕ). cond (under p v u) z 0) (h u a))

pub sum-pre : (p w : List ℕ) → SumRowPre p w → SumPre p 1 w
sum-pre p w pre =
    record {
      down = pre.down;
      long = pre.long ∙ sym (mul-one (length p));
      small = omega (arith, mul-one (length p), pre.few);
      fits = λ j l. subst (λ (z : ℕ). z < 2 ^ 32) (sym (sum_ext (length p) (λ u. cell 1 w u j) (λ u. get_or w u 0) (λ u a. cell-one w u j l))) pre.fits;
    }

pub row-start : (p w : List ℕ) → SumRowPre p w → Summing p 1 w w (length p)
row-start p w pre = summing_start p 1 w (sum-pre p w pre)

module _ (p w₀ w : List ℕ) (i k : ℕ) (pre : SumRowPre p w₀) (ik : i ≡ suc k) (s : Summing p 1 w₀ w i) (h : 0 < k) (u : ℕ) (up : u ≡ parent p k) where
  here-long : length w ≡ length p
  here-long = s.long ∙ mul-one (length p)

  pub up_fits : u < length w
  up_fits = omega (arith, up, up-less p 1 w₀ w i k (sum-pre p w₀ pre) ik s h, s.within, here-long)

  pub node-fits : k < length w
  node-fits = omega (arith, s.within, here-long)

  pub up_small : u ≤ 65536
  up_small = omega (arith, up_fits, here-long, pre.few)

  pub sum_fits : get_or w u 0 + get_or w k 0 < 2 ^ 32
  sum_fits =
      subst (λ (z : ℕ). z < 2 ^ 32) (ap₂ ◌+◌ (cell-one w (parent p k) 0 (omega arith) ∙ ap (λ (z : ℕ). get_or w z 0) (sym up)) (cell-one w k 0 (omega arith)))
      ((hand_pre p 1 w₀ w i k (sum-pre p w₀ pre) ik s h).fits 0 (omega arith))

  pub row_step : Summing p 1 w₀ (set w u (get_or w u 0 + get_or w k 0)) k
  row_step =
      summing_step p 1 w₀ w i k (sum-pre p w₀ pre) ik s h (set w u (get_or w u 0 + get_or w k 0))
      (record {
        long = length-set w u (get_or w u 0 + get_or w k 0) ∙ s.long;
        holds = λ v j a l. cell-one (set w u (get_or w u 0 + get_or w k 0)) v j l ∙ handed-one v ∙ sym (ap₂ (λ (x y : ℕ). x + cond (eqb v (parent p k)) y 0) (cell-one w v j l) (cell-one w k j l));
      })
    where
      handed-one : (v : ℕ) → get_or (set w u (get_or w u 0 + get_or w k 0)) v 0 ≡ get_or w v 0 + cond (eqb v (parent p k)) (get_or w k 0) 0
      handed-one v =
          ⊎_elim
          (λ q. let same : v ≡ u = eqb-true v (parent p k) q ∙ sym up in
          ap (λ (z : ℕ). get_or (set w u (get_or w u 0 + get_or w k 0)) z 0) same ∙ get_or-set_same w u (get_or w u 0 + get_or w k 0) 0 up_fits ∙
          ap₂ (λ (x : ℕ) z. get_or w x 0 + cond z (get_or w k 0) 0) (sym same) (sym q))
          (λ q. get_or-set_other w u v (get_or w u 0 + get_or w k 0) 0 (λ e. eqb-false v (parent p k) q (e ∙ up)) ∙ none v q)
          (bool_cases (eqb v (parent p k)))
        where
          none : (v : ℕ) → eqb v (parent p k) ≡ false → get_or w v 0 ≡ get_or w v 0 + cond (eqb v (parent p k)) (get_or w k 0) 0
          none v q = let zero_more : get_or w v 0 ≡ get_or w v 0 + 0 = omega arith in zero_more ∙ ap (λ z. get_or w v 0 + cond z (get_or w k 0) 0) (sym q)

pub row-end : (p w₀ w : List ℕ) (i : ℕ) → Summing p 1 w₀ w i → i ≤ 1 → SumsRow p w₀ w
row-end p w₀ w i s l =
    let r = summing_end p 1 w₀ w i s l in
    record {
      long = s.long ∙ mul-one (length p);
      each = λ v a. sym (cell-one w v 0 (omega arith)) ∙ r.holds v 0 a (omega arith) ∙ under_one v;
    }
  where
    under_one : (v : ℕ) → sum_under p (λ u. cell 1 w₀ u 0) v ≡ sum_under p (λ u. get_or w₀ u 0) v
    under_one v = under_ext p (λ u. cell 1 w₀ u 0) (λ u. get_or w₀ u 0) v (λ u a. cell-one w₀ u 0 (omega arith))

-- ---- row after row
-- A part of a list, put back: before it, in it, behind it.
module _ (c : List ℕ) (a n : ℕ) (fits : a + n ≤ length c) (w : List ℕ) (l : length w ≡ n) where
  abbrev back : List ℕ
  back = take a c ++ (w ++ drop n (drop a c))

  front_long : length (take a c) ≡ a
  front_long = length-take-le a c (omega arith)

  pub back_long : length back ≡ length c
  back_long = omega (arith, length-append (take a c) (w ++ drop n (drop a c)), length-append w (drop n (drop a c)), length-drop n (drop a c), length-drop a c, front_long, l)

  pub back-before : (e : ℕ) → e < a → get_or back e 0 ≡ get_or c e 0
  back-before e h = get_or-append (take a c) (w ++ drop n (drop a c)) 0 e (omega (arith, front_long)) ∙ get_or-take a c e 0 h

  behind-front : drop a back ≡ w ++ drop n (drop a c)
  behind-front = drop_at (take a c) (w ++ drop n (drop a c)) a front_long

  pub back_in : (v : ℕ) → v < n → get_or back (a + v) 0 ≡ get_or w v 0
  back_in v h = sym (get_or-drop a back v 0) ∙ ap (λ z. get_or z v 0) behind-front ∙ get_or-append w (drop n (drop a c)) 0 v (omega (arith, l))

  pub back-behind : (e : ℕ) → a + n ≤ e → get_or back e 0 ≡ get_or c e 0
  back-behind e h =
      let at : e ≡ a + n + (e - (a + n)) = omega arith in
      ap (λ (z : ℕ). get_or back z 0) at ∙ sym (get_or-drop (a + n) back (e - (a + n)) 0) ∙ ap (λ z. get_or z (e - (a + n)) 0) same ∙
      get_or-drop (a + n) c (e - (a + n)) 0 ∙ ap (λ (z : ℕ). get_or c z 0) (sym at)
    where
      same : drop (a + n) back ≡ drop (a + n) c
      same = sym (drop-drop n a back) ∙ ap (drop n) behind-front ∙ drop_at w (drop n (drop a c)) n l ∙ drop-drop n a c

pub record AllSums (p : List ℕ) (k : ℕ) (c₀ c : List ℕ) (j : ℕ) : Type 0 where
  pub within : j ≤ k
  pub long : length c ≡ k * length p
  pub done : (y v : ℕ) → y < j → v < length p → get_or c (y * length p + v) 0 ≡ sum_under p (λ u. get_or c₀ (y * length p + u) 0) v
  pub rest : (e : ℕ) → j * length p ≤ e → get_or c e 0 ≡ get_or c₀ e 0

pub all-sums-start : (p : List ℕ) (k : ℕ) (c : List ℕ) → SumRowsPre p k c → AllSums p k c c 0
all-sums-start p k c pre = record { within = zero-le; long = pre.long; done = λ y v l. absurd (not-suc-le-zero l); rest = λ e l. refl }

module _ (p : List ℕ) (k : ℕ) (c₀ c : List ℕ) (j : ℕ) (pre : SumRowsPre p k c₀) (s : AllSums p k c₀ c j) (l : j < k) where
  abbrev n : ℕ
  n = length p

  abbrev r : ℕ
  r = j * n

  next_row : j * length p + length p ≡ (j + 1) * length p
  next_row = omega (arith, add-mul j 1 n, one-mul n)

  row_fits : r + n ≤ length c
  row_fits = omega (arith, next_row, s.long, mul-le-mul_right {m = j + 1} {n = k} n (omega arith))

  same-n : (j + 1) * n - r ≡ n
  same-n = omega (arith, next_row)

  -- The row that is summed.
  pub row-pre : SumRowPre p (mid_of r ((j + 1) * n - r) c)
  row-pre =
      record {
        down = pre.down;
        long = mid_len r ((j + 1) * n) c (omega (arith, row_fits, next_row)) ∙ same-n;
        few = pre.few;
        fits = omega (arith, sum_mono n (λ u. get_or (mid_of r ((j + 1) * n - r) c) u 0) (λ u. 1) bit, sum_ones n, pre.few);
      }
    where
      bit : (u : ℕ) → u < n → get_or (mid_of r ((j + 1) * n - r) c) u 0 ≤ 1
      bit u a =
          subst (λ (z : ℕ). z ≤ 1) (sym (ap (λ (z : ℕ). get_or (take z (drop r c)) u 0) same-n ∙ get_or-take n (drop r c) u 0 a ∙ get_or-drop r c u 0 ∙ s.rest (r + u) (omega arith)))
          (pre.bits j u l a)

      sum_ones : (m : ℕ) → sum_below m (λ u. 1) ≡ m
      sum_ones zero = sum-zero _
      sum_ones (suc m) = sum-suc m (λ u. 1) ∙ omega (arith, sum_ones m)

  module _ (w : List ℕ) (q : SumsRow p (mid_of r ((j + 1) * n - r) c) w) where
    here-is : put_mid r ((j + 1) * n - r) c w ≡ back c r n row_fits w q.long
    here-is = ap (λ (z : ℕ). take r c ++ (w ++ drop z (drop r c))) same-n

    pub all-sums-step : AllSums p k c₀ (put_mid r ((j + 1) * n - r) c w) (j + 1)
    all-sums-step =
        record {
          within = omega arith;
          long = ap length here-is ∙ back_long c r n row_fits w q.long ∙ s.long;
          done = λ y v a b. ap (λ z. get_or z (y * n + v) 0) here-is ∙ ⊎_elim (λ (z : y ≡ j). own y v b z) (λ (z : y < j). back-before c r n row_fits w q.long (y * n + v) (omega (arith, cell_below j n y v z b)) ∙ s.done y v z b) (split y a);
          rest = λ e a. ap (λ z. get_or z e 0) here-is ∙ back-behind c r n row_fits w q.long e (omega (arith, next_row)) ∙ s.rest e (omega (arith, next_row));
        }
      where
        split : (y : ℕ) → y < j + 1 → (y ≡ j) ⊎ (y < j)
        split y a = eq-or-lt_of_le (omega arith)

        entry : (u : ℕ) → u < n → get_or (mid_of r ((j + 1) * n - r) c) u 0 ≡ get_or c₀ (r + u) 0
        entry u a = ap (λ (z : ℕ). get_or (take z (drop r c)) u 0) same-n ∙ get_or-take n (drop r c) u 0 a ∙ get_or-drop r c u 0 ∙ s.rest (r + u) (omega arith)

        own : (y v : ℕ) → v < n → y ≡ j → get_or (back c r n row_fits w q.long) (y * n + v) 0 ≡ sum_under p (λ u. get_or c₀ (y * n + u) 0) v
        own y v b z =
            let at : r ≡ y * n = ap (λ (x : ℕ). x * n) (sym z) in
            ap (λ (x : ℕ). get_or (back c r n row_fits w q.long) (x + v) 0) (sym at) ∙ back_in c r n row_fits w q.long v b ∙ q.each v b ∙
            under_ext p (λ u. get_or (mid_of r ((j + 1) * n - r) c) u 0) (λ u. get_or c₀ (y * n + u) 0) v (λ u a. entry u a ∙ ap (λ (x : ℕ). get_or c₀ (x + u) 0) at)

pub all-sums-end : (p : List ℕ) (k : ℕ) (c₀ c : List ℕ) (j : ℕ) → AllSums p k c₀ c j → k ≤ j → SumsRows p k c₀ c
all-sums-end p k c₀ c j s l = record { long = s.long; each = λ y v a b. s.done y v (omega (arith, s.within)) b }
