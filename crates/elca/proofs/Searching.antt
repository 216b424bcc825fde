-- The search step by step, from zeros to answers: what stands in work after each step. Assumes nothing.
-- Letters: p parents, cs counts, w work as lent, w₁ w₂ w₃ after the full flags, the sums, the answers' flags; o out, s own; n nodes, k words; v node, j word.
use Prim.Native.Nat.{ℕ, ◌+◌, ◌-◌, ◌*◌, ◌≤◌, ◌<◌}
use mathlib.Core.Path.{◌≡◌, refl, sym, ap, ◌∙◌}
use mathlib.Core.List.{List, [], ◌∷◌, ◌++◌}
use mathlib.Core.Bool.{Bool, true, false, not, cond, ◌&&◌}
use native.Mathlib.Nat.{mul-le-mul_right, mul_comm}
use native.Mathlib.Omega.{arith}
use borrow.Rule.Slice.PartMut.{put_mid, same_len_mid, mid_of, post_of}
use lib.Dec.{eqb, ltb}
use lib.ListN.{length, get_or, take, drop, replicate, length-take, length-drop, length-replicate, get_or-replicate, get_or-append}
use lib.Seq.{length-take-le, get_or-take, get_or-append-add}
use Rattle.seq.specs.Below.{listed}
use Rattle.seq.proofs.Laws.Bools.{flag-some}
use Rattle.seq.proofs.Laws.Below.{every_ext}
use Rattle.seq.proofs.Laws.Sums.{sum_ext}
use Rattle.seq.proofs.Laws.Gather.{tabulate_ext, gather_ext}
use Rattle.tree.specs.Tree.{child}
use Rattle.index.specs.declared.Reply.{Reply}
use Rattle.index.specs.Replies.{accepted, ROOM, totalled, kept_or}
use Rattle.index.specs.Inner.{cell}
use Rattle.index.proofs.Laws.Cells.{cell_below}
use Rattle.answers.specs.Searches.{out_row}
use Rattle.full.specs.Full.{full_by, full_flags}
use Rattle.full.proofs.Laws.{full_flags-at, length-full_flags}
use Rattle.elca.specs.Inner.Rows.{flag_at, held_by, above_held, own_diff, SumsAndFlags}
use Rattle.elca.specs.Inner.Steps.{Grid, TakeOffPre, is_flagged, both_fit, Answered, PutPre, held_full, elca_by, SearchPre, ElcaFound}

-- ---- answers by one test and one count, or by equal ones
module _ (n k : ℕ) (f f' : ℕ → Bool) (g g' : ℕ → ℕ → ℕ) (ef : (v : ℕ) → v < n → f v ≡ f' v) (eg : (v j : ℕ) → v < n → j < k → g v j ≡ g' v j) where
  pub answered_ext : (o s : List ℕ) (r : Reply) (o' s' : List ℕ) → Answered n k f g o s r o' s' → Answered n k f' g' o s r o' s'
  unfolding listed
  answered_ext o s r o' s' a = record {
    reply = a.reply ∙ ap (λ (l : List ℕ). totalled (cond (both_fit k (length l) o s) accepted ROOM) (length l)) (gather_ext n f f' (λ v. v ∷ []) (λ v. v ∷ []) ef (λ v l. refl));
    out = a.out ∙ ap (λ (t : List ℕ). kept_or r t o) (gather_ext n f f' out_row out_row ef (λ v l. refl));
    own = a.own ∙ ap (λ (t : List ℕ). kept_or r t s) (gather_ext n f f' _ _ ef (λ v l. tabulate_ext k (g v) (g' v) (λ j h. eg v j l h)));
  }

-- ---- the steps
module _ (p cs : List ℕ) (k : ℕ) (w : List ℕ) (pre : SearchPre p cs k w) where
  abbrev pub n : ℕ
  n = length p

  long₀ : length w ≡ n * k + n
  long₀ = ap length pre.zeros ∙ length-replicate (n * k + n) 0

  pub small : n * k + n ≤ 655360
  small = omega (arith, pre.few_nodes, pre.few_words, mul_comm n k, mul-le-mul_right {m = k} {n = 8} n pre.few_words)

  pub used_in : n * k + n ≤ length w
  used_in = omega (arith, long₀)

  -- A node's flag, where it is full by the counts.
  abbrev bit : ℕ → ℕ
  bit v = cond (full_by cs n k v) 1 0

  zero-at : (e : ℕ) → e < n * k + n → get_or w e 0 ≡ 0
  zero-at e l = ap (λ (t : List ℕ). get_or t e 0) pre.zeros ∙ get_or-replicate (n * k + n) e 0 0 l

  -- After the full flags.
  module _ (fl : List ℕ) (ef : fl ≡ full_flags cs (length (mid_of (n * k) (n * k + n - n * k) w))) where
    abbrev pub w₁ : List ℕ
    w₁ = put_mid (n * k) (n * k + n - n * k) w fl

    mid_long : length (mid_of (n * k) (n * k + n - n * k) w) ≡ n
    mid_long = length-take (n * k + n - n * k) (drop (n * k) w) ∙ omega (arith, length-drop (n * k) w, long₀)

    fl-is : fl ≡ full_flags cs n
    fl-is = ef ∙ ap (full_flags cs) mid_long

    front_long : length (take (n * k) w) ≡ n * k
    front_long = length-take-le (n * k) w (omega (arith, long₀))

    rows₁ : SumsAndFlags n k (λ v j. 0) bit w₁
    rows₁ = record {
      long = same_len_mid (n * k) (n * k + n - n * k) w fl (ap length fl-is ∙ length-full_flags cs n ∙ sym mid_long) ∙ long₀;
      cells = λ v j a b.
          let l : v * k + j < n * k = cell_below n k v j a b in
          get_or-append (take (n * k) w) _ 0 (v * k + j) (omega (arith, front_long)) ∙ get_or-take (n * k) w (v * k + j) 0 l ∙ zero-at (v * k + j) (omega arith);
      flags = λ v l.
          ap (λ (z : ℕ). get_or w₁ (z + v) 0) (sym front_long) ∙ get_or-append-add (take (n * k) w) (fl ++ post_of (n * k) (n * k + n - n * k) w) v 0
          ∙ get_or-append fl _ 0 v (omega (arith, ap length fl-is, length-full_flags cs n))
          ∙ ap (λ (t : List ℕ). get_or t v 0) fl-is ∙ full_flags-at cs n k v pre.counted l;
    }

    grid-of : (x : List ℕ) → length x ≡ n * k + n → Grid n k cs x
    grid-of x e = record { counted = pre.counted; long = e; small = small }

    pub take-pre : TakeOffPre p cs k w₁
    take-pre = record {
      nodes = pre.nodes;
      grid = grid-of w₁ rows₁.long;
      down = pre.down;
      zeros = rows₁.cells;
      fits = pre.fits;
    }

    flag-full : (c : ℕ) → c < n → is_flagged n k w₁ c ≡ full_by cs n k c
    flag-full c l = ap (λ (x : ℕ). not (eqb x 0)) (rows₁.flags c l) ∙ flag-some (full_by cs n k c)

    held-full : (v j : ℕ) → held_by p cs (is_flagged n k w₁) v j ≡ held_full p cs k v j
    unfolding held_by held_full
    held-full v j = sum_ext n _ _ (λ c l. ap (λ (b : Bool). cond (child p v c && b) (get_or cs (j * n + c) 0) 0) (flag-full c l))

    -- After the sums.
    module _ (w₂ : List ℕ) (r₂ : SumsAndFlags n k (held_by p cs (is_flagged n k w₁)) (flag_at n k w₁) w₂) where
      pub above-pre : Grid n k cs w₂
      above-pre = grid-of w₂ r₂.long

      above-is : (v : ℕ) → v < n → above_held cs n k w₂ v ≡ elca_by p cs k v
      unfolding above_held elca_by
      above-is v l = every_ext k _ _ (λ j h. ap (λ (x : ℕ). ltb x (get_or cs (j * n + v) 0)) (r₂.cells v j l h ∙ held-full v j))

      -- After the answers' flags.
      module _ (w₃ : List ℕ) (r₃ : SumsAndFlags n k (cell k w₂) (λ v. cond (above_held cs n k w₂ v) 1 0) w₃) where
        held-here : (v j : ℕ) → v < n → j < k → cell k w₃ v j ≡ held_full p cs k v j
        held-here v j a b = r₃.cells v j a b ∙ r₂.cells v j a b ∙ held-full v j

        pub put-pre : PutPre n k cs w₃
        put-pre = record {
          grid = grid-of w₃ r₃.long;
          few_nodes = pre.few_nodes;
          few_words = pre.few_words;
          below = λ v j a b. omega (arith, held-here v j a b, pre.below v j a b);
        }

        listed-is : (v : ℕ) → v < n → eqb (flag_at n k w₃ v) 1 ≡ elca_by p cs k v
        listed-is v l = ap (λ (x : ℕ). eqb x 1) (r₃.flags v l) ∙ one (above_held cs n k w₂ v) ∙ above-is v l
          where
            one : (b : Bool) → eqb (cond b 1 0) 1 ≡ b
            one true = refl
            one false = refl

        pub found : (o s : List ℕ) (r : Reply) (o' s' w₄ : List ℕ) → Answered n k (λ v. eqb (flag_at n k w₃ v) 1) (own_diff cs n k w₃) o s r o' s' →
            w₄ ≡ replicate (length w₃) 0 → ElcaFound p cs k w o s r w₄ o' s'
        found o s r o' s' w₄ a e = record {
          answers = answered_ext n k _ _ _ _ listed-is (λ v j l h. ap (λ (x : ℕ). get_or cs (j * n + v) 0 - x) (held-here v j l h)) o s r o' s' a;
          work = e ∙ ap (λ (z : ℕ). replicate z 0) r₃.long ∙ sym pre.zeros;
        }
