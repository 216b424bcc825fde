-- The rows of tops and of words seen: what the loops over them know, and how a turn keeps it. Assumes nothing.
--   Pointing   the loop that passes the tops down
--   Seeing     the loop over one word's list
--   Words      the loop over the words
--   Settling   the loop that makes the flags
-- Letters: p parents, k words; g negators, m marks, w tops, z words seen, z₀ as they were lent; l list; v u s a nodes, x occurrence, j word, i place in the list.
use Prim.Native.Nat.{ℕ, zero, suc, ◌+◌, ◌-◌, ◌≤◌, ◌<◌}
use mathlib.Core.Path.{◌≡◌, refl, sym, ap, ap₂, ◌∙◌, subst}
use mathlib.Core.Logic.{◌⊎◌, ⊎_elim}
use mathlib.Core.List.{List}
use mathlib.Core.Bool.{Bool, true, false, cond, ◌&&◌, ◌||◌, or-false, or-true}
use native.Mathlib.Numerals.{add-one}
use native.Mathlib.Omega.{arith}
use lib.Dec.{eqb}
use mir.Val.{bool_byte}
use borrow.Author.Tests.{eq-eqb, ne_eqb, eqb-true, eqb-false}
use lib.ListN.{length, get_or, set, take, drop, length-set, length-replicate, get_or-replicate}
use lib.Seq.{get_or-set_same, get_or-set_other}
use Rattle.seq.specs.Lists.{some_of, EachBelow}
use Rattle.seq.proofs.Laws.Bools.{bool_cases}
use Rattle.seq.proofs.Laws.Lists.{some_of-take-suc}
use Rattle.seq.proofs.Laws.Loops.{filled_more}
use Rattle.tree.specs.Tree.{parent}
use Rattle.tree.specs.Plain.{Down}
use Rattle.index.specs.Index.{start}
use Rattle.index.proofs.Laws.Lists.{part-is, part-below}
use Rattle.valid.specs.Inner.Tops.{top_above, top_here, top_by, PointPre, Saw, passed, saw, SeeListPre, points_in, SawList, reached, points, SeeWordsPre, flag_here}
use Rattle.valid.proofs.Above.{top_of-first, top_of-suc}
use Rattle.valid.proofs.Reached.{reached-zero, reached-suc}

-- ---- tops
-- The top of a node, from the tops before it.
module _ (p g m : List ℕ) (d : Down p (length p)) where
  top-down : (v : ℕ) → v < length p → (w : List ℕ) → ((u : ℕ) → u < v → get_or w u 0 ≡ top_by p m g u) →
      top_here (get_or m v 0) (get_or g v 0) v (top_above p w v) (length p) ≡ top_by p m g v
  unfolding top_here top_above
  top-down zero l w h = sym (top_of-first p d _ _)
  top-down (suc u) l w h =
      rw (ne_eqb (suc u) 0 (λ (q : suc u ≡ 0). omega arith), h (parent p (suc u)) (omega (arith, d u l))) (sym (top_of-suc p d _ _ u l))

pub record Pointing (p g m w : List ℕ) (v : ℕ) : Type 0 where
  pub long : length w ≡ length p
  pub done : (u : ℕ) → u < v → get_or w u 0 ≡ top_by p m g u
  pub rest : (u : ℕ) → v ≤ u → get_or w u 0 ≡ get_or m u 0

module _ (p g m : List ℕ) (pre : PointPre p g m) (w : List ℕ) (v : ℕ) (s : Pointing p g m w v) (h : v < length p) where
  pub pointing-step : (a r : ℕ) → a ≡ top_above p w v → r ≡ top_here (get_or w v 0) (get_or g v 0) v a (length p) → Pointing p g m (set w v r) (v + 1)
  pointing-step a r ea e = record {
    long = length-set w v r ∙ s.long;
    done = filled_more (top_by p m g) w v r s.done (omega (arith, s.long)) made;
    rest = λ u l. get_or-set_other w v u r 0 (λ (q : u ≡ v). omega arith) ∙ s.rest u (omega arith);
  }
    where
      made : r ≡ top_by p m g v
      made =
          e ∙ ap₂ (λ (x y : ℕ). top_here x (get_or g v 0) v y (length p)) (s.rest v (omega arith)) ea ∙ top-down p g m pre.down v h w s.done

-- ---- one word
-- What a node has seen when the first entries of the list have been.
abbrev seen_by : ℕ → List ℕ → List ℕ → List ℕ → ℕ → ℕ
seen_by j l w z₀ s = cond (eqb (get_or z₀ s 0) j && points_in w l s) (suc j) (get_or z₀ s 0)

pub record Seeing (j : ℕ) (l w z₀ z : List ℕ) (i : ℕ) : Type 0 where
  pub long : length z ≡ length z₀
  pub seen : (s : ℕ) → s < length z₀ → get_or z s 0 ≡ seen_by j (take i l) w z₀ s

module _ (j : ℕ) (l w z₀ : List ℕ) where
  pub seeing-start : Seeing j l w z₀ z₀ 0
  unfolding some_of
  seeing-start = record { long = refl; seen = λ s h. nothing (get_or z₀ s 0) (eqb (get_or z₀ s 0) j) }
    where
      nothing : (y : ℕ) (b : Bool) → y ≡ cond (b && false) (suc j) y
      nothing y true = refl
      nothing y false = refl

  module _ (z : List ℕ) (i : ℕ) (s : Seeing j l w z₀ z i) (h : i < length l) where
    -- The entry at hand, and its top.
    abbrev x : ℕ
    x = get_or l i 0

    abbrev top : ℕ
    top = get_or w x 0

    -- The entry at hand points to its top.
    more : (a : ℕ) → points_in w (take (i + 1) l) a ≡ (points_in w (take i l) a || eqb top a)
    more a = some_of-take-suc (λ y. eqb (get_or w y 0) a) l i h

    -- Another node has seen no more.
    elsewhere : (a : ℕ) → (top ≡ a → ⊥) → seen_by j (take i l) w z₀ a ≡ seen_by j (take (i + 1) l) w z₀ a
    elsewhere a ne =
        ap (λ (b : Bool). cond (eqb (get_or z₀ a 0) j && b) (suc j) (get_or z₀ a 0))
        (sym (more a ∙ ap (λ (b : Bool). points_in w (take i l) a || b) (ne_eqb top a ne) ∙ or-false (points_in w (take i l) a)))

    -- The top has seen the word, if it has seen those before.
    there : (a : ℕ) → top ≡ a → seen_by j (take (i + 1) l) w z₀ a ≡ cond (eqb (get_or z₀ a 0) j && true) (suc j) (get_or z₀ a 0)
    there a e =
        ap (λ (b : Bool). cond (eqb (get_or z₀ a 0) j && b) (suc j) (get_or z₀ a 0))
        (more a ∙ ap (λ (b : Bool). points_in w (take i l) a || b) (eq-eqb top a e) ∙ or-true (points_in w (take i l) a))

    -- By cases of what it had seen: b whether it is j, q whether an entry points to it already.
    already : (y : ℕ) (q : Bool) → (cond (eqb y j && q) (suc j) y ≡ j → ⊥) → cond (eqb y j && q) (suc j) y ≡ cond (eqb y j && true) (suc j) y
    already y true ne = refl
    already y false ne = ⊎_elim (λ b. absurd (ne (rw b (eqb-true y j b)))) (λ b. rw b) (bool_cases (eqb y j))

    just : (y : ℕ) (q : Bool) → cond (eqb y j && q) (suc j) y ≡ j → suc j ≡ cond (eqb y j && true) (suc j) y
    just y true e = ⊎_elim (λ b. absurd (no_more (rw b at e))) (λ b. absurd (eqb-false y j b (rw b at e))) (bool_cases (eqb y j))
      where
        no_more : suc j ≡ j → ⊥
        no_more z = omega arith
    just y false e = ⊎_elim (λ b. rw b) (λ b. absurd (eqb-false y j b (rw b at e))) (bool_cases (eqb y j))

    passing : (length z ≤ top) ⊎ (get_or z top 0 ≡ j → ⊥) → Seeing j l w z₀ z (i + 1)
    passing k = record { long = s.long; seen = λ a b. s.seen a b ∙ ⊎_elim (λ q. same a b (eqb-true top a q)) (λ q. elsewhere a (eqb-false top a q)) (bool_cases (eqb top a)) }
      where
        same : (a : ℕ) → a < length z₀ → top ≡ a → seen_by j (take i l) w z₀ a ≡ seen_by j (take (i + 1) l) w z₀ a
        same a b e =
            already (get_or z₀ a 0) (points_in w (take i l) a)
            (λ q. ⊎_elim (λ (y : length z ≤ top). not_top y) (λ y. y (ap (λ (u : ℕ). get_or z u 0) e ∙ s.seen a b ∙ q)) k) ∙ sym (there a e)
          where
            not_top : length z ≤ top → ⊥
            not_top y = omega (arith, s.long)

    sawing : top < length z → get_or z top 0 ≡ j → Seeing j l w z₀ (set z top (j + 1)) (i + 1)
    sawing lt e = record {
      long = length-set z top (j + 1) ∙ s.long;
      seen = λ a b. ⊎_elim (λ q. here a b (eqb-true top a q)) (λ q. other a b (eqb-false top a q)) (bool_cases (eqb top a));
    }
      where
        here : (a : ℕ) → a < length z₀ → top ≡ a → get_or (set z top (j + 1)) a 0 ≡ seen_by j (take (i + 1) l) w z₀ a
        here a b q =
            ap (λ (y : ℕ). get_or (set z top (j + 1)) y 0) (sym q) ∙ get_or-set_same z top (j + 1) 0 lt ∙ add-one j
            ∙ just (get_or z₀ a 0) (points_in w (take i l) a) (sym (s.seen a b) ∙ ap (λ (y : ℕ). get_or z y 0) (sym q) ∙ e) ∙ sym (there a q)

        other : (a : ℕ) → a < length z₀ → (top ≡ a → ⊥) → get_or (set z top (j + 1)) a 0 ≡ seen_by j (take (i + 1) l) w z₀ a
        other a b ne = get_or-set_other z top a (j + 1) 0 (λ q. ne (sym q)) ∙ s.seen a b ∙ elsewhere a ne

    pub seeing-step : (z' : List ℕ) → Saw x j w z z' → Seeing j l w z₀ z' (i + 1)
    seeing-step z' (passed k e) = subst (λ (y : List ℕ). Seeing j l w z₀ y (i + 1)) (sym e) (passing k)
    seeing-step z' (saw lt q e) = subst (λ (y : List ℕ). Seeing j l w z₀ y (i + 1)) (sym e) (sawing lt q)

-- ---- all words
pub record Words (k : ℕ) (ends occ w z : List ℕ) (j begin : ℕ) : Type 0 where
  pub begins : begin ≡ start ends j
  pub long : length z ≡ length w
  pub seen : (s : ℕ) → s < length w → get_or z s 0 ≡ reached (points w ends occ s) j

module _ (k : ℕ) (ends occ w z₀ : List ℕ) (pre : SeeWordsPre k ends occ w z₀) where
  pub words-start : Words k ends occ w z₀ 0 0
  unfolding start
  words-start = record {
    begins = refl;
    long = ap length pre.unseen ∙ length-replicate {A = ℕ} (length w) 0;
    seen = λ s h. ap (λ (y : List ℕ). get_or y s 0) pre.unseen ∙ get_or-replicate (length w) s 0 0 h ∙ sym (reached-zero (points w ends occ s));
  }

  module _ (z : List ℕ) (j begin : ℕ) (s : Words k ends occ w z j begin) (h : j < k) where
    -- The word's end, and its list, as the code takes it.
    abbrev to : ℕ
    to = get_or ends j 0

    abbrev pub part : List ℕ
    part = take (to - begin) (drop begin occ)

    below : EachBelow (length w) part
    below = part-below (length w) ends occ j begin to (pre.words j h) s.begins refl

    pub words-list-pre : SeeListPre j part w
    words-list-pre = record { word = omega (arith, pre.few_words); list = below }

    pub words_step : (z' : List ℕ) → SawList j part w z z' → Words k ends occ w z' (j + 1) to
    unfolding start
    words_step z' m = record {
      begins = rw (add-one j) refl;
      long = m.long ∙ s.long;
      seen = λ a l.
          m.seen a (omega (arith, s.long))
          ∙ ap₂ (λ (y : ℕ) (b : Bool). cond (eqb y j && b) (suc j) y) (s.seen a l) (ap (λ (y : List ℕ). points_in w y a) (sym (part-is (length w) ends occ j begin to (pre.words j h) s.begins refl)))
          ∙ sym (ap (reached (points w ends occ a)) (add-one j) ∙ reached-suc (points w ends occ a) j);
    }

-- ---- the flags
-- A flag as the code makes it.
pub flag-bit : (s k : ℕ) → bool_byte (eqb s k) ≡ flag_here s k
unfolding flag_here
flag-bit s k = bit (eqb s k)
  where
    bit : (b : Bool) → bool_byte b ≡ cond b 1 0
    bit true = refl
    bit false = refl

pub record Settling (k : ℕ) (z w : List ℕ) (v : ℕ) : Type 0 where
  pub long : length w ≡ length z
  pub done : (u : ℕ) → u < v → get_or w u 0 ≡ flag_here (get_or z u 0) k

pub settling-step : (k : ℕ) (z w : List ℕ) (v : ℕ) → Settling k z w v → v < length z → (r : ℕ) → r ≡ flag_here (get_or z v 0) k → Settling k z (set w v r) (v + 1)
settling-step k z w v s h r e = record {
  long = length-set w v r ∙ s.long;
  done = filled_more (λ u. flag_here (get_or z u 0) k) w v r s.done (omega (arith, s.long)) e;
}
