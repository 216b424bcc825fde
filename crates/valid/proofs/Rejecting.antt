-- From marks to flags of valid SLCAs, from call to call: the closest entities, the negators, the flags. Assumes nothing.
-- Letters: p parents, t tags, n nodes, k positive words; w four rows as lent; g the closest entities with the negators marked, f flags, z zeros, as the calls leave
-- them; v node, x occurrence, j word.
use Prim.Native.Nat.{ℕ, zero, suc, ◌+◌, ◌-◌, ◌*◌, ◌≤◌, ◌<◌}
use mathlib.Core.Path.{◌≡◌, refl, sym, ap, ap₂, ◌∙◌}
use mathlib.Core.Logic.{⊎_elim}
use mathlib.Core.List.{List, [], ◌++◌, append-nil}
use mathlib.Core.Bool.{Bool, true, false, cond, ◌&&◌}
use native.Mathlib.Omega.{arith}
use borrow.Author.Tests.{eq-eqb, ne_eqb}
use lib.Dec.{eqb}
use lib.ListN.{length, get_or, take, drop, replicate, length-append, length-replicate, get_or-append, drop_of_length-le, replicate-append-replicate}
use lib.Seq.{take_at, drop_at, ext_get_or}
use Rattle.seq.specs.Below.{tabulate}
use Rattle.seq.specs.Lists.{EachBelow}
use Rattle.seq.specs.Memory.{over}
use Rattle.seq.proofs.Laws.Bools.{bool-not_both}
use Rattle.seq.proofs.Laws.Below.{Both}
use Rattle.seq.proofs.Laws.Numbers.{less_or}
use Rattle.seq.proofs.Laws.Lists.{some_of_ext}
use Rattle.seq.proofs.Laws.Gather.{length-tabulate, get_d_tabulate}
use Rattle.tree.specs.Tree.{under, child}
use Rattle.tree.specs.Rules.{text}
use Rattle.tree.specs.Plain.{Down, Lawful}
use Rattle.tree.proofs.Laws.Children.{child-root}
use Rattle.tree.proofs.Laws.Rules.{lawful-accepted}
use Rattle.tree.proofs.Laws.Under.{parents-before, under_le}
use Rattle.tree.proofs.Laws.Ways.{child_towards, child-parent}
use Rattle.index.specs.Index.{word_list}
use Rattle.answers.specs.Answers.{slca}
use Rattle.answers.specs.Classes.{closest}
use Rattle.answers.specs.Not.{negator}
use Rattle.answers.proofs.Laws.Not.{closest_cases, closest-above}
use Rattle.entities.specs.Closest.{closest_rows}
use Rattle.types.proofs.Laws.{repeat_fits}
use Rattle.entities.proofs.Laws.{closest-fit}
use Rattle.valid.specs.Inner.Steps.{valid_flag, RejectPre, Rejected}
use Rattle.valid.specs.Inner.Tops.{negates, NegatePre, NegatorsMarked, flag_here, kept_flag, KeepPre, Kept}
use Rattle.valid.proofs.Above.{top_of_ext}
use Rattle.valid.proofs.Reached.{reached_ext}
use Rattle.valid.proofs.Stretch.{stretch-some, stretch-below}
use Rattle.valid.proofs.Validity.{flag-valid}

-- ---- closest entities
module _ (p t : List ℕ) (law : Lawful p t) where
  down : Down p (length p)
  down = parents-before p (length p) law.preorder

  closest-node : (x : ℕ) → x < length p → closest p t x < length p
  closest-node x l =
      ⊎_elim (λ r. omega (arith, under_le p (length p) down (closest p t x) x l r.above)) (λ q. omega (arith, q)) (closest_cases p down t x l)

  -- A node with a node below it is no text.
  inner-solid : (v x : ℕ) → x < length p → Both (length p) (child p v) (λ c. under p c x) → get_or t v 0 ≡ 0 → ⊥
  inner-solid v x l r e = by-child r.at r.below r.left
    where
      by-child : (c : ℕ) → c < length p → child p v c ≡ true → ⊥
      by-child zero b q = bool-not_both (child p v 0) q (child-root p v)
      by-child (suc c) b q = law.no_text_parent c b (ap (λ (z : ℕ). get_or t z 0) (sym (child-parent p (length p) down v c q)) ∙ e)

  -- The closest entity of a text node is no text.
  closest-solid : (x : ℕ) → x < length p → get_or t x 0 ≡ 0 → get_or t (closest p t x) 0 ≡ 0 → ⊥
  unfolding text
  closest-solid x l e =
      inner-solid (closest p t x) x l
      (child_towards p (length p) down (closest p t x) x l (closest-above p down t x l (⊎_elim (λ b. b) (λ b. absurd (root b)) (less_or 0 x)) (eq-eqb (get_or t x 0) 0 e)))
    where
      root : x ≤ 0 → ⊥
      root b = law.root_tag (omega arith) (ap (λ (z : ℕ). get_or t z 0) none ∙ e)
        where
          none : 0 ≡ x
          none = omega arith

-- m is the first row and r the other three, as they are lent; a, the other three with the closest entities.
module _ (p t : List ℕ) (k : ℕ) (ends occ w : List ℕ) (pre : RejectPre p t k ends occ w) (m r : List ℕ) (parts : w ≡ m ++ r) (lm : length m ≡ length p) (a : List ℕ) (ea : a ≡ closest_rows p t r) where
  abbrev n : ℕ
  n = length p

  -- ---- the closest entities
  abbrev entities : List ℕ
  entities = tabulate n (closest p t)

  entities_long : length entities ≡ n
  entities_long = length-tabulate n (closest p t)

  r_long : length r ≡ n * 3
  r_long = omega (arith, ap length parts, length-append m r, lm, pre.long)

  a_is : a ≡ entities ++ replicate (n * 2) 0
  unfolding over
  a_is =
      ea ∙ closest-fit p t r (repeat_fits p t (length r) pre.few pre.tagged (omega (arith, r_long)) (lawful-accepted p t pre.tree))
      ∙ ap (λ (x : List ℕ). (entities ++ replicate (n * 2) 0) ++ x) nothing ∙ append-nil _
    where
      nothing : drop (length (entities ++ replicate (n * 2) 0)) r ≡ []
      nothing =
          drop_of_length-le r {i = length (entities ++ replicate (n * 2) 0)}
          (omega (arith, r_long, entities_long, length-append entities (replicate (n * 2) 0), length-replicate {A = ℕ} (n * 2) 0))

  row_is : take n a ≡ entities
  row_is = ap (take n) a_is ∙ take_at entities _ n entities_long

  rest_is : drop n a ≡ replicate (n * 2) 0
  rest_is = ap (drop n) a_is ∙ drop_at entities _ n entities_long

  row-long : length (take n a) ≡ n
  row-long = ap length row_is ∙ entities_long

  row_at : (v : ℕ) → v < n → get_or (take n a) v 0 ≡ closest p t v
  row_at v l = ap (λ (x : List ℕ). get_or x v 0) row_is ∙ get_d_tabulate n (closest p t) v 0 l

  -- ---- the negators
  abbrev begin : ℕ
  begin = get_or ends (k - 1) 0

  abbrev lists : List ℕ
  lists = take (length occ - begin) (drop begin occ)

  all : k + (length ends - k) ≡ length ends
  all = omega (arith, pre.some_negative)

  lists-below : EachBelow n lists
  lists-below = stretch-below n ends occ pre.words k (length ends - k) all pre.some_positive begin refl

  pub reject-mark-pre : NegatePre lists t (take n a)
  reject-mark-pre = record {
    few = omega (arith, pre.few, pre.tagged);
    long = row-long ∙ sym pre.tagged;
    list = λ i l. omega (arith, lists-below i l, pre.tagged);
    nodes = λ v l. omega (arith, row_at v (omega (arith, pre.tagged)), closest-node p t pre.tree v (omega (arith, pre.tagged)), pre.tagged);
    solid = λ x l e q. closest-solid p t pre.tree x (omega (arith, pre.tagged)) e (ap (λ (z : ℕ). get_or t z 0) (sym (row_at x (omega (arith, pre.tagged)))) ∙ q);
  }

  module _ (g : List ℕ) (marked : NegatorsMarked lists t (take n a) g) where
    abbrev is_negator : ℕ → Bool
    is_negator = negator p t (length ends - k) λ j. word_list ends occ (k + j)

    negates-is : (v : ℕ) → negates t (take n a) lists v ≡ is_negator v
    unfolding negates negator
    negates-is v =
        some_of_ext _ _ n lists lists-below (λ x l. ap (λ (z : ℕ). text t x && eqb v z) (row_at x l))
        ∙ stretch-some n ends occ pre.words k (length ends - k) all pre.some_positive begin refl (λ x. text t x && eqb v (closest p t x))

    mark-at : (v : ℕ) → v < n → eqb (get_or m v 0) 1 ≡ slca p k (word_list ends occ) v
    mark-at v l =
        ap (λ (z : ℕ). eqb z 1) (sym (ap (λ (x : List ℕ). get_or x v 0) parts ∙ get_or-append m r 0 v (omega (arith, lm)))) ∙ pre.marks v l

    negator-at : (v : ℕ) → v < n → eqb (get_or g v 0) n ≡ is_negator v
    negator-at v l =
        ap (λ (z : ℕ). eqb z n) (marked.holds v (omega (arith, pre.tagged)) ∙ ap₂ (λ (b : Bool) (z : ℕ). cond b z (get_or (take n a) v 0)) (negates-is v) pre.tagged)
        ∙ told (is_negator v)
      where
        told : (b : Bool) → eqb (cond b n (get_or (take n a) v 0)) n ≡ b
        told true = eq-eqb n n refl
        told false = ne_eqb (get_or (take n a) v 0) n (λ (q : get_or (take n a) v 0 ≡ n). inside q)
          where
            inside : get_or (take n a) v 0 ≡ n → ⊥
            inside q = omega (arith, row_at v l, closest-node p t pre.tree v l)

    pub reject-keep-pre : KeepPre p k ends occ m g
    reject-keep-pre = record {
      few = pre.few;
      down = down p t pre.tree;
      few_words = omega (arith, pre.few_words, pre.some_negative);
      ended = omega (arith, pre.some_negative);
      words = λ j l. pre.words j (omega (arith, pre.some_negative));
      long = lm;
      shut = marked.long ∙ pre.tagged;
    }

    -- ---- the flags
    flag_is : (v : ℕ) → v < n → kept_flag p k ends occ m g v ≡ valid_flag p t k ends occ v
    unfolding kept_flag valid_flag
    flag_is v l =
        ap (λ (z : ℕ). flag_here z k)
        (reached_ext _ _ k
        (λ j h. some_of_ext _ _ n (word_list ends occ j) (pre.words j (omega (arith, pre.some_negative))).list.below
        (λ x b. ap (λ (z : ℕ). eqb z v) (top_of_ext p (down p t pre.tree) _ is_negator _ (slca p k (word_list ends occ)) negator-at mark-at x b))))
        ∙ flag-valid p pre.tree.preorder k (word_list ends occ) (λ j h. (pre.words j (omega (arith, pre.some_negative))).list.below) is_negator v l pre.some_positive

    pub reject_rejected : (f z : List ℕ) → Kept p k ends occ m g f z → Rejected p t k ends occ (f ++ (z ++ drop n a))
    reject_rejected f z kept = record { rows = ap₂ (λ (x y : List ℕ). x ++ y) front back }
      where
        front : f ≡ tabulate n (valid_flag p t k ends occ)
        front =
            ext_get_or 0 f (tabulate n (valid_flag p t k ends occ)) (kept.long ∙ sym (length-tabulate n (valid_flag p t k ends occ)))
            (λ v l. kept.flags v (omega (arith, kept.long)) ∙ flag_is v (omega (arith, kept.long)) ∙ sym (get_d_tabulate n (valid_flag p t k ends occ) v 0 (omega (arith, kept.long))))

        three : n + n * 2 ≡ n * 3
        three = omega arith

        back : z ++ drop n a ≡ replicate (n * 3) 0
        back =
            ap₂ (λ (x y : List ℕ). x ++ y) kept.zeros rest_is ∙ replicate-append-replicate n (n * 2) 0 ∙ ap (λ (x : ℕ). replicate x 0) three
