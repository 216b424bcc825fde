-- The three rows from call to call: the elements listed, put in order, their types numbered, and each number made the flag of its type. Assumes nothing.
-- Letters: p parents, t tags, n nodes, m elements, w rows; r, where the order begins; last, where the row of last children begins; a, a part that was lent, as it came
-- back; v node, i place or entry.
use Prim.Native.Nat.{ℕ, ◌+◌, ◌-◌, ◌*◌, ◌/◌, ◌%◌, ◌≤◌, ◌<◌}
use mathlib.Core.Path.{◌≡◌, sym, ap, ap₂, ◌∙◌}
use mathlib.Core.Logic.{◌⊎◌, inl, inr, ⊎_elim}
use mathlib.Core.List.{List, [], ◌++◌, append-nil}
use mathlib.Core.Bool.{true, false}
use native.Mathlib.Nat.{zero-add}
use native.Mathlib.Omega.{arith}
use borrow.Author.Tests.{eq-eqb, ne_eqb, eqb-true, eqb-false}
use borrow.Rule.Slice.PartMut.{put_mid}
use lib.Dec.{eqb}
use lib.ListN.{length, get_or, set, take, drop, replicate, length-set, length-drop, length-replicate, get_or-replicate, drop_of_length-le, get_or-append}
use lib.Seq.{length_front, length-take-le, get_or-take, get_or-set_same, get_or-set_other, ext_get_or}
use Rattle.seq.specs.Below.{tabulate}
use Rattle.seq.proofs.Laws.Bools.{bool_cases}
use Rattle.seq.proofs.Laws.Gather.{length-tabulate, get_d_tabulate}
use Rattle.seq.proofs.Laws.Parts.{put-long, put-before, put-inside, put-after}
use Rattle.tree.specs.Rules.{text}
use Rattle.tree.proofs.Laws.Under.{parents-before}
use Rattle.types.specs.Repeated.{repeat_flag, flag_rows}
use Rattle.types.specs.Inner.Order.{tag, entry, Before, Listed, TagsPre, Sorted}
use Rattle.types.specs.Inner.Numbers.{type_number, number_in, flag_in, NumberPre, Numbered, SpreadPre, Spread, MakePre}
use Rattle.types.proofs.Orders.{order-map}
use Rattle.types.proofs.Numbers.{number_le, number-root, repeats-root}

module _ (p t w : List ℕ) (pre : MakePre p t w) where
  abbrev n : ℕ
  n = length p

  pub make_second : n + (n * 2 - n) ≤ length w
  make_second = omega (arith, pre.long)

  width : n * 2 - n ≡ n
  width = omega arith

  -- The elements are listed in the second row.
  module _ (a₁ : List ℕ) (m : ℕ) (s : Listed t m a₁) where
    abbrev w₁ : List ℕ
    w₁ = put_mid n (n * 2 - n) w a₁

    part₁ : length a₁ ≡ n * 2 - n
    part₁ = s.long ∙ pre.tagged ∙ sym width

    long₁ : length w₁ ≡ n * 3
    long₁ = put-long n (n * 2 - n) w a₁ make_second part₁ ∙ pre.long

    listed : (i : ℕ) → i < m → entry w₁ (length t) i ≡ entry a₁ 0 i
    listed i l =
        ap (λ (z : ℕ). get_or w₁ (z + i) 0) pre.tagged ∙ put-inside n (n * 2 - n) w a₁ make_second part₁ i (omega (arith, s.few, pre.tagged))
        ∙ ap (λ (z : ℕ). get_or a₁ z 0) (sym (zero-add i))

    pub make_tags-pre : TagsPre t m w₁
    make_tags-pre = record {
      some = omega (arith, pre.some, pre.tagged);
      few = omega (arith, pre.few, pre.tagged);
      fewer = omega (arith, s.few);
      long = omega (arith, long₁, pre.tagged);
      order = order-map t (λ u v. u < v) (λ u v. u < v) m 0 (length t) a₁ w₁ listed (λ u v x y l. l) s.order;
    }

    -- They are put in order.
    module _ (r : ℕ) (w₂ : List ℕ) (o : Sorted p t m r w₂) where
      abbrev last : ℕ
      last = n * 3 - r

      behind : n ≤ last
      behind = ⊎_elim (λ (q : r ≡ n). omega arith) (λ (q : r ≡ n * 2). omega arith) o.half

      pub make_stop : last + n ≤ length w₂
      make_stop = ⊎_elim (λ (q : r ≡ n). omega (arith, o.long)) (λ (q : r ≡ n * 2). omega (arith, o.long)) o.half

      -- The other row is cleared, and the root's number is 0.
      module _ (a₃ : List ℕ) (e₃ : a₃ ≡ replicate (length (take (last + n - last) (drop last w₂))) 0) where
        abbrev w₃ : List ℕ
        w₃ = put_mid last (last + n - last) w₂ a₃

        fits₃ : last + (last + n - last) ≤ length w₂
        fits₃ = omega (arith, make_stop)

        zeros₃ : a₃ ≡ replicate (last + n - last) 0
        zeros₃ = e₃ ∙ ap (λ (z : ℕ). replicate z 0) (length-take-le (last + n - last) (drop last w₂) (omega (arith, length-drop last w₂, fits₃)))

        part₃ : length a₃ ≡ last + n - last
        part₃ = ap length zeros₃ ∙ length-replicate {A = ℕ} (last + n - last) 0

        long₃ : length w₃ ≡ n * 3
        long₃ = put-long last (last + n - last) w₂ a₃ fits₃ part₃ ∙ o.long

        -- Outside the row that was cleared.
        same₃ : (i : ℕ) → (i < last) ⊎ (last + n ≤ i) → get_or w₃ i 0 ≡ get_or w₂ i 0
        same₃ i q =
            ⊎_elim (λ l. put-before last (last + n - last) w₂ a₃ fits₃ part₃ i l)
            (λ (l : last + n ≤ i). put-after last (last + n - last) w₂ a₃ fits₃ part₃ i (omega arith)) q

        pub make_root : 0 < length w₃
        make_root = omega (arith, long₃, pre.some)

        abbrev w₄ : List ℕ
        w₄ = set w₃ 0 0

        same₄ : (i : ℕ) → 0 < i → get_or w₄ i 0 ≡ get_or w₃ i 0
        same₄ i l = get_or-set_other w₃ 0 i 0 0 (λ (z : i ≡ 0). omega arith)

        long₄ : length w₄ ≡ n * 3
        long₄ = length-set w₃ 0 0 ∙ long₃

        ordered : (i : ℕ) → i < m → entry w₄ r i ≡ entry w₂ r i
        ordered i l =
            same₄ (r + i) (⊎_elim (λ (q : r ≡ n). omega (arith, pre.some)) (λ (q : r ≡ n * 2). omega (arith, pre.some)) o.half)
            ∙ same₃ (r + i)
            (⊎_elim (λ (q : r ≡ n). inl (omega (arith, s.few, pre.tagged))) (λ (q : r ≡ n * 2). inr (omega arith)) o.half)

        -- A text is not the root.
        not_root_lem : (v : ℕ) → tag t v ≡ 0 → 0 < v
        not_root_lem v e = ⊎_elim (λ q. absurd (pre.tree.root_tag pre.some (ap (tag t) (sym (eqb-true v 0 q)) ∙ e))) (λ q. positive v (eqb-false v 0 q)) (bool_cases (eqb v 0))
          where
            positive : (v : ℕ) → (v ≡ 0 → ⊥) → 0 < v
            positive v ne = omega arith

        pub make_number-pre : NumberPre p t m r last w₄
        make_number-pre = record {
          some = pre.some;
          few = pre.few;
          tagged = pre.tagged;
          tree = pre.tree;
          fewer = omega (arith, s.few, pre.tagged);
          size = omega (arith, long₄, pre.few);
          after = ⊎_elim (λ (q : r ≡ n). omega arith) (λ (q : r ≡ n * 2). omega arith) o.half;
          behind = behind;
          here = ⊎_elim (λ (q : r ≡ n). omega (arith, long₄)) (λ (q : r ≡ n * 2). omega (arith, long₄)) o.half;
          there = omega (arith, long₄, make_stop, o.long);
          apart = ⊎_elim (λ (q : r ≡ n). inl (omega arith)) (λ (q : r ≡ n * 2). inr (omega arith)) o.half;
          order = order-map t (Before p t) (Before p t) m r r w₂ w₄ ordered (λ u v x y b. b) o.order;
          root = get_or-set_same w₃ 0 0 0 make_root;
          texts = λ v l e. same₄ v (not_root_lem v e) ∙ same₃ v (inl (omega (arith, behind))) ∙ o.texts v l e;
          untaken = λ v l.
              same₄ (last + v) (omega (arith, behind, pre.some)) ∙ put-inside last (last + n - last) w₂ a₃ fits₃ part₃ v (omega arith)
              ∙ ap (λ (x : List ℕ). get_or x v 0) zeros₃ ∙ get_or-replicate (last + n - last) v 0 0 (omega arith);
        }

        -- The types are numbered.
        module _ (w₅ : List ℕ) (f : Numbered p t w₄ w₅) where
          long₅ : length w₅ ≡ n * 3
          long₅ = f.long ∙ long₄

          pub make_first : n ≤ length w₅
          make_first = omega (arith, long₅)

          front₅ : length (take n w₅) ≡ n
          front₅ = length-take-le n w₅ make_first

          taken : (v : ℕ) → v < n → get_or (take n w₅) v 0 ≡ get_or w₅ v 0
          taken v l = get_or-take n w₅ v 0 l

          is-text : (v : ℕ) → tag t v ≡ 0 → text t v ≡ true
          unfolding text
          is-text v e = eq-eqb (tag t v) 0 e

          no_text_lem : (v : ℕ) → (tag t v ≡ 0 → ⊥) → text t v ≡ false
          unfolding text
          no_text_lem v e = ne_eqb (tag t v) 0 e

          text-number : (v : ℕ) → v < n → tag t v ≡ 0 → number_in w₅ v ≡ 0
          text-number v l e = f.numbers v l ∙ rw (is-text v e)

          solid-number : (v : ℕ) → v < n → (tag t v ≡ 0 → ⊥) → number_in w₅ v ≡ type_number p t v
          solid-number v l e = f.numbers v l ∙ rw (no_text_lem v e)

          lower : (v : ℕ) → v < n → number_in w₅ v ≤ v
          lower v l =
              ⊎_elim (λ q. omega (arith, text-number v l (eqb-true (tag t v) 0 q))) (λ q. omega (arith, solid-number v l (eqb-false (tag t v) 0 q), number_le p t v))
              (bool_cases (eqb (tag t v) 0))

          pub make_spread-pre : SpreadPre (take n w₅)
          make_spread-pre = record {
            few = omega (arith, front₅, pre.few);
            lower = λ v l. rw (taken v (omega (arith, front₅))) (lower v (omega (arith, front₅)));
          }

          -- The flag of the root's type, which is the number of a text too.
          root-flag : flag_in w₅ 0 ≡ 0
          root-flag =
              ap (flag_in w₅) (sym (number-root p t)) ∙ f.flags 0 pre.some (pre.tree.root_tag pre.some)
              ∙ rw (repeats-root p t (parents-before p n pre.tree.preorder))

          flag_is : (v : ℕ) → v < n → flag_in w₅ (number_in w₅ v) ≡ repeat_flag p t v
          unfolding repeat_flag
          flag_is v l =
              ⊎_elim (λ q. let e : tag t v ≡ 0 = eqb-true (tag t v) 0 q in rw (is-text v e) (ap (flag_in w₅) (text-number v l e) ∙ root-flag))
              (λ q. let e : tag t v ≡ 0 → ⊥ = eqb-false (tag t v) 0 q in rw (no_text_lem v e) (ap (flag_in w₅) (solid-number v l e) ∙ f.flags v l e))
              (bool_cases (eqb (tag t v) 0))

          -- Each number becomes the flag of its type, and the last two rows are cleared.
          module _ (a₆ : List ℕ) (g : Spread (take n w₅) a₆) where
            abbrev w₆ : List ℕ
            w₆ = a₆ ++ drop n w₅

            front₆ : length a₆ ≡ n
            front₆ = g.long ∙ front₅

            long₆ : length w₆ ≡ n * 3
            long₆ = length_front w₅ a₆ n g.long ∙ long₅

            pub make_last : n ≤ length w₆
            make_last = omega (arith, long₆)

            flags₆ : (v : ℕ) → v < n → get_or a₆ v 0 ≡ repeat_flag p t v
            flags₆ v l =
                g.holds v (omega (arith, front₅))
                ∙ ap (λ (z : ℕ). get_or (take n w₅) (z % 65536) 0 / 65536) (taken v l)
                ∙ ap (λ (z : ℕ). z / 65536) (taken (number_in w₅ v) (omega (arith, lower v l))) ∙ flag_is v l

            module _ (a₇ : List ℕ) (e₇ : a₇ ≡ replicate (length (take (length w₆ - n) (drop n w₆))) 0) where
              zeros₇ : a₇ ≡ replicate (n * 2) 0
              zeros₇ =
                  e₇ ∙ ap (λ (z : ℕ). replicate z 0) (length-take-le (length w₆ - n) (drop n w₆) (omega (arith, length-drop n w₆)) ∙ two)
                where
                  two : length w₆ - n ≡ n * 2
                  two = omega (arith, long₆)

              flags₇ : take n w₆ ≡ tabulate n (repeat_flag p t)
              flags₇ =
                  ext_get_or 0 (take n w₆) (tabulate n (repeat_flag p t)) (length-take-le n w₆ make_last ∙ sym (length-tabulate n (repeat_flag p t)))
                  (λ v l. at v (omega (arith, length-take-le n w₆ make_last)))
                where
                  at : (v : ℕ) → v < n → get_or (take n w₆) v 0 ≡ get_or (tabulate n (repeat_flag p t)) v 0
                  at v l =
                      get_or-take n w₆ v 0 l ∙ get_or-append a₆ (drop n w₅) 0 v (omega (arith, front₆)) ∙ flags₆ v l
                      ∙ sym (get_d_tabulate n (repeat_flag p t) v 0 l)

              nothing : drop (length w₆ - n) (drop n w₆) ≡ []
              nothing = drop_of_length-le (drop n w₆) {i = length w₆ - n} (omega (arith, length-drop n w₆))

              pub make_rows : put_mid n (length w₆ - n) w₆ a₇ ≡ flag_rows p t
              unfolding flag_rows
              make_rows = ap₂ (λ (x y : List ℕ). x ++ y) flags₇ (ap₂ (λ (x y : List ℕ). x ++ y) zeros₇ nothing ∙ append-nil (replicate (n * 2) 0))
