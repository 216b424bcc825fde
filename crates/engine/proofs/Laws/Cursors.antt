-- The cursors: what comes next, and what is left once it was taken. Assumes nothing.
--   reaching-before, reaching_in   what is left stands before the reach
--   reach-node          what comes next is a node
--   coming-is           how often each word occurs there
--   taken-less, reaching-taken, taken-skips   once it was taken the reach is less, the cursors stand there, and no occurrence is passed over
--   cursors-pre         what is asked of the cursors
--   set-pre, reaching-set, set_before   before anything is taken
-- Letters: J job; c cursors, r reach; j word, i place in a list, a, b places among the occurrences.
use Prim.Native.Nat.{ℕ, suc, ◌+◌, ◌-◌, ◌≤◌, ◌<◌}
use mathlib.Core.Path.{◌≡◌, sym, ap, ◌∙◌}
use mathlib.Core.List.{List}
use mathlib.Core.Bool.{Bool, true, false, cond}
use mathlib.Core.Logic.{⊎_elim}
use native.Mathlib.Omega.{arith}
use lib.Dec.{eqb}
use borrow.Author.Tests.{lt-ltb, le-ltb, eq-eqb, ne_eqb, eqb-true, eqb-false}
use lib.ListN.{length, get_or}
use Rattle.seq.specs.Lists.{tally, some_of}
use Rattle.seq.proofs.Laws.Bools.{bool_cases, bool_ext, cond-false}
use Rattle.seq.proofs.Laws.Numbers.{less_or}
use Rattle.seq.proofs.Laws.Lists as Passing
use Rattle.seq.proofs.Laws.Lists.{some_of-at, some_of-of}
use Rattle.index.specs.Index.{start}
use Rattle.engine.specs.declared.cursors.Cursors.{Cursors}
use Rattle.engine.specs.Inner.Cursors.{head, up_to, coming, last_left, stands, Reached, CursorsPre, Taken, SetPre, Set}
use Rattle.engine.specs.Inner.Meaning.{occ}
use Rattle.engine.specs.Inner.Going.{Job, nodes_of, words_of, list_of, Sound, Reaching}
use Rattle.engine.proofs.Laws.Occurrences.{tally-rising, list-none, list-long, list_at, list-from, none_in, list-below, list-rising, occurrence-less, occurrence-below}

-- ---- what is left of a list
last_some : (o : List ℕ) (f e : ℕ) → f < e → last_left o f e ≡ suc (get_or o (e - 1) 0)
unfolding last_left
last_some o f e h = rw (lt-ltb f e h)

last_none : (o : List ℕ) (f e : ℕ) → e ≤ f → last_left o f e ≡ 0
unfolding last_left
last_none o f e h = rw (le-ltb f e h)

module _ (J : Job) (S : Sound J) where
  abbrev from : ℕ → ℕ
  from j = start J.ends j

  abbrev end : ℕ → ℕ
  end j = get_or J.ends j 0

  abbrev at : ℕ → ℕ
  at a = get_or J.occurrences a 0

  -- ---- where the occurrences from r on have been taken
  module _ (r : ℕ) (c : Cursors) (R : Reaching J r c) where
    head-some : (j : ℕ) → j < words_of J → from j < up_to c j → head c j ≡ suc (at (up_to c j - 1))
    head-some j l h = R.heads j l ∙ last_some J.occurrences (from j) (up_to c j) h

    -- A head that is not 0 is that of an occurrence.
    head-left : (j : ℕ) → j < words_of J → 0 < head c j → from j < up_to c j
    head-left j l h =
        ⊎_elim (λ (g : from j < up_to c j). g) (λ (g : up_to c j ≤ from j). omega (arith, R.heads j l, last_none J.occurrences (from j) (up_to c j) g)) (less_or (from j) (up_to c j))

    -- What is left stands before the reach.
    pub reaching-before : (j a : ℕ) → j < words_of J → from j ≤ a → a < up_to c j → at a < r
    reaching-before j a l h g =
        ⊎_elim
        (λ (m : a < up_to c j - 1). omega (arith, head-some j l (omega arith), R.highest.above j l, occurrence-less J S j a (up_to c j - 1) l h m (omega (arith, R.within j l))))
        (λ (m : up_to c j - 1 ≤ a). let e : a ≡ up_to c j - 1 = omega arith in omega (arith, ap at e, head-some j l (omega arith), R.highest.above j l))
        (less_or a (up_to c j - 1))

    -- The same in the lists.
    pub reaching_in : (j i : ℕ) → j < 8 → i < length (list_of J j) → from j + i < up_to c j → occ (list_of J) j i < r
    reaching_in j i l h g =
        ⊎_elim
        (λ (m : j < words_of J). let b : i < end j - from j = omega (arith, list-long J S j m) in omega (arith, list_at J S j i b, reaching-before j (from j + i) m (omega arith) g))
        (λ (m : words_of J ≤ j). absurd (none_in J S j i m h))
        (less_or j (words_of J))

    module _ (pos : 0 < r) where
      -- A word whose head is the reach.
      the_highest : Reached (words_of J) (head c) r
      the_highest = R.highest.among (λ (z : r ≡ 0). omega arith)

      reach-at : (j : ℕ) → j < words_of J → head c j ≡ r → at (up_to c j - 1) ≡ r - 1
      reach-at j l e = omega (arith, head-some j l (head-left j l (omega arith)))

      pub reach-node : r - 1 < nodes_of J
      reach-node =
          let j : ℕ = the_highest.at in
          let l : j < words_of J = the_highest.below in
          let h : from j < up_to c j = head-left j l (omega (arith, the_highest.is)) in
          omega (arith, reach-at j l the_highest.is, occurrence-below J S j (up_to c j - 1) l (omega arith) (omega (arith, R.within j l)))

      -- A word stands there exactly where its list has the node.
      stands_member : (j : ℕ) → j < words_of J → stands c r j ≡ some_of (eqb (r - 1)) (list_of J j)
      stands_member j l = bool_ext _ _ to of
        where
          to : stands c r j ≡ true → some_of (eqb (r - 1)) (list_of J j) ≡ true
          to z =
              let e : head c j ≡ r = eqb-true (head c j) r z in
              let h : from j < up_to c j = head-left j l (omega arith) in
              let b : up_to c j - 1 < end j = omega (arith, R.within j l) in
              some_of-of (eqb (r - 1)) (list_of J j) (up_to c j - 1 - from j) (omega (arith, list-long J S j l))
              (eq-eqb (r - 1) _ (sym (list-from J S j (up_to c j - 1) (omega arith) b ∙ reach-at j l e)))

          of : some_of (eqb (r - 1)) (list_of J j) ≡ true → stands c r j ≡ true
          of z = eq-eqb (head c j) r (whole (some_of-at (eqb (r - 1)) (list_of J j) z))
            where
              whole : Passing.Entry (eqb (r - 1)) (list_of J j) → head c j ≡ r
              whole y =
                  let b : y.at < end j - from j = omega (arith, y.below, list-long J S j l) in
                  let e : r - 1 ≡ at (from j + y.at) = eqb-true (r - 1) _ y.passes ∙ list_at J S j y.at b in
                  ⊎_elim
                  (λ (g : from j + y.at < up_to c j). ⊎_elim
                  (λ (m : from j + y.at < up_to c j - 1). omega (
                    arith,
                    head-some j l (omega arith),
                    R.highest.above j l,
                    occurrence-less J S j (from j + y.at) (up_to c j - 1) l (omega arith) m (omega (arith, R.within j l)),
                  ))
                  (λ (m : up_to c j - 1 ≤ from j + y.at). let q : from j + y.at ≡ up_to c j - 1 = omega arith in omega (arith, ap at q, head-some j l (omega arith), R.highest.above j l))
                  (less_or (from j + y.at) (up_to c j - 1)))
                  (λ (g : up_to c j ≤ from j + y.at). omega (arith, R.met j (from j + y.at) l g (omega arith)))
                  (less_or (from j + y.at) (up_to c j))

      -- What comes next, word by word.
      pub coming-is : (j : ℕ) → j < 8 → coming c r j ≡ tally (eqb (r - 1)) (list_of J j)
      unfolding tally
      coming-is j l =
          ⊎_elim
          (λ (m : j < words_of J). ap (λ (z : Bool). cond z 1 0) (stands_member j m)
          ∙ sym (tally-rising (nodes_of J) (list_of J j) (list-below J S j l) (list-rising J S j l) (r - 1) reach-node))
          (λ (m : words_of J ≤ j). cond-false _ (ne_eqb (head c j) r (λ (z : head c j ≡ r). omega (arith, R.others j m l))) _ _ ∙ sym (ap (tally (eqb (r - 1))) (list-none J S j m)))
          (less_or j (words_of J))

      -- What is asked of the cursors.
      pub cursors-pre : CursorsPre J.ends J.occurrences c r
      cursors-pre = record {
        words = S.few_words;
        some = pos;
        left = λ j l e. omega (arith, head-left j l (omega arith));
        within = λ j l. omega (arith, R.within j l, (S.lists j l).within);
        small = λ j i l h g. omega (arith, occurrence-below J S j i l h (omega (arith, R.within j l)), S.few);
      }

      -- ---- what comes next is taken
      module _ (r' : ℕ) (c' : Cursors) (T : Taken J.ends J.occurrences c r r' c') where
        abbrev here : ℕ → Bool
        here j = stands c r j

        -- A word that stands at the reach has one occurrence less, and its next one stands before it.
        up-here : (j : ℕ) → j < words_of J → here j ≡ true → up_to c' j ≡ up_to c j - 1
        up-here j l z = T.up_tos j l ∙ ap (λ (t : Bool). cond t (up_to c j - 1) (up_to c j)) z

        up-other : (j : ℕ) → j < words_of J → here j ≡ false → up_to c' j ≡ up_to c j
        up-other j l z = T.up_tos j l ∙ ap (λ (t : Bool). cond t (up_to c j - 1) (up_to c j)) z

        head-here : (j : ℕ) → j < words_of J → here j ≡ true → head c' j ≡ last_left J.occurrences (from j) (up_to c j - 1)
        head-here j l z = T.heads j l ∙ ap (λ (t : Bool). cond t (last_left J.occurrences (from j) (up_to c j - 1)) (head c j)) z

        head-other : (j : ℕ) → j < words_of J → here j ≡ false → head c' j ≡ head c j
        head-other j l z = T.heads j l ∙ ap (λ (t : Bool). cond t (last_left J.occurrences (from j) (up_to c j - 1)) (head c j)) z

        left_here : (j : ℕ) → j < words_of J → here j ≡ true → from j < up_to c j
        left_here j l z = head-left j l (omega (arith, eqb-true (head c j) r z))

        head-less : (j : ℕ) → j < words_of J → head c' j < r
        head-less j l =
            ⊎_elim
            (λ z. ⊎_elim
            (λ (g : from j < up_to c j - 1). omega (
              arith,
              head-here j l z,
              last_some J.occurrences (from j) (up_to c j - 1) g,
              occurrence-less J S j (up_to c j - 1 - 1) (up_to c j - 1) l (omega arith) (omega arith) (omega (arith, R.within j l)),
              reach-at j l (eqb-true (head c j) r z),
            ))
            (λ (g : up_to c j - 1 ≤ from j). omega (arith, head-here j l z, last_none J.occurrences (from j) (up_to c j - 1) g))
            (less_or (from j) (up_to c j - 1)))
            (λ z. omega (arith, head-other j l z, R.highest.above j l, eqb-false (head c j) r z))
            (bool_cases (here j))

        pub taken-less : r' < r
        taken-less =
            ⊎_elim
            (λ (g : 0 < r'). let y : Reached (words_of J) (head c') r' = T.reach.among (λ (z : r' ≡ 0). omega arith) in omega (arith, y.is, head-less y.at y.below))
            (λ (g : r' ≤ 0). omega arith)
            (less_or 0 r')

        -- What has been taken by now stands at the last reach, less one, or past it.
        taken-from : (j a : ℕ) → j < words_of J → up_to c' j ≤ a → a < end j → r - 1 ≤ at a
        taken-from j a l h g =
            ⊎_elim
            (λ z. ⊎_elim
            (λ (m : a < up_to c j). let e : a ≡ up_to c j - 1 = omega (arith, up-here j l z, left_here j l z) in omega (arith, ap at e, reach-at j l (eqb-true (head c j) r z)))
            (λ (m : up_to c j ≤ a). omega (arith, R.met j a l m g))
            (less_or a (up_to c j)))
            (λ z. omega (arith, R.met j a l (omega (arith, up-other j l z)) g))
            (bool_cases (here j))

        pub reaching-taken : Reaching J r' c'
        reaching-taken = record {
          begins = λ j l. ⊎_elim (λ z. omega (arith, up-here j l z, left_here j l z)) (λ z. omega (arith, up-other j l z, R.begins j l)) (bool_cases (here j));
          within = λ j l. ⊎_elim (λ z. omega (arith, up-here j l z, R.within j l)) (λ z. omega (arith, up-other j l z, R.within j l)) (bool_cases (here j));
          heads = λ j l. ⊎_elim
              (λ z. head-here j l z ∙ ap (last_left J.occurrences (from j)) (sym (up-here j l z)))
              (λ z. head-other j l z ∙ R.heads j l ∙ ap (last_left J.occurrences (from j)) (sym (up-other j l z)))
              (bool_cases (here j));
          highest = T.reach;
          met = λ j i l h g. omega (arith, taken-less, taken-from j i l h g);
          others = λ j h l. T.others j h l ∙ R.others j h l;
        }

  -- No occurrence stands from the next reach on and before the node that was taken.
  pub taken-skips : (r : ℕ) (c : Cursors) (R : Reaching J r c) → 0 < r → (r' : ℕ) (c' : Cursors) → Taken J.ends J.occurrences c r r' c' →
      (j i : ℕ) → j < 8 → i < length (list_of J j) → r' ≤ occ (list_of J) j i → r - 1 ≤ occ (list_of J) j i
  taken-skips r c R pos r' c' T j i l h m =
      ⊎_elim
      (λ (g : j < words_of J). let b : i < end j - from j = omega (arith, list-long J S j g) in ⊎_elim
      (λ (z : from j + i < up_to c' j). omega (arith, reaching_in r' c' (reaching-taken r c R pos r' c' T) j i l h z))
      (λ (z : up_to c' j ≤ from j + i). omega (arith, list_at J S j i b, taken-from r c R pos r' c' T j (from j + i) g z (omega arith)))
      (less_or (from j + i) (up_to c' j)))
      (λ (g : words_of J ≤ j). absurd (none_in J S j i g h))
      (less_or j (words_of J))

  -- ---- the begin
  pub set-pre : SetPre J.ends J.occurrences
  set-pre = record {
    words = S.few_words;
    within = λ j h. (S.lists j h).within;
    small = λ j i h g m. omega (arith, occurrence-below J S j i h g m, S.few);
  }

  module _ (r' : ℕ) (c' : Cursors) (T : Set J.ends J.occurrences r' c') where
    pub reaching-set : Reaching J r' c'
    reaching-set = record {
      begins = λ j l. omega (arith, T.up_tos j l, (S.lists j l).rising);
      within = λ j l. omega (arith, T.up_tos j l);
      heads = λ j l. T.heads j l ∙ ap (last_left J.occurrences (from j)) (sym (T.up_tos j l));
      highest = T.reach;
      met = λ j i l h g. omega (arith, T.up_tos j l);
      others = λ j h l. T.others j h l;
    }

    -- Every occurrence stands before the reach.
    pub set_before : (j i : ℕ) → j < 8 → i < length (list_of J j) → occ (list_of J) j i < r'
    set_before j i l h =
        ⊎_elim
        (λ (g : j < words_of J). reaching_in r' c' reaching-set j i l h (omega (arith, list-long J S j g, T.up_tos j g)))
        (λ (g : words_of J ≤ j). absurd (none_in J S j i g h))
        (less_or j (words_of J))
