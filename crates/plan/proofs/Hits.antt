-- The nodes that the first pass counts for a word are the nodes at which it stands.
--   climbs u l      == the entries of l rise, from u on;  climbs_rising: so each is above the one before
--   hits_climbs, hits-below, hits_member   the nodes that are counted rise, are nodes of the mentions, and are those at which the word is read
--   hits-listed     so they are the list of those nodes
-- Letters: T text, q word, M mentions, v the node of the mention before them, u one more than the last node counted, or 0. Assumes nothing.
use Prim.Native.Nat.{ℕ, zero, suc, zero-le, ◌≤◌, ◌<◌}
use mathlib.Core.Path.{◌≡◌, refl, sym, ap, ap₂, ◌∙◌}
use mathlib.Core.Logic.{⊎_elim}
use mathlib.Core.List.{List, [], ◌∷◌}
use mathlib.Core.Bool.{Bool, true, false, not, ◌&&◌, ◌||◌, and-false}
use native.Mathlib.Omega.{arith}
use lib.Dec.{eqb, ltb, leb}
use borrow.Author.Tests.{eq-eqb, ne_eqb, eqb-true, eqb-false, ltb-true, le-leb, leb-true, not-true}
use Rattle.seq.specs.Below.{listed}
use Rattle.seq.specs.Lists.{every_of, some_of, same_list, EachBelow}
use Rattle.seq.proofs.Laws.Bools.{bool_cases, and_left, and_right, and_both, and_false-left, or_left}
use Rattle.seq.proofs.Laws.Lists.{same_list_swap}
use Rattle.seq.proofs.Laws.Gather.{gather_ext}
use Rattle.seq.proofs.Laws.Members.{Rising, listed-of-rising}
use Rattle.profile.specs.Tags.{known}
use Rattle.words.specs.Runs.{Word}
use Rattle.words.specs.Places.{Mention}
use Rattle.words.specs.Reading.{word_at}
use Rattle.words.specs.Stands.{words_on}
use Rattle.words.proofs.Mentions.{below, rising}
use Rattle.plan.specs.Inner.{is_new, hits}

-- ---- rising entries
climbs : ℕ → List ℕ → Bool
climbs u [] = true
climbs u (x ∷ l) = leb u x && climbs (suc x) l

climbs_first : (u x : ℕ) (l : List ℕ) → climbs u (x ∷ l) ≡ true → u ≤ x
unfolding climbs
climbs_first u x l h = leb-true u x (and_left (leb u x) (climbs (suc x) l) h)

climbs_rest : (u x : ℕ) (l : List ℕ) → climbs u (x ∷ l) ≡ true → climbs (suc x) l ≡ true
unfolding climbs
climbs_rest u x l h = and_right (leb u x) (climbs (suc x) l) h

climbs_rising : (u : ℕ) (l : List ℕ) → climbs u l ≡ true → Rising l
climbs_rising u [] h i l = absurd (omega arith)
climbs_rising u (x ∷ []) h i l = absurd (omega arith)
climbs_rising u (x ∷ y ∷ m) h zero l = climbs_first (suc x) y m (climbs_rest u x (y ∷ m) h)
climbs_rising u (x ∷ y ∷ m) h (suc i) l = climbs_rising (suc x) (y ∷ m) (climbs_rest u x (y ∷ m) h) i (omega arith)

module _ (T : List ℕ) (q : Word) where
  hits-new : (u : ℕ) (m : Mention) (M : List Mention) → is_new T m.place q m.node u ≡ true → hits T q u (m ∷ M) ≡ m.node ∷ hits T q (suc m.node) M
  unfolding hits
  hits-new u m M e = rw e

  hits-old : (u : ℕ) (m : Mention) (M : List Mention) → is_new T m.place q m.node u ≡ false → hits T q u (m ∷ M) ≡ hits T q u M
  unfolding hits
  hits-old u m M e = rw e

  -- A new one is another node, and the word is read there.
  new-node : (u : ℕ) (m : Mention) → is_new T m.place q m.node u ≡ true → eqb u (suc m.node) ≡ false
  unfolding is_new
  new-node u m e = not-true (eqb u (suc m.node)) (and_left (not (eqb u (suc m.node))) _ e)

  new_word : (u : ℕ) (m : Mention) → is_new T m.place q m.node u ≡ true → same_list (word_at T m.place) q ≡ true
  unfolding is_new
  new_word u m e = same_list_swap (word_at T m.place) q ∙ and_right (not (eqb u (suc m.node))) _ e

  old-word : (u : ℕ) (m : Mention) → is_new T m.place q m.node u ≡ false → eqb u (suc m.node) ≡ false → same_list (word_at T m.place) q ≡ false
  unfolding is_new
  old-word u m e n = same_list_swap (word_at T m.place) q ∙ sym (ap (λ z. not z && same_list q (word_at T m.place)) n) ∙ e

  rising-first : (v : ℕ) (m : Mention) (M : List Mention) → rising v (m ∷ M) ≡ true → v ≤ m.node
  unfolding rising
  rising-first v m M h = leb-true v m.node (and_left (leb v m.node) (rising m.node M) h)

  rising-rest : (v : ℕ) (m : Mention) (M : List Mention) → rising v (m ∷ M) ≡ true → rising m.node M ≡ true
  unfolding rising
  rising-rest v m M h = and_right (leb v m.node) (rising m.node M) h

  hits_climbs : (M : List Mention) (v u : ℕ) → rising v M ≡ true → u ≤ suc v → climbs u (hits T q u M) ≡ true
  hits_climbs [] v u h l = unfold climbs hits in refl
  hits_climbs (m ∷ M) v u h l =
      ⊎_elim
      (λ e. ap (climbs u) (hits-new u m M e) ∙ first e (hits_climbs M m.node (suc m.node) (rising-rest v m M h) (omega arith)))
      (λ e. ap (climbs u) (hits-old u m M e) ∙ hits_climbs M m.node u (rising-rest v m M h) (omega (arith, rising-first v m M h)))
      (bool_cases (is_new T m.place q m.node u))
    where
      first : is_new T m.place q m.node u ≡ true → climbs (suc m.node) (hits T q (suc m.node) M) ≡ true → climbs u (m.node ∷ hits T q (suc m.node) M) ≡ true
      first e k = unfold climbs in and_both _ _ (le-leb u m.node (omega (arith, rising-first v m M h, eqb-false u (suc m.node) (new-node u m e)))) k

  hits-below : (n : ℕ) (M : List Mention) (u : ℕ) → every_of (below n) M ≡ true → every_of (λ x. ltb x n) (hits T q u M) ≡ true
  unfolding every_of
  hits-below n [] u h = unfold hits in refl
  hits-below n (m ∷ M) u h =
      ⊎_elim
      (λ e. ap (every_of (λ x. ltb x n)) (hits-new u m M e) ∙ and_both _ _ (and_left (below n m) (every_of (below n) M) h) (hits-below n M (suc m.node) (and_right (below n m) (every_of (below n) M) h)))
      (λ e. ap (every_of (λ x. ltb x n)) (hits-old u m M e) ∙ hits-below n M u (and_right (below n m) (every_of (below n) M) h))
      (bool_cases (is_new T m.place q m.node u))

  each_below : (n : ℕ) (l : List ℕ) → every_of (λ x. ltb x n) l ≡ true → EachBelow n l
  unfolding every_of
  each_below n [] h i l = absurd (omega arith)
  each_below n (x ∷ k) h zero l = ltb-true x n (and_left (ltb x n) _ h)
  each_below n (x ∷ k) h (suc i) l = each_below n k (and_right (ltb x n) _ h) i (omega arith)

  -- ---- which nodes
  read_at : List Mention → ℕ → Bool
  read_at M w = known (words_on T M w) q

  read_here : (m : Mention) (M : List Mention) (w : ℕ) → m.node ≡ w → read_at (m ∷ M) w ≡ (same_list (word_at T m.place) q || read_at M w)
  unfolding read_at words_on known
  read_here m M w e = rw (eq-eqb m.node w e)

  read_else : (m : Mention) (M : List Mention) (w : ℕ) → (m.node ≡ w → ⊥) → read_at (m ∷ M) w ≡ read_at M w
  unfolding read_at words_on
  read_else m M w n = rw (ne_eqb m.node w n)

  -- Nothing is read at a node before the first.
  read_none : (M : List Mention) (v w : ℕ) → rising v M ≡ true → w < v → read_at M w ≡ false
  read_none [] v w h l = unfold read_at words_on known in refl
  read_none (m ∷ M) v w h l =
      read_else m M w (λ e. omega (arith, rising-first v m M h)) ∙ read_none M m.node w (rising-rest v m M h) (omega (arith, rising-first v m M h))

  -- A node that was not counted last.
  abbrev counted : ℕ → List Mention → ℕ → Bool
  counted u M w = not (eqb u (suc w)) && read_at M w

  some-cons : (w x : ℕ) (l : List ℕ) → some_of (eqb w) (x ∷ l) ≡ (eqb w x || some_of (eqb w) l)
  unfolding some_of
  some-cons w x l = refl

  module _ (m : Mention) (M : List Mention) (v u w : ℕ) (h : rising v (m ∷ M) ≡ true) (l : u ≤ suc v) where
    member_new : is_new T m.place q m.node u ≡ true → some_of (eqb w) (hits T q (suc m.node) M) ≡ counted (suc m.node) M w →
        some_of (eqb w) (hits T q u (m ∷ M)) ≡ counted u (m ∷ M) w
    member_new e ih = ap (some_of (eqb w)) (hits-new u m M e) ∙ some-cons w m.node (hits T q (suc m.node) M) ∙ ⊎_elim here else (bool_cases (eqb w m.node))
      where
        here : eqb w m.node ≡ true → (eqb w m.node || some_of (eqb w) (hits T q (suc m.node) M)) ≡ counted u (m ∷ M) w
        here z =
            let same : m.node ≡ w = sym (eqb-true w m.node z) in
            ap (λ b. b || some_of (eqb w) (hits T q (suc m.node) M)) z ∙
            sym (and_both _ _ (ap not (ap (λ (x : ℕ). eqb u (suc x)) (sym same) ∙ new-node u m e)) (read_here m M w same ∙ or_left _ _ (new_word u m e)))

        else : eqb w m.node ≡ false → (eqb w m.node || some_of (eqb w) (hits T q (suc m.node) M)) ≡ counted u (m ∷ M) w
        else z =
            let other : m.node ≡ w → ⊥ = λ y. eqb-false w m.node z (sym y) in
            ap (λ b. b || some_of (eqb w) (hits T q (suc m.node) M)) z ∙ ih ∙
            ap (λ b. not b && read_at M w) (ne_eqb (suc m.node) (suc w) (λ y. other (omega arith))) ∙ ⊎_elim (last other) (free other) (bool_cases (eqb u (suc w)))
          where
            -- Where the last node counted is w, nothing more is read there.
            last : (m.node ≡ w → ⊥) → eqb u (suc w) ≡ true → read_at M w ≡ counted u (m ∷ M) w
            last other y =
                let at : u ≡ suc w = eqb-true u (suc w) y in
                read_none M m.node w (rising-rest v m M h) (omega (arith, rising-first v m M h, other)) ∙ sym (and_false-left _ _ (ap not y))

            free : (m.node ≡ w → ⊥) → eqb u (suc w) ≡ false → read_at M w ≡ counted u (m ∷ M) w
            free other y = sym (ap₂ ◌&&◌ (ap not y) (read_else m M w other))

    member_old : is_new T m.place q m.node u ≡ false → some_of (eqb w) (hits T q u M) ≡ counted u M w → some_of (eqb w) (hits T q u (m ∷ M)) ≡ counted u (m ∷ M) w
    member_old e ih = ap (some_of (eqb w)) (hits-old u m M e) ∙ ih ∙ ⊎_elim (λ y. and_false-left _ _ (ap not y) ∙ sym (and_false-left _ _ (ap not y))) free (bool_cases (eqb u (suc w)))
      where
        free : eqb u (suc w) ≡ false → counted u M w ≡ counted u (m ∷ M) w
        free y =
            ap (λ b. not (eqb u (suc w)) && b)
            (⊎_elim
            (λ z. let same : m.node ≡ w = eqb-true m.node w z in
            sym (read_here m M w same ∙ ap (λ b. b || read_at M w) (old-word u m e (ap (λ (x : ℕ). eqb u (suc x)) same ∙ y))))
            (λ z. sym (read_else m M w (eqb-false m.node w z)))
            (bool_cases (eqb m.node w)))

  hits_member : (M : List Mention) (v u w : ℕ) → rising v M ≡ true → u ≤ suc v → some_of (eqb w) (hits T q u M) ≡ counted u M w
  hits_member [] v u w h l = unfold hits some_of read_at words_on known in sym (and-false (not (eqb u (suc w))))
  hits_member (m ∷ M) v u w h l =
      ⊎_elim
      (λ e. member_new m M v u w h l e (hits_member M m.node (suc m.node) w (rising-rest v m M h) (omega arith)))
      (λ e. member_old m M v u w h l e (hits_member M m.node u w (rising-rest v m M h) (omega (arith, rising-first v m M h))))
      (bool_cases (is_new T m.place q m.node u))

  -- From the first mention on.
  pub hits-listed : (n : ℕ) (M : List Mention) → rising 0 M ≡ true → every_of (below n) M ≡ true → hits T q 0 M ≡ listed n (λ w. known (words_on T M w) q)
  hits-listed n M h b =
      sym (listed-of-rising n (hits T q 0 M) (each_below n (hits T q 0 M) (hits-below n M 0 b)) (climbs_rising 0 (hits T q 0 M) (hits_climbs M 0 0 h zero-le))) ∙
      unfold listed in gather_ext n (λ v. some_of (eqb v) (hits T q 0 M)) (λ w. known (words_on T M w) q) (λ i. i ∷ []) (λ i. i ∷ [])
      (λ i l. hits_member M 0 0 i h zero-le ∙ first i) (λ i l. refl)
    where
      first : (i : ℕ) → counted 0 M i ≡ known (words_on T M i) q
      first i = unfold read_at in ap (λ b. not b && known (words_on T M i) q) (ne_eqb 0 (suc i) (λ e. omega arith))
