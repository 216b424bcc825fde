-- The loops over data (`Data`) and over a comment's body (`Body`), at the places of a text. Assumes nothing.
-- Letters: t text, o where the loop began, i where it is.
use Prim.Native.Nat.{ℕ, suc, ◌+◌, ◌≤◌, ◌<◌}
use mathlib.Core.Path.{◌≡◌, refl, sym, ap, ◌∙◌}
use mathlib.Core.Logic.{⊎_elim}
use mathlib.Core.List.{List, ◌∷◌}
use mathlib.Core.Bool.{true, false, ◌&&◌}
use native.Mathlib.Omega.{arith}
use lib.Dec.{eqb, ltb}
use lib.ListN.{length, get_or, drop}
use lib.Seq.{drop-drop}
use borrow.Author.Tests.{ne_eqb, ltb-true, ltb-false}
use Rattle.seq.proofs.Laws.Bools.{bool_cases, and_false-right}
use Rattle.profile.specs.Bytes.{'&', '-', '<', '>', ']', white}
use Rattle.profile.specs.Classes.{within, PLAINS, COMMENTEDS, BRACKETS}
use Rattle.profile.specs.Spans.{span}
use Rattle.profile.specs.Machine.{Brackets, b0, b1, b2, two}
use Rattle.profile.specs.Pieces.{stop, after, reference_stop, data_stop, close_stop, body_stop}
use Rattle.std.proofs.Common.{Result, Ok, Err}
use Rattle.markup.specs.Inner.{reached, reached_from}
use Rattle.markup.proofs.Classes.{rule, white-plain, skip-stops}
use Rattle.markup.proofs.Reading.{ok-whole, ok_place, err-broken, Reading, reading-start, reading_step, reading-rest, reading-stop, row_at, row_is, row-end}
use Rattle.markup.proofs.Data.{data_run, data_end_lem, data_less, data_other, data_greater, data_whole, data_broken, many, many-two, data_bracket, data_forgets, data_refuses}
use Rattle.markup.proofs.Comments.{body_run, body_end, body-other, body-last, body_dash, body-close}

-- ---- data
abbrev pub Data : List ℕ → ℕ → ℕ → Type 0
Data t o i = Reading (data_stop b0 0) t o i

module _ (t : List ℕ) (o i : ℕ) (r : Data t o i) where
  pub data_skip : (j : ℕ) → j ≡ i + span (within PLAINS) (drop i t) → Data t o j
  data_skip j p = reading_step _ t o i r (span (within PLAINS) (drop i t)) j p (data_run (within PLAINS) (λ x q. (rule x).of_plain ∙ q) (drop i t))

  pub data_ends : length t ≤ i → reached i true ≡ reached_from o (data_stop b0 0 (drop o t))
  data_ends l = reading-stop _ t o i r true (ap (data_stop b0 0) (row-end t i l) ∙ data_end_lem b0)

-- The white space that data begins with is plain.
pub data_white : (t : List ℕ) (o j : ℕ) → j ≡ o + span white (drop o t) → Data t o j
data_white t o j p = reading_step _ t o o (reading-start _ t o) (span white (drop o t)) j p (data_run white white-plain (drop o t))

module _ (t : List ℕ) (o i : ℕ) (r : Data t o i) (l : i < length t) where
  pub data_at-less : get_or t i 0 ≡ '<' → reached i true ≡ reached_from o (data_stop b0 0 (drop o t))
  data_at-less e = reading-stop _ t o i r true (ap (data_stop b0 0) (row_is t i l '<' e) ∙ data_less (drop (i + 1) t))

  pub data_at-other : within PLAINS (get_or t i 0) ≡ false → (get_or t i 0 ≡ '<' → ⊥) → (get_or t i 0 ≡ '&' → ⊥) → (get_or t i 0 ≡ '>' → ⊥) → (get_or t i 0 ≡ ']' → ⊥) →
      reached i false ≡ reached_from o (data_stop b0 0 (drop o t))
  data_at-other q a b c d =
      reading-stop _ t o i r false
      (ap (data_stop b0 0) (row_at t i l)
      ∙ data_other (get_or t i 0) (drop (i + 1) t) ((rule (get_or t i 0)).of_plain ∙ q) (ne_eqb _ _ a) (ne_eqb _ _ b) (ne_eqb _ _ c) (ne_eqb _ _ d))

  pub data_over-greater : get_or t i 0 ≡ '>' → Data t o (i + 1)
  data_over-greater e =
      reading_step _ t o i r 1 (i + 1) refl (ap (data_stop b0 0) (row_is t i l '>' e) ∙ data_greater (drop (i + 1) t) ∙ ap (λ u. after 1 (data_stop b0 0 (drop 1 u))) (sym (row_is t i l '>' e)))

  -- a reference, of which is told where it ends
  module _ (e : get_or t i 0 ≡ '&') (j : ℕ) where
    pub data_at-broken : Err j ≡ reached_from (i + 1) (reference_stop (drop (i + 1) t)) → Err j ≡ reached_from o (data_stop b0 0 (drop o t))
    data_at-broken p =
        p ∙ reading-rest _ t o i r 1 (reference_stop (drop (i + 1) t)) (ap (data_stop b0 0) (row_is t i l '&' e) ∙ data_broken (drop (i + 1) t) (err-broken _ _ _ p))

    pub data_over_reference : Ok j ≡ reached_from (i + 1) (reference_stop (drop (i + 1) t)) → Data t o j
    data_over_reference p =
        reading_step _ t o i r (suc n) j (ok_place _ _ _ p ∙ add)
        (ap (data_stop b0 0) (row_is t i l '&' e) ∙ data_whole (drop (i + 1) t) (ok-whole _ _ _ p)
        ∙ ap (λ u. after (suc n) (data_stop b0 0 (drop (suc n) u))) (sym (row_is t i l '&' e)))
      where
        n : ℕ
        n = (reference_stop (drop (i + 1) t)).size

        add : i + 1 + n ≡ i + suc n
        add = omega arith

-- Past brackets, at a byte that is no bracket, and no `>` after two.
settles : (k : Brackets) (t : List ℕ) (j : ℕ) → (j < length t → eqb (get_or t j 0) ']' ≡ false) → (j < length t → (two k && eqb (get_or t j 0) '>') ≡ false) →
    data_stop k 0 (drop j t) ≡ data_stop b0 0 (drop j t)
settles k t j a b = ⊎_elim (λ q. within (ltb-true j (length t) q)) (λ q. past (ltb-false j (length t) q)) (bool_cases (ltb j (length t)))
  where
    within : j < length t → data_stop k 0 (drop j t) ≡ data_stop b0 0 (drop j t)
    within l = ap (data_stop k 0) (row_at t j l) ∙ data_forgets k _ _ (a l) (b l) ∙ ap (data_stop b0 0) (sym (row_at t j l))

    past : length t ≤ j → data_stop k 0 (drop j t) ≡ data_stop b0 0 (drop j t)
    past l = ap (data_stop k 0) (row-end t j l) ∙ data_end_lem k ∙ sym (data_end_lem b0) ∙ ap (data_stop b0 0) (sym (row-end t j l))

-- brackets from i on, to the place j
module _ (t : List ℕ) (o i : ℕ) (r : Data t o i) (l : i < length t) (e : get_or t i 0 ≡ ']') (j : ℕ) (p : j ≡ i + 1 + span (within BRACKETS) (drop (i + 1) t)) where
  -- how many follow the first
  more : ℕ
  more = span (within BRACKETS) (drop (i + 1) t)

  passed : data_stop b0 0 (drop i t) ≡ after (suc more) (data_stop (many more b1) 0 (drop j t))
  unfolding more
  passed =
      ap (data_stop b0 0) (row_is t i l ']' e) ∙ data_bracket (within BRACKETS) (λ x q. (rule x).of_bracket ∙ q) (drop (i + 1) t)
      ∙ ap (λ u. after (suc more) (data_stop (many more b1) 0 u)) (drop-drop more (i + 1) t ∙ ap (λ k. drop k t) (sym p))

  ended : j < length t → eqb (get_or t j 0) ']' ≡ false
  ended h = (rule (get_or t j 0)).of_bracket ∙ skip-stops (within BRACKETS) t (i + 1) j p h

  -- the loop goes on at j
  goes : (j < length t → (two (many more b1) && eqb (get_or t j 0) '>') ≡ false) → Data t o j
  unfolding more
  goes h =
      reading_step _ t o i r (suc more) j place
      (passed ∙ ap (after (suc more)) (settles (many more b1) t j ended h) ∙ ap (λ u. after (suc more) (data_stop b0 0 u)) (sym (drop-drop (suc more) i t ∙ ap (λ k. drop k t) (sym place))))
    where
      place : j ≡ i + suc more
      place = omega (arith, p)

  pub data_over-one : j ≤ i + 1 → Data t o j
  unfolding more many
  data_over-one h = goes (λ b. ap (λ (n : ℕ). two (many n b1) && eqb (get_or t j 0) '>') none)
    where
      none : more ≡ 0
      none = omega (arith, p)

  pub data_over_brackets : (j < length t → get_or t j 0 ≡ '>' → ⊥) → Data t o j
  data_over_brackets h = goes (λ b. and_false-right (two (many more b1)) _ (ne_eqb _ _ (h b)))

  pub data_at-two : i + 1 < j → j < length t → get_or t j 0 ≡ '>' → reached j false ≡ reached_from o (data_stop b0 0 (drop o t))
  unfolding more
  data_at-two a b q =
      ap (λ k. reached k false) place
      ∙ reading-rest _ t o i r (suc more) (stop 0 false)
      (passed ∙ ap (λ k. after (suc more) (data_stop k 0 (drop j t))) (many-two more (omega (arith, p)))
      ∙ ap (λ u. after (suc more) (data_stop b2 0 u)) (row_at t j b ∙ ap (λ y. y ∷ drop (j + 1) t) q) ∙ ap (after (suc more)) (data_refuses (drop (j + 1) t)))
    where
      place : j ≡ i + suc more + 0
      place = omega (arith, p)

-- ---- a comment's body
abbrev pub Body : List ℕ → ℕ → ℕ → Type 0
Body t o i = Reading (body_stop false) t o i

module _ (t : List ℕ) (o i : ℕ) (r : Body t o i) where
  pub body-skip : (j : ℕ) → j ≡ i + span (within COMMENTEDS) (drop i t) → Body t o j
  body-skip j p = reading_step _ t o i r (span (within COMMENTEDS) (drop i t)) j p (body_run (within COMMENTEDS) (λ x q. (rule x).of-commented ∙ q) (drop i t))

  body-ends : length t ≤ i → reached i false ≡ reached_from o (body_stop false (drop o t))
  body-ends l = reading-stop _ t o i r false (ap (body_stop false) (row-end t i l) ∙ body_end)

  body-at-other : i < length t → within COMMENTEDS (get_or t i 0) ≡ false → (get_or t i 0 ≡ '-' → ⊥) → reached i false ≡ reached_from o (body_stop false (drop o t))
  body-at-other l q a =
      reading-stop _ t o i r false
      (ap (body_stop false) (row_at t i l) ∙ body-other (get_or t i 0) (drop (i + 1) t) ((rule (get_or t i 0)).of-commented ∙ q) (ne_eqb _ _ a))

  -- no `-` at i, which is behind a run
  pub body-stops : (i < length t → within COMMENTEDS (get_or t i 0) ≡ false) → (i < length t → get_or t i 0 ≡ '-' → ⊥) → reached i false ≡ reached_from o (body_stop false (drop o t))
  body-stops q a =
      ⊎_elim (λ h. let l = ltb-true i (length t) h in body-at-other l (q l) (a l)) (λ h. body-ends (ltb-false i (length t) h)) (bool_cases (ltb i (length t)))

-- a `-` at i
module _ (t : List ℕ) (o i : ℕ) (r : Body t o i) (l : i < length t) (e : get_or t i 0 ≡ '-') where
  dashed : drop i t ≡ '-' ∷ drop (i + 1) t
  dashed = row_at t i l ∙ ap (λ y. y ∷ drop (i + 1) t) e

  -- another byte, or none, after it
  pub body-over_dash : (i + 1 < length t → get_or t (i + 1) 0 ≡ '-' → ⊥) → Body t o (i + 1)
  body-over_dash h =
      reading_step _ t o i r 1 (i + 1) refl
      (ap (body_stop false) dashed
      ∙ ⊎_elim (λ q. within (ltb-true (i + 1) (length t) q)) (λ q. past (ltb-false (i + 1) (length t) q)) (bool_cases (ltb (i + 1) (length t)))
      ∙ ap (λ u. after 1 (body_stop false (drop 1 u))) (sym dashed))
    where
      within : i + 1 < length t → body_stop false ('-' ∷ drop (i + 1) t) ≡ after 1 (body_stop false (drop (i + 1) t))
      within b =
          ap (λ u. body_stop false ('-' ∷ u)) (row_at t (i + 1) b) ∙ body_dash _ _ (ne_eqb _ _ (h b)) ∙ ap (λ u. after 1 (body_stop false u)) (sym (row_at t (i + 1) b))

      past : length t ≤ i + 1 → body_stop false ('-' ∷ drop (i + 1) t) ≡ after 1 (body_stop false (drop (i + 1) t))
      past b = ap (λ u. body_stop false ('-' ∷ u)) (row-end t (i + 1) b) ∙ body-last ∙ ap (λ u. after 1 (body_stop false u)) (sym (row-end t (i + 1) b))

  -- two of them, and s tells how they are closed
  pub body-at-two : i + 1 < length t → get_or t (i + 1) 0 ≡ '-' → (s : Result ℕ ℕ) → s ≡ reached_from (i + 1 + 1) (close_stop (drop (i + 1 + 1) t)) →
      s ≡ reached_from o (body_stop false (drop o t))
  body-at-two b q s p =
      p ∙ ap (λ k. reached_from k (close_stop (drop (i + 1 + 1) t))) two-on
      ∙ reading-rest _ t o i r 2 (close_stop (drop (i + 1 + 1) t))
      (ap (body_stop false) (dashed ∙ ap (λ u. '-' ∷ u) (row_at t (i + 1) b ∙ ap (λ y. y ∷ drop (i + 1 + 1) t) q)) ∙ body-close (drop (i + 1 + 1) t))
    where
      two-on : i + 1 + 1 ≡ i + 2
      two-on = omega arith
