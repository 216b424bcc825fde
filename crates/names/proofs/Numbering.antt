-- The nodes numbered one by one: what a turn of `take_all` keeps.
--   state-start, state-end   before the first node, and after the last
--   state_data, state-empty, state-same, state-new   a node of data; one without a name; a name seen before; a new one
-- Letters as in specs/Inner/Calls. Assumes nothing.
use Prim.Native.Nat.{ℕ, suc, ◌+◌, ◌*◌, ◌≤◌, ◌<◌}
use mathlib.Core.Path.{◌≡◌, refl, sym, ap, ap₂, subst, ◌∙◌}
use mathlib.Core.Logic.{⊎_elim}
use mathlib.Core.List.{List, [], ◌∷◌, ◌++◌, append_assoc, append-nil}
use mathlib.Core.Bool.{true, false, cond}
use native.Mathlib.Numerals.{add-one}
use native.Mathlib.Omega.{arith}
use lib.Dec.{eqb}
use lib.ListN.{length, get_or, set, take, drop, length-set, length-append, drop_of_length-le}
use lib.Seq.{drop-cons, take-suc, take_all, take-suc-set, get_or-set_same, get_or-set_other}
use borrow.Author.Tests.{eq-eqb, ne_eqb}
use Rattle.seq.proofs.Laws.Numbers.{less_or}
use Rattle.profile.specs.Tags.{known, place, with, tags_after, tags_of}
use Rattle.profile.proofs.Laws.Tags.{tags-none, tags-some, with-known, with-new, place-new, known_more, known-last, place-more, place-last}
use Rattle.names.specs.Names.{name_of, names}
use Rattle.names.specs.Inner.Calls.{name_here, Given, Index, State, All}
use Rattle.names.proofs.Laws.{length-names, names_at}

-- ---- before the first node, and after the last
pub state-start : (t fs ms w : List ℕ) → State t fs ms w 0 ms w 0
unfolding tags_of
state-start t fs ms w = record {
  long = refl;
  rows = refl;
  ahead = λ i l. refl;
  rest = λ i l. refl;
  seen = [];
  counted = refl;
  few = omega arith;
  done = refl;
  given = λ y l. absurd (omega arith);
  index = λ h. absurd (h refl);
}

pub state-end : (t fs ms w₀ : List ℕ) (v : ℕ) (ts w : List ℕ) (c : ℕ) → State t fs ms w₀ v ts w c → length ts ≤ v → All t fs ms w₀ ts w
unfolding tags_after
state-end t fs ms w₀ v ts w c s l = record {
  tags = sym (append-nil ts) ∙ ap₂ (λ (a b : List ℕ). a ++ b) (sym (take_all v ts l)) (sym (ap (tags_after s.seen) none)) ∙ s.done;
  rows = s.rows;
  rest = s.rest;
}
  where
    none : drop v (names t ms fs) ≡ []
    none = drop_of_length-le (names t ms fs) {i = v} (omega (arith, length-names t ms fs, s.long))

-- ---- a turn
module _ (t fs ms w₀ : List ℕ) (v : ℕ) (ts w : List ℕ) (c : ℕ) (s : State t fs ms w₀ v ts w c) (l : v < length ts) where
  -- The numbers given with one more, x, after which the names seen are `after`.
  done_next : (x : ℕ) (after : List (List ℕ)) (ts' : List ℕ) → tags_after s.seen (name_of t (get_or ms v 0) (get_or fs v 0) ∷ drop (suc v) (names t ms fs)) ≡ x ∷ tags_after after (drop (suc v) (names t ms fs)) →
      take (suc v) ts' ≡ take v ts ++ (x ∷ []) → take (v + 1) ts' ++ tags_after after (drop (v + 1) (names t ms fs)) ≡ tags_of (names t ms fs)
  done_next x after ts' e f =
      rw (add-one v, f) (append_assoc (take v ts) (x ∷ []) _ ∙ ap (λ (k : List ℕ). take v ts ++ k) (sym e ∙ ap (tags_after s.seen) (sym here)) ∙ s.done)
    where
      here : drop v (names t ms fs) ≡ name_of t (get_or ms v 0) (get_or fs v 0) ∷ drop (suc v) (names t ms fs)
      here =
          drop-cons (names t ms fs) v [] (omega (arith, length-names t ms fs, s.long))
          ∙ ap (λ (n : List ℕ). n ∷ drop (suc v) (names t ms fs)) (names_at t ms fs v (omega (arith, s.long)))

  -- Later marks stay.
  ahead-set : (x i : ℕ) → v + 1 ≤ i → get_or (set ts v x) i 0 ≡ get_or ms i 0
  ahead-set x i h = get_or-set_other ts v i x 0 (λ e. absurd (omega (arith, e))) ∙ s.ahead i (omega arith)

  -- The tree as it was, with a number more.
  index-later : (ts' : List ℕ) → ((y : ℕ) → y < v → get_or ts' y 0 ≡ get_or ts y 0) → (c ≡ 0 → ⊥) → Index t fs (length ms) (v + 1) s.seen ts' w
  index-later ts' e h = record {
    tree = x.tree;
    holds = x.holds;
    apart = x.apart;
    told = x.told;
    old = λ u i. omega (arith, x.old u i);
    leader = λ y i. record {
      before = omega (arith, (x.leader y i).before);
      numbered = λ q. (x.leader y i).numbered (sym (e y (x.leader y i).before) ∙ q);
    };
    every = x.every;
  }
    where
      x : Index t fs (length ms) v s.seen ts w
      x = s.index h

  earlier : (x y : ℕ) → y < v → get_or (set ts v x) y 0 ≡ get_or ts y 0
  earlier x y h = get_or-set_other ts v y x 0 (λ e. absurd (omega (arith, e)))

  -- The numbers given with one more, where what was seen is seen as before.
  given-next : (after : List (List ℕ)) (ts' : List ℕ) → ((y : ℕ) → y < v → get_or ts' y 0 ≡ get_or ts y 0) →
      ((x : List ℕ) → known s.seen x ≡ true → (known after x ≡ true) × (place after x ≡ place s.seen x)) → ((get_or ts' v 0 ≡ 0 → ⊥) → Given t fs after ts' v) →
      (y : ℕ) → y < v + 1 → (get_or ts' y 0 ≡ 0 → ⊥) → Given t fs after ts' y
  given-next after ts' e kept last y h = ⊎_elim old (λ i. new (omega arith)) (less_or y v)
    where
      old : y < v → (get_or ts' y 0 ≡ 0 → ⊥) → Given t fs after ts' y
      old i q =
          let g : Given t fs s.seen ts y = s.given y i (λ r. q (e y i ∙ r)) in
          let k : (known after (name_here t fs y) ≡ true) × (place after (name_here t fs y) ≡ place s.seen (name_here t fs y)) = kept (name_here t fs y) g.knows in
          record { knows = k.0; number = e y i ∙ g.number ∙ ap suc (sym k.1) }

      new : y ≡ v → (get_or ts' y 0 ≡ 0 → ⊥) → Given t fs after ts' y
      new i = subst (λ (k : ℕ). (get_or ts' k 0 ≡ 0 → ⊥) → Given t fs after ts' k) (sym i) last

  pub state_data : get_or ts v 0 ≡ 0 → State t fs ms w₀ (v + 1) ts w c
  unfolding name_of
  state_data e = record {
    long = s.long;
    rows = s.rows;
    ahead = λ i h. s.ahead i (omega arith);
    rest = s.rest;
    seen = s.seen;
    counted = s.counted;
    few = omega (arith, s.few);
    done = done_next 0 s.seen ts (ap (λ (n : List ℕ). tags_after s.seen (n ∷ drop (suc v) (names t ms fs))) none ∙ tags-none s.seen _)
        (take-suc ts v 0 l ∙ ap (λ (x : ℕ). take v ts ++ (x ∷ [])) e);
    given = given-next s.seen ts (λ y q. refl) (λ x k. (k, refl)) (λ q. absurd (q e));
    index = λ h. index-later ts (λ y q. refl) h;
  }
    where
      none : cond (eqb (get_or ms v 0) 0) [] (name_here t fs v) ≡ []
      none = rw (eq-eqb (get_or ms v 0) 0 (sym (s.ahead v (omega arith)) ∙ e))

  -- A node with a mark has the name that stands there.
  named : (get_or ts v 0 ≡ 0 → ⊥) → name_of t (get_or ms v 0) (get_or fs v 0) ≡ name_here t fs v
  unfolding name_of
  named h = rw (ne_eqb (get_or ms v 0) 0 (λ e. h (s.ahead v (omega arith) ∙ e)))

  module _ (marked : get_or ts v 0 ≡ 0 → ⊥) where
    pub state-empty : length (name_here t fs v) ≡ 0 → State t fs ms w₀ (v + 1) (set ts v 0) w c
    state-empty e = record {
      long = length-set ts v 0 ∙ s.long;
      rows = s.rows;
      ahead = ahead-set 0;
      rest = s.rest;
      seen = s.seen;
      counted = s.counted;
      few = omega (arith, s.few);
      done = done_next 0 s.seen (set ts v 0)
          (ap (λ (n : List ℕ). tags_after s.seen (n ∷ drop (suc v) (names t ms fs))) (named marked ∙ none (name_here t fs v) e) ∙ tags-none s.seen _)
          (take-suc-set ts v 0 l);
      given = given-next s.seen (set ts v 0) (earlier 0) (λ x k. (k, refl)) (λ q. absurd (q (get_or-set_same ts v 0 0 l)));
      index = index-later (set ts v 0) (earlier 0);
    }
      where
        none : (n : List ℕ) → length n ≡ 0 → n ≡ []
        none [] q = refl
        none (x ∷ n) q = absurd (omega (arith, q))

    module _ (some : 0 < length (name_here t fs v)) where
      -- The numbers given with that of a name.
      done-name : (x : ℕ) (after : List (List ℕ)) → suc (place s.seen (name_here t fs v)) ≡ x → with s.seen (name_here t fs v) ≡ after →
          take (v + 1) (set ts v x) ++ tags_after after (drop (v + 1) (names t ms fs)) ≡ tags_of (names t ms fs)
      done-name x after ex ea =
          done_next x after (set ts v x)
          (ap (λ (n : List ℕ). tags_after s.seen (n ∷ drop (suc v) (names t ms fs))) (named marked) ∙ tags-some s.seen _ (name_here t fs v) some
          ∙ ap₂ (λ (k : ℕ) (a : List (List ℕ)). k ∷ tags_after a (drop (suc v) (names t ms fs))) ex ea)
          (take-suc-set ts v x l)

      pub state-same : (y : ℕ) → y < v → (get_or ts y 0 ≡ 0 → ⊥) → name_here t fs v ≡ name_here t fs y → State t fs ms w₀ (v + 1) (set ts v (get_or ts y 0)) w c
      state-same y h q e = record {
        long = length-set ts v _ ∙ s.long;
        rows = s.rows;
        ahead = ahead-set (get_or ts y 0);
        rest = s.rest;
        seen = s.seen;
        counted = s.counted;
        few = omega (arith, s.few);
        done = done-name (get_or ts y 0) s.seen (sym number) (with-known s.seen _ knows);
        given = given-next s.seen (set ts v (get_or ts y 0)) (earlier (get_or ts y 0)) (λ x k. (k, refl))
            (λ r. record { knows = knows; number = get_or-set_same ts v (get_or ts y 0) 0 l ∙ number });
        index = index-later (set ts v (get_or ts y 0)) (earlier (get_or ts y 0));
      }
        where
          knows : known s.seen (name_here t fs v) ≡ true
          knows = ap (known s.seen) e ∙ (s.given y h q).knows

          number : get_or ts y 0 ≡ suc (place s.seen (name_here t fs v))
          number = (s.given y h q).number ∙ ap (λ (n : List ℕ). suc (place s.seen n)) (sym e)

      -- A name that was not seen before.
      module _ (new : known s.seen (name_here t fs v) ≡ false) where
        abbrev pub after : List (List ℕ)
        after = s.seen ++ (name_here t fs v ∷ [])

        pub state-new : (w' : List ℕ) (c' : ℕ) → c' ≡ c + 1 → length w' ≡ length w → ((i : ℕ) → 3 * length ms ≤ i → get_or w' i 0 ≡ get_or w i 0) →
            Index t fs (length ms) (v + 1) after (set ts v c') w' → State t fs ms w₀ (v + 1) (set ts v c') w' c'
        state-new w' c' e rows rest index = record {
          long = length-set ts v _ ∙ s.long;
          rows = rows ∙ s.rows;
          ahead = ahead-set c';
          rest = λ i h. rest i h ∙ s.rest i h;
          seen = after;
          counted = omega (arith, e, s.counted, length-append s.seen (name_here t fs v ∷ []));
          few = omega (arith, e, s.few);
          done = done-name c' after (omega (arith, place-new s.seen (name_here t fs v) new, s.counted)) (with-new s.seen _ new);
          given = given-next after (set ts v c') (earlier c') (λ x k. (known_more s.seen x (name_here t fs v) k, place-more s.seen x (name_here t fs v) k))
              (λ q. record { knows = known-last s.seen (name_here t fs v); number = get_or-set_same ts v c' 0 l ∙ e ∙ counts });
          index = λ h. index;
        }
          where
            counts : c + 1 ≡ suc (place after (name_here t fs v))
            counts = omega (arith, place-last s.seen (name_here t fs v) new, s.counted)
