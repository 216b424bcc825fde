-- A walk over the words of a text.
--   none_left, nexts   what the next word from a place on tells a walk that is there
--   end_after          a word does not end before it begins
-- Letters: T text, p the pass where the walk is, r that at the next word, h the hash of this. Assumes nothing.
use Prim.Native.Nat.{ℕ, zero, suc, pred, ◌+◌, ◌≤◌, ◌<◌}
use mathlib.Core.Path.{◌≡◌, refl, sym, ap, subst, ◌∙◌}
use mathlib.Core.List.{List, [], ◌∷◌}
use mathlib.Core.Bool.{Bool, true, false, cond}
use native.Mathlib.Omega.{arith}
use lib.Dec.{eqb}
use lib.ListN.{length, drop}
use Rattle.std.specs.Prelude.{Option, None, Some, MatchOption}
use Rattle.words.specs.Runs.{word_byte}
use Rattle.words.specs.Places.{mention}
use Rattle.words.specs.Reading.{gap, end_from, end_at}
use Rattle.words.specs.Scan.{ahead, seek_in}
use Rattle.words.specs.Scan as words
use Rattle.words.proofs.Laws.Seeking.{Step, seek-step}
use Rattle.inplace.specs.declared.Hashed.{Hashed}
use Rattle.inplace.specs.Hashed.{hashed_at}
use Rattle.mentions.specs.declared.Pass.{Pass}
use Rattle.mentions.specs.Next.{as_pass, next_of}
use Rattle.mentions.specs.Walk.{left, Next}

abbrev seen : words.Seen → Pass
seen s = record { at = s.place; tag = s.tag; solid = s.solid; node = s.node }

-- What was found, by what is told of it.
told : (s : words.Seen) (o : Option Pass) → o ≡ as_pass s → MatchOption o (s.found ≡ false) (λ r. (s.found ≡ true) × (r ≡ seen s))
told s o e = by s.found refl e
  where
    by : (z : Bool) → s.found ≡ z → o ≡ cond z (Some (seen s)) None → MatchOption o (s.found ≡ false) (λ r. (s.found ≡ true) × (r ≡ seen s))
    by true f q = subst (λ o. MatchOption o (s.found ≡ false) (λ r. (s.found ≡ true) × (r ≡ seen s))) (sym q) (f, refl)
    by false f q = subst (λ o. MatchOption o (s.found ≡ false) (λ r. (s.found ≡ true) × (r ≡ seen s))) (sym q) f

module _ (T : List ℕ) (p : Pass) where
  abbrev found : words.Seen
  found = seek_in T p.at (ahead p.tag false p.solid 0)

  step : Step T p.at p.tag p.solid p.node found
  step = seek-step T p.at p.tag p.solid p.node

  pub none_left : None ≡ next_of T p.at p.tag p.solid → left T p ≡ []
  unfolding next_of
  none_left e = step.none (told found None e)

  pub nexts : (r : Pass) → Some r ≡ next_of T p.at p.tag p.solid → (h : Hashed) → h ≡ hashed_at T r.at →
      Next T p (record { place = r.at; hash = h.hash; node = p.node + r.node }) (record { at = h.end; tag = r.tag; solid = r.solid; node = p.node + r.node })
  unfolding next_of hashed_at
  nexts r e h q =
      record {
        within = subst (λ (r : Pass). r.at < length T) (sym is) (step.within there);
        own = ap (λ (h : Hashed). h.hash) q;
        more = subst (λ (r : Pass). left T p ≡ mention (p.node + r.node) r.at ∷ left T (record { at = end_at T r.at; tag = r.tag; solid = r.solid; node = p.node + r.node })) (sym is) (step.more there) ∙
            ap (λ (z : ℕ). mention (p.node + r.node) r.at ∷ left T (record { at = z; tag = r.tag; solid = r.solid; node = p.node + r.node })) (sym (ap (λ (h : Hashed). h.end) q));
      }
    where
      there : found.found ≡ true
      there = (told found (Some r) e).0

      is : r ≡ seen found
      is = (told found (Some r) e).1

-- A word does not end before it begins.
end_on : (k e i : ℕ) (t : List ℕ) → e ≤ i → e ≤ end_from k e i t
unfolding end_from
end_on k e i [] l = omega arith
end_on (suc k) e i (x ∷ t) l = end_on k e (suc i) t (omega arith)
end_on zero e i (x ∷ t) l = by (word_byte x) (eqb (gap (x ∷ t)) 0) (end_on 0 (suc i) (suc i) t (omega arith)) (end_on (pred (gap (x ∷ t))) e (suc i) t (omega arith))
  where
    by : (p q : Bool) → suc i ≤ end_from 0 (suc i) (suc i) t → e ≤ end_from (pred (gap (x ∷ t))) e (suc i) t → e ≤ cond p (end_from 0 (suc i) (suc i) t) (cond q e (end_from (pred (gap (x ∷ t))) e (suc i) t))
    by true q f g = omega (arith, f)
    by false true f g = omega arith
    by false false f g = g

pub end_after : (T : List ℕ) (i : ℕ) (h : Hashed) → h ≡ hashed_at T i → i ≤ h.end
unfolding hashed_at end_at
end_after T i h q = subst (λ (z : ℕ). i ≤ z) (sym (ap (λ (h : Hashed). h.end) q)) (end_on 0 i i (drop i T) (omega arith))
