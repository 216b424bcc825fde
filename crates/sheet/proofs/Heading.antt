-- How many bytes of a line are x, and whether two texts are the same, as the library tells. Assumes nothing.
use Prim.Native.Nat.{ℕ, ◌+◌}
use mathlib.Core.Path.{◌≡◌, refl, sym, ap, ◌∙◌}
use mathlib.Core.List.{List, [], ◌∷◌}
use mathlib.Core.Bool.{Bool, true, false, cond, ◌&&◌}
use native.Mathlib.Nat.{zero-add}
use lib.Dec.{eqb}
use lib.Pointwise.{pointwise}
use Rattle.std.specs.Prelude.{count_by}
use Rattle.std.proofs.lemmas.List.Recursion.{is_count_by}
use Rattle.seq.specs.Lists.{tally, same_list}
use Rattle.seq.proofs.Laws.Bools.{eqb-sym}

tally-step : (b : Bool) (n : ℕ) → ◌≡◌ {A = ℕ} (cond b 1 0 + n) (cond b (1 + n) n)
tally-step true n = refl
tally-step false n = zero-add n

pub tally_is : (x : ℕ) (l : List ℕ) → count_by (λ b. eqb b x) l ≡ tally (eqb x) l
unfolding tally
tally_is x l =
    sym (is_count_by (tally (eqb x)) (λ b. eqb b x) refl
    (λ y t. tally-step (eqb x y) (tally (eqb x) t) ∙ ap (λ (b : Bool). cond b (1 + tally (eqb x) t) (tally (eqb x) t)) (eqb-sym x y)) l)

pub pointwise_is : (a b : List ℕ) → pointwise eqb a b ≡ same_list a b
unfolding same_list
pointwise_is [] [] = refl
pointwise_is [] (y ∷ b) = refl
pointwise_is (x ∷ a) [] = refl
pointwise_is (x ∷ a) (y ∷ b) = ap (λ (t : Bool). eqb x y && t) (pointwise_is a b)
