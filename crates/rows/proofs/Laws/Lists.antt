-- Laws of tabulate and listed that go turn by turn, or stretch by stretch. Assumes nothing.
use Prim.Native.Nat.{ℕ, zero, suc, ◌+◌, ◌*◌, ◌/◌, ◌%◌}
use mathlib.Core.Path.{◌≡◌, refl, sym, ap, ◌∙◌}
use mathlib.Core.List.{List, [], ◌∷◌, ◌++◌, append-nil, append_assoc}
use mathlib.Core.Bool.{Bool, true, false}
use native.Mathlib.Omega.{arith}
use lib.Arith.{digits_div, digits_mod}
use Rattle.seq.specs.Below.{tabulate, gather, listed}
use Rattle.seq.proofs.Laws.Gather.{tabulate_ext, gather-yes, gather_no}
use Rattle.seq.proofs.Laws.Numbers.{row_next}

pub tabulate-zero : (f : ℕ → ℕ) → tabulate 0 f ≡ []
unfolding tabulate
tabulate-zero f = refl

-- Two stretches.
pub tabulate-append : (m n : ℕ) (f : ℕ → ℕ) → tabulate (m + n) f ≡ tabulate m f ++ tabulate n (λ i. f (m + i))
unfolding tabulate
tabulate-append m zero f = ap (λ (k : ℕ). tabulate k f) none ∙ sym (append-nil (tabulate m f))
  where
    none : m + 0 ≡ m
    none = omega arith
tabulate-append m (suc n) f =
    ap (λ (k : ℕ). tabulate k f) next ∙ ap (λ (l : List ℕ). l ++ (f (m + n) ∷ [])) (tabulate-append m n f)
    ∙ append_assoc (tabulate m f) (tabulate n (λ i. f (m + i))) (f (m + n) ∷ [])
  where
    next : m + suc n ≡ suc (m + n)
    next = omega arith

-- One row more of n, where entry e is that of row e / n and place e % n.
pub tabulate-row : (j n : ℕ) (g : ℕ → ℕ → ℕ) → tabulate ((j + 1) * n) (λ e. g (e % n) (e / n)) ≡ tabulate (j * n) (λ e. g (e % n) (e / n)) ++ tabulate n (λ v. g v j)
tabulate-row j n g =
    ap (λ (k : ℕ). tabulate k (λ e. g (e % n) (e / n))) (row_next j n) ∙ tabulate-append (j * n) n (λ e. g (e % n) (e / n))
    ∙ ap (λ (l : List ℕ). tabulate (j * n) (λ e. g (e % n) (e / n)) ++ l)
    (tabulate_ext n _ _ (λ v l. ap (λ (k : ℕ). g k ((j * n + v) / n)) (digits_mod j l) ∙ ap (g v) (digits_div j l)))

pub listed-zero : (f : ℕ → Bool) → listed 0 f ≡ []
unfolding listed gather
listed-zero f = refl

pub listed-yes : (n : ℕ) (f : ℕ → Bool) → f n ≡ true → listed (n + 1) f ≡ listed n f ++ (n ∷ [])
unfolding listed
listed-yes n f e = gather-yes n f (λ i. i ∷ []) e

pub listed_no : (n : ℕ) (f : ℕ → Bool) → f n ≡ false → listed (n + 1) f ≡ listed n f ++ []
unfolding listed
listed_no n f e = gather_no n f (λ i. i ∷ []) e ∙ sym (append-nil (gather n f (λ i. i ∷ [])))
