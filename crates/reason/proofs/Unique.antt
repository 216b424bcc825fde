-- No second outcome fits the contracts of this crate: two that do, for one index, node and work, give the same and leave the same. Assumes nothing.
--   explain_unique, in_numbers_unique   of `explain` and `in_numbers`
--   told-one                        the code's reason is known by what it tells
-- Letters: I index, v node; w work as lent; e, e' what two calls give, w' and w'' what they leave in work; n n' numbers; a b reasons.
use Prim.Native.Nat.{ℕ}
use mathlib.Core.Path.{◌≡◌, refl, sym, ap, ap₂, ◌∙◌}
use mathlib.Core.List.{List}
use native.Mathlib.Omega.{arith}
use Rattle.seq.proofs.Laws.Outcomes.{outcome_unique}
use Rattle.index.specs.declared.Reply.{Reply}
use Rattle.index.specs.Index.{Index}
use Rattle.reason.specs.declared.Explanation.{Explanation}
use Rattle.reason.specs.declared.Numbers.{Numbers}
use Rattle.reason.specs.declared.Reason.{Reason}
use Rattle.reason.specs.declared.Reason.TheVariants.{NotFull, NotListed, Listed}
use Rattle.reason.specs.Reasons.{Naming, told}
use Rattle.reason.specs.Promises.{numbers_of, Explained}

pub told-one : (a b : Reason) → told a ≡ told b → a ≡ b
told-one (NotFull i) (NotFull j) e = ap NotFull (ap (λ (t : Naming). t.word) e)
told-one (NotListed i) (NotListed j) e = ap NotListed (ap (λ (t : Naming). t.word) e)
told-one Listed Listed e = refl
told-one (NotFull i) (NotListed j) e = absurd (omega (arith, ap (λ (t : Naming). t.number) e))
told-one (NotFull i) Listed e = absurd (omega (arith, ap (λ (t : Naming). t.number) e))
told-one (NotListed i) (NotFull j) e = absurd (omega (arith, ap (λ (t : Naming). t.number) e))
told-one (NotListed i) Listed e = absurd (omega (arith, ap (λ (t : Naming). t.number) e))
told-one Listed (NotFull j) e = absurd (omega (arith, ap (λ (t : Naming). t.number) e))
told-one Listed (NotListed j) e = absurd (omega (arith, ap (λ (t : Naming). t.number) e))

pub explain_unique : (I : Index) (v : ℕ) (w : List ℕ) (e e' : Explanation) (w' w'' : List ℕ) → Explained I v w e w' → Explained I v w e' w'' → (e ≡ e') × (w' ≡ w'')
explain_unique I v w e e' w' w'' a b = (
  ap₂ (λ (r : Reply) (l : List ℕ). record { reply = r; reason = e.reason; occurrences = l }) (a.reply ∙ sym b.reply) (a.occurrences ∙ sym b.occurrences)
      ∙ ap (λ (x : Reason). record { reply = e'.reply; reason = x; occurrences = e'.occurrences }) (told-one e.reason e'.reason (a.reason ∙ sym b.reason)),
  a.work ∙ sym b.work,
)

pub in_numbers_unique : (e : Explanation) (n n' : Numbers) → n ≡ numbers_of e → n' ≡ numbers_of e → n ≡ n'
in_numbers_unique e n n' = outcome_unique
