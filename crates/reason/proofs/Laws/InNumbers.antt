-- An explanation in numbers. Assumes nothing.
--   numbers-refused, numbers-case   case by case
--   in_numbers_lem                        what an explanation promises, its numbers promise
-- Letters: e explanation, r reason; I index, v node, w work as lent, w' at the end; n the numbers.
use Prim.Native.Nat.{ℕ}
use mathlib.Core.Path.{◌≡◌, refl, sym, ap, ap₂, ◌∙◌}
use mathlib.Core.List.{List}
use mathlib.Core.Bool.{Bool, true, false, cond}
use lib.Dec.{eqb}
use borrow.Author.Tests.{eq-eqb, ne_eqb}
use Rattle.seq.proofs.Laws.Bools.{cond-true, cond-false}
use Rattle.index.specs.declared.Reply.{Reply}
use Rattle.index.specs.Index.{Index}
use Rattle.index.specs.Replies.{accepted}
use Rattle.reason.specs.declared.Reason.{Reason}
use Rattle.reason.specs.declared.Explanation.{Explanation}
use Rattle.reason.specs.declared.Numbers.{Numbers}
use Rattle.reason.specs.Reasons.{Naming, naming, told}
use Rattle.reason.specs.Promises.{with_numbers, numbers_of, explains, told_after, Explained, ExplainedInNumbers}

module _ (e : Explanation) where
  pub numbers-refused : (e.reply.refusal ≡ accepted → ⊥) → with_numbers e.reply (naming 0 0) e.occurrences ≡ numbers_of e
  unfolding numbers_of
  numbers-refused ne = ap (λ (t : Naming). with_numbers e.reply t e.occurrences) (sym (cond-false _ (ne_eqb e.reply.refusal accepted ne) _ _))

  pub numbers-case : (r : Reason) → e.reply.refusal ≡ accepted → r ≡ e.reason → with_numbers e.reply (told r) e.occurrences ≡ numbers_of e
  unfolding numbers_of
  numbers-case r q z =
      ap (λ (t : Naming). with_numbers e.reply t e.occurrences) (ap told z ∙ sym (cond-true _ (eq-eqb e.reply.refusal accepted q) _ _))

-- What is told where the reply refuses may be anything: in numbers it is 0.
pub in_numbers_lem : (I : Index) (v : ℕ) (w : List ℕ) (e : Explanation) (w' : List ℕ) → Explained I v w e w' → (n : Numbers) → n ≡ numbers_of e → ExplainedInNumbers I v w n w'
unfolding numbers_of told_after explains
in_numbers_lem I v w e w' c n q = record {
  reply = ap (λ (x : Numbers). x.reply) q ∙ c.reply;
  reason =
      ap (λ (x : Numbers). naming x.reason x.word) q
      ∙ ap₂ (λ (r : Reply) (t : Naming). cond (eqb r.refusal accepted) t (naming 0 0)) c.reply c.reason
      ∙ again (explains I v w) _ _ _;
  occurrences = ap (λ (x : Numbers). x.occurrences) q ∙ c.occurrences;
  work = c.work;
}
  where
    again : (b : Bool) (x y z : Naming) → cond b (cond b x y) z ≡ cond b x z
    again true x y z = refl
    again false x y z = refl
