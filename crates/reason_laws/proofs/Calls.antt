-- What is demanded of a call that asks for a reason is its contract, no less and no more. Assumes nothing.
--   reason_demands          what meets the contract does what is demanded
--   reason-of               what does as demanded meets the contract
--   reason_unique           no second outcome fits the contract
--   reason_demands_unique   nor what is demanded
--   given-reason            an accepted call tells the reason
-- Letters: I index, v node; w work as lent; e, e' what calls give, w', w'' what they leave in work.
use Prim.Native.Nat.{ℕ}
use mathlib.Core.Path.{◌≡◌, sym, ap, ap₂, ◌∙◌, subst}
use mathlib.Core.Logic.{⊎_elim}
use mathlib.Core.List.{List}
use mathlib.Core.Bool.{true, false}
use native.Mathlib.Omega.{arith}
use borrow.Author.Tests.{eq-eqb, ne_eqb}
use lib.ListN.{replicate}
use Rattle.seq.proofs.Laws.Bools.{equal_or, cond-true, cond-false}
use Rattle.index.specs.declared.Reply.{Reply}
use Rattle.index.specs.Index.{Index, wanted}
use Rattle.index.specs.Replies.{accepted, work_after}
use Rattle.reason.specs.declared.Numbers.{Numbers}
use Rattle.reason.specs.Reasons.{Naming, LISTED, naming, reason_of, lowest_owns}
use Rattle.reason.specs.Promises.{reason_reply, explains, told_after, lowest_after, with_numbers, ExplainedInNumbers}
use Rattle.reason.specs.Plain.{OneReason, Lowest}
use Rattle.reason.proofs.Laws.Reasons.{listed-elca, unlisted_zeros}
use Rattle.reason.proofs.Meaning.{one-reason, lowest-right, lowest_unique}
use Rattle.demands.specs.Calls.{WorkLeft}
use Rattle.demands.proofs.Leaving.{work-left, work_unique}
use Rattle.reason_laws.specs.Calls.{ReasonDemands}
use Rattle.reason_laws.proofs.Replying.{reason-replied, replied-one, size_is, right, some_words_lem, few}

module _ (I : Index) (v : ℕ) (w : List ℕ) where
  yes : (reason_reply I v w).refusal ≡ accepted → explains I v w ≡ true
  unfolding explains
  yes e = eq-eqb (reason_reply I v w).refusal accepted e

  no : ((reason_reply I v w).refusal ≡ accepted → ⊥) → explains I v w ≡ false
  unfolding explains
  no ne = ne_eqb (reason_reply I v w).refusal accepted ne

  -- ---- what is told
  abbrev given : Naming
  given = told_after (naming 0 0) I v w

  abbrev reason : Naming
  reason = reason_of I.parents I.positive (wanted I) v

  pub given-reason : (reason_reply I v w).refusal ≡ accepted → given ≡ reason
  unfolding told_after
  given-reason e = cond-true _ (yes e) _ _

  given_nothing : ((reason_reply I v w).refusal ≡ accepted → ⊥) → given ≡ naming 0 0
  unfolding told_after
  given_nothing ne = cond-false _ (no ne) _ _

  lowest-given : (reason_reply I v w).refusal ≡ accepted → lowest_after I v w ≡ lowest_owns I.parents I.positive (wanted I) v
  unfolding lowest_after
  lowest-given e = cond-true _ (yes e) _ _

  lowest-nothing : ((reason_reply I v w).refusal ≡ accepted → ⊥) → lowest_after I v w ≡ replicate 8 0
  unfolding lowest_after
  lowest-nothing ne = cond-false _ (no ne) _ _

  -- The definitions' outcome does what is demanded.
  abbrev outcome : Numbers
  outcome = with_numbers (reason_reply I v w) given (lowest_after I v w)

  pub outcome_demands : ReasonDemands I v w outcome (work_after 0 I w)
  outcome_demands = record {
    reply = reason-replied I v w;
    work = work-left 0 I w (reason_reply I v w) (size_is I v w);
    reason = λ e. subst (OneReason I.parents I.positive (wanted I) v) (sym (given-reason e)) (one-reason I (right I v w e) (some_words_lem I v w e) v);
    lowest = λ e q.
        subst (Lowest I.parents I.positive (wanted I) v) (sym (lowest-given e))
        (lowest-right I (right I v w e) (some_words_lem I v w e) v (few I v w e) (listed-elca I.parents I.positive (wanted I) v (ap (λ (t : Naming). t.number) (sym (given-reason e)) ∙ q)));
    no_lowest = λ ne. ⊎_elim
        (λ e. lowest-given e ∙ unlisted_zeros I.parents I.positive (wanted I) v (λ q. ne (ap (λ (t : Naming). t.number) (given-reason e) ∙ q)))
        (λ e. lowest-nothing e)
        (equal_or (reason_reply I v w).refusal accepted);
    nothing = λ ne. (ap (λ (t : Naming). t.number) (given_nothing ne), ap (λ (t : Naming). t.word) (given_nothing ne));
  }

  -- And nothing else does.
  module _ (e : Numbers) (w' : List ℕ) (a : ReasonDemands I v w e w') where
    same-reply : e.reply ≡ reason_reply I v w
    same-reply = replied-one I v w e.reply a.reply

    same-told : naming e.reason e.word ≡ given
    same-told =
        ⊎_elim
        (λ q. sym ((a.reason (ap (λ (x : Reply). x.refusal) same-reply ∙ q)).only given (outcome_demands.reason q).holds))
        (λ q. ap₂ naming (zero q).0 (zero q).1 ∙ sym (given_nothing q))
        (equal_or (reason_reply I v w).refusal accepted)
      where
        zero : ((reason_reply I v w).refusal ≡ accepted → ⊥) → (e.reason ≡ 0) × (e.word ≡ 0)
        zero q = a.nothing (λ z. q (sym (ap (λ (x : Reply). x.refusal) same-reply) ∙ z))

    pub reason-of : ExplainedInNumbers I v w e w'
    reason-of = record {
      reply = same-reply;
      reason = same-told;
      occurrences = same-lowest;
      work = work_unique 0 I w (reason_reply I v w) (size_is I v w) w' (subst (λ (r : Reply). WorkLeft I r w w') same-reply a.work);
    }
      where
        number_is : e.reason ≡ given.number
        number_is = ap (λ (t : Naming). t.number) same-told

        zero-three : 0 ≡ LISTED → ⊥
        zero-three z = omega arith

        same-lowest : e.occurrences ≡ lowest_after I v w
        same-lowest =
            ⊎_elim
            (λ q. ⊎_elim
            (λ l. lowest_unique I.parents I.positive (wanted I) v e.occurrences (lowest_after I v w) (a.lowest (ap (λ (x : Reply). x.refusal) same-reply ∙ q) l)
            (outcome_demands.lowest q (sym number_is ∙ l)))
            (λ l. a.no_lowest l ∙ sym (outcome_demands.no_lowest (λ z. l (number_is ∙ z))))
            (equal_or e.reason LISTED))
            (λ q. a.no_lowest (λ z. zero-three (sym (a.nothing (λ y. q (sym (ap (λ (x : Reply). x.refusal) same-reply) ∙ y))).0 ∙ z)) ∙ sym (lowest-nothing q))
            (equal_or (reason_reply I v w).refusal accepted)

  pub reason_demands : (e : Numbers) (w' : List ℕ) → ExplainedInNumbers I v w e w' → ReasonDemands I v w e w'
  reason_demands e w' c = subst (λ (x : Numbers). ReasonDemands I v w x w') (sym whole) (subst (ReasonDemands I v w outcome) (sym c.work) outcome_demands)
    where
      whole : e ≡ outcome
      whole =
          ap₂ (λ (r : Reply) (l : List ℕ). with_numbers r (naming e.reason e.word) l) c.reply c.occurrences
          ∙ ap (λ (t : Naming). with_numbers (reason_reply I v w) t (lowest_after I v w)) c.reason

-- ---- no second outcome
module _ (I : Index) (v : ℕ) (w : List ℕ) (e e' : Numbers) (w' w'' : List ℕ) where
  pub reason_unique : ExplainedInNumbers I v w e w' → ExplainedInNumbers I v w e' w'' → (e ≡ e') × (w' ≡ w'')
  reason_unique a b = (
    ap₂ (λ (r : Reply) (l : List ℕ). with_numbers r (naming e.reason e.word) l) (a.reply ∙ sym b.reply) (a.occurrences ∙ sym b.occurrences)
        ∙ ap (λ (t : Naming). with_numbers e'.reply t e'.occurrences) (a.reason ∙ sym b.reason),
    a.work ∙ sym b.work,
  )

  pub reason_demands_unique : ReasonDemands I v w e w' → ReasonDemands I v w e' w'' → (e ≡ e') × (w' ≡ w'')
  reason_demands_unique a b = reason_unique (reason-of I v w e w' a) (reason-of I v w e' w'' b)
