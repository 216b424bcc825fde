-- What a search without counts leaves in its stack. Assumes nothing.
--   stack-left     the stack as the definitions have it is as demanded
--   stack_unique   two contents that are as demanded are one
-- Letters: I index; ys stack as lent, ys', ys'' as it is; r reply; i entry.
use mathlib.Core.Path.{◌≡◌, sym, ap, ◌∙◌}
use mathlib.Core.Logic.{◌↔◌, ⊎_elim}
use mathlib.Core.List.{List}
use mathlib.Core.Bool.{true, false}
use lib.ListN.{length, get_or}
use lib.Seq.{ext_get_or}
use Rattle.seq.proofs.Laws.Bools.{bool_cases, bool-not_both, equal_or}
use Rattle.seq.proofs.Laws.Numbers.{less_or}
use Rattle.index.specs.declared.Reply.{Reply}
use Rattle.index.specs.Index.{Index}
use Rattle.index.specs.Replies.{SIZE}
use Rattle.engine.specs.declared.Entry.{Entry}
use Rattle.depot.specs.Depot.{depot_size_ok}
use Rattle.engine.specs.Search.{blank, blanked, stack_after}
use Rattle.engine.proofs.Blanks.{blanked-long, blanked-at, blanked-rest}
use Rattle.depot.specs.Plain.{DepotSized}
use Rattle.merge_laws.specs.Calls.{StackLeft}
use Rattle.depot.proofs.Laws.Checks.{sized_of, sized-yes, sized_no}

-- ---- as the definitions have it
module _ (I : Index) (ys : List Entry) where
  stack-sized : depot_size_ok I (length ys) ≡ true → stack_after I ys ≡ blanked 64 ys
  unfolding stack_after
  stack-sized e = rw e

  stack-kept : depot_size_ok I (length ys) ≡ false → stack_after I ys ≡ ys
  unfolding stack_after
  stack-kept e = rw e

module _ (I : Index) (ys : List Entry) (r : Reply) (size : (r.refusal ≡ SIZE) ↔ (DepotSized I (length ys) → ⊥)) where
  is-sized : (r.refusal ≡ SIZE → ⊥) → depot_size_ok I (length ys) ≡ true
  is-sized ne =
      ⊎_elim (λ q. q) (λ q. absurd (ne (size.1 (λ z. bool-not_both (depot_size_ok I (length ys)) (sized-yes I (length ys) z) q)))) (bool_cases (depot_size_ok I (length ys)))

  after : (r.refusal ≡ SIZE → ⊥) → stack_after I ys ≡ blanked 64 ys
  after ne = stack-sized I ys (is-sized ne)

  pub stack-left : StackLeft r ys (stack_after I ys)
  stack-left = record {
    untouched = λ q. stack-kept I ys (sized_no I (length ys) (size.0 q));
    long = λ ne. ap length (after ne) ∙ blanked-long 64 ys (sized_of I (length ys) (is-sized ne)).stacked;
    blanks = λ ne i l. ap (λ (z : List Entry). get_or z i blank) (after ne) ∙ blanked-at 64 ys blank i l;
    rest = λ ne i l. ap (λ (z : List Entry). get_or z i blank) (after ne) ∙ blanked-rest 64 ys blank i l;
  }

-- ---- no other content
pub stack_unique : (r : Reply) (ys ys' ys'' : List Entry) → StackLeft r ys ys' → StackLeft r ys ys'' → ys' ≡ ys''
stack_unique r ys ys' ys'' a b =
    ⊎_elim (λ q. a.untouched q ∙ sym (b.untouched q))
    (λ q. ext_get_or blank ys' ys'' (a.long q ∙ sym (b.long q)) (λ i _.
    ⊎_elim (λ l. a.blanks q i l ∙ sym (b.blanks q i l)) (λ l. a.rest q i l ∙ sym (b.rest q i l)) (less_or i 64))) (equal_or r.refusal SIZE)
